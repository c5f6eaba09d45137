-- The first claim collects the auction that has waited longest, and the claims left are those to the auctions left.
use Rattle.std.proofs.Common.{◌≡◌, List, length, take, map, Some, IsOk, sym, refl, ap, ◌∙◌, subst, vec_items}
use Rattle.allocation.specs.declared.fill.FillRow.{FillRow}
use Rattle.std.specs.List.{remove}
use Rattle.room.specs.Rooms.{claim_numbers, collected_answer, collection_answer, collection_told, state_of, world_of}
use Rattle.room.specs.Collecting.{CollectionTold, fill_rows}
use Rattle.room.specs.State.{EndedValues}
use Rattle.session.specs.Claims.{claims_to}
use Rattle.session.specs.Closed.{first_of, told_of_ended}
use Rattle.session.proofs.Closing.{head_written, ok_as_told, first_taken, first_collected, some_there}
use Rattle.session.proofs.closed.ClosedAuction.collect_first.Goals as goal

pub unwrap-collection-requires : goal.unwrap-collection-requires
unwrap-collection-requires g c =
    let w = world_of g.M.Market.meaning g.S.IntervalSource.meaning (g.R.Ranking.ahead c.args.room.now.ranking) in
    let s = state_of g.M.Market.position g.S.IntervalSource.position c.args.room.now in
    let claim = c.remove-claim.result in
    let all = vec_items c.args.claims.now in
    let first = first_taken claim_numbers all claim (some_there c.args.claims.now _ c.is_empty.ensures c.if-is_empty.false) c.remove-claim.ensures.value in
    let did = first_collected w s (claim_numbers claim) (map claim_numbers (remove all 0)) s.waiting c.requires.none_open refl (first ∙ c.requires.every_claim) in
    ok_as_told _ _ c.collect.result (subst (λ r. IsOk r) (sym (c.collect.ensures.answer ∙ ap (collected_answer claim) did.answer_is)) refl)

pub returns-clause-told : goal.returns-clause-told
returns-clause-told g c =
    let w = world_of g.M.Market.meaning g.S.IntervalSource.meaning (g.R.Ranking.ahead c.args.room.now.ranking) in
    let s = state_of g.M.Market.position g.S.IntervalSource.position c.args.room.now in
    let claim = c.remove-claim.result in
    let all = vec_items c.args.claims.now in
    let first = first_taken claim_numbers all claim (some_there c.args.claims.now _ c.is_empty.ensures c.if-is_empty.false) c.remove-claim.ensures.value in
    let did = first_collected w s (claim_numbers claim) (map claim_numbers (remove all 0)) s.waiting c.requires.none_open refl (first ∙ c.requires.every_claim) in
    let list : List FillRow = c.collect.new.rows in
    let fills = fill_rows w did.auction in
    let answer = ap (collection_answer g.M.Market.told) (sym c.unwrap-collection.ensures) ∙ c.collect.ensures.answer ∙ ap (collected_answer claim) did.answer_is in
    let collection : collection_told c.unwrap-collection.result ≡ record { count = length fills; cause = did.auction.cause } = cc in
    let rows : take c.unwrap-collection.result.count list ≡ fills =
    ap (λ (k : CollectionTold). take k.count list) collection ∙ head_written fills _ _ list c.collect.ensures.rows did.rows_are in
    (λ i. Some (record { claim = (c.numbers-numbers.ensures ∙ did.claim_is) i; collection = collection i; rows = rows i }))
    ∙ ap (λ (es : List EndedValues). first_of (map (told_of_ended w s.number) es)) (sym did.waiting_is)

pub returns-clause-every_claim : goal.returns-clause-every_claim
returns-clause-every_claim g c =
    let w = world_of g.M.Market.meaning g.S.IntervalSource.meaning (g.R.Ranking.ahead c.args.room.now.ranking) in
    let s = state_of g.M.Market.position g.S.IntervalSource.position c.args.room.now in
    let claim = c.remove-claim.result in
    let all = vec_items c.args.claims.now in
    let first = first_taken claim_numbers all claim (some_there c.args.claims.now _ c.is_empty.ensures c.if-is_empty.false) c.remove-claim.ensures.value in
    let did = first_collected w s (claim_numbers claim) (map claim_numbers (remove all 0)) s.waiting c.requires.none_open refl (first ∙ c.requires.every_claim) in
    ap (map claim_numbers) c.remove-claim.ensures.items ∙ did.claims_left ∙ sym (ap claims_to (c.collect.ensures.state ∙ did.state_is))
