-- The arranged responses are at most 64, each sized, so they can be shared out; the rows and their count are those of the
-- auction's fill list, which is lawful.
use Rattle.std.proofs.Common.{◌≡◌, ◌+◌, ◌≤◌, ◌++◌, Bool, List, Some, length, drop, sym, ap, ◌∙◌, subst, arith}
use Rattle.allocation.specs.declared.auction.Auction.{Auction}
use Rattle.allocation.specs.declared.fill.FillRow.{FillRow}
use Rattle.allocation.specs.declared.order.ContraTerms.{ContraTerms}
use Rattle.allocation.specs.declared.response.Key.{Key}
use Rattle.allocation.specs.declared.response.Response.{Response}
use Rattle.allocation.specs.Arrange.{arrangement}
use Rattle.allocation.specs.Auction.{auction_values, auction_fills, LawfulFills}
use Rattle.allocation.specs.Fill.{contra_terms, fills}
use Rattle.allocation.specs.Levels.{contra_level, levels}
use Rattle.allocation.specs.LevelSteps.{Sound}
use Rattle.allocation.specs.Ranking.{by_key}
use Rattle.allocation.specs.Table.{standing}
use Rattle.allocation.specs.Walk.{walk_rows}
use Rattle.allocation.proofs.AuctionFills.{fillable, in_ranking_order}
use Rattle.allocation.proofs.FillProved.{Ranks, terms_hold, all_sized, sound_arranged, walked_levels, fills_are_lawful, written_front}
use Rattle.allocation.proofs.auction.Auction.write_fills.Goals as goal

-- to walk the arranged responses is to go through the auction's fill list
walked_fills : (ahead : Response → Response → Bool) (a : Auction) (t : ContraTerms) (ys : List Response) → t ≡ contra_terms a.order a.initiating (length (standing a.table)) → ys ≡ arrangement ahead (standing a.table)
    → walk_rows (length ys + 1) a.order.side t (Some (contra_level t.guarantee.kind t)) ys a.order.size 0 ≡ auction_fills ahead (auction_values a)
walked_fills ahead a t ys e arranged_is =
    walked_levels ahead a.order.side t (standing a.table) ys a.order.size arranged_is
    ∙ ap (λ (u : ContraTerms). fills a.order.side u (levels ahead (contra_level u.guarantee.kind u) (standing a.table)) a.order.size 0) e

pub invariant_of-share_out : goal.invariant_of-share_out
invariant_of-share_out g c =
    let a = c.args.self.now in
    let xs = standing a.table in
    let ahead = by_key (g.R.Ranking.ahead c.args.ranking.now) in
    let terms = terms_hold a.order a.floor a.initiating a.terms in
    let few : length xs ≤ 64 = omega (arith, ap length c.standing-stood.ensures.value, c.standing-stood.ensures.few) in
    let sized = all_sized a.order.size a.floor a.initiating xs terms.size_most terms.floor_shown terms.initiating_shown a.responses in
    let stood : c.copy_from_slice.new.self ≡ xs = c.copy_from_slice.ensures.after ∙ c.standing-stood.ensures.value in
    record { sound = subst Sound (sym (c.arrange.ensures ∙ ap (arrangement ahead) stood)) (sound_arranged ahead xs (few, sized)) }

pub returns : goal.returns
returns g c =
    let a = c.args.self.now in
    let ranking = c.args.ranking.now in
    let ahead : Key → Key → Bool = g.R.Ranking.ahead ranking in
    let v = auction_values a in
    let fs : List FillRow = auction_fills (by_key ahead) v in
    let ranks : Ranks ahead = record { one_ahead = g.met.R.Ranking.one_ahead ranking; carries_on = g.met.R.Ranking.carries_on ranking } in
    let stood : c.copy_from_slice.new.self ≡ standing a.table = c.copy_from_slice.ensures.after ∙ c.standing-stood.ensures.value in
    let is = walked_fills (by_key ahead) a c.contra_terms.result c.arrange.new.responses c.contra_terms.ensures (c.arrange.ensures ∙ ap (arrangement (by_key ahead)) stood) in
    let count : c.write_rows.result ≡ length fs = c.write_rows.ensures.count ∙ ap length is in
    let rows : c.write_rows.new.rows ≡ fs ++ drop c.write_rows.result c.args.rows.now =
    c.write_rows.ensures.rows ∙ ap (λ rs. rs ++ drop c.write_rows.result c.args.rows.now) is in
    let front = written_front fs c.args.rows.now c.write_rows.new.rows c.write_rows.result count rows in
    record {
      count = count;
      rows = rows;
      ranked = in_ranking_order ahead ranks a;
      laws = subst (LawfulFills ahead v) (sym front) (fills_are_lawful ahead ranks v (fillable a));
    }
