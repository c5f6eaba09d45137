-- The numbers of the claims are those before, with that of the claim put back at the index.
use Rattle.std.proofs.Common.{if◌then◌else◌, is_ok, map, ap, ◌∙◌, vec_items}
use Rattle.std.specs.List.{insert}
use Rattle.room.specs.Rooms.{claim_numbers}
use Rattle.session.specs.Purse.{PurseValue}
use Rattle.session.proofs.Purses.{map_insert}
use Rattle.session.proofs.purse.Purse.put_back.Goals as goal

pub returns-clause-numbers : goal.returns-clause-numbers
returns-clause-numbers c =
    let purse = ap (λ (p : PurseValue). p.numbers) c.self.view_is in
    let old = vec_items c.self.inside.claims in
    ap (map claim_numbers) (c.insert.ensures.items ∙ ap (λ r. if is_ok r then insert old c.args.index c.args.claim else old) c.unwrap.ensures)
    ∙ map_insert claim_numbers old c.args.index c.args.claim ∙ ap (λ l. insert l c.args.index (claim_numbers c.args.claim)) purse
