-- A level further on the walk is still underway; with no price to come, all rows are written, and as many as are answered.
use Rattle.std.proofs.Common.{Some, sym, ap, ◌∙◌, arith, w64, SFits, rules}
use Rattle.std.proofs.lemmas.Int.{to_z-of_z}
use Rattle.allocation.proofs.WalkSteps.{steps_on, all_written}
use Rattle.allocation.proofs.walk.ShareOut.write_rows.Goals as goal

pub loop-price-preserved : goal.loop-price-preserved
loop-price-preserved c =
    let price = c.in-Some.price in
    let fits : SFits w64 price = search rules in
    let next = sym c.in-Some.ensures ∙ ap Some (sym (to_z-of_z w64 price fits)) in
    let arranged = c.args.self.now.arranged in
    let past = c.past_level-walk.ensures in
    steps_on c.args.self.now.side c.args.self.now.terms arranged.responses.now c.args.rows.now _ c.loop-price.walk c.past_level-walk.result _ c.loop-price.rows c.past_level-walk.new.rows c.loop-price.invariant
    (record { next = next; walk = past.walk; inside = past.within.0; few = past.within.1; rows_are = past.rows })
    arranged.sound.0 (omega (arith, c.requires.rows))

pub returns : goal.returns
returns c =
    let arranged = c.args.self.now.arranged in
    let end = all_written c.args.self.now.side c.args.self.now.terms arranged.responses.now c.args.rows.now _ c.loop-price.walk c.loop-price.rows c.loop-price.invariant (sym c.price_to_come.ensures ∙ c.in_default.is) (omega (arith, c.loop-price.invariant.room, c.requires.rows, arranged.sound.0)) in
    record { rows = end.0; count = end.1 }
