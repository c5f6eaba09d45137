-- Each sum on the way stays small enough for the next leg to be added.
use Rattle.std.proofs.Common.{Some, ap, ◌∙◌, arith}
use Rattle.market.specs.LegsBounded.{sum_with, wider_at, last_one_within, last_two_within, last_three_within}
use Rattle.market.proofs.legs.Legs.sum.Goals as goal

pub add_leg-third-requires-clause-rest : goal.add_leg-third-requires-clause-rest
add_leg-third-requires-clause-rest c =
    wider_at 9000000 27000000 c.add_leg-fourth.ensures (omega arith) (last_one_within c.args.shown c.args.self.now)

pub add_leg-second-requires-clause-rest : goal.add_leg-second-requires-clause-rest
add_leg-second-requires-clause-rest c =
    let two = c.add_leg-third.ensures ∙ ap (sum_with c.args.shown c.args.self.now.third) c.add_leg-fourth.ensures in
    wider_at 18000000 27000000 two (omega arith) (last_two_within c.args.shown c.args.self.now)

pub add_leg-requires-clause-rest : goal.add_leg-requires-clause-rest
add_leg-requires-clause-rest c =
    let two = c.add_leg-third.ensures ∙ ap (sum_with c.args.shown c.args.self.now.third) c.add_leg-fourth.ensures in
    let three = c.add_leg-second.ensures ∙ ap (sum_with c.args.shown (Some c.args.self.now.second)) two in
    wider_at 27000000 27000000 three (omega arith) (last_three_within c.args.shown c.args.self.now)
