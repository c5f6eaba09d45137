-- A turned price goes as far as the price.
use Rattle.std.proofs.Common.{◌≡◌, Some, ap, ◌∙◌, rules}
use Rattle.market.specs.LegsBounded.{turned_within}
use Rattle.market.specs.Limits.{within}
use Rattle.market.specs.Side.{turned_price}
use Rattle.market.proofs.leg.Leg.part_of.Goals as goal

pub returns-clause-bound : goal.returns-clause-bound
returns-clause-bound c =
    let is : c.turn.result ≡ turned_price c.args.self.side c.times.result = search rules in
    let far = ap (λ z. within 9000000 (Some z)) is ∙ turned_within 9000000 c.args.self.side c.times.result ∙ c.times.ensures.bound in
    search rules
