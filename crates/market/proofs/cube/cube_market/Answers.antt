-- The law over any ticks is one of the definitions, from the start at which the pile is made.
use Rattle.std.proofs.Common.{ap, ◌∙◌}
use Rattle.market.specs.Cube.{cube_meaning}
use Rattle.market.specs.CubeHistory.{position_after}
use Rattle.market.specs.Legs.{legs_of}
use Rattle.market.proofs.CubeLastQuotes.{shows_last_quotes}
use Rattle.market.proofs.cube.cube_market.Goals as goal

pub returns-clause-last_quotes : goal.returns-clause-last_quotes
returns-clause-last_quotes c = λ ts. ap (λ p. cube_meaning.shows (position_after cube_meaning p ts)) c.pile.ensures ∙ shows_last_quotes (legs_of c.args.legs) ts
