-- The laws hold of the definition's answer, so of the function's, which equals it.
use Rattle.std.proofs.Common.{◌≡◌, sym, subst, rules}
use Rattle.market.specs.Range.{range_answer, permitted_range}
use Rattle.market.specs.RangeLaws.{RangeLaws}
use Rattle.market.proofs.RangeLawful.{range_laws}
use Rattle.market.proofs.range.PermittedRange.of.Goals as goal

pub returns-clause-laws : goal.returns-clause-laws
returns-clause-laws g c =
    let is : range_answer c.facing.result ≡ permitted_range c.args.side c.args.limit (g.M.Market.meaning.shows (g.M.Market.position c.args.market.now)) = search rules in
    subst (RangeLaws c.args.side c.args.limit _) (sym is) (range_laws c.args.side c.args.limit _)
