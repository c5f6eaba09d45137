-- Each size has a whole part, being at least 1 and no more than is asked for in all; added up, the parts are the model's total.
use Rattle.std.proofs.Common.{◌*◌, ◌/◌, ◌≤◌, ap, sym, ◌∙◌, arith, rules}
use Rattle.std.proofs.ByRecursion.{All-get_or}
use Rattle.std.proofs.lemmas.Iterator.{YieldsList-from_slice, YieldsList-from_map}
use Rattle.std.proofs.lemmas.Iterator.Adapters.{serves_from_places}
use Rattle.std.proofs.lemmas.Iterator.Consumers.{YieldsList-at, sum_from_yields_List}
use Rattle.allocation.specs.LevelSteps.{Sized}
use Rattle.allocation.specs.declared.response.Response.{Response}
use Rattle.allocation.proofs.ShareFacts.{parts_total_is, size_within}
use Rattle.allocation.proofs.share.Deal.whole_parts.Goals as goal

pub sum-requires-clause-can : goal.sum-requires-clause-can
sum-requires-clause-can c =
    let d = c.args.self.now in
    let xs = d.among.responses.now in (
      tt,
      serves_from_places (YieldsList-at c.map.ensures.source (YieldsList-from_slice xs cc)) (λ x q k. search rules)
          (λ x k h e.
          let sized = All-get_or Sized xs k x.now h d.among.sound.1 in
          let within = size_within xs k x.now h in
          let size = ap (λ (r : Response). r.size) e in
          let some : 1 ≤ x.now.size = omega arith in
          let below : x.now.size ≤ d.asked = omega (arith, d.all) in
          search rules),
    )

pub returns : goal.returns
returns c =
    let d = c.args.self.now in
    let xs = d.among.responses.now in
    let k = d.contracts in
    let t = d.asked in
    sum_from_yields_List c.map.result c.sum.result c.sum.ensures.ran (YieldsList-from_map _ (λ (x : Response). k * x.size / t) (YieldsList-at c.map.ensures.source (YieldsList-from_slice xs cc)) c.map.ensures.closure (λ x r q k. search rules)) ∙ sym (parts_total_is k t xs)
