-- The sum is the model's total of the sizes, and at most 64 × 100,000.
use Rattle.std.proofs.Common.{◌≡◌, sym, ◌∙◌, arith, rules}
use Rattle.std.proofs.lemmas.Iterator.{YieldsList-from_slice, YieldsList-from_map}
use Rattle.std.proofs.lemmas.Iterator.Consumers.{YieldsList-at, sum_from_yields_List}
use Rattle.allocation.specs.declared.response.Response.{Response}
use Rattle.allocation.specs.Share.{sizes, total}
use Rattle.allocation.proofs.ShareFacts.{total_is, total_most}
use Rattle.allocation.proofs.share.Standing.total_size.Goals as goal

pub returns : goal.returns
returns c =
    let xs = c.args.self.now.responses.now in
    let value : c.sum.result ≡ total (sizes xs) = sum_from_yields_List c.map.result c.sum.result c.sum.ensures.ran (YieldsList-from_map _ (λ (x : Response). x.size) (YieldsList-at c.map.ensures.source (YieldsList-from_slice xs cc)) c.map.ensures.closure (λ x r q k. search rules)) ∙ sym (total_is (sizes xs)) in
    record { value = value; most = omega (arith, total_most xs c.args.self.now.sound.1, c.args.self.now.sound.0) }
