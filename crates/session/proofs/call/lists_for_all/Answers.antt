-- One call more adds the lists that it wants.
use Rattle.std.proofs.Common.{ap, arith}
use Rattle.session.specs.Lists.{lists_for}
use Rattle.session.proofs.RowLists.{lists_more, one_at_most}
use Rattle.session.proofs.call.lists_for_all.Goals as goal

pub loop-call-preserved : goal.loop-call-preserved
loop-call-preserved g c =
    let d = c.call-item.result in
    let more = lists_more c.args.calls.now c.loop-call.call-index d c.loop-call-test.true in
    let wants = ap (λ x. lists_for x) c.call-item.is in
    let one = one_at_most d in
    let so_far = c.loop-call.invariant.0 in
    let few = c.loop-call.invariant.1 in
    let counted = c.lists-lists.ensures in
    (omega arith, omega arith)
