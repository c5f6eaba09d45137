-- The row that is lent is written over with what it is when changed, and the others are as they were.
use Rattle.std.proofs.Common.{length, set, ap, ◌∙◌, length-set, arith}
use Rattle.arrayvec.proofs.ArrayVecLemmas.{items-with_items}
use Rattle.allocation.specs.Table.{change_at}
use Rattle.allocation.proofs.Indexes.{rewritten_is}
use Rattle.allocation.proofs.table.ResponseTable.rewrite.Goals as goal

pub returns : goal.returns
returns c =
    let v = c.args.self.now.responses in
    let to = c.args.to in
    let index = c.args.index in
    let lent = c.deref_mut.result.now in
    let same = c.deref_mut.ensures.value in
    let within = ap length same in
    let changed = rewritten_is index to.size to.price to.arrival lent _ c.restore.new.self (omega (arith, within, c.requires)) c.restore.ensures in
    items-with_items v (set lent index c.restore.new.self) (simp length-set within) ∙ changed ∙ ap (change_at index to.size to.price to.arrival) same
