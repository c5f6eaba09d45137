-- The whole parts take no more than the contracts, so what is odd can be counted; dealing from the first response on is the
-- sharing; and no size is above all that is asked for.
use Rattle.std.proofs.Common.{◌≤◌, ◌-◌, ap, ◌∙◌, arith}
use Rattle.allocation.specs.Fill.{class_rows}
use Rattle.allocation.specs.Share.{sizes, total, parts_total, deal}
use Rattle.allocation.proofs.ShareFacts.{parts_within, none_odd, size_within, dealt_within}
use Rattle.allocation.proofs.Writes.{no_response}
use Rattle.allocation.proofs.share.Deal.write_rows.Goals as goal

pub overflow_sub-odd : goal.overflow_sub-odd
overflow_sub-odd c =
    let d = c.args.self.now in
    let ss = sizes d.among.responses.now in
    let within = parts_within d.contracts d.among.responses.now d.among.sound.1 (omega (arith, d.within, d.all)) in
    let same = ap (λ t. parts_total d.contracts t ss) d.all in
    omega (arith, c.whole_parts.ensures)

pub loop-i-init : goal.loop-i-init
loop-i-init c =
    let d = c.args.self.now in
    let xs = d.among.responses.now in
    let ss = sizes xs in
    let k = d.contracts in
    let within : k ≤ total ss = omega (arith, d.within, d.all) in (
      ap (λ n. class_rows c.args.side xs (deal k d.asked (k - n) ss)) c.whole_parts.ensures ∙ ap (λ t. class_rows c.args.side xs (deal k t (k - parts_total k t ss) ss)) d.all ∙ ap (class_rows c.args.side xs) (dealt_within k xs d.among.sound.1 within),
      λ all. let none = none_odd xs d.among.sound.1 in let same = ap (λ n. parts_total n d.asked ss) (all ∙ d.all) ∙ ap (λ t. parts_total (total ss) t ss) d.all in omega (arith, c.whole_parts.ensures, d.all),
    )

pub whole_part-requires-clause-within : goal.whole_part-requires-clause-within
whole_part-requires-clause-within c =
    let d = c.args.self.now in
    omega (arith, size_within d.among.responses.now c.loop-i.i no_response c.loop-i-test.true, d.all)
