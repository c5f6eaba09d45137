-- The lines that are read, and the room that is made of what they tell, are those of the whole text.
use Rattle.std.proofs.Common.{arith, ◌≡◌, ◌++◌, ◌∙◌, ap, sym, subst, IfOk, vec_items, map, ◌+◌, ◌<◌, length, List, []}
use Rattle.std.specs.Option.{option_map}
use Rattle.std.specs.Str.Lines.{lines}
use Rattle.std.proofs.lemmas.Iterator.Consumers.{map_from_collect}
use Rattle.std.proofs.lemmas.Iterator.Splits.{YieldsList-from_lines}
use Rattle.std.proofs.lemmas.List.{drop_all, append-nil}
use Rattle.script.specs.Setup.{Settings, settings_of, no_settings, room_in, room_values}
use Rattle.day.specs.Lines.{Line, line_value, lines_from, settings_behind_lines}
use Rattle.day.proofs.LinesRead.{one_read, one_told, room_values_made}
use Rattle.day.proofs.lines.Script.read.Goals as goal

pub loop-before-init : goal.loop-before-init
loop-before-init c =
    let xs = c.deref-line-items.result.now in
    let collected = map_from_collect c.collect.result c.collect.ensures.ran (YieldsList-from_lines c.args.text.now c.lines.ensures.rest) in
    let held = subst (λ r. IfOk r (λ w. map (λ x. x.now) (vec_items w) ≡ lines c.args.text.now)) c.in_ok-all.was collected in
    let all : map (λ x. x.now) xs ≡ lines c.args.text.now = ap (map (λ x. x.now)) c.deref-line-items.ensures.value ∙ held in (
      ap (λ (x : List Line). x ++ lines_from (settings_of c.new-setup.result) 1 (map (λ x. x.now) xs)) (ap (map line_value) c.new-lines.ensures.items)
          ∙ ap (λ (t : Settings). lines_from t 1 (map (λ x. x.now) xs)) c.new-setup.ensures
          ∙ ap (lines_from no_settings 1) all,
      ap (λ (t : Settings). settings_behind_lines t 1 (map (λ x. x.now) xs)) c.new-setup.ensures ∙ ap (settings_behind_lines no_settings 1) all,
    )

pub loop-before-preserved : goal.loop-before-preserved
loop-before-preserved c =
    let i = c.loop-before.before in
    let xs = c.deref-line-items.result.now in
    let test = c.loop-before-test.true in
    let end = c.loop-before.auto.before-end in
    let inside : (i < length xs) = omega arith in
    let did = c.in_ok-read_line.ensures in
    let t = settings_of c.loop-before.setup in
    let u = settings_of c.read_line.new.setup in (
      one_read (λ x. x.now) xs i (record { ref_ptr = (0, 0); now = [] }) (map line_value c.loop-before.lines.items) (map line_value c.read_line.new.lines.items) t u inside did.lines did.settings
          ∙ c.loop-before.invariant.0,
      one_told (λ x. x.now) xs i (record { ref_ptr = (0, 0); now = [] }) t u inside did.settings ∙ c.loop-before.invariant.1,
    )

pub returns-clause-lines : goal.returns-clause-lines
returns-clause-lines c =
    let test = c.loop-before-test.false in
    let end = c.loop-before.auto.before-end in
    let none = drop_all c.loop-before.before c.deref-line-items.result.now (omega arith) in
    sym (append-nil _)
    ∙ ap (λ left. map line_value c.loop-before.lines.items ++ lines_from (settings_of c.loop-before.setup) (c.loop-before.before + 1) (map (λ x. x.now) left)) (sym none)
    ∙ c.loop-before.invariant.0

pub returns-clause-room : goal.returns-clause-room
returns-clause-room c =
    let test = c.loop-before-test.false in
    let end = c.loop-before.auto.before-end in
    let none = drop_all c.loop-before.before c.deref-line-items.result.now (omega arith) in
    let told = ap (λ left. settings_behind_lines (settings_of c.loop-before.setup) (c.loop-before.before + 1) (map (λ x. x.now) left)) (sym none) ∙ c.loop-before.invariant.1 in
    ap (option_map room_values) c.ok.ensures.value ∙ room_values_made c.terms.result _ (c.terms.ensures ∙ ap room_in told)
