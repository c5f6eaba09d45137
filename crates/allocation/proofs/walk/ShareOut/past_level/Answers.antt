-- The plan at the front is the walk's level with its split, and its rows are written behind those so far; those past them stay.
use Rattle.std.proofs.Common.{◌≡◌, ◌+◌, ◌++◌, take, drop, ap, ◌∙◌, w64, to_z, of_z}
use Rattle.std.proofs.lemmas.Int.{to_z-of_z}
use Rattle.allocation.specs.Fill.{level_rows, split_at}
use Rattle.allocation.specs.LevelSteps.{front_level}
use Rattle.allocation.specs.Plans.{planned_level}
use Rattle.allocation.specs.Walk.{walk_level, walk_split}
use Rattle.allocation.proofs.Writes.{mid_written}
use Rattle.allocation.proofs.walk.ShareOut.past_level.Goals as goal

pub returns-clause-rows : goal.returns-clause-rows
returns-clause-rows c =
    let w = c.args.walk in
    let t = c.args.self.now.terms in
    let xs = c.args.self.now.arranged.responses.now in
    let rows = c.args.rows.now in
    let price = c.args.price in
    let plan = c.at_front-plan.result in
    let behind = c.split_at.ensures.behind in
    let z = to_z-of_z w64 price c.ranges.price in
    let level : planned_level plan ≡ walk_level price w xs = c.at_front-plan.ensures.level ∙ ap (front_level (to_z w64 (of_z w64 price))) behind ∙ ap (λ p. front_level p (drop w.next xs)) z in
    let split : plan.split ≡ walk_split t price w xs = c.at_front-plan.ensures.split ∙ ap (λ ys. split_at t (front_level (to_z w64 (of_z w64 price)) ys) w.progress.left w.progress.so_far) behind ∙ ap (λ p. walk_split t p w xs) z in
    mid_written w.row c.row_count.result rows c.write_rows.new.rows
    ∙ ap (λ ys. take w.row rows ++ (ys ++ drop (w.row + c.row_count.result) rows)) (c.write_rows.ensures ∙ ap (λ l. level_rows c.args.self.now.side l plan.split) level ∙ ap (level_rows c.args.self.now.side (walk_level price w xs)) split)
