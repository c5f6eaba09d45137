-- The text is written of the model's answers from the making of the room on, and of what is told when the desk is closed.
use Rattle.std.proofs.Common.{◌++◌, ◌∙◌, ap, map, vec_items}
use Rattle.market.specs.Cube.{CubePosition, cube_position, cube_start}
use Rattle.market.specs.Legs.{legs_of}
use Rattle.session.specs.Closed.{listed_told, told_at_close}
use Rattle.day.specs.Calls.{calls_in}
use Rattle.day.specs.CarriedOut.{answers_to, room_at, room_behind, world_at, world_in, world_ranked}
use Rattle.day.specs.Ends.{ended_to}
use Rattle.day.specs.Lines.{line_value}
use Rattle.day.specs.Whole.{WholeNotes, ended_here, end_lines, whole_lines}
use Rattle.day.proofs.LinesMade.{carried_out, whole_text}
use Rattle.day.proofs.whole.whole_text.Goals as goal

pub returns : goal.returns
returns c =
    let terms = c.args.terms in
    let ends = c.args.ends in
    let w = world_in terms in
    let lines = map line_value (vec_items c.args.lines) in
    let calls = calls_in lines in
    let desk = c.desk_of-desk.result in
    let made = c.desk_of-desk.ensures in
    let last = c.carry_out-written.new.desk in
    let did = c.in_ok-written.ensures in
    let carried = carried_out terms calls c.model_keeps_the_promise.ensures in
    let start = cube_start (legs_of terms.legs) in
    let room = did.desk.room ∙ ap (λ r. room_behind (world_ranked r) (room_at desk) calls) made.ranking ∙ ap (λ s. room_behind w s calls) made.room in
    let told = c.close-closed.ensures.told ∙ ap (λ r. told_at_close (world_ranked r) (room_at last)) (did.desk.ranking ∙ made.ranking) ∙ ap (told_at_close w) room in
    let written =
    ap (λ (x : WholeNotes). x.text) did.notes
    ∙ whole_text (world_at desk) (room_at desk) lines _
    ∙ ap (λ before. before ++ whole_lines (cube_position c.cube_market.result) lines (answers_to (world_at desk) (room_at desk) calls) (ended_to ends (world_at desk) (room_at desk) calls)) c.new.ensures.bytes
    ∙ ap (λ (p : CubePosition). whole_lines p lines (answers_to (world_at desk) (room_at desk) calls) (ended_to ends (world_at desk) (room_at desk) calls)) c.cube_market.ensures.made
    ∙ ap (λ r. whole_lines start lines (answers_to (world_ranked r) (room_at desk) calls) (ended_to ends (world_ranked r) (room_at desk) calls)) made.ranking
    ∙ ap (λ s. whole_lines start lines (answers_to w s calls) (ended_to ends w s calls)) made.room in
    record {
      carried_out = carried;
      written =
          c.in_ok-write_end.ensures
          ∙ ap (λ before. before ++ end_lines (listed_told c.close-closed.result.first c.close-closed.result.second)) written
          ∙ ap (λ ts. whole_lines start lines carried.answers (ended_here ends terms lines) ++ end_lines ts) told;
    }
