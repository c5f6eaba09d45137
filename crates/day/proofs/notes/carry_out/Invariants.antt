-- What the notes become with the lines to come, at the desk as it is, is what they become with all lines; and these leave the
-- desk as all of them do.
use Rattle.std.proofs.Common.{◌≡◌, map}
use Rattle.std.specs.Vec.Iter.{into_iter_items}
use Rattle.day.specs.Calls.{calls_in}
use Rattle.day.specs.CarriedOut.{room_at, room_behind, world_at}
use Rattle.day.specs.Lines.{line_value}
use Rattle.day.specs.Notes.{notes_after_all}
use Rattle.day.proofs.notes.carry_out.Given as goal

abbrev pub invariant-loop-line : goal.invariant-loop-line
invariant-loop-line g l =
    let w = world_at l.initial.desk in
    let rest = map line_value (into_iter_items l.line-iterator) in
    let all = map line_value (into_iter_items l.initial.line-iterator) in
    record {
      notes : notes_after_all g.N.Notes.after w (room_at l.desk) rest (g.N.Notes.value l.notes) ≡ notes_after_all g.N.Notes.after w (room_at l.initial.desk) all (g.N.Notes.value l.initial.notes);
      room : room_behind w (room_at l.desk) (calls_in rest) ≡ room_behind w (room_at l.initial.desk) (calls_in all);
      ranking : l.desk.session.room.ranking ≡ l.initial.desk.session.room.ranking;
    }
