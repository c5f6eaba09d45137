-- A line more: its call is made, and notes of it are taken.
use Rattle.std.proofs.Common.{ap, map, ◌∙◌}
use Rattle.std.specs.Vec.Iter.{into_iter_items}
use Rattle.day.specs.CarriedOut.{room_at, world_at, world_ranked}
use Rattle.day.specs.Lines.{line_value}
use Rattle.day.proofs.LinesMade.{LineMade, notes_more, room_more}
use Rattle.day.proofs.notes.carry_out.Goals as goal

pub loop-line-preserved : goal.loop-line-preserved
loop-line-preserved g c =
    let so_far = c.loop-line.invariant in
    let did = c.in_ok-take.ensures in
    let made : LineMade = record {
      world = world_at c.args.desk.now;
      world_now = world_at c.loop-line.desk;
      before = room_at c.loop-line.desk;
      after = room_at c.take.new.desk;
      line = line_value c.in-Some.line;
      to_come = map line_value (into_iter_items c.loop-line.line-iterator);
      left = map line_value (into_iter_items c.next.new.self);
      same_world = ap world_ranked so_far.ranking;
      made = did.desk.room;
      took = ap (map line_value) c.in-Some.ensures.steps.0;
    } in
    record {
      notes = notes_more made g.N.Notes.after _ _ _ did.notes so_far.notes;
      room = room_more made _ so_far.room;
      ranking = did.desk.ranking ∙ so_far.ranking;
    }
