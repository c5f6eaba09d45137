-- The fills are noted of the model's answers from the making of the room on, and of what is told when the desk is closed.
use Rattle.std.proofs.Common.{◌++◌, ◌∙◌, ap, map, refl, vec_items, [], List}
use Rattle.session.specs.Closed.{listed_told, told_at_close}
use Rattle.day.specs.Calls.{calls_in}
use Rattle.day.specs.CarriedOut.{answers_to, room_at, room_behind, start_in, world_at, world_in, world_ranked}
use Rattle.day.specs.Fills.{FillNotes, FillValue, fill_value, fills_at_end, fills_in, orders_in}
use Rattle.day.specs.Lines.{line_value}
use Rattle.day.specs.declared.fills.OpenedOrder.{OpenedOrder}
use Rattle.day.proofs.LinesMade.{carried_out, fills_of_notes, orders_of_notes}
use Rattle.day.proofs.NoRowLeftOut.{no_row_left_out}
use Rattle.room.specs.State.{new_room}
use Rattle.day.proofs.fills.fills_of_lines.Goals as goal

pub returns : goal.returns
returns c =
    let terms = c.args.terms in
    let w = world_in terms in
    let lines = map line_value (vec_items c.args.lines) in
    let calls = calls_in lines in
    let desk = c.desk_of-desk.result in
    let made = c.desk_of-desk.ensures in
    let last = c.carry_out-written.new.desk in
    let did = c.in_ok-written.ensures in
    let carried = carried_out terms calls c.model_keeps_the_promise.ensures in
    let room = did.desk.room ∙ ap (λ r. room_behind (world_ranked r) (room_at desk) calls) made.ranking ∙ ap (λ s. room_behind w s calls) made.room in
    let told = c.close-closed.ensures.told ∙ ap (λ r. told_at_close (world_ranked r) (room_at last)) (did.desk.ranking ∙ made.ranking) ∙ ap (told_at_close w) room in
    let at_first = listed_told c.close-closed.result.first c.close-closed.result.second in
    let fills = ap (λ (x : FillNotes). x.fills) did.notes
    ∙ fills_of_notes (world_at desk) (room_at desk) lines _
    ∙ ap (λ (before : List FillValue). before ++ fills_in c.new.result.items lines (answers_to (world_at desk) (room_at desk) calls)) (ap (map fill_value) c.new-2.ensures.items)
    ∙ ap (λ (os : List OpenedOrder). fills_in os lines (answers_to (world_at desk) (room_at desk) calls)) c.new.ensures.items
    ∙ ap (λ r. fills_in [] lines (answers_to (world_ranked r) (room_at desk) calls)) made.ranking
    ∙ ap (λ s. fills_in [] lines (answers_to w s calls)) made.room in
    let orders = c.deref.ensures.value ∙ ap (λ (x : FillNotes). x.orders) did.notes
    ∙ orders_of_notes (world_at desk) (room_at desk) lines _
    ∙ ap (λ (os : List OpenedOrder). orders_in os lines (answers_to (world_at desk) (room_at desk) calls)) c.new.ensures.items
    ∙ ap (λ r. orders_in [] lines (answers_to (world_ranked r) (room_at desk) calls)) made.ranking
    ∙ ap (λ s. orders_in [] lines (answers_to w s calls)) made.room in
    let listed = c.in_ok-note_end.ensures
    ∙ ap (λ (before : List FillValue). before ++ fills_at_end c.deref.result.now at_first) fills
    ∙ ap (λ (os : List OpenedOrder). fills_in [] lines carried.answers ++ fills_at_end os at_first) orders
    ∙ ap (λ ts. fills_in [] lines carried.answers ++ fills_at_end (orders_in [] lines carried.answers) ts) told in
    let start = start_in terms in
    record {
      carried_out = carried;
      listed = listed;
      none_left_out = ap (map (λ (f : FillValue). f.row)) listed ∙ no_row_left_out w (new_room start.number start.market start.source) lines refl;
    }
