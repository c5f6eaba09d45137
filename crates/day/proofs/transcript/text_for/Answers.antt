-- The text is written of the model's answers from the making of the room on.
use Rattle.std.proofs.Common.{◌++◌, ◌∙◌, ap, map, vec_items}
use Rattle.day.specs.Calls.{calls_in}
use Rattle.day.specs.CarriedOut.{answers_to, room_at, world_at, world_in, world_ranked}
use Rattle.day.specs.Member.{MemberNotes, text_for}
use Rattle.day.specs.Lines.{line_value}
use Rattle.day.proofs.LinesMade.{carried_out, member_text}
use Rattle.day.proofs.transcript.text_for.Goals as goal

pub returns : goal.returns
returns c =
    let terms = c.args.terms in
    let lines = map line_value (vec_items c.args.lines) in
    let calls = calls_in lines in
    let desk = c.desk_of-desk.result in
    record {
      carried_out = carried_out terms calls c.model_keeps_the_promise.ensures;
      written =
          ap (λ (x : MemberNotes). x.text) c.in_ok-written.ensures.notes
          ∙ member_text (world_at desk) (room_at desk) lines _
          ∙ ap (λ before. before ++ text_for c.args.member lines (answers_to (world_at desk) (room_at desk) calls)) c.new.ensures.bytes
          ∙ ap (λ r. text_for c.args.member lines (answers_to (world_ranked r) (room_at desk) calls)) c.desk_of-desk.ensures.ranking
          ∙ ap (λ s. text_for c.args.member lines (answers_to (world_in terms) s calls)) c.desk_of-desk.ensures.room;
    }
