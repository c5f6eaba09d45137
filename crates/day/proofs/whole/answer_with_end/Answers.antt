-- The looks before and after the call leave the room, and by what they tell an auction ended.
use Rattle.std.proofs.Common.{◌∙◌, ap, sym, [], ◌∷◌}
use Rattle.day.specs.CarriedOut.{room_at, world_at, world_ranked}
use Rattle.day.specs.Ends.{ended_number, ended_text, ended_to, first_ended_text, open_number}
use Rattle.day.proofs.EndedByNumber.{ended_by_number}
use Rattle.session.specs.Desk.{desk_after, desk_answer}
use Rattle.day.proofs.whole.answer_with_end.Goals as goal

pub returns-in_ok-after-in-Shown-clause-answer : goal.returns-in_ok-after-in-Shown-clause-answer
returns-in_ok-after-in-Shown-clause-answer c =
    let before = c.in_ok-before-in-Shown.ensures in
    let w = world_at c.args.desk.now in
    ap (λ a. a ∷ []) (c.in_ok-answer-in-Shown.ensures.answer
    ∙ ap (λ r. desk_answer (world_ranked r) (room_at c.open_number.new.desk) c.args.call) before.ranking
    ∙ ap (λ s. desk_answer w s c.args.call) before.room)

pub returns-in_ok-after-in-Shown-clause-ended : goal.returns-in_ok-after-in-Shown-clause-ended
returns-in_ok-after-in-Shown-clause-ended c =
    let before = c.in_ok-before-in-Shown.ensures in
    let after = c.in_ok-after-in-Shown.ensures in
    let w = world_at c.args.desk.now in
    let s = room_at c.args.desk.now in
    let behind = c.in_ok-answer-in-Shown.ensures.state
    ∙ ap (λ r. desk_after (world_ranked r) (room_at c.open_number.new.desk) c.args.call) before.ranking
    ∙ ap (λ t. desk_after w t c.args.call) before.room in
    ap ended_text (c.ended_number.ensures
    ∙ ap (λ n. ended_number n c.in_ok-after-in-Shown.after) before.number
    ∙ ap (λ n. ended_number (open_number s) n) (after.number ∙ ap open_number behind)
    ∙ sym (ended_by_number w s c.args.call))
    ∙ ap (λ e. first_ended_text (ended_to e w s (c.args.call ∷ []))) (sym c.in-Shown.is)

pub returns-in_ok-after-in-Shown-clause-desk : goal.returns-in_ok-after-in-Shown-clause-desk
returns-in_ok-after-in-Shown-clause-desk c =
    let before = c.in_ok-before-in-Shown.ensures in
    let did = c.in_ok-answer-in-Shown.ensures in
    let after = c.in_ok-after-in-Shown.ensures in
    let w = world_at c.args.desk.now in
    record {
      room = after.room ∙ did.state
          ∙ ap (λ r. desk_after (world_ranked r) (room_at c.open_number.new.desk) c.args.call) before.ranking
          ∙ ap (λ t. desk_after w t c.args.call) before.room;
      ranking = after.ranking ∙ did.ranking ∙ before.ranking;
    }
