-- Calls that are made one after another at a desk keep the whole promise, and so does its closing.
use Rattle.std.proofs.Common.{◌≡◌, List, [], ◌∷◌, ◌++◌, map, Option, sym, refl, ap, ◌∙◌, subst}
use Rattle.room.specs.declared.Room.{Room}
use Rattle.room.specs.Rooms.{state_of}
use Rattle.room.specs.State.{RoomState}
use Rattle.room.specs.World.{World, Terms}
use Rattle.session.specs.declared.call.Call.{Call}
use Rattle.session.specs.declared.desk.Desk.{Desk}
use Rattle.session.specs.Closed.{ClosedByCalls}
use Rattle.session.specs.DeskInTurn.{DeskCall, last_desk, room_at, world_at, DeskInTurn, desk_carried, DeskCallsKeepThePromise, none_carried, DeskPromise}
use Rattle.session.specs.Desk.{at_desk, desk_after, desk_answer}
use Rattle.session.specs.Promises.{Carried, Modelled, at_first}
use Rattle.session.specs.Runs.{Answer}
use Rattle.session.specs.SessionState.{SessionState, session_answer, session_answers, session_end}
use Rattle.session.specs.Answer.{told}
use Rattle.session.proofs.Promises.{answers_behind, as_modelled, closed_promised, desk_at_end, desk_kept, end_behind, promised}

module _ {M R S P T D F Q : Type 0} (world : R → World P T F Q) (position : M → P) (source : S → Q) (fault : D → F) where
  abbrev calls_of : List (DeskCall M R S T D) → List (Call T)
  calls_of cs = map (λ (c : DeskCall M R S T D). c.call) cs

  abbrev answers_of : List (DeskCall M R S T D) → List (Option (Answer F))
  answers_of cs = map (λ (c : DeskCall M R S T D). told fault c.answer) cs

  -- what calls from a desk on come to
  record Kept (w : World P T F Q) (s : RoomState P Q) (d : Desk M R S) (cs : List (DeskCall M R S T D)) : Type 0 where
    pub answers : answers_of cs ≡ session_answers w (at_desk s) (calls_of cs)
    pub end : at_desk (room_at world position source fault (last_desk d cs)) ≡ session_end w (at_desk s) (calls_of cs)
    pub world_is : world_at world position source fault (last_desk d cs) ≡ w

  kept : (w : World P T F Q) (s : RoomState P Q) (d : Desk M R S) (cs : List (DeskCall M R S T D)) → world_at world position source fault d ≡ w → room_at world position source fault d ≡ s
      → DeskInTurn world position source fault d cs → Kept w s d cs
  kept w s d [] k e h = record { answers = refl; end = ap at_desk e; world_is = k }
  kept w s d (c ∷ cs) k e h =
      let made = h.1 in
      let world_is : world_at world position source fault c.before ≡ w = ap (λ (x : Room M R S). world x.ranking) h.0 ∙ k in
      let room_is : room_at world position source fault c.before ≡ s = ap (λ (x : Room M R S). state_of position source x) h.0 ∙ e in
      let then : room_at world position source fault c.after ≡ desk_after w s c.call =
      made.state ∙ ap (λ v. desk_after v (room_at world position source fault c.before) c.call) world_is ∙ ap (λ t. desk_after w t c.call) room_is in
      let answer : told fault c.answer ≡ desk_answer w s c.call =
      made.answer ∙ ap (λ v. desk_answer v (room_at world position source fault c.before) c.call) world_is ∙ ap (λ t. desk_answer w t c.call) room_is in
      let rest = kept w (desk_after w s c.call) c.after cs (ap world made.ranking ∙ world_is) then h.2 in
      let on = sym (desk_kept w s c.call) in
      record {
        answers =
            ap (λ a. a ∷ answers_of cs) answer
            ∙ ap (λ l. session_answer w (at_desk s) c.call ∷ l) (rest.answers ∙ ap (λ t. session_answers w t (calls_of cs)) on);
        end = rest.end ∙ ap (λ t. session_end w t (calls_of cs)) on;
        world_is = rest.world_is;
      }

  -- behind calls that were carried out
  behind : (w : World P T F Q) → Terms w → (past : Carried P T F Q) (d : Desk M R S) (cs : List (DeskCall M R S T D))
      → world_at world position source fault d ≡ w → past.start.purse ≡ [] → Modelled w past → room_at world position source fault d ≡ past.room → DeskInTurn world position source fault d cs
      → DeskPromise world position source fault w past d cs
  behind w terms past d cs k none had e h =
      let did = kept w past.room d cs k e h in
      let first = at_first past.start in
      let end = desk_at_end w past none had in
      let carried = desk_carried world position source fault past d cs in
      let last : session_end w first carried.calls ≡ at_desk carried.room = end_behind w first past.calls (calls_of cs) ∙ ap (λ t. session_end w t (calls_of cs)) end ∙ sym did.end in
      let promise = promised w terms carried
      (record {
        answers =
            ap (λ l. l ++ answers_of cs) had.answers
            ∙ ap (λ l. session_answers w first past.calls ++ l) (did.answers ∙ ap (λ t. session_answers w t (calls_of cs)) (sym end))
            ∙ sym (answers_behind w first past.calls (calls_of cs));
        room = sym (ap (λ (s : SessionState P Q). s.room) last);
        claims = (last_desk d cs).every_claim ∙ sym (ap (λ (s : SessionState P Q). s.purse) last);
      }) in
      record {
        promise = promise;
        when_closed = λ ts room closed. closed_promised w terms carried ts room none promise (subst (λ v. ClosedByCalls v carried.room ts room) did.world_is closed);
      }

  pub desk_calls : ((ranking : R) → Terms (world ranking)) → DeskCallsKeepThePromise world position source fault
  desk_calls terms =
      record {
        of_a_new_desk = λ number p q d cs made h.
            let w = world_at world position source fault d in
            behind w (terms d.session.room.ranking) (none_carried number p q) d cs refl refl (record { answers = refl; room = refl; claims = refl }) made h;
        behind_others = λ past d cs none promise e h.
            let w = world_at world position source fault d in
            behind w (terms d.session.room.ranking) past d cs refl none (as_modelled w past promise) e h;
      }
