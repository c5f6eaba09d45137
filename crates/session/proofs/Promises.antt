-- The whole promise of calls: it follows from the answers, the room and the claims that the model has. And it holds on where a
-- desk is closed next.
use Rattle.std.proofs.Common.{◌≡◌, Bool, true, cond, ◌&&◌, ◌||◌, eqb, List, [], ◌∷◌, ◌++◌, map, length, Some, None, sym, refl, ap, ◌∙◌, subst}
use Rattle.room.specs.declared.answers.ClaimNumbers.{ClaimNumbers}
use Rattle.room.specs.Collecting.{collect_rows, fill_rows}
use Rattle.room.specs.State.{EndedValues, RoomState, with_waiting}
use Rattle.room.specs.World.{World, Terms}
use Rattle.session.specs.declared.call.Call.{Call}
use Rattle.session.specs.declared.call.Call.TheVariants.{Halt, Collect}
use Rattle.session.specs.Claims.{claim_to, claims_to}
use Rattle.session.specs.Closed.{collecting, collecting_answer, closing_calls, closing_answers, with_close, ClosedByCalls, ClosedTold, told_of_ended, halted_last, told_at_close, after_close}
use Rattle.session.specs.Desk.{at_desk, desk_after, desk_answer}
use Rattle.session.specs.Promises.{Carried, Modelled, WholePromise, at_first, made_of}
use Rattle.session.specs.Runs.{Collected, answer_of_result, step}
use Rattle.session.specs.SessionState.{SessionState, session_of, session_after, session_answer, session_answers, session_end, answers_there}
use Rattle.session.specs.Purse.{holds, same_claim, purse_after}
use Rattle.session.proofs.Claims.{ClaimsMatch, match_kept, match_at_end, same}
use Rattle.session.proofs.Closing.{first_collected, first_is}
use Rattle.session.proofs.RunLaws.{laws_of_run, laws_of_session}
use Rattle.session.proofs.SessionState.{answers_of_made}

pub promised : {P T F Q : Type 0} (w : World P T F Q) → Terms w → (c : Carried P T F Q) → Modelled w c → WholePromise w c
promised w terms c h =
    let first = at_first c.start in
    record {
      answers = h.answers;
      room = h.room;
      claims = h.claims;
      own_claims = λ none. h.claims ∙ match_at_end w first c.calls none ∙ sym (ap claims_to h.room);
      of_the_run = ap answers_there h.answers ∙ answers_of_made w first c.calls;
      laws = laws_of_run w terms c.start.number c.start.market c.start.source (made_of w c.start c.calls);
      session_laws = laws_of_session w first c.calls;
    }

-- a claim has its own numbers
same_numbers : (c : ClaimNumbers) → same_claim c c ≡ true
same_numbers c = let here = same c.room in let there = same c.auction in ap (λ (b : Bool). b && eqb c.auction c.auction) here ∙ there

module _ {P T F Q : Type 0} (w : World P T F Q) where
  -- calls behind others
  pub answers_behind : (s : SessionState P Q) (cs ds : List (Call T)) → session_answers w s (cs ++ ds) ≡ session_answers w s cs ++ session_answers w (session_end w s cs) ds
  answers_behind s [] ds = refl
  answers_behind s (c ∷ cs) ds = ap (λ l. session_answer w s c ∷ l) (answers_behind (session_after w s c) cs ds)

  pub end_behind : (s : SessionState P Q) (cs ds : List (Call T)) → session_end w s (cs ++ ds) ≡ session_end w (session_end w s cs) ds
  end_behind s [] ds = refl
  end_behind s (c ∷ cs) ds = end_behind (session_after w s c) cs ds

  -- a session whose claims are those to its room's auctions is a desk's
  pub is_desk : (s : SessionState P Q) → ClaimsMatch w s → s ≡ at_desk s.room
  is_desk s h = ap (session_of s.room) h

  -- and a call leaves a desk
  pub desk_kept : (s : RoomState P Q) (c : Call T) → session_after w (at_desk s) c ≡ at_desk (desk_after w s c)
  desk_kept s c = is_desk (session_after w (at_desk s) c) (match_kept w (at_desk s) c refl)

  module _ (s : RoomState P Q) (none_open : s.current ≡ None) (x : EndedValues) (xs : List EndedValues) (waits : s.waiting ≡ x ∷ xs) where
    abbrev claim : ClaimNumbers
    claim = claim_to s.number x.number

    claims_are : claim ∷ claims_to (with_waiting xs s) ≡ claims_to s
    claims_are = sym (ap (λ es. claims_to (with_waiting es s)) waits)

    is_held : holds claim (claims_to s) ≡ true
    is_held = sym (ap (holds claim) claims_are) ∙ ap (λ (b : Bool). b || holds claim (claims_to (with_waiting xs s))) (same_numbers claim)

    -- the collecting of the auction that has waited longest
    collected : (desk_after w s (collecting (told_of_ended w s.number x)) ≡ with_waiting xs s) × (desk_answer w s (collecting (told_of_ended w s.number x)) ≡ collecting_answer (told_of_ended w s.number x))
    collected =
        let did = first_collected w s claim (claims_to (with_waiting xs s)) (x ∷ xs) none_open waits claims_are in
        let both = first_is did.auction x did.rest xs (sym did.waiting_is ∙ waits) in
        let y = step w s (Collect claim 129) in (
          ap (λ (b : Bool). (cond b (session_of y.0 (purse_after {T = T} (Collect claim 129) y.1 (claims_to s))) (at_desk s)).room) is_held ∙ did.state_is ∙ ap (λ es. with_waiting es s) both.1,
          ap (λ (b : Bool). cond b (Some y.1) None) is_held
              ∙ ap (λ r. Some (answer_of_result (λ k. Collected k (collect_rows w s claim 129)) r)) did.answer_is
              ∙ ap (λ rows. Some (Collected (record { count = length (fill_rows w did.auction); cause = did.auction.cause }) rows)) did.rows_are
              ∙ ap (λ (e : EndedValues). Some (Collected (record { count = length (fill_rows w e); cause = e.cause }) (fill_rows w e))) both.0,
        )

  -- all that wait are collected, where none is open
  record AllCollected (s : RoomState P Q) (es : List EndedValues) : Type 0 where
    pub answers : session_answers w (at_desk s) (map collecting (map (told_of_ended w s.number) es)) ≡ map collecting_answer (map (told_of_ended w s.number) es)
    pub end : session_end w (at_desk s) (map collecting (map (told_of_ended w s.number) es)) ≡ at_desk (with_waiting [] s)

  all_collected : (es : List EndedValues) (s : RoomState P Q) → s.current ≡ None → s.waiting ≡ es → AllCollected s es
  all_collected [] s n e = record { answers = refl; end = ap (λ l. at_desk (with_waiting l s)) e }
  all_collected (x ∷ xs) s n e =
      let ts = map (told_of_ended w s.number) xs in
      let c : Call T = collecting (told_of_ended w s.number x) in
      let did = collected s n x xs e in
      let then : session_after w (at_desk s) c ≡ at_desk (with_waiting xs s) = desk_kept s c ∙ ap at_desk did.0 in
      let rest = all_collected xs (with_waiting xs s) n refl in
      record {
        answers =
            ap (λ a. a ∷ session_answers w (session_after w (at_desk s) c) (map collecting ts)) did.1
            ∙ ap (λ l. collecting_answer (told_of_ended w s.number x) ∷ l) (ap (λ t. session_answers w t (map collecting ts)) then ∙ rest.answers);
        end = ap (λ t. session_end w t (map collecting ts)) then ∙ rest.end;
      }

  -- a desk is closed
  pub desk_closed : (s : RoomState P Q) → ClosedByCalls w s (told_at_close w s) (after_close w s)
  desk_closed s =
      let halted = halted_last w s in
      let collectings : List (Call T) = map collecting (told_at_close w s) in
      let then : session_after w (at_desk s) (Halt 0) ≡ at_desk halted = desk_kept s (Halt 0) in
      let did = all_collected halted.waiting halted refl refl in
      record {
        answers = ap (λ l. session_answer w (at_desk s) (Halt 0) ∷ l) (ap (λ t. session_answers w t collectings) then ∙ did.answers);
        end = ap (λ t. session_end w t collectings) then ∙ did.end;
      }

  pub closed_by_calls : (s : RoomState P Q) (ts : List ClosedTold) (room : RoomState P Q) → ts ≡ told_at_close w s → room ≡ after_close w s → ClosedByCalls w s ts room
  closed_by_calls s ts room told state =
      subst (λ l. ClosedByCalls w s l room) (sym told) (subst (λ r. ClosedByCalls w s (told_at_close w s) r) (sym state) (desk_closed s))

  -- behind calls that begin with no claim the session is a desk's
  pub desk_at_end : (c : Carried P T F Q) → c.start.purse ≡ [] → Modelled w c → session_end w (at_first c.start) c.calls ≡ at_desk c.room
  desk_at_end c none h = is_desk (session_end w (at_first c.start) c.calls) (match_at_end w (at_first c.start) c.calls none) ∙ ap at_desk (sym h.room)

  -- so what holds of calls holds of them with those of the close
  pub closed_modelled : (c : Carried P T F Q) (ts : List ClosedTold) (room : RoomState P Q) → c.start.purse ≡ [] → Modelled w c → ClosedByCalls w c.room ts room → Modelled w (with_close c ts room)
  closed_modelled c ts room none h did =
      let first = at_first c.start in
      let closing : List (Call T) = closing_calls ts in
      let end = desk_at_end c none h in
      let last : session_end w first (c.calls ++ closing) ≡ session_of room [] = end_behind first c.calls closing ∙ ap (λ t. session_end w t closing) end ∙ did.end in
      record {
        answers =
            ap (λ l. l ++ closing_answers ts) h.answers
            ∙ ap (λ l. session_answers w first c.calls ++ l) (sym did.answers ∙ ap (λ t. session_answers w t closing) (sym end))
            ∙ sym (answers_behind first c.calls closing);
        room = sym (ap (λ (s : SessionState P Q). s.room) last);
        claims = sym (ap (λ (s : SessionState P Q). s.purse) last);
      }

  pub as_modelled : (c : Carried P T F Q) → WholePromise w c → Modelled w c
  as_modelled c h = record { answers = h.answers; room = h.room; claims = h.claims }

  pub closed_promised : Terms w → (c : Carried P T F Q) (ts : List ClosedTold) (room : RoomState P Q) → c.start.purse ≡ [] → WholePromise w c → ClosedByCalls w c.room ts room
      → WholePromise w (with_close c ts room)
  closed_promised terms c ts room none h did =
      promised w terms (with_close c ts room) (closed_modelled c ts room none (as_modelled c h) did)
