-- All the laws over runs, of a world that keeps its terms.
use Rattle.std.proofs.Common.{ℕ, List}
use Rattle.room.specs.World.{World, Terms}
use Rattle.session.specs.declared.call.Call.{Call}
use Rattle.session.specs.Laws.{RunLaws, LawsOfRun, LawsOfSession}
use Rattle.session.specs.SessionState.{SessionState}
use Rattle.session.proofs.Ending.Laws.{auctions_end_as_ruled}
use Rattle.session.proofs.Learning.Alike.{alike_to_itself, alike_both_ways}
use Rattle.session.proofs.Learning.Learned.{member_sees_the_same}
use Rattle.session.proofs.Learning.LearnedInSessions.{member_sees_the_same_in_sessions}
use Rattle.session.proofs.Looking.{looks_tell_the_history, rooms_hold_the_history}
use Rattle.session.proofs.Reasons.{answers_have_their_reasons_in_runs}
use Rattle.session.proofs.SessionState.{answers_of_moments}
use Rattle.session.proofs.Sharing.{contracts_are_shared_lawfully}

pub run_laws : {P T F Q : Type 0} (w : World P T F Q) → Terms w → RunLaws w
run_laws w terms = record {
  alike_to_itself = alike_to_itself;
  alike_both_ways = alike_both_ways;
  learning = member_sees_the_same w;
  session_learning = member_sees_the_same_in_sessions w;
  looks = looks_tell_the_history w terms;
  rooms = rooms_hold_the_history w terms;
  ending = auctions_end_as_ruled w terms;
  sharing = contracts_are_shared_lawfully w terms;
  reasons = answers_have_their_reasons_in_runs w terms;
}

-- and so of each
pub laws_of_run : {P T F Q : Type 0} (w : World P T F Q) → Terms w → (number : ℕ) (p : P) (q : Q) (cs : List (Call T)) → LawsOfRun w number p q cs
laws_of_run w terms number p q cs =
    let ends = auctions_end_as_ruled w terms number p q cs in
    record {
      alike_to_itself = λ u. alike_to_itself u cs;
      learning = λ u ds. member_sees_the_same w number p q u cs ds;
      looks = looks_tell_the_history w terms number p q cs;
      rooms = rooms_hold_the_history w terms number p q cs;
      within_a_second = ends.0;
      after_the_clock_step = ends.1;
      not_too_soon = ends.2;
      not_vanished = ends.3;
      for_its_causes = ends.4;
      shared_lawfully = contracts_are_shared_lawfully w terms number p q cs;
      reasons = answers_have_their_reasons_in_runs w terms number p q cs;
    }

-- and of each session
pub laws_of_session : {P T F Q : Type 0} (w : World P T F Q) (s : SessionState P Q) (cs : List (Call T)) → LawsOfSession w s cs
laws_of_session w s cs = record { answers = answers_of_moments w s cs; learning = λ u ds. member_sees_the_same_in_sessions w s u cs ds }
