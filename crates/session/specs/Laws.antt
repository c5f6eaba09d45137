-- The laws over whole runs, and over sessions. They hold of every world that keeps its terms.
use Rattle.std.specs.Prelude.{◌≡◌, ℕ, List, [], map}
use Rattle.std.specs.Option.{option_map}
use Rattle.room.specs.World.{World}
use Rattle.session.specs.declared.call.Call.{Call}
use Rattle.session.specs.Ending.{EndedWithinASecond, BusinessAfterTheClockStep, NotByTimeTooSoon, EndedNotVanished, EndedForItsCauses, AuctionsEndAsRuled}
use Rattle.session.specs.Moments.{Throughout}
use Rattle.session.specs.Looking.{LooksTellTheHistory, LooksTellTheHistoryInRuns, RoomHoldsTheHistory, RoomsHoldTheHistory}
use Rattle.session.specs.Learning.{AllAlike, AlikeToItself, AlikeBothWays, opens_here, ends_here, seen_by, MemberSeesTheSame}
use Rattle.session.specs.Reasons.{AnswersHaveTheirReasons, AnswersHaveTheirReasonsInRuns}
use Rattle.session.specs.Runs.{Moment, run}
use Rattle.session.specs.SessionLearning.{ShownTheSame, MemberSeesTheSameInSessions, opens_if_made, ends_if_made}
use Rattle.session.specs.SessionState.{SessionState, session_answers, session_moments}
use Rattle.session.specs.Sharing.{CollectedLawfully, ContractsAreSharedLawfully}

pub record RunLaws {P T F Q : Type 0} (w : World P T F Q) : Type 0 where
  pub alike_to_itself : AlikeToItself T
  pub alike_both_ways : AlikeBothWays T
  pub learning : MemberSeesTheSame w
  pub session_learning : MemberSeesTheSameInSessions w
  pub looks : LooksTellTheHistoryInRuns w
  pub rooms : RoomsHoldTheHistory w
  pub ending : AuctionsEndAsRuled w
  pub sharing : ContractsAreSharedLawfully w
  pub reasons : AnswersHaveTheirReasonsInRuns w

-- The laws of one run: of these calls on a room made of this number and these positions.
pub record LawsOfRun {P T F Q : Type 0} (w : World P T F Q) (number : ℕ) (p : P) (q : Q) (cs : List (Call T)) : Type 0 where
  -- What a member may learn: against every other list of calls that is alike to the member, and in which openings are
  -- accepted and auctions end at the same places, the member is shown the same at every call. These calls are alike to
  -- themselves, so that this is said of every list.
  pub alike_to_itself : (u : ℕ) → AllAlike u cs cs
  pub learning : (u : ℕ) (ds : List (Call T)) → AllAlike u cs ds
      → map opens_here (run w number p q cs) ≡ map opens_here (run w number p q ds)
      → map ends_here (run w number p q cs) ≡ map ends_here (run w number p q ds)
      → map (seen_by u) (run w number p q cs) ≡ map (seen_by u) (run w number p q ds)
  -- What looks tell, and what the room holds that no look tells.
  pub looks : Throughout (LooksTellTheHistory w p q) [] (run w number p q cs)
  pub rooms : Throughout (RoomHoldsTheHistory w p q) [] (run w number p q cs)
  -- When an auction ends.
  pub within_a_second : Throughout (EndedWithinASecond w number p q) [] (run w number p q cs)
  pub after_the_clock_step : Throughout (λ past. BusinessAfterTheClockStep w number p q) [] (run w number p q cs)
  pub not_too_soon : Throughout (NotByTimeTooSoon w number p q) [] (run w number p q cs)
  pub not_vanished : Throughout (EndedNotVanished w number p q) [] (run w number p q cs)
  pub for_its_causes : Throughout (EndedForItsCauses w number p q) [] (run w number p q cs)
  -- How contracts are shared.
  pub shared_lawfully : Throughout (CollectedLawfully w p q) [] (run w number p q cs)
  -- Why calls are accepted and refused, and what they are told.
  pub reasons : Throughout (AnswersHaveTheirReasons w number p q) [] (run w number p q cs)

-- The laws of one session: of these calls from it on, with those that are not made.
pub record LawsOfSession {P T F Q : Type 0} (w : World P T F Q) (s : SessionState P Q) (cs : List (Call T)) : Type 0 where
  -- The answers are those of its moments, none where no call is made.
  pub answers : session_answers w s cs ≡ map (option_map (λ (m : Moment P T F Q). m.answer)) (session_moments w s cs)
  -- What a member may learn: against every other list of calls that is alike to the member, and in which openings are
  -- accepted and auctions end at the same places, the member is shown the same at every call, and calls are made at the same
  -- places.
  pub learning : (u : ℕ) (ds : List (Call T)) → AllAlike u cs ds
      → map opens_if_made (session_moments w s cs) ≡ map opens_if_made (session_moments w s ds)
      → map ends_if_made (session_moments w s cs) ≡ map ends_if_made (session_moments w s ds)
      → ShownTheSame u (session_moments w s cs) (session_moments w s ds)
