-- What a member may learn in a session: of the calls as they are handed in, the collectings whose claim is not held among
-- them.
use Rattle.std.specs.Prelude.{◌≡◌, ℕ, Bool, false, List, map, is_some, Some, None, Option}
use Rattle.room.specs.World.{World}
use Rattle.session.specs.declared.call.Call.{Call}
use Rattle.session.specs.Learning.{AllAlike, opens_here, ends_here, seen_by}
use Rattle.session.specs.Runs.{Answer, Moment}
use Rattle.session.specs.SessionState.{SessionState, session_moments}

module _ {P T F Q : Type 0} where
  -- Where no call is made, no opening is accepted, no auction ends, and the member is shown nothing.
  abbrev pub opens_if_made : Option (Moment P T F Q) → Bool
  opens_if_made None = false
  opens_if_made (Some m) = opens_here m

  abbrev pub ends_if_made : Option (Moment P T F Q) → Bool
  ends_if_made None = false
  ends_if_made (Some m) = ends_here m

  abbrev pub seen_if_made : ℕ → Option (Moment P T F Q) → Option (Answer F)
  seen_if_made u None = None
  seen_if_made u (Some m) = seen_by u m

  -- The member is shown the same at every call, and calls are made at the same places of both lists.
  pub record ShownTheSame (u : ℕ) (ms ns : List (Option (Moment P T F Q))) : Type 0 where
    pub shown : map (seen_if_made u) ms ≡ map (seen_if_made u) ns
    pub made : map is_some ms ≡ map is_some ns

-- Two lists of calls from one session on, whatever its room and its purse, that are alike to a member, and in which openings
-- are accepted and auctions end at the same places of both lists: the member is shown the same at every call, and calls are made
-- at the same places.
abbrev pub MemberSeesTheSameInSessions : {P T F Q : Type 0} → World P T F Q → Type 0
MemberSeesTheSameInSessions {P} {T} {F} {Q} w =
    (s : SessionState P Q) (u : ℕ) (cs ds : List (Call T)) → AllAlike u cs ds
    → map opens_if_made (session_moments w s cs) ≡ map opens_if_made (session_moments w s ds)
    → map ends_if_made (session_moments w s cs) ≡ map ends_if_made (session_moments w s ds)
    → ShownTheSame u (session_moments w s cs) (session_moments w s ds)
