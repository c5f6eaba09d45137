-- What a room holds after a history, and what the history tells: the same.
use Rattle.std.proofs.Common.{◌≡◌, ℕ, ◌≤◌, false, List, length, is_some, Some, None, Option}
use Rattle.allocation.specs.Auction.{stood_responses}
use Rattle.room.specs.Clock.{due}
use Rattle.room.specs.Openings.{stored_order}
use Rattle.room.specs.State.{OpenValues, RoomState, is_number, waiting_auction, used_by}
use Rattle.room.specs.World.{World}
use Rattle.room.proofs.Sound.{Sound}
use Rattle.session.specs.History.{Exchange, Story, deadline_of, time_then, halted_then, openings, market_at, source_at, story_of, open_story, going_on, waits_then, waiting_then}
use Rattle.session.specs.Reasons.{stored_by}

-- an open auction and its story
pub record Matches (s : Story) (a : OpenValues) : Type 0 where
  pub order_is : a.values.order ≡ stored_order s.opening.range.floor s.opening.order
  pub initiating_is : a.values.initiating ≡ s.opening.range.initiating
  pub floor_is : a.values.floor ≡ s.floor
  pub stood_is : stood_responses a.values ≡ s.stood
  pub deadline_is : a.deadline ≡ deadline_of s.opening
  pub arrivals_is : a.arrivals ≡ length s.storers
  pub used_is : (member : ℕ) → 1 ≤ member → member ≤ 16 → used_by member a.used ≡ stored_by member s.storers
  pub sound : Sound a.values

-- the open auction of a room and the story that goes on
pub data Current : Option OpenValues → Option Story → Type 0 where
  none_open : Current None None
  one_open : (a : OpenValues) (s : Story) → Matches s a → Current (Some a) (Some s)

-- a room and the history that led to it
pub record Linked {P T F Q : Type 0} (w : World P T F Q) (number : ℕ) (p : P) (q : Q) (past : List (Exchange T F)) (s : RoomState P Q) : Type 0 where
  pub number_is : s.number ≡ number
  pub time_is : s.time ≡ time_then past
  pub halted_is : s.halted ≡ halted_then past
  pub position_is : s.position ≡ market_at w p q past
  pub source_is : s.source ≡ source_at w p q past
  pub opened_is : s.opened ≡ openings past
  pub none_due : due s.time s.current ≡ false
  pub current : Current s.current (open_story w p q past)
  pub is_open : (n : ℕ) → is_number n s.current ≡ is_some (going_on (story_of w p q n past))
  pub waits : (n : ℕ) → is_some (waiting_auction n s.waiting) ≡ waits_then w p q n past
  pub waiting_is : length s.waiting ≡ waiting_then w p q past
