-- A room's state.
use Rattle.std.specs.Prelude.{ℕ, ◌+◌, ◌-◌, Bool, false, cond, List, [], ◌∷◌, ◌++◌, Some, None, Option, ◌==◌, slice_index, slice_set}
use Rattle.allocation.specs.Auction.{AuctionValues}

-- The auction that is open: its number, its deadline, its values (the order as stored, floor, initiating
-- price and the responses that stand; prices are turned), the last arrival number that was given, and of each
-- member, 1 to 16, how many responses and changes were accepted.
pub record OpenValues : Type 0 where
  pub number : ℕ
  pub deadline : ℕ
  pub values : AuctionValues
  pub arrivals : ℕ
  pub used : List ℕ

-- An auction that has ended: its values as they were when it ended, and the letter of the cause for which it
-- ended.
pub record EndedValues : Type 0 where
  pub number : ℕ
  pub values : AuctionValues
  pub cause : ℕ

-- A room over a market of positions P and a source of positions Q: its number, its time, halted or not, the
-- two positions, the open auction, those that have ended and wait to be collected, the oldest first, and how
-- many were opened.
pub record RoomState (P Q : Type 0) : Type 0 where
  pub number : ℕ
  pub time : ℕ
  pub halted : Bool
  pub position : P
  pub source : Q
  pub current : Option OpenValues
  pub waiting : List EndedValues
  pub opened : ℕ

-- A new room has time 0, is not halted and holds no auction.
abbrev pub new_room : {P Q : Type 0} → ℕ → P → Q → RoomState P Q
new_room n p q =
    record { number = n; time = 0; halted = false; position = p; source = q; current = None; waiting = []; opened = 0 }

-- The open auction has this number.
abbrev pub is_number : ℕ → Option OpenValues → Bool
is_number _ None = false
is_number n (Some a) = a.number == n

-- The waiting auction of this number, if there is one.
abbrev pub waiting_auction : ℕ → List EndedValues → Option EndedValues
waiting_auction n [] = None
waiting_auction n (e ∷ es) = cond (e.number == n) (Some e) (waiting_auction n es)

-- The waiting auctions without the one of this number.
abbrev pub without_number : ℕ → List EndedValues → List EndedValues
without_number n [] = []
without_number n (e ∷ es) = cond (e.number == n) es (e ∷ without_number n es)

-- The open auction, if there is one, waits behind the others, as it was, with the letter of the cause for
-- which it ended.
abbrev pub waiting_after_end : ℕ → Option OpenValues → List EndedValues → List EndedValues
waiting_after_end c None es = es
waiting_after_end c (Some a) es = es ++ (record { number = a.number; values = a.values; cause = c }) ∷ []

-- How many responses and changes of a member were accepted.
abbrev pub used_by : ℕ → List ℕ → ℕ
used_by member used = slice_index used (member - 1)

-- One more of this member.
abbrev pub one_more : ℕ → List ℕ → List ℕ
one_more member used = slice_set used (member - 1) (used_by member used + 1)

module _ {P Q : Type 0} where
  abbrev pub at_time : ℕ → RoomState P Q → RoomState P Q
  at_time t s = record s { time = t }

  abbrev pub at_position : P → RoomState P Q → RoomState P Q
  at_position p s = record s { position = p }

  abbrev pub with_halted : Bool → RoomState P Q → RoomState P Q
  with_halted b s = record s { halted = b }

  abbrev pub with_current : OpenValues → RoomState P Q → RoomState P Q
  with_current a s = record s { current = Some a }

  abbrev pub with_waiting : List EndedValues → RoomState P Q → RoomState P Q
  with_waiting es s = record s { waiting = es }

  -- The open auction, if there is one, ends for the cause of this letter and waits to be collected.
  abbrev pub after_end : ℕ → RoomState P Q → RoomState P Q
  after_end c s = record s { current = None; waiting = waiting_after_end c s.current s.waiting }
