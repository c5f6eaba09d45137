-- The refusals of a room, told by their numbers, and how a call comes to one: the first that holds is told.
use Rattle.std.specs.Prelude.{◌≡◌, ℕ, Bool, cond, Some, None, Ok, Err, Option, Result, IfErr}
use Rattle.std.specs.Option.{option_map}
use Rattle.room.specs.declared.refusal.Refusal.{Refusal}
use Rattle.room.specs.declared.refusal.Refusal.TheVariants.{TimeOverLimit, PriceOutsideLimits, SizeOutsideLimits, MemberOutsideLimits, OwnNumberOutsideLimits, ListTooShort, RoomHalted, AuctionWaits, SideShowsNoPrice, InitiatingBelowFloor, GuaranteeAboveInitiating, OpeningsUsedUp, NoAuctionOpen, SameSide, AboveInitiating, OwnNumberInUse, NoSuchResponse, ResponseIsPlain, ResponsesUsedUp, MarketFault, StillOpen, NoSuchAuction}

-- A refusal as it is told: its number, and what is told of the market's fault, if it holds one.
pub record RefusalTold (F : Type 0) : Type 0 where
  pub number : ℕ
  pub fault : Option F

-- A refusal of this number that holds no fault.
abbrev pub by_number : {F : Type 0} → ℕ → RefusalTold F
by_number n = record { number = n; fault = None }

-- 31, with what is told of the market's fault.
abbrev pub by_fault : {F : Type 0} → F → RefusalTold F
by_fault f = record { number = 31; fault = Some f }

-- Of what is handed in: 1 time over its limit, 2 a price outside its limits, 3 a size, 4 a member, 5 an own number,
-- 6 a list of rows that is too short.
-- Openings: 12 halted, 13 an auction waits, 14 a side shows no price, 15 initiating price below the floor,
-- 16 guarantee above the initiating price, 17 a million auctions were opened.
-- Responses: 21 none open, 22 same side, 23 above the initiating price, 24 own number in use, 25 no such standing
-- response, 26 it is plain, 27 the member's 10,000 are used.
-- Ticks: 31 the market's own fault, whole.
-- Collecting: 41 still open, 42 another room's claim, or no such auction.
abbrev pub refusal_number : {F : Type 0} → Refusal F → ℕ
refusal_number TimeOverLimit = 1
refusal_number PriceOutsideLimits = 2
refusal_number SizeOutsideLimits = 3
refusal_number MemberOutsideLimits = 4
refusal_number OwnNumberOutsideLimits = 5
refusal_number ListTooShort = 6
refusal_number RoomHalted = 12
refusal_number AuctionWaits = 13
refusal_number SideShowsNoPrice = 14
refusal_number InitiatingBelowFloor = 15
refusal_number GuaranteeAboveInitiating = 16
refusal_number OpeningsUsedUp = 17
refusal_number NoAuctionOpen = 21
refusal_number SameSide = 22
refusal_number AboveInitiating = 23
refusal_number OwnNumberInUse = 24
refusal_number NoSuchResponse = 25
refusal_number ResponseIsPlain = 26
refusal_number ResponsesUsedUp = 27
refusal_number (MarketFault f) = 31
refusal_number StillOpen = 41
refusal_number NoSuchAuction = 42

-- The market's fault, whole, where the refusal holds it.
abbrev pub fault_of : {F : Type 0} → Refusal F → Option F
fault_of (MarketFault f) = Some f
fault_of _ = None

-- What is told of a refusal, where `f` is what is told of the market's fault.
abbrev pub refusal_told : {F G : Type 0} → (F → G) → Refusal F → RefusalTold G
refusal_told f e = record { number = refusal_number e; fault = option_map f (fault_of e) }

-- The refusal, if the result is one, holds no fault.
abbrev pub HoldsNoFault : {X F : Type 0} → Result X (Refusal F) → Type 0
HoldsNoFault r = IfErr r (λ e. fault_of e ≡ None)

-- The refusal of this number where the test holds, and otherwise what the further tests say.
abbrev pub refuse : Bool → ℕ → Option ℕ → Option ℕ
refuse test n further = cond test (Some n) further

-- A refusal comes before what would otherwise be answered.
abbrev pub unless : {X R : Type 0} → Option R → Result X R → Result X R
unless None y = y
unless (Some e) y = Err e

-- The first refusal of two steps, or what the second makes of the first.
abbrev pub and_then : {X Y R : Type 0} → Result X R → (X → Result Y R) → Result Y R
and_then (Ok x) f = f x
and_then (Err e) f = Err e

-- A refusal leaves the state and is told; what is accepted has an effect and an answer.
abbrev pub outcome : {S X Y F : Type 0} → Result X ℕ → S → (X → S) → (X → Y) → S × Result Y (RefusalTold F)
outcome (Ok x) s effect answer = (effect x, Ok (answer x))
outcome (Err n) s effect answer = (s, Err (by_number n))
