-- Why a call is accepted or refused, and what it is told, from the calls and the answers before it. Of the reasons against a
-- call the first that holds is told, by its number; where none holds it is accepted.
use Rattle.std.specs.Prelude.{◌≡◌, ℕ, ◌+◌, max, min, Bool, true, false, cond, not, ◌&&◌, ◌||◌, List, [], ◌∷◌, ◌++◌, ℤ, is_some, Some, None, Ok, Err, Option, Result, ◌==◌, int_lt, nat_le, nat_lt}
use Rattle.std.specs.Int.{int_max}
use Rattle.std.specs.Option.{option_map}
use Rattle.market.specs.declared.range.TurnedQuote.{TurnedQuote}
use Rattle.market.specs.declared.side.Side.{Side}
use Rattle.market.specs.declared.side.Side.TheVariants.{Buy, Sell}
use Rattle.market.specs.Side.{turned_price}
use Rattle.allocation.specs.declared.order.PairedOrder.{PairedOrder}
use Rattle.allocation.specs.FillLaws.{StoodResponse}
use Rattle.room.specs.declared.answers.ClaimNumbers.{ClaimNumbers}
use Rattle.room.specs.declared.answers.StoredTerms.{StoredTerms}
use Rattle.room.specs.declared.requests.ChangeRequest.{ChangeRequest}
use Rattle.room.specs.declared.requests.ResponseRequest.{ResponseRequest}
use Rattle.room.specs.declared.requests.WithdrawRequest.{WithdrawRequest}
use Rattle.room.specs.World.{World}
use Rattle.session.specs.declared.call.Call.{Call}
use Rattle.session.specs.declared.call.Call.TheVariants.{Open, Respond, Change, Withdraw, Tick, Halt, Resume, Clock, Look, Collect}
use Rattle.session.specs.History.{Exchange, Story, is_above, is_below, is_plain_kind, is_own, going_on, not_due, clock_time, time_then, halted_then, openings, market_at, shown_to, story_of, open_story, waits_then, waiting_then}
use Rattle.session.specs.Moments.{exchange_of, history_of, Throughout}
use Rattle.session.specs.Inputs.{first_that_holds, input_reasons, input_reason}
use Rattle.session.specs.Runs.{Answer, Opened, Stored, Accepted, Looked, Collected, Refused, Moment, run}

-- The number of the refusal that a call was told.
abbrev pub refused_number : {F : Type 0} → Answer F → Option ℕ
refused_number (Refused e) = Some e.number
refused_number _ = None

-- The market's fault that a refusal holds.
abbrev pub fault_in_answer : {F : Type 0} → Answer F → Option F
fault_in_answer (Refused e) = e.fault
fault_in_answer _ = None

-- An answer is a refusal, or of the kind that the call has: a claim, a stored price and size, acceptance, a view, rows.
abbrev pub in_kind : {T F : Type 0} → Call T → Answer F → Bool
in_kind _ (Refused e) = true
in_kind (Open x) (Opened c) = true
in_kind (Respond x) (Stored t) = true
in_kind (Change x) (Stored t) = true
in_kind (Withdraw x) (Stored t) = true
in_kind (Tick t x) Accepted = true
in_kind (Halt t) Accepted = true
in_kind (Resume t) Accepted = true
in_kind (Clock t) Accepted = true
in_kind Look (Looked v) = true
in_kind (Collect c n) (Collected k fs) = true
in_kind _ _ = false

-- Both buy, or both sell.
abbrev pub on_one_side : Side → Side → Bool
on_one_side Buy Buy = true
on_one_side Sell Sell = true
on_one_side _ _ = false

-- The response of a member with an own number, if it stands.
abbrev pub standing_of : ℕ → ℕ → List StoodResponse → Option StoodResponse
standing_of member own_number [] = None
standing_of member own_number (r ∷ rs) = cond (is_own member own_number r) (Some r) (standing_of member own_number rs)

-- It stands and is plain.
abbrev pub is_plain_standing : Option StoodResponse → Bool
is_plain_standing None = false
is_plain_standing (Some r) = is_plain_kind r.kind

-- How many responses and changes of a member an auction has accepted.
abbrev pub stored_by : ℕ → List ℕ → ℕ
stored_by member [] = 0
stored_by member (m ∷ ms) = cond (m == member) 1 0 + stored_by member ms

-- The contra price that is shown is below the floor that is shown.
abbrev pub is_crossed : Option ℤ → Option ℤ → Bool
is_crossed None contra = false
is_crossed (Some floor) contra = is_below contra floor

-- The reasons against an opening that follow from what its side is shown: 14 a side shows no price; 15 the limit or the
-- contra price is below the floor; 16 the guarantee is above the limit or the contra price.
abbrev pub price_reasons : PairedOrder → TurnedQuote → List (Bool × ℕ)
price_reasons o q =
    (not (is_some q.floor && is_some q.contra), 14)
    ∷ ((is_above q.floor (turned_price o.side o.limit) || is_crossed q.floor q.contra, 15)
    ∷ ((int_lt (turned_price o.side o.limit) (turned_price o.side o.guarantee.price) || is_below q.contra (turned_price o.side o.guarantee.price), 16)
    ∷ []))

-- Where no auction is open, that is the reason, 21; otherwise there are those of the open one.
abbrev pub by_open : Option Story → (Story → List (Bool × ℕ)) → List (Bool × ℕ)
by_open None reasons = (true, 21) ∷ []
by_open (Some s) reasons = reasons s

-- The price, turned, is above the initiating price.
abbrev pub above_initiating : Story → ℤ → Bool
above_initiating s price = int_lt s.opening.range.initiating (turned_price s.opening.order.side price)

-- The member's 10,000 accepted responses and changes are used.
abbrev pub is_used_up : Story → ℕ → Bool
is_used_up s member = nat_le 10000 (stored_by member s.storers)

-- A response: 22 it is on the order's side, 23 above the initiating price, 24 its own number is in use, 27 the 10,000 are
-- used.
abbrev pub respond_reasons : ResponseRequest → Story → List (Bool × ℕ)
respond_reasons x s =
    (on_one_side x.side s.opening.order.side, 22)
    ∷ ((above_initiating s x.price, 23)
    ∷ ((is_some (standing_of x.member x.own_number s.stood), 24)
    ∷ ((is_used_up s x.member, 27)
    ∷ [])))

-- Only a sealed response that stands is changed or withdrawn: 25 no such response stands, 26 it is plain.
abbrev pub sealed_reasons : Option StoodResponse → List (Bool × ℕ)
sealed_reasons r = (not (is_some r), 25) ∷ ((is_plain_standing r, 26) ∷ [])

-- A change: 25, 26, 23, 27.
abbrev pub change_reasons : ChangeRequest → Story → List (Bool × ℕ)
change_reasons x s =
    sealed_reasons (standing_of x.member x.own_number s.stood) ++ (above_initiating s x.price, 23) ∷ ((is_used_up s x.member, 27) ∷ [])

-- A withdrawal: 25, 26.
abbrev pub withdraw_reasons : WithdrawRequest → Story → List (Bool × ℕ)
withdraw_reasons x s = sealed_reasons (standing_of x.member x.own_number s.stood)

-- The higher of the price and the floor, turned back, and the lesser of the size and the order's.
abbrev pub terms_kept : Story → ℤ → ℕ → StoredTerms
terms_kept s price size =
    record { price = turned_price s.opening.order.side (int_max s.floor (turned_price s.opening.order.side price)); size = min size s.opening.order.size }

-- What an accepted response, change or withdrawal is told; a withdrawal what was last stored.
abbrev pub terms_due : {T : Type 0} → Option Story → Call T → Option StoredTerms
terms_due (Some s) (Respond x) = Some (terms_kept s x.price x.size)
terms_due (Some s) (Change x) = Some (terms_kept s x.price x.size)
terms_due (Some s) (Withdraw x) = option_map (λ (r : StoodResponse). record { price = r.price; size = r.size }) (standing_of x.member x.own_number s.stood)
terms_due _ _ = None

-- The fault for which a market refuses a tick.
abbrev pub fault_in : {F : Type 0} → Result (Unit {0}) F → Option F
fault_in (Ok _) = None
fault_in (Err f) = Some f

module _ {P T F Q : Type 0} (w : World P T F Q) (p : P) (q : Q) (past : List (Exchange T F)) where
  -- The open auction as a call finds it: after its clock step.
  abbrev pub found_open : Call T → Option Story
  found_open c = not_due (max (time_then past) (clock_time c)) (open_story w p q past)

  -- An auction waits then: one did before, or the clock step has just ended one.
  abbrev pub one_waits : Call T → Bool
  one_waits c = nat_lt 0 (waiting_then w p q past) || (is_some (open_story w p q past) && not (is_some (found_open c)))

  -- The market's fault at a tick, at the position to which the accepted ticks lead.
  abbrev pub market_fault : Call T → Option F
  market_fault (Tick t x) = fault_in (w.market.answer (market_at w p q past) x)
  market_fault _ = None

module _ {P T F Q : Type 0} (w : World P T F Q) (number : ℕ) (p : P) (q : Q) (past : List (Exchange T F)) where
  -- The reasons against a call that passes its input checks. An opening: 12 the room is halted, 13 an auction waits, 14 to
  -- 16, 17 a million auctions were opened. A tick: 31 the market refuses it. A collecting: 42 another room's claim, 41 the
  -- auction is still open, 42 it does not wait.
  abbrev pub state_reasons : Call T → List (Bool × ℕ)
  state_reasons (Open x) =
      (halted_then past, 12) ∷ ((one_waits w p q past (Open x), 13) ∷ (price_reasons x.order (shown_to w p q x.order.side past) ++ (nat_le 1000000 (openings past), 17) ∷ []))
  state_reasons (Respond x) = by_open (found_open w p q past (Respond x)) (respond_reasons x)
  state_reasons (Change x) = by_open (found_open w p q past (Change x)) (change_reasons x)
  state_reasons (Withdraw x) = by_open (found_open w p q past (Withdraw x)) (withdraw_reasons x)
  state_reasons (Tick t x) = (is_some (market_fault w p q past (Tick t x)), 31) ∷ []
  state_reasons (Collect c n) =
      (not (c.room == number), 42) ∷ ((is_some (going_on (story_of w p q c.auction past)), 41) ∷ ((not (waits_then w p q c.auction past), 42) ∷ []))
  state_reasons _ = []

  -- All of them, the input checks first.
  abbrev pub reasons : Call T → List (Bool × ℕ)
  reasons c = input_reasons c ++ state_reasons c

  pub record AnsweredWithReason (x : Exchange T F) : Type 0 where
    -- A call is refused exactly if there is a reason, and told the first.
    pub reason : refused_number x.answer ≡ first_that_holds (reasons x.call)
    -- What is accepted is answered in the call's kind.
    pub kind : in_kind x.call x.answer ≡ true
    -- A claim has the room's number and the next auction's, counted from 1.
    pub claim : (c : ClaimNumbers) → x.answer ≡ Opened c → c ≡ record { room = number; auction = openings past + 1 }
    -- The stored price and size that are told.
    pub terms : (t : StoredTerms) → x.answer ≡ Stored t → terms_due (found_open w p q past x.call) x.call ≡ Some t
    -- A tick that passes its input check is told the market's fault, if it has one; no other call is told one.
    pub fault : fault_in_answer x.answer ≡ cond (is_some (input_reason x.call)) None (market_fault w p q past x.call)

-- Each answer of a run has its reason in the calls and answers before it, and what is told follows from them.
abbrev pub AnswersHaveTheirReasons : {P T F Q : Type 0} → World P T F Q → ℕ → P → Q → List (Moment P T F Q) → Moment P T F Q → Type 0
AnswersHaveTheirReasons w number p q past m = AnsweredWithReason w number p q (history_of past) (exchange_of m)

-- Of every run.
abbrev pub AnswersHaveTheirReasonsInRuns : {P T F Q : Type 0} → World P T F Q → Type 0
AnswersHaveTheirReasonsInRuns {P} {T} {F} {Q} w =
    (number : ℕ) (p : P) (q : Q) (cs : List (Call T)) → Throughout (AnswersHaveTheirReasons w number p q) [] (run w number p q cs)
