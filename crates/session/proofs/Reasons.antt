-- Each call is answered as its reasons say: what it finds in the room after its clock step is what the history tells, and
-- the room's tests are the history's reasons.
use Rattle.std.proofs.Common.{◌≡◌, ℕ, ◌+◌, max, min, Bool, true, false, cond, not, ◌&&◌, ◌||◌, eqb, ltb, leb, List, [], ◌∷◌, ◌++◌, map, length, ℤ, is_some, Some, None, Ok, Err, Option, Result, sym, refl, ap, ◌∙◌, subst, arith}
use borrow.Author.Differences.{ints}
use lib.Signed.{lt_z}
use Rattle.std.proofs.lemmas.Bool.{not-false}
use Rattle.std.proofs.lemmas.Bool.Decides.{nat_tests}
use Rattle.std.proofs.Math.Bool.{or-true}
use Rattle.std.specs.Int.{int_max, int_min}
use Rattle.std.specs.Option.{option_map, option_or}
use Rattle.std.specs.Str.{byte}
use Rattle.market.specs.declared.range.TurnedQuote.{TurnedQuote}
use Rattle.market.specs.declared.side.Side.{Side}
use Rattle.market.specs.declared.side.Side.TheVariants.{Buy, Sell}
use Rattle.market.specs.Limits.{in_limits}
use Rattle.market.specs.Range.{RangePrices, permitted_range, range_faced}
use Rattle.market.specs.Side.{turned_price}
use Rattle.allocation.specs.declared.order.PairedOrder.{PairedOrder}
use Rattle.allocation.specs.declared.response.Kind.{Kind}
use Rattle.allocation.specs.declared.response.Kind.TheVariants.{Sealed, Plain}
use Rattle.allocation.specs.declared.response.Response.{Response}
use Rattle.allocation.specs.AuctionInvariant.{from_to}
use Rattle.allocation.specs.FillLaws.{StoodResponse, stood_response}
use Rattle.allocation.specs.Table.{is_of, own_response}
use Rattle.room.specs.declared.answers.ClaimNumbers.{ClaimNumbers}
use Rattle.room.specs.declared.answers.StoredTerms.{StoredTerms}
use Rattle.room.specs.declared.requests.ChangeRequest.{ChangeRequest}
use Rattle.room.specs.declared.requests.OpeningRequest.{OpeningRequest}
use Rattle.room.specs.declared.requests.ResponseRequest.{ResponseRequest}
use Rattle.room.specs.declared.requests.WithdrawRequest.{WithdrawRequest}
use Rattle.room.specs.Checks.{open_checks, respond_checks, change_checks, withdraw_checks, time_checks, price_ok}
use Rattle.room.specs.Clock.{due, after_clock, timed_call}
use Rattle.room.specs.Collecting.{collectable, collect_call, collect_rows, waiting_now, fill_rows}
use Rattle.room.specs.Halts.{halt_call, resume_call, clock_call}
use Rattle.room.specs.Openings.{any_waits, guarantee_refusal, opening_range, after_opening, opening, open_call}
use Rattle.room.specs.Refusals.{RefusalTold, by_number, refuse, unless, and_then, outcome}
use Rattle.room.specs.Responses.{same_side, is_plain, responding_to, responding, change_refusal, changing_in, changing, standing_now, plain_checked, withdrawing_from, withdrawing, response_refusal, terms_told, stored_price, stored_size, after_response, turned_in, respond_call, change_call, withdraw_call, with_change, with_withdrawal}
use Rattle.room.specs.State.{OpenValues, EndedValues, RoomState, new_room, at_time, waiting_after_end, after_end, is_number, waiting_auction, used_by, with_halted, with_current, with_waiting, without_number}
use Rattle.room.specs.Ticks.{ticking, ticking_by, tick_call}
use Rattle.room.specs.World.{World, Terms}
use Rattle.room.proofs.InsideLimits.{response_inside, change_inside}
use Rattle.room.proofs.Tests.{true_false, ok_err, refuse_none, unless_ok, and_then_ok}
use Rattle.session.specs.declared.call.Call.{Call}
use Rattle.session.specs.declared.call.Call.TheVariants.{Open, Respond, Change, Withdraw, Tick, Halt, Resume, Clock, Look, Collect}
use Rattle.session.specs.History.{Exchange, Story, deadline_of, is_plain_kind, going_on, not_due, clock_time, time_or_zero, time_then, halted_then, openings, market_at, shown_to, story_of, open_story, waiting_then}
use Rattle.session.specs.Moments.{history_of}
use Rattle.session.specs.Inputs.{first_that_holds, input_reasons, input_reason}
use Rattle.session.specs.Reasons.{refused_number, fault_in_answer, in_kind, on_one_side, standing_of, price_reasons, by_open, above_initiating, is_used_up, respond_reasons, sealed_reasons, change_reasons, withdraw_reasons, terms_kept, terms_due, fault_in, found_open, one_waits, market_fault, state_reasons, reasons, AnsweredWithReason, AnswersHaveTheirReasons, AnswersHaveTheirReasonsInRuns}
use Rattle.session.specs.Runs.{Answer, Opened, Stored, Accepted, Collected, Refused, Moment, answer_of_result, given_time, input_refusal, step, moment}
use Rattle.session.proofs.Choices.{cond_through}
use Rattle.session.proofs.Ending.AsTold.{linked}
use Rattle.session.proofs.Ending.Held.{holds_new}
use Rattle.session.proofs.Ending.Laws.{throughout}
use Rattle.session.proofs.Inputs.{same_check, input_reason_is}
use Rattle.session.proofs.Linked.{Matches, Current, none_open, one_open, Linked}

-- The first of two lists is the first of the first, or of the second.
first_by : {X : Type 0} (b : Bool) (x : X) (o r : Option X) → cond b (Some x) (option_or o r) ≡ option_or (cond b (Some x) o) r
first_by true x o r = refl
first_by false x o r = refl

first_of_two : {X : Type 0} (xs ys : List (Bool × X)) → first_that_holds (xs ++ ys) ≡ option_or (first_that_holds xs) (first_that_holds ys)
first_of_two [] ys = refl
first_of_two (x ∷ xs) ys = ap (cond x.0 (Some x.1)) (first_of_two xs ys) ∙ first_by x.0 x.1 (first_that_holds xs) (first_that_holds ys)

-- What goes through a choice either way.
either_way : {X Y : Type 0} (f : X → Y) (b : Bool) (x z : X) (y : Y) → f x ≡ y → f z ≡ y → f (cond b x z) ≡ y
either_way f true x z y h k = h
either_way f false x z y h k = k

-- The responses that stand, by room and by history.
own_by : (side : Side) (b : Bool) (x : Response) (o : Option Response) (r : Option StoodResponse) → r ≡ option_map (stood_response side) o
    → cond b (Some (stood_response side x)) r ≡ option_map (stood_response side) (cond b (Some x) o)
own_by side true x o r h = refl
own_by side false x o r h = h

own_is : (side : Side) (member own_number : ℕ) (xs : List Response) → standing_of member own_number (map (stood_response side) xs) ≡ option_map (stood_response side) (own_response member own_number xs)
own_is side member own_number [] = refl
own_is side member own_number (x ∷ xs) = own_by side (is_of member own_number x) x (own_response member own_number xs) _ (own_is side member own_number xs)

some_is : {X Y : Type 0} (f : X → Y) (o : Option X) → is_some (option_map f o) ≡ is_some o
some_is f None = refl
some_is f (Some x) = refl

side_is : (a b : Side) → same_side a b ≡ on_one_side a b
side_is Buy Buy = refl
side_is Buy Sell = refl
side_is Sell Buy = refl
side_is Sell Sell = refl

kind_is : (k : Kind) → is_plain k ≡ is_plain_kind k
kind_is Sealed = refl
kind_is Plain = refl

-- The lower of two prices is below a third exactly if one of them is.
lower_is : (limit contra z : ℤ) → lt_z (int_min limit contra) z ≡ (lt_z limit z || lt_z contra z)
lower_is limit contra z = grind (arith, ints, nat_tests)

or_false : (b : Bool) → (b || false) ≡ b
or_false true = refl
or_false false = refl

any_is : (es : List EndedValues) → any_waits es ≡ ltb 0 (length es)
any_is [] = refl
any_is (e ∷ es) = grind (arith, nat_tests)

any_behind : (es : List EndedValues) (e : EndedValues) → any_waits (es ++ e ∷ []) ≡ true
any_behind [] e = refl
any_behind (x ∷ es) e = refl

-- An open auction whose deadline is reached ends at the clock step, and its story goes on no longer.
closes_by : (b : Bool) (a : OpenValues) (s : Story) → Matches s a → Current (cond b None (Some a)) (cond b None (Some s))
closes_by true a s m = none_open
closes_by false a s m = one_open a s m

closes : (o : Option OpenValues) (r : Option Story) (t u : ℕ) → Current o r → t ≡ u → Current (cond (due t o) None o) (not_due u r)
closes _ _ t u none_open e = none_open
closes _ _ t u (one_open a s m) e =
    subst (λ b. Current (cond (leb a.deadline t) None (Some a)) (cond b None (Some s))) (ap (λ d. leb d t) m.deadline_is ∙ ap (leb (deadline_of s.opening)) e) (closes_by (leb a.deadline t) a s m)

-- Some auction waits after the clock step if one did before, or the open one ends.
waits_by : (b : Bool) (a : OpenValues) (s : Story) (es : List EndedValues)
    → any_waits (cond b (waiting_after_end (byte "T") (Some a) es) es) ≡ (ltb 0 (length es) || not (is_some (cond b None (Some s))))
waits_by true a s es = any_behind es _ ∙ sym (or-true (ltb 0 (length es)))
waits_by false a s es = any_is es ∙ sym (or_false (ltb 0 (length es)))

waits_stepped : (o : Option OpenValues) (r : Option Story) (t u : ℕ) (es : List EndedValues) (n : ℕ) → Current o r → t ≡ u → length es ≡ n
    → any_waits (cond (due t o) (waiting_after_end (byte "T") o es) es) ≡ (ltb 0 n || (is_some r && not (is_some (not_due u r))))
waits_stepped _ _ t u es n none_open e k = any_is es ∙ ap (ltb 0) k ∙ sym (or_false (ltb 0 n))
waits_stepped _ _ t u es n (one_open a s m) e k =
    waits_by (leb a.deadline t) a s es
    ∙ ap (λ b. ltb 0 (length es) || not (is_some (cond b None (Some s)))) (ap (λ d. leb d t) m.deadline_is ∙ ap (leb (deadline_of s.opening)) e)
    ∙ ap (λ i. ltb 0 i || not (is_some (not_due u (Some s)))) k

-- What refuses a check, by number.
abbrev number_in : {X : Type 0} → Result X ℕ → Option ℕ
number_in (Ok x) = None
number_in (Err n) = Some n

number_unless : {X : Type 0} (o : Option ℕ) (x : X) → number_in (unless o (Ok x)) ≡ o
number_unless None x = refl
number_unless (Some n) x = refl

-- What refuses a call.
module _ {F : Type 0} where
  abbrev told_number : {X : Type 0} → Result X (RefusalTold F) → Option ℕ
  told_number (Ok x) = None
  told_number (Err e) = Some e.number

  told_answer : {X : Type 0} (f : X → Answer F) (y : Result X (RefusalTold F)) → ((x : X) → refused_number (f x) ≡ None) → refused_number (answer_of_result f y) ≡ told_number y
  told_answer f (Ok x) h = h x
  told_answer f (Err e) h = refl

  -- An answer is in the call's kind, if what is accepted is.
  in_kind_by : {T X : Type 0} (c : Call T) (f : X → Answer F) (y : Result X (RefusalTold F)) → ((x : X) → in_kind c (f x) ≡ true) → in_kind c (answer_of_result f y) ≡ true
  in_kind_by c f (Ok x) h = h x
  in_kind_by c f (Err e) h = refl

told_outcome : (F : Type 0) {S X Y : Type 0} (y : Result X ℕ) (s : S) (effect : X → S) (answer : X → Y) → told_number {F = F} (outcome y s effect answer).1 ≡ number_in y
told_outcome F (Ok x) s effect answer = refl
told_outcome F (Err n) s effect answer = refl

-- No check holds a fault.
no_fault : (F : Type 0) {S X Y : Type 0} (f : Y → Answer F) (y : Result X ℕ) (s : S) (effect : X → S) (answer : X → Y) → ((z : Y) → fault_in_answer (f z) ≡ None) → fault_in_answer (answer_of_result f (outcome y s effect answer).1) ≡ None
no_fault F f (Ok x) s effect answer h = h (answer x)
no_fault F f (Err n) s effect answer h = refl

-- The range of an order, and its guarantee.
number_range : (b : Bool) (r : RangePrices) (k : RangePrices → Result RangePrices ℕ) → number_in (and_then (cond b (Err 15) (Ok r)) k) ≡ cond b (Some 15) (number_in (k r))
number_range true r k = refl
number_range false r k = refl

abbrev ranged : PairedOrder → ℕ → Result RangePrices ℕ → Result RangePrices ℕ
ranged o opened y = and_then y (λ r. unless (guarantee_refusal o opened r) (Ok r))

range_reasons : (o : PairedOrder) (opened : ℕ) (floor contra : Option ℤ)
    → number_in (ranged o opened (range_faced o.side (turned_price o.side o.limit) floor contra))
    ≡ first_that_holds (price_reasons o (record { floor = floor; contra = contra }) ++ (leb 1000000 opened, 17) ∷ [])
range_reasons o opened None contra = refl
range_reasons o opened (Some floor) None = refl
range_reasons o opened (Some floor) (Some contra) =
    let limit = turned_price o.side o.limit in
    let guarantee = turned_price o.side o.guarantee.price in
    let r : RangePrices = record { side = o.side; floor = floor; contra = contra; initiating = int_min limit contra } in
    number_range (lt_z (int_min limit contra) floor) r (λ r. unless (guarantee_refusal o opened r) (Ok r))
    ∙ ap (λ b. cond b (Some 15) (number_in (unless (guarantee_refusal o opened r) (Ok r)))) (lower_is limit contra floor)
    ∙ ap (cond (lt_z limit floor || lt_z contra floor) (Some 15))
    (number_unless (guarantee_refusal o opened r) r
    ∙ same_check _ _ 16 _ _ (lower_is limit contra guarantee) (same_check (leb 1000000 opened) (leb 1000000 opened) 17 None None refl refl))

-- The tests of a response, a change and a withdrawal on the open auction.
module _ (a : OpenValues) (s : Story) (m : Matches s a) where
  order_side : a.values.order.side ≡ s.opening.order.side
  order_side = ap (λ (o : PairedOrder). o.side) m.order_is

  stands_as : (member own_number : ℕ) → standing_of member own_number s.stood ≡ option_map (stood_response a.values.order.side) (own_response member own_number a.values.stood)
  stands_as member own_number = ap (standing_of member own_number) (sym m.stood_is) ∙ own_is a.values.order.side member own_number a.values.stood

  stands_is : (member own_number : ℕ) → is_some (own_response member own_number a.values.stood) ≡ is_some (standing_of member own_number s.stood)
  stands_is member own_number = sym (some_is (stood_response a.values.order.side) (own_response member own_number a.values.stood)) ∙ sym (ap is_some (stands_as member own_number))

  above_is : (z : ℤ) → lt_z a.values.initiating (turned_in a z) ≡ above_initiating s z
  above_is z = ap (λ y. lt_z y (turned_price a.values.order.side z)) m.initiating_is ∙ ap (λ d. lt_z s.opening.range.initiating (turned_price d z)) order_side

  used_is : (member : ℕ) → from_to 1 16 member ≡ true → leb 10000 (used_by member a.used) ≡ is_used_up s member
  used_is member h = ap (leb 10000) (m.used_is member (grind (arith, nat_tests)) (grind (arith, nat_tests)))

  respond_told : (x : ResponseRequest) → from_to 1 16 x.member ≡ true → response_refusal a x ≡ first_that_holds (respond_reasons x s)
  respond_told x h =
      same_check _ _ 22 _ _ (side_is x.side a.values.order.side ∙ ap (on_one_side x.side) order_side)
      (same_check _ _ 23 _ _ (above_is x.price)
      (same_check _ _ 24 _ _ (stands_is x.member x.own_number)
      (same_check _ _ 27 None None (used_is x.member h) refl)))

  changed_if : (x : ChangeRequest) (o : Option Response) → from_to 1 16 x.member ≡ true
      → number_in (and_then (standing_now o) (λ y. unless (change_refusal a y x) (Ok a)))
      ≡ first_that_holds (sealed_reasons (option_map (stood_response a.values.order.side) o) ++ (above_initiating s x.price, 23) ∷ ((is_used_up s x.member, 27) ∷ []))
  changed_if x None h = refl
  changed_if x (Some y) h =
      number_unless (change_refusal a y x) a
      ∙ same_check _ _ 26 _ _ (kind_is y.kind) (same_check _ _ 23 _ _ (above_is x.price) (same_check _ _ 27 None None (used_is x.member h) refl))

  change_told : (x : ChangeRequest) → from_to 1 16 x.member ≡ true → number_in (changing_in (Some a) x) ≡ first_that_holds (change_reasons x s)
  change_told x h =
      changed_if x (own_response x.member x.own_number a.values.stood) h
      ∙ ap (λ r. first_that_holds (sealed_reasons r ++ (above_initiating s x.price, 23) ∷ ((is_used_up s x.member, 27) ∷ []))) (sym (stands_as x.member x.own_number))

  withdrawn_if : (o : Option Response)
      → number_in {X = OpenValues × Response} (and_then (standing_now o) (λ y. unless (plain_checked y None) (Ok (a, y))))
      ≡ first_that_holds (sealed_reasons (option_map (stood_response a.values.order.side) o))
  withdrawn_if None = refl
  withdrawn_if (Some y) = number_unless (plain_checked y None) (a, y) ∙ same_check _ _ 26 None None (kind_is y.kind) refl

  withdraw_told : (x : WithdrawRequest) → number_in (withdrawing_from (Some a) x) ≡ first_that_holds (withdraw_reasons x s)
  withdraw_told x = withdrawn_if (own_response x.member x.own_number a.values.stood) ∙ ap (λ r. first_that_holds (sealed_reasons r)) (sym (stands_as x.member x.own_number))

  -- The terms.
  terms_as : (price : ℤ) (size : ℕ) → terms_told a (stored_price a price) (stored_size a size) ≡ terms_kept s price size
  terms_as price size =
      let of : Side → ℤ → ℕ → StoredTerms = λ side floor most. record { price = turned_price side (int_max floor (turned_price side price)); size = min size most } in
      ap (λ d. of d a.values.floor a.values.order.size) order_side
      ∙ ap (λ f. of s.opening.order.side f a.values.order.size) m.floor_is
      ∙ ap (λ (o : PairedOrder). of s.opening.order.side s.floor o.size) m.order_is

  withdrawn_terms : (x : WithdrawRequest) (y : Response) → own_response x.member x.own_number a.values.stood ≡ Some y
      → option_map (λ (r : StoodResponse). record { price = r.price; size = r.size }) (standing_of x.member x.own_number s.stood) ≡ Some (terms_told a y.price y.size)
  withdrawn_terms x y h =
      ap (option_map (λ (r : StoodResponse). record { price = r.price; size = r.size })) (stands_as x.member x.own_number ∙ ap (option_map (stood_response a.values.order.side)) h)

-- What an accepted response, change or withdrawal is told is due, if what each result that is accepted is told is.
stored_due : (F : Type 0) {S X : Type 0} (y : Result X ℕ) (s : S) (effect : X → S) (answer : X → StoredTerms) (t : StoredTerms) (due : Option StoredTerms)
    → answer_of_result {F = F} Stored (outcome y s effect answer).1 ≡ Stored t → ((x : X) → y ≡ Ok x → due ≡ Some (answer x)) → due ≡ Some t
stored_due F (Ok x) s effect answer t due h g = g x refl ∙ (let e : answer x ≡ t = cc in ap Some e)
stored_due F (Err e) s effect answer t due h g = absurd cc

responded_to : (a b : OpenValues) (x : ResponseRequest) → responding_to (Some a) x ≡ Ok b → a ≡ b
responded_to a b x h = let e = (unless_ok (response_refusal a x) (Ok a) b h).1 in cc

standing_ok : (o : Option Response) (y : Response) → standing_now o ≡ Ok y → o ≡ Some y
standing_ok None y h = ok_err y _ (sym h)
standing_ok (Some x) y h = cc

changed_in : (a b : OpenValues) (x : ChangeRequest) → changing_in (Some a) x ≡ Ok b → a ≡ b
changed_in a b x h =
    let found = and_then_ok (standing_now (own_response x.member x.own_number a.values.stood)) (λ y. unless (change_refusal a y x) (Ok a)) b h in
    let e = (unless_ok (change_refusal a found.0 x) (Ok a) b found.2).1 in cc

withdrawn_from : (a : OpenValues) (f : OpenValues × Response) (x : WithdrawRequest) → withdrawing_from (Some a) x ≡ Ok f
    → (y : Response) × (own_response x.member x.own_number a.values.stood ≡ Some y) × ((a, y) ≡ f)
withdrawn_from a f x h =
    let found = and_then_ok (standing_now (own_response x.member x.own_number a.values.stood)) (λ y. unless (plain_checked y None) (Ok (a, y))) f h in
    let e = (unless_ok (plain_checked found.0 None) (Ok (a, found.0)) f found.2).1 in
    (found.0, standing_ok (own_response x.member x.own_number a.values.stood) found.0 found.1, cc)

-- By the open auction, if there is one.
responding_told : (o : Option OpenValues) (r : Option Story) (x : ResponseRequest) → Current o r → from_to 1 16 x.member ≡ true → number_in (responding_to o x) ≡ first_that_holds (by_open r (respond_reasons x))
responding_told _ _ x none_open h = refl
responding_told _ _ x (one_open a s m) h = number_unless (response_refusal a x) a ∙ respond_told a s m x h

changing_told : (o : Option OpenValues) (r : Option Story) (x : ChangeRequest) → Current o r → from_to 1 16 x.member ≡ true → number_in (changing_in o x) ≡ first_that_holds (by_open r (change_reasons x))
changing_told _ _ x none_open h = refl
changing_told _ _ x (one_open a s m) h = change_told a s m x h

withdrawing_told : (o : Option OpenValues) (r : Option Story) (x : WithdrawRequest) → Current o r → number_in (withdrawing_from o x) ≡ first_that_holds (by_open r (withdraw_reasons x))
withdrawing_told _ _ x none_open = refl
withdrawing_told _ _ x (one_open a s m) = withdraw_told a s m x

responding_terms : (T : Type 0) (o : Option OpenValues) (r : Option Story) (x : ResponseRequest) (b : OpenValues) → Current o r → responding_to o x ≡ Ok b
    → terms_due {T = T} r (Respond x) ≡ Some (terms_told b (stored_price b x.price) (stored_size b x.size))
responding_terms T _ _ x b none_open h = ok_err b _ (sym h)
responding_terms T _ _ x b (one_open a s m) h =
    ap Some (sym (terms_as a s m x.price x.size) ∙ ap (λ z. terms_told z (stored_price z x.price) (stored_size z x.size)) (responded_to a b x h))

changing_terms : (T : Type 0) (o : Option OpenValues) (r : Option Story) (x : ChangeRequest) (b : OpenValues) → Current o r → changing_in o x ≡ Ok b
    → terms_due {T = T} r (Change x) ≡ Some (terms_told b (stored_price b x.price) (stored_size b x.size))
changing_terms T _ _ x b none_open h = ok_err b _ (sym h)
changing_terms T _ _ x b (one_open a s m) h =
    ap Some (sym (terms_as a s m x.price x.size) ∙ ap (λ z. terms_told z (stored_price z x.price) (stored_size z x.size)) (changed_in a b x h))

withdrawing_terms : (T : Type 0) (o : Option OpenValues) (r : Option Story) (x : WithdrawRequest) (f : OpenValues × Response) → Current o r → withdrawing_from o x ≡ Ok f
    → terms_due {T = T} r (Withdraw x) ≡ Some (terms_told f.0 f.1.price f.1.size)
withdrawing_terms T _ _ x f none_open h = ok_err f _ (sym h)
withdrawing_terms T _ _ x f (one_open a s m) h =
    let y = withdrawn_from a f x h in
    withdrawn_terms a s m x y.0 y.1 ∙ ap (λ (z : OpenValues × Response). Some (terms_told z.0 z.1.price z.1.size)) y.2

-- Whether a collecting is refused, by the tests one after another.
collect_told : (a b c : Bool) (o : Option EndedValues) → number_in (unless (refuse a 6 None) (unless (refuse b 42 (refuse c 41 None)) (waiting_now o)))
    ≡ first_that_holds ((a, 6) ∷ ((b, 42) ∷ ((c, 41) ∷ ((not (is_some o), 42) ∷ []))))
collect_told true b c o = refl
collect_told false true c o = refl
collect_told false false true o = refl
collect_told false false false None = refl
collect_told false false false (Some e) = refl

told_room : {X : Type 0} (a b : Bool) (y : Result X ℕ) → number_in (unless (refuse a 12 (refuse b 13 None)) y) ≡ cond a (Some 12) (cond b (Some 13) (number_in y))
told_room true b y = refl
told_room false true y = refl
told_room false false y = refl

-- An order's limit that passes the input checks is within the limits.
limit_ok : (x : OpeningRequest) → open_checks x ≡ None → in_limits (Some x.order.limit) ≡ true
limit_ok x h =
    let later = (refuse_none (ltb 4000000000000 x.time) 1 _ h).1 in
    not-false (price_ok x.order.limit) (refuse_none (not (price_ok x.order.limit)) 2 _ later).0

module _ {P T F Q : Type 0} (w : World P T F Q) (number : ℕ) (p : P) (q : Q) (past : List (Exchange T F)) where
  -- what a call finds in the room after its clock step
  record Finds (c : Call T) (u : RoomState P Q) : Type 0 where
    number_is : u.number ≡ number
    halted_is : u.halted ≡ halted_then past
    position_is : u.position ≡ market_at w p q past
    opened_is : u.opened ≡ openings past
    current : Current u.current (found_open w p q past c)
    waits : any_waits u.waiting ≡ one_waits w p q past c

  passes : (c : Call T) → input_refusal c ≡ None → input_reason c ≡ None
  passes c h = sym (input_reason_is c) ∙ h

  finds : (s : RoomState P Q) (c : Call T) (t : ℕ) → Linked w number p q past s → input_refusal c ≡ None → given_time c ≡ Some t → Finds c (after_clock s t)
  finds s c t h k g =
      let b = due (max s.time t) s.current in
      let u = at_time (max s.time t) s in
      let e = after_end (byte "T") u in
      let clock : t ≡ clock_time c = sym (ap (λ (z : Option ℕ). cond (is_some z) 0 (time_or_zero (given_time c))) (passes c k) ∙ ap time_or_zero g) in
      let time : max s.time t ≡ max (time_then past) (clock_time c) = ap (λ z. max z t) h.time_is ∙ ap (max (time_then past)) clock in
      record {
        number_is = either_way (λ (z : RoomState P Q). z.number) b e u number h.number_is h.number_is;
        halted_is = either_way (λ (z : RoomState P Q). z.halted) b e u (halted_then past) h.halted_is h.halted_is;
        position_is = either_way (λ (z : RoomState P Q). z.position) b e u (market_at w p q past) h.position_is h.position_is;
        opened_is = either_way (λ (z : RoomState P Q). z.opened) b e u (openings past) h.opened_is h.opened_is;
        current = subst (λ o. Current o (found_open w p q past c)) (sym (cond_through (λ (z : RoomState P Q). z.current) b e u)) (closes s.current (open_story w p q past) (max s.time t) (max (time_then past) (clock_time c)) h.current time);
        waits = ap any_waits (cond_through (λ (z : RoomState P Q). z.waiting) b e u) ∙ waits_stepped s.current (open_story w p q past) (max s.time t) (max (time_then past) (clock_time c)) s.waiting (waiting_then w p q past) h.current time h.waiting_is;
      }

  -- The first reason, where the input checks are passed, and where they are not.
  passed : (c : Call T) → input_refusal c ≡ None → first_that_holds (reasons w number p q past c) ≡ first_that_holds (state_reasons w number p q past c)
  passed c k = first_of_two (input_reasons c) (state_reasons w number p q past c) ∙ ap (λ o. option_or o (first_that_holds (state_reasons w number p q past c))) (passes c k)

  refused : (c : Call T) (n : ℕ) → input_refusal c ≡ Some n → Some n ≡ first_that_holds (reasons w number p q past c)
  refused c n k =
      sym (first_of_two (input_reasons c) (state_reasons w number p q past c)
      ∙ ap (λ o. option_or o (first_that_holds (state_reasons w number p q past c))) (sym (input_reason_is c) ∙ k))

  -- A timed call, by its input checks: it is refused by them, or does its business on the room as the clock step left it.
  timed_told : {Y : Type 0} (s : RoomState P Q) (c : Call T) (f : Y → Answer F) (k : Option ℕ) (t : ℕ) (business : RoomState P Q → RoomState P Q × Result Y (RefusalTold F))
      → input_refusal c ≡ k → ((y : Y) → refused_number (f y) ≡ None)
      → (k ≡ None → told_number (business (after_clock s t)).1 ≡ first_that_holds (state_reasons w number p q past c))
      → refused_number (answer_of_result f (timed_call k s t business).1) ≡ first_that_holds (reasons w number p q past c)
  timed_told s c f None t business h g then = told_answer f (business (after_clock s t)).1 g ∙ then refl ∙ sym (passed c h)
  timed_told s c f (Some e) t business h g then = refused c e h

  timed_ok : {Y : Type 0} (s : RoomState P Q) (f : Y → Answer F) (k : Option ℕ) (t : ℕ) (business : RoomState P Q → RoomState P Q × Result Y (RefusalTold F)) (v : Answer F)
      → answer_of_result f (timed_call k s t business).1 ≡ v → ((e : RefusalTold F) → Refused e ≡ v → ⊥) → (k ≡ None) × (answer_of_result f (business (after_clock s t)).1 ≡ v)
  timed_ok s f None t business v h g = (refl, h)
  timed_ok s f (Some e) t business v h g = absurd (g (by_number e) h)

  opening_told : (u : RoomState P Q) (x : OpeningRequest) → Finds (Open x) u → open_checks x ≡ None
      → told_number (opening w u x.order).1 ≡ first_that_holds (state_reasons w number p q past (Open x))
  opening_told u x h k =
      let o = x.order in
      let now : TurnedQuote = shown_to w p q o.side past in
      let range : P → ℕ → Result RangePrices ℕ = λ (z : P) (n : ℕ). ranged o n (permitted_range o.side o.limit (w.market.shows z)) in
      told_outcome F (opening_range w u o) u (after_opening w u o) (λ _. record { room = u.number; auction = u.opened + 1 })
      ∙ told_room u.halted (any_waits u.waiting) (range u.position u.opened)
      ∙ ap (λ (a : Bool). cond a (Some 12) (cond (any_waits u.waiting) (Some 13) (number_in (range u.position u.opened)))) h.halted_is
      ∙ ap (λ (b : Bool). cond (halted_then past) (Some 12) (cond b (Some 13) (number_in (range u.position u.opened)))) h.waits
      ∙ ap (λ (n : Option ℕ). cond (halted_then past) (Some 12) (cond (one_waits w p q past (Open x)) (Some 13) n))
      (ap (λ (z : P). number_in (range z u.opened)) h.position_is
      ∙ ap (λ (n : ℕ). number_in (range (market_at w p q past) n)) h.opened_is
      ∙ ap (λ (b : Bool). number_in (ranged o (openings past) (cond b (range_faced o.side (turned_price o.side o.limit) now.floor now.contra) (Err 2)))) (limit_ok x k)
      ∙ range_reasons o (openings past) now.floor now.contra)

  ticking_told : (u : RoomState P Q) (y : Result (Unit {0}) F) (x : T) → told_number (ticking_by w y u x).1 ≡ first_that_holds ((is_some (fault_in y), 31) ∷ [])
  ticking_told u (Ok k) x = refl
  ticking_told u (Err f) x = refl

  module _ (s : RoomState P Q) (h : Linked w number p q past s) where
    reason_is : (c : Call T) → refused_number (step w s c).1 ≡ first_that_holds (reasons w number p q past c)
    reason_is (Open x) =
        timed_told s (Open x) Opened (open_checks x) x.time (λ u. opening w u x.order) refl (λ _. refl)
        (λ k. opening_told (after_clock s x.time) x (finds s (Open x) x.time h k refl) k)
    reason_is (Respond x) =
        let u = after_clock s x.time in
        timed_told s (Respond x) Stored (respond_checks x) x.time (λ u. responding u x) refl (λ _. refl)
        (λ k. told_outcome F (responding_to u.current x) u (λ a. after_response u a x) (λ a. terms_told a (stored_price a x.price) (stored_size a x.size))
        ∙ responding_told u.current (found_open w p q past (Respond x)) x (finds s (Respond x) x.time h k refl).current (response_inside x k).member_inside)
    reason_is (Change x) =
        let u = after_clock s x.time in
        timed_told s (Change x) Stored (change_checks x) x.time (λ u. changing u x) refl (λ _. refl)
        (λ k. told_outcome F (changing_in u.current x) u (λ a. with_current (with_change a x) u) (λ a. terms_told a (stored_price a x.price) (stored_size a x.size))
        ∙ changing_told u.current (found_open w p q past (Change x)) x (finds s (Change x) x.time h k refl).current (change_inside x k).member_inside)
    reason_is (Withdraw x) =
        let u = after_clock s x.time in
        timed_told s (Withdraw x) Stored (withdraw_checks x) x.time (λ u. withdrawing u x) refl (λ _. refl)
        (λ k. told_outcome F (withdrawing_from u.current x) u (λ f. with_current (with_withdrawal f.0 x) u) (λ f. terms_told f.0 f.1.price f.1.size)
        ∙ withdrawing_told u.current (found_open w p q past (Withdraw x)) x (finds s (Withdraw x) x.time h k refl).current)
    reason_is (Tick t x) =
        let u = after_clock s t in
        timed_told s (Tick t x) (λ _. Accepted) (time_checks t) t (λ u. ticking w u x) refl (λ _. refl)
        (λ k. ticking_told u (w.market.answer u.position x) x
        ∙ ap (λ (z : P). first_that_holds ((is_some (fault_in (w.market.answer z x)), 31) ∷ [])) (finds s (Tick t x) t h k refl).position_is)
    reason_is (Halt t) = timed_told s (Halt t) (λ _. Accepted) (time_checks t) t (λ u. (with_halted true (after_end (byte "H") u), Ok tt)) refl (λ _. refl) (λ k. refl)
    reason_is (Resume t) = timed_told s (Resume t) (λ _. Accepted) (time_checks t) t (λ u. (with_halted false u, Ok tt)) refl (λ _. refl) (λ k. refl)
    reason_is (Clock t) = timed_told s (Clock t) (λ _. Accepted) (time_checks t) t (λ u. (u, Ok tt)) refl (λ _. refl) (λ k. refl)
    reason_is Look = refl
    reason_is (Collect c n) =
        told_answer (λ k. Collected k (collect_rows w s c n)) (collect_call w s c n).1 (λ _. refl)
        ∙ told_outcome F (collectable s c n) s (λ e. with_waiting (without_number c.auction s.waiting) s) (λ e. record { count = length (fill_rows w e); cause = e.cause })
        ∙ collect_told (ltb n 129) (not (eqb c.room s.number)) (is_number c.auction s.current) (waiting_auction c.auction s.waiting)
        ∙ ap (λ z. first_that_holds ((ltb n 129, 6) ∷ ((not (eqb c.room z), 42) ∷ ((is_number c.auction s.current, 41) ∷ ((not (is_some (waiting_auction c.auction s.waiting)), 42) ∷ []))))) h.number_is
        ∙ ap (λ (b : Bool). first_that_holds ((ltb n 129, 6) ∷ ((not (eqb c.room number), 42) ∷ ((b, 41) ∷ ((not (is_some (waiting_auction c.auction s.waiting)), 42) ∷ []))))) (h.is_open c.auction)
        ∙ ap (λ (b : Bool). first_that_holds ((ltb n 129, 6) ∷ ((not (eqb c.room number), 42) ∷ ((is_some (going_on (story_of w p q c.auction past)), 41) ∷ ((not b, 42) ∷ []))))) (h.waits c.auction)

    kind_is_own : (c : Call T) → in_kind c (step w s c).1 ≡ true
    kind_is_own (Open x) = in_kind_by {T = T} (Open x) Opened (open_call w s x).1 (λ _. refl)
    kind_is_own (Respond x) = in_kind_by {T = T} (Respond x) Stored (respond_call s x).1 (λ _. refl)
    kind_is_own (Change x) = in_kind_by {T = T} (Change x) Stored (change_call s x).1 (λ _. refl)
    kind_is_own (Withdraw x) = in_kind_by {T = T} (Withdraw x) Stored (withdraw_call s x).1 (λ _. refl)
    kind_is_own (Tick t x) = in_kind_by {T = T} (Tick t x) (λ _. Accepted) (tick_call w s t x).1 (λ _. refl)
    kind_is_own (Halt t) = in_kind_by {T = T} (Halt t) (λ _. Accepted) (halt_call s t).1 (λ _. refl)
    kind_is_own (Resume t) = in_kind_by {T = T} (Resume t) (λ _. Accepted) (resume_call s t).1 (λ _. refl)
    kind_is_own (Clock t) = in_kind_by {T = T} (Clock t) (λ _. Accepted) (clock_call s t).1 (λ _. refl)
    kind_is_own Look = refl
    kind_is_own (Collect c n) = in_kind_by {T = T} (Collect c n) (λ k. Collected k (collect_rows w s c n)) (collect_call w s c n).1 (λ _. refl)

    -- A claim.
    claim_by : (u : RoomState P Q) (y : Result RangePrices ℕ) (z : RangePrices → RoomState P Q) (k : ClaimNumbers)
        → answer_of_result {F = F} Opened (outcome y u z (λ _. record { room = u.number; auction = u.opened + 1 })).1 ≡ Opened k → record { room = u.number; auction = u.opened + 1 } ≡ k
    claim_by u (Ok r) z k e = cc
    claim_by u (Err f) z k e = absurd cc

    claim_is : (c : Call T) (k : ClaimNumbers) → (step w s c).1 ≡ Opened k → k ≡ record { room = number; auction = openings past + 1 }
    claim_is (Open x) k e =
        let u = after_clock s x.time in
        let ok = timed_ok s Opened (open_checks x) x.time (λ u. opening w u x.order) (Opened k) e (λ f z. cc) in
        let found = finds s (Open x) x.time h ok.0 refl in
        sym (claim_by u (opening_range w u x.order) (after_opening w u x.order) k ok.1)
        ∙ ap (λ n. record { room = n; auction = u.opened + 1 }) found.number_is
        ∙ ap (λ n. record { room = number; auction = n + 1 }) found.opened_is
    claim_is c k e = true_false (sym (kind_is_own c) ∙ ap (in_kind c) e)

    -- Stored terms.
    terms_are : (c : Call T) (t : StoredTerms) → (step w s c).1 ≡ Stored t → terms_due (found_open w p q past c) c ≡ Some t
    terms_are (Respond x) t e =
        let u = after_clock s x.time in
        let ok = timed_ok s Stored (respond_checks x) x.time (λ u. responding u x) (Stored t) e (λ f z. cc) in
        stored_due F (responding_to u.current x) u (λ a. after_response u a x) (λ a. terms_told a (stored_price a x.price) (stored_size a x.size)) t _ ok.1
        (λ b. responding_terms T u.current (found_open w p q past (Respond x)) x b (finds s (Respond x) x.time h ok.0 refl).current)
    terms_are (Change x) t e =
        let u = after_clock s x.time in
        let ok = timed_ok s Stored (change_checks x) x.time (λ u. changing u x) (Stored t) e (λ f z. cc) in
        stored_due F (changing_in u.current x) u (λ a. with_current (with_change a x) u) (λ a. terms_told a (stored_price a x.price) (stored_size a x.size)) t _ ok.1
        (λ b. changing_terms T u.current (found_open w p q past (Change x)) x b (finds s (Change x) x.time h ok.0 refl).current)
    terms_are (Withdraw x) t e =
        let u = after_clock s x.time in
        let ok = timed_ok s Stored (withdraw_checks x) x.time (λ u. withdrawing u x) (Stored t) e (λ f z. cc) in
        stored_due F (withdrawing_from u.current x) u (λ f. with_current (with_withdrawal f.0 x) u) (λ f. terms_told f.0 f.1.price f.1.size) t _ ok.1
        (λ b. withdrawing_terms T u.current (found_open w p q past (Withdraw x)) x b (finds s (Withdraw x) x.time h ok.0 refl).current)
    terms_are c t e = true_false (sym (kind_is_own c) ∙ ap (in_kind c) e)

    -- The market's fault.
    timed_fault : {Y : Type 0} (c : Call T) (f : Y → Answer F) (k : Option ℕ) (t : ℕ) (business : RoomState P Q → RoomState P Q × Result Y (RefusalTold F))
        → input_refusal c ≡ k → (k ≡ None → fault_in_answer (answer_of_result f (business (after_clock s t)).1) ≡ market_fault w p q past c)
        → fault_in_answer (answer_of_result f (timed_call k s t business).1) ≡ cond (is_some (input_reason c)) None (market_fault w p q past c)
    timed_fault c f None t business e then = then refl ∙ ap (λ o. cond (is_some o) None (market_fault w p q past c)) (sym e ∙ input_reason_is c)
    timed_fault c f (Some n) t business e then = ap (λ o. cond (is_some o) None (market_fault w p q past c)) (sym e ∙ input_reason_is c)

    ticking_fault : (u : RoomState P Q) (y : Result (Unit {0}) F) (x : T) → fault_in_answer (answer_of_result {F = F} (λ _. Accepted) (ticking_by w y u x).1) ≡ fault_in y
    ticking_fault u (Ok k) x = refl
    ticking_fault u (Err f) x = refl

    fault_is : (c : Call T) → fault_in_answer (step w s c).1 ≡ cond (is_some (input_reason c)) None (market_fault w p q past c)
    fault_is (Open x) =
        timed_fault (Open x) Opened (open_checks x) x.time (λ u. opening w u x.order) refl
        (λ k. let u = after_clock s x.time in no_fault F Opened (opening_range w u x.order) u (after_opening w u x.order) (λ _. record { room = u.number; auction = u.opened + 1 }) (λ _. refl))
    fault_is (Respond x) =
        timed_fault (Respond x) Stored (respond_checks x) x.time (λ u. responding u x) refl
        (λ k. let u = after_clock s x.time in no_fault F Stored (responding_to u.current x) u (λ a. after_response u a x) (λ a. terms_told a (stored_price a x.price) (stored_size a x.size)) (λ _. refl))
    fault_is (Change x) =
        timed_fault (Change x) Stored (change_checks x) x.time (λ u. changing u x) refl
        (λ k. let u = after_clock s x.time in no_fault F Stored (changing_in u.current x) u (λ a. with_current (with_change a x) u) (λ a. terms_told a (stored_price a x.price) (stored_size a x.size)) (λ _. refl))
    fault_is (Withdraw x) =
        timed_fault (Withdraw x) Stored (withdraw_checks x) x.time (λ u. withdrawing u x) refl
        (λ k. let u = after_clock s x.time in no_fault F Stored (withdrawing_from u.current x) u (λ f. with_current (with_withdrawal f.0 x) u) (λ f. terms_told f.0 f.1.price f.1.size) (λ _. refl))
    fault_is (Tick t x) =
        timed_fault (Tick t x) (λ _. Accepted) (time_checks t) t (λ u. ticking w u x) refl
        (λ k. let u = after_clock s t in
        ticking_fault u (w.market.answer u.position x) x ∙ ap (λ (z : P). fault_in (w.market.answer z x)) (finds s (Tick t x) t h k refl).position_is)
    fault_is (Halt t) = timed_fault (Halt t) (λ _. Accepted) (time_checks t) t (λ u. (with_halted true (after_end (byte "H") u), Ok tt)) refl (λ k. refl)
    fault_is (Resume t) = timed_fault (Resume t) (λ _. Accepted) (time_checks t) t (λ u. (with_halted false u, Ok tt)) refl (λ k. refl)
    fault_is (Clock t) = timed_fault (Clock t) (λ _. Accepted) (time_checks t) t (λ u. (u, Ok tt)) refl (λ k. refl)
    fault_is Look = refl
    fault_is (Collect c n) =
        no_fault F (λ k. Collected k (collect_rows w s c n)) (collectable s c n) s (λ e. with_waiting (without_number c.auction s.waiting) s) (λ e. record { count = length (fill_rows w e); cause = e.cause }) (λ _. refl)
        ∙ sym (either_way (λ (o : Option F). o) (is_some (input_reason {T = T} (Collect c n))) None None None refl refl)

    pub answered_with_reason : (c : Call T) → AnsweredWithReason w number p q past (record { call = c; answer = (step w s c).1 })
    answered_with_reason c = record { reason = reason_is c; kind = kind_is_own c; claim = claim_is c; terms = terms_are c; fault = fault_is c }

-- of a call on a room that holds what the history tells
pub answers_have_their_reasons : {P T F Q : Type 0} (w : World P T F Q) (number : ℕ) (p : P) (q : Q) (past : List (Moment P T F Q)) (s : RoomState P Q) (c : Call T)
    → Linked w number p q (history_of past) s → AnswersHaveTheirReasons w number p q past (moment w s c)
answers_have_their_reasons w number p q past s c h = answered_with_reason w number p q (history_of past) s h c

-- of every run
pub answers_have_their_reasons_in_runs : {P T F Q : Type 0} (w : World P T F Q) → Terms w → AnswersHaveTheirReasonsInRuns w
answers_have_their_reasons_in_runs w terms number p q cs =
    let drawn = terms.drawn_within in
    throughout w drawn number p q (AnswersHaveTheirReasons w number p q) (λ past s c h. answers_have_their_reasons w number p q past s c (linked w drawn number p q past s h))
    [] (new_room number p q) cs (holds_new w drawn number p q)
