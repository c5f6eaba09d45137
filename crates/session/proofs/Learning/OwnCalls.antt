-- A member's own responses, changes and withdrawals: what it knows after one, and the whole answer, follow from what it
-- knew before.
use Rattle.std.proofs.Common.{◌≡◌, ℕ, ◌+◌, ◌≤◌, Bool, leb, is_some, Some, None, Ok, Err, Option, Result, sym, refl, ap, ◌∙◌}
use Rattle.std.proofs.lemmas.Bool.{eq-eqb}
use Rattle.std.specs.Option.{option_map}
use Rattle.allocation.specs.declared.response.Response.{Response}
use Rattle.room.specs.declared.answers.StoredTerms.{StoredTerms}
use Rattle.room.specs.declared.requests.ChangeRequest.{ChangeRequest}
use Rattle.room.specs.declared.requests.ResponseRequest.{ResponseRequest}
use Rattle.room.specs.declared.requests.WithdrawRequest.{WithdrawRequest}
use Rattle.room.specs.Checks.{respond_checks, change_checks, withdraw_checks}
use Rattle.room.specs.Clock.{after_clock, timed_call}
use Rattle.room.specs.Refusals.{RefusalTold, refuse, unless, and_then, outcome}
use Rattle.allocation.specs.Table.{own_response}
use Rattle.room.specs.Responses.{same_side, as_stored, with_response, with_change, with_withdrawal, plain_below_floor, after_response, responding_to, responding, respond_call, changing_in, changing, change_call, withdrawing_from, withdrawing, withdraw_call, standing_now, plain_checked, stored_size, stored_price, terms_told}
use Rattle.room.specs.State.{OpenValues, RoomState, with_current, used_by}
use Rattle.session.proofs.Learning.Known.{Known, KnownAuction, known, known_auction, unnumbered, own_rows, own_count, counted, with_auction_known, settled, with_response_known, with_change_known, with_withdrawal_known, above_known, responding_to_known, changing_in_known, withdrawing_from_known, responded_known, responding_known, changing_known, withdrawing_known, timed_known, terms_known, price_known, size_known}
use Rattle.session.proofs.Learning.OwnRows.{own_push, own_response_follows, own_changed_follows, without_own_follows, own_count_more, own_count_read}
use Rattle.session.proofs.Learning.InputChecks.{responding_member, changing_member}
use Rattle.session.proofs.Learning.Endings.{auction_rows, settled_follows, clocked_follows}
use Rattle.std.specs.Str.{byte}

-- What is accepted, through a function.
abbrev through : {X Y R : Type 0} → (X → Y) → Result X R → Result Y R
through f (Ok x) = Ok (f x)
through f (Err e) = Err e

some_through : {X Y : Type 0} (f : X → Y) (o : Option X) → is_some (option_map f o) ≡ is_some o
some_through f None = refl
some_through f (Some x) = refl

unless_through : {X Y R : Type 0} (f : X → Y) (r : Option R) (x : X) → unless r (Ok (f x)) ≡ through f (unless r (Ok x))
unless_through f None x = refl
unless_through f (Some e) x = refl

-- A refusal that the member's standing response decides.
standing_through : {X Y : Type 0} (f : X → Y) (o : Option Response) (r : Response → Option ℕ) (g : Response → X) (h : Response → Y)
    → ((y : Response) → r (unnumbered y) ≡ r y) → ((y : Response) → h (unnumbered y) ≡ f (g y))
    → and_then (standing_now (option_map unnumbered o)) (λ y. unless (r y) (Ok (h y))) ≡ through f (and_then (standing_now o) (λ y. unless (r y) (Ok (g y))))
standing_through f None r g h p q = refl
standing_through f (Some y) r g h p q =
    ap (λ e. unless e (Ok (h (unnumbered y)))) (p y) ∙ ap (λ z. unless (r y) (Ok z)) (q y) ∙ unless_through f (r y) (g y)

-- An own response, change and withdrawal in the open auction.
with_response_follows : (a : OpenValues) (x : ResponseRequest) → 1 ≤ x.member
    → known_auction x.member (with_response a x) ≡ with_response_known (known_auction x.member a) x
with_response_follows a x h =
    let u = x.member in
    auction_rows u a (with_response a x).values.stood (with_response a x).arrivals (with_response a x).used _ _
    (own_push u a.values.stood (as_stored a x) (eq-eqb u u refl)) (own_count_more u a.used h)

with_change_follows : (a : OpenValues) (x : ChangeRequest) → 1 ≤ x.member
    → known_auction x.member (with_change a x) ≡ with_change_known (known_auction x.member a) x
with_change_follows a x h =
    let u = x.member in
    auction_rows u a (with_change a x).values.stood (with_change a x).arrivals (with_change a x).used _ _
    (own_changed_follows u x.own_number (stored_size a x.size) (stored_price a x.price) (a.arrivals + 1) a.values.stood) (own_count_more u a.used h)

with_withdrawal_follows : (a : OpenValues) (x : WithdrawRequest)
    → known_auction x.member (with_withdrawal a x) ≡ with_withdrawal_known (known_auction x.member a) x
with_withdrawal_follows a x =
    auction_rows x.member a (with_withdrawal a x).values.stood a.arrivals a.used _ _ (without_own_follows x.member x.own_number a.values.stood) refl

-- The refusals of a member's own calls are decided by what it knows.
responding_to_follows : (o : Option OpenValues) (x : ResponseRequest) → 1 ≤ x.member
    → responding_to_known (option_map (known_auction x.member) o) x ≡ through (known_auction x.member) (responding_to o x)
responding_to_follows None x h = refl
responding_to_follows (Some a) x h =
    let u = x.member in
    let k = known_auction u a in
    let tests : Bool → ℕ → Option ℕ =
    λ b n. refuse (same_side x.side k.side) 22 (above_known k x.price (refuse b 24 (refuse (leb 10000 n) 27 None))) in
    let found : is_some (own_response u x.own_number (own_rows u a.values.stood)) ≡ is_some (own_response u x.own_number a.values.stood) =
    ap is_some (own_response_follows u x.own_number a.values.stood) ∙ some_through unnumbered (own_response u x.own_number a.values.stood) in
    ap (λ b. unless (tests b (counted (own_count u a.used))) (Ok k)) found
    ∙ ap (λ n. unless (tests (is_some (own_response u x.own_number a.values.stood)) n) (Ok k)) (own_count_read u a.used h)
    ∙ unless_through (known_auction u) (tests (is_some (own_response u x.own_number a.values.stood)) (used_by u a.used)) a

changing_in_follows : (o : Option OpenValues) (x : ChangeRequest) → 1 ≤ x.member
    → changing_in_known (option_map (known_auction x.member) o) x ≡ through (known_auction x.member) (changing_in o x)
changing_in_follows None x h = refl
changing_in_follows (Some a) x h =
    let u = x.member in
    let k = known_auction u a in
    let tests : ℕ → Response → Option ℕ = λ n y. plain_checked y (above_known k x.price (refuse (leb 10000 n) 27 None)) in
    ap (λ n. and_then (standing_now (own_response u x.own_number (own_rows u a.values.stood))) (λ y. unless (tests n y) (Ok k))) (own_count_read u a.used h)
    ∙ ap (λ o. and_then (standing_now o) (λ y. unless (tests (used_by u a.used) y) (Ok k))) (own_response_follows u x.own_number a.values.stood)
    ∙ standing_through (known_auction u) (own_response u x.own_number a.values.stood) (tests (used_by u a.used)) (λ y. a) (λ y. k) (λ y. refl) (λ y. refl)

abbrev known_both : ℕ → OpenValues × Response → KnownAuction × Response
known_both u f = (known_auction u f.0, unnumbered f.1)

withdrawing_from_follows : (o : Option OpenValues) (x : WithdrawRequest)
    → withdrawing_from_known (option_map (known_auction x.member) o) x ≡ through (known_both x.member) (withdrawing_from o x)
withdrawing_from_follows None x = refl
withdrawing_from_follows (Some a) x =
    let u = x.member in
    let k = known_auction u a in
    ap (λ o. and_then (standing_now o) (λ y. unless (plain_checked y None) (Ok (k, y)))) (own_response_follows u x.own_number a.values.stood)
    ∙ standing_through (known_both u) (own_response u x.own_number a.values.stood) (λ y. plain_checked y None) (λ y. (a, y)) (λ y. (k, y)) (λ y. refl) (λ y. refl)

module _ {P Q : Type 0} where
  -- What a member knows of the room, with the answer.
  abbrev pub with_answer : {Y R : Type 0} → ℕ → RoomState P Q × Result Y R → Known P Q × Result Y R
  with_answer u y = (known u y.0, y.1)

  outcome_follows : {X Z Y F : Type 0} (u : ℕ) (f : X → Z) (r : Result X ℕ) (s : RoomState P Q)
      (effect : X → RoomState P Q) (effect_known : Z → Known P Q) (answer : X → Y) (answer_known : Z → Y)
      → ((x : X) → known u (effect x) ≡ effect_known (f x)) → ((x : X) → answer x ≡ answer_known (f x))
      → with_answer u (outcome {F = F} r s effect answer) ≡ outcome (through f r) (known u s) effect_known answer_known
  outcome_follows u f (Ok x) s effect effect_known answer answer_known h k =
      ap (λ z. (z, Ok (answer x))) (h x) ∙ ap (λ z. (effect_known (f x), Ok z)) (k x)
  outcome_follows u f (Err e) s effect effect_known answer answer_known h k = refl

  timed_follows : {Y F : Type 0} (u : ℕ) (r : Option ℕ) (s : RoomState P Q) (t : ℕ)
      (business : RoomState P Q → RoomState P Q × Result Y (RefusalTold F)) (business_known : Known P Q → Known P Q × Result Y (RefusalTold F))
      → (r ≡ None → (z : RoomState P Q) → with_answer u (business z) ≡ business_known (known u z))
      → with_answer u (timed_call r s t business) ≡ timed_known r (known u s) t business_known
  timed_follows u None s t business business_known h = h refl (after_clock s t) ∙ ap business_known (clocked_follows u s t)
  timed_follows u (Some e) s t business business_known h = refl

  module _ (F : Type 0) where
    -- An own response.
    responded_follows : (s : RoomState P Q) (a : OpenValues) (x : ResponseRequest) → 1 ≤ x.member
        → known x.member (after_response s a x) ≡ responded_known (known x.member s) (known_auction x.member a) x
    responded_follows s a x h =
        settled_follows x.member (byte "E") (plain_below_floor a x) (with_current (with_response a x) s)
        ∙ ap (λ b. settled (plain_below_floor a x) (with_auction_known (Some b) (known x.member s))) (with_response_follows a x h)

    responding_follows : (s : RoomState P Q) (x : ResponseRequest) → 1 ≤ x.member
        → with_answer x.member (responding {F = F} s x) ≡ responding_known (known x.member s) x
    responding_follows s x h =
        let u = x.member in
        let tells : KnownAuction → StoredTerms = λ a. terms_known a (price_known a x.price) (size_known a x.size) in
        outcome_follows u (known_auction u) (responding_to s.current x) s (λ a. after_response s a x) (λ a. responded_known (known u s) a x)
        (λ a. terms_told a (stored_price a x.price) (stored_size a x.size)) tells
        (λ a. responded_follows s a x h) (λ a. refl)
        ∙ sym (ap (λ r. outcome r (known u s) (λ a. responded_known (known u s) a x) tells) (responding_to_follows s.current x h))

    pub own_responds : (s : RoomState P Q) (x : ResponseRequest)
        → with_answer x.member (respond_call {F = F} s x) ≡ timed_known (respond_checks x) (known x.member s) x.time (λ k. responding_known k x)
    own_responds s x =
        timed_follows x.member (respond_checks x) s x.time (λ z. responding z x) (λ k. responding_known k x) (λ e z. responding_follows z x (responding_member x e))

    -- An own change.
    changing_follows : (s : RoomState P Q) (x : ChangeRequest) → 1 ≤ x.member
        → with_answer x.member (changing {F = F} s x) ≡ changing_known (known x.member s) x
    changing_follows s x h =
        let u = x.member in
        let tells : KnownAuction → StoredTerms = λ a. terms_known a (price_known a x.price) (size_known a x.size) in
        let after : KnownAuction → Known P Q = λ a. with_auction_known (Some (with_change_known a x)) (known u s) in
        outcome_follows u (known_auction u) (changing_in s.current x) s (λ a. with_current (with_change a x) s) after
        (λ a. terms_told a (stored_price a x.price) (stored_size a x.size)) tells
        (λ a. ap (λ b. with_auction_known (Some b) (known u s)) (with_change_follows a x h)) (λ a. refl)
        ∙ sym (ap (λ r. outcome r (known u s) after tells) (changing_in_follows s.current x h))

    pub own_changes : (s : RoomState P Q) (x : ChangeRequest)
        → with_answer x.member (change_call {F = F} s x) ≡ timed_known (change_checks x) (known x.member s) x.time (λ k. changing_known k x)
    own_changes s x =
        timed_follows x.member (change_checks x) s x.time (λ z. changing z x) (λ k. changing_known k x) (λ e z. changing_follows z x (changing_member x e))

    -- An own withdrawal.
    withdrawing_follows : (s : RoomState P Q) (x : WithdrawRequest) → with_answer x.member (withdrawing {F = F} s x) ≡ withdrawing_known (known x.member s) x
    withdrawing_follows s x =
        let u = x.member in
        let tells : KnownAuction × Response → StoredTerms = λ f. terms_known f.0 f.1.price f.1.size in
        let after : KnownAuction × Response → Known P Q = λ f. with_auction_known (Some (with_withdrawal_known f.0 x)) (known u s) in
        outcome_follows u (known_both u) (withdrawing_from s.current x) s (λ f. with_current (with_withdrawal f.0 x) s) after
        (λ f. terms_told f.0 f.1.price f.1.size) tells
        (λ f. ap (λ b. with_auction_known (Some b) (known u s)) (with_withdrawal_follows f.0 x)) (λ f. refl)
        ∙ sym (ap (λ r. outcome r (known u s) after tells) (withdrawing_from_follows s.current x))

    pub own_withdraws : (s : RoomState P Q) (x : WithdrawRequest)
        → with_answer x.member (withdraw_call {F = F} s x) ≡ timed_known (withdraw_checks x) (known x.member s) x.time (λ k. withdrawing_known k x)
    own_withdraws s x =
        timed_follows x.member (withdraw_checks x) s x.time (λ z. withdrawing z x) (λ k. withdrawing_known k x) (λ e z. withdrawing_follows z x)
