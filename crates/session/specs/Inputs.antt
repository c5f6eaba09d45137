-- The input checks of each call, said without the room's definitions, in their order. The law of reasons holds the answers to
-- them.
use Rattle.std.specs.Prelude.{ℕ, Bool, cond, ◌||◌, List, [], ◌∷◌, ℤ, pos, neg_ℤ, Some, None, Option, int_lt, nat_lt}
use Rattle.session.specs.declared.call.Call.{Call}
use Rattle.session.specs.declared.call.Call.TheVariants.{Open, Respond, Change, Withdraw, Tick, Halt, Resume, Clock, Look, Collect}

-- The first of some whose test holds.
abbrev pub first_that_holds : {X : Type 0} → List (Bool × X) → Option X
first_that_holds [] = None
first_that_holds (x ∷ xs) = cond x.0 (Some x.1) (first_that_holds xs)

-- Times are at most 4,000,000,000,000 milliseconds.
abbrev pub beyond_times : ℕ → Bool
beyond_times t = nat_lt 4000000000000 t

-- Prices are −40,000,000 to 40,000,000 cents.
abbrev pub beyond_prices : ℤ → Bool
beyond_prices z = int_lt z (neg_ℤ (pos 40000000)) || int_lt (pos 40000000) z

-- A number is below a least or above a most.
abbrev pub outside : ℕ → ℕ → ℕ → Bool
outside least most n = nat_lt n least || nat_lt most n

-- Sizes are 1 to 100,000 contracts, members 1 to 16, own numbers 1 to 4.
abbrev pub beyond_sizes : ℕ → Bool
beyond_sizes = outside 1 100000

abbrev pub beyond_members : ℕ → Bool
beyond_members = outside 1 16

abbrev pub beyond_own_numbers : ℕ → Bool
beyond_own_numbers = outside 1 4

-- 1 the time, 2 a price, 3 the size, 4 the member, 5 the own number, 6 a list of rows under 129.
abbrev pub input_reasons : {T : Type 0} → Call T → List (Bool × ℕ)
input_reasons (Open x) =
    (beyond_times x.time, 1) ∷ ((beyond_prices x.order.limit, 2) ∷ ((beyond_prices x.order.guarantee.price, 2) ∷ ((beyond_sizes x.order.size, 3) ∷ ((beyond_members x.member, 4) ∷ []))))
input_reasons (Respond x) = (beyond_times x.time, 1) ∷ ((beyond_prices x.price, 2) ∷ ((beyond_sizes x.size, 3) ∷ ((beyond_members x.member, 4) ∷ ((beyond_own_numbers x.own_number, 5) ∷ []))))
input_reasons (Change x) = (beyond_times x.time, 1) ∷ ((beyond_prices x.price, 2) ∷ ((beyond_sizes x.size, 3) ∷ ((beyond_members x.member, 4) ∷ ((beyond_own_numbers x.own_number, 5) ∷ []))))
input_reasons (Withdraw x) = (beyond_times x.time, 1) ∷ ((beyond_members x.member, 4) ∷ ((beyond_own_numbers x.own_number, 5) ∷ []))
input_reasons (Tick t x) = (beyond_times t, 1) ∷ []
input_reasons (Halt t) = (beyond_times t, 1) ∷ []
input_reasons (Resume t) = (beyond_times t, 1) ∷ []
input_reasons (Clock t) = (beyond_times t, 1) ∷ []
input_reasons Look = []
input_reasons (Collect c rows) = (nat_lt rows 129, 6) ∷ []

-- The first input check that a call fails.
abbrev pub input_reason : {T : Type 0} → Call T → Option ℕ
input_reason c = first_that_holds (input_reasons c)
