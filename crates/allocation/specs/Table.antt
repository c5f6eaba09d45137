-- The table of standing responses.
use Rattle.std.specs.Prelude.{ℕ, zero, suc, ◌+◌, Bool, false, cond, ◌&&◌, ◌||◌, List, [], ◌∷◌, ◌++◌, take, drop, ℤ, Some, None, Option, ◌==◌, int_lt}
use Rattle.std.specs.Option.{option_map}
use Rattle.allocation.specs.declared.response.Response.{Response}
use Rattle.allocation.specs.declared.table.ResponseTable.{ResponseTable}

-- The responses that stand, in the order in which they were stored.
abbrev pub standing : ResponseTable → List Response
standing t = t.responses.items

-- A response of this member with this own number.
abbrev pub is_of : ℕ → ℕ → Response → Bool
is_of member own_number x = x.member == member && x.own_number == own_number

-- The index, from 0, of the first response of this member with this own number; none if there is none.
abbrev pub index_of : ℕ → ℕ → List Response → Option ℕ
index_of member own_number [] = None
index_of member own_number (x ∷ xs) = cond (is_of member own_number x) (Some 0) (option_map (λ i. i + 1) (index_of member own_number xs))

-- The same response with another size, price and arrival.
abbrev pub with_terms : ℕ → ℤ → ℕ → Response → Response
with_terms size price arrival x =
    record { member = x.member; own_number = x.own_number; kind = x.kind; class = x.class; size = size; price = price; arrival = arrival }

-- The response at this index with another size, price and arrival, and every other as it was.
abbrev pub change_at : ℕ → ℕ → ℤ → ℕ → List Response → List Response
change_at i size price arrival [] = []
change_at zero size price arrival (x ∷ xs) = with_terms size price arrival x ∷ xs
change_at (suc i) size price arrival (x ∷ xs) = x ∷ change_at i size price arrival xs

-- Without the response at this index: those before it, and then those behind it.
abbrev pub without_index : ℕ → List Response → List Response
without_index i xs = take i xs ++ drop (i + 1) xs

-- The standing response of this member with this own number, if there is one.
abbrev pub own_response : ℕ → ℕ → List Response → Option Response
own_response member own_number [] = None
own_response member own_number (x ∷ xs) = cond (is_of member own_number x) (Some x) (own_response member own_number xs)

-- That one response with a new size, price and arrival, and every other as it was.
abbrev pub own_changed : ℕ → ℕ → ℕ → ℤ → ℕ → List Response → List Response
own_changed member own_number size price arrival [] = []
own_changed member own_number size price arrival (x ∷ xs) =
    cond (is_of member own_number x) (with_terms size price arrival x ∷ xs) (x ∷ own_changed member own_number size price arrival xs)

-- Every other response, without that one.
abbrev pub without_own : ℕ → ℕ → List Response → List Response
without_own member own_number [] = []
without_own member own_number (x ∷ xs) = cond (is_of member own_number x) xs (x ∷ without_own member own_number xs)

-- A response stands at a price below this one.
abbrev pub any_below : ℤ → List Response → Bool
any_below price [] = false
any_below price (x ∷ xs) = int_lt x.price price || any_below price xs
