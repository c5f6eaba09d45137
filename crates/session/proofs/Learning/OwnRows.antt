-- Lists: a member's own responses and its own count, under what the member does and under what others do; and the numbers
-- of the auctions that wait.
use Rattle.std.proofs.Common.{◌≡◌, ℕ, zero, suc, ◌+◌, ◌-◌, ◌≤◌, Bool, true, false, cond, ◌&&◌, eqb, List, [], ◌∷◌, ◌++◌, get_or, set, ℤ, Some, Option, sym, refl, ap, ◌∙◌, arith}
use Rattle.std.proofs.lemmas.Bool.{cond-true, cond-false}
use Rattle.std.proofs.lemmas.Bool.Decides.{nat_tests}
use Rattle.std.specs.Option.{option_map}
use Rattle.allocation.specs.declared.response.Response.{Response}
use Rattle.allocation.specs.Table.{is_of, with_terms, own_response, own_changed, without_own}
use Rattle.room.specs.Responses.{}
use Rattle.room.specs.State.{EndedValues, waiting_auction, without_number, used_by, one_more}
use Rattle.session.proofs.Choices.{cond_through}
use Rattle.session.proofs.Learning.Known.{unnumbered, own_rows, entry, own_count, counted, numbers, numbered_known, without_number_known}

-- One member's response is not another's.
not_another : (m u k : ℕ) (b : Bool) → eqb m u ≡ false → eqb k u ≡ true → (eqb k m && b) ≡ false
not_another m u k b h e =
    let z : eqb k m ≡ false = grind (arith, nat_tests) in
    ap (λ c. c && b) z

-- The member's own response of an own number, in the whole list and in its own rows.
found_own : (a b : Bool) (x : Response) (o p : Option Response) → p ≡ option_map unnumbered o
    → cond a (cond (a && b) (Some (unnumbered x)) p) p ≡ option_map unnumbered (cond (a && b) (Some x) o)
found_own true true x o p h = refl
found_own true false x o p h = h
found_own false b x o p h = h

pub own_response_follows : (u own_number : ℕ) (xs : List Response) → own_response u own_number (own_rows u xs) ≡ option_map unnumbered (own_response u own_number xs)
own_response_follows u own_number [] = refl
own_response_follows u own_number (x ∷ xs) =
    cond_through (own_response u own_number) (eqb x.member u) (unnumbered x ∷ own_rows u xs) (own_rows u xs)
    ∙ found_own (eqb x.member u) (eqb x.own_number own_number) x (own_response u own_number xs) (own_response u own_number (own_rows u xs)) (own_response_follows u own_number xs)

-- The member changes one of its own responses.
changed_own : (a b : Bool) (y z : Response) (r d c : List Response) → d ≡ c
    → cond (a && b) (cond a (y ∷ r) r) (cond a (z ∷ d) d) ≡ cond a (cond (a && b) (y ∷ r) (z ∷ c)) c
changed_own true true y z r d c h = refl
changed_own true false y z r d c h = ap (λ l. z ∷ l) h
changed_own false b y z r d c h = h

pub own_changed_follows : (u own_number size : ℕ) (price : ℤ) (arrival : ℕ) (xs : List Response)
    → own_rows u (own_changed u own_number size price arrival xs) ≡ own_changed u own_number size price 0 (own_rows u xs)
own_changed_follows u own_number size price arrival [] = refl
own_changed_follows u own_number size price arrival (x ∷ xs) =
    let c = own_changed u own_number size price arrival xs in
    cond_through (own_rows u) (is_of u own_number x) (with_terms size price arrival x ∷ xs) (x ∷ c)
    ∙ changed_own (eqb x.member u) (eqb x.own_number own_number) (with_terms size price 0 x) (unnumbered x) (own_rows u xs) (own_rows u c) (own_changed u own_number size price 0 (own_rows u xs)) (own_changed_follows u own_number size price arrival xs)
    ∙ sym (cond_through (own_changed u own_number size price 0) (eqb x.member u) (unnumbered x ∷ own_rows u xs) (own_rows u xs))

-- The member withdraws one of its own responses.
withdrawn_own : (a b : Bool) (z : Response) (r d c : List Response) → d ≡ c
    → cond (a && b) r (cond a (z ∷ d) d) ≡ cond a (cond (a && b) r (z ∷ c)) c
withdrawn_own true true z r d c h = refl
withdrawn_own true false z r d c h = ap (λ l. z ∷ l) h
withdrawn_own false b z r d c h = h

pub without_own_follows : (u own_number : ℕ) (xs : List Response) → own_rows u (without_own u own_number xs) ≡ without_own u own_number (own_rows u xs)
without_own_follows u own_number [] = refl
without_own_follows u own_number (x ∷ xs) =
    let c = without_own u own_number xs in
    cond_through (own_rows u) (is_of u own_number x) xs (x ∷ c)
    ∙ withdrawn_own (eqb x.member u) (eqb x.own_number own_number) (unnumbered x) (own_rows u xs) (own_rows u c) (without_own u own_number (own_rows u xs)) (without_own_follows u own_number xs)
    ∙ sym (cond_through (without_own u own_number) (eqb x.member u) (unnumbered x ∷ own_rows u xs) (own_rows u xs))

-- A response of the member joins its rows, and another's does not.
pub own_push : (u : ℕ) (xs : List Response) (x : Response) → eqb x.member u ≡ true → own_rows u (xs ++ x ∷ []) ≡ own_rows u xs ++ unnumbered x ∷ []
own_push u [] x h = cond-true (eqb x.member u) (unnumbered x ∷ []) [] h
own_push u (y ∷ ys) x h =
    ap (λ l. cond (eqb y.member u) (unnumbered y ∷ l) l) (own_push u ys x h)
    ∙ sym (cond_through (λ l. l ++ unnumbered x ∷ []) (eqb y.member u) (unnumbered y ∷ own_rows u ys) (own_rows u ys))

pub others_push : (u : ℕ) (xs : List Response) (x : Response) → eqb x.member u ≡ false → own_rows u (xs ++ x ∷ []) ≡ own_rows u xs
others_push u [] x h = cond-false (eqb x.member u) (unnumbered x ∷ []) [] h
others_push u (y ∷ ys) x h = ap (λ l. cond (eqb y.member u) (unnumbered y ∷ l) l) (others_push u ys x h)

-- Another member's change leaves the member's rows.
changed_others : (a e : Bool) (y z : Response) (r d : List Response) → (a ≡ true → e ≡ false) → d ≡ r
    → cond e (cond a (y ∷ r) r) (cond a (z ∷ d) d) ≡ cond a (z ∷ r) r
changed_others true true y z r d g h = let f = g refl in let k : ◌≡◌ {A = ℕ} 0 1 = cc in absurd (omega arith)
changed_others true false y z r d g h = ap (λ l. z ∷ l) h
changed_others false true y z r d g h = refl
changed_others false false y z r d g h = h

pub others_changed : (u m own_number size : ℕ) (price : ℤ) (arrival : ℕ) (xs : List Response) → eqb m u ≡ false
    → own_rows u (own_changed m own_number size price arrival xs) ≡ own_rows u xs
others_changed u m own_number size price arrival [] h = refl
others_changed u m own_number size price arrival (x ∷ xs) h =
    let c = own_changed m own_number size price arrival xs in
    cond_through (own_rows u) (is_of m own_number x) (with_terms size price arrival x ∷ xs) (x ∷ c)
    ∙ changed_others (eqb x.member u) (is_of m own_number x) (with_terms size price 0 x) (unnumbered x) (own_rows u xs) (own_rows u c)
    (not_another m u x.member (eqb x.own_number own_number) h) (others_changed u m own_number size price arrival xs h)

-- Another member's withdrawal leaves them too.
withdrawn_others : (a e : Bool) (z : Response) (r d : List Response) → (a ≡ true → e ≡ false) → d ≡ r
    → cond e r (cond a (z ∷ d) d) ≡ cond a (z ∷ r) r
withdrawn_others true true z r d g h = let f = g refl in let k : ◌≡◌ {A = ℕ} 0 1 = cc in absurd (omega arith)
withdrawn_others true false z r d g h = ap (λ l. z ∷ l) h
withdrawn_others false true z r d g h = refl
withdrawn_others false false z r d g h = h

pub others_withdrawn : (u m own_number : ℕ) (xs : List Response) → eqb m u ≡ false → own_rows u (without_own m own_number xs) ≡ own_rows u xs
others_withdrawn u m own_number [] h = refl
others_withdrawn u m own_number (x ∷ xs) h =
    let c = without_own m own_number xs in
    cond_through (own_rows u) (is_of m own_number x) xs (x ∷ c)
    ∙ withdrawn_others (eqb x.member u) (is_of m own_number x) (unnumbered x) (own_rows u xs) (own_rows u c)
    (not_another m u x.member (eqb x.own_number own_number) h) (others_withdrawn u m own_number xs h)

-- One more at an index of the counts, and what stands at the others.
entry_more : (i : ℕ) (used : List ℕ) → entry i (set used i (get_or used i 0 + 1)) ≡ option_map (λ n. n + 1) (entry i used)
entry_more i [] = refl
entry_more zero (n ∷ ns) = refl
entry_more (suc i) (n ∷ ns) = entry_more i ns

entry_other : (i j : ℕ) (used : List ℕ) (v : ℕ) → (i ≡ j → ⊥) → entry i (set used j v) ≡ entry i used
entry_other i j [] v h = refl
entry_other zero zero (n ∷ ns) v h = absurd (h refl)
entry_other zero (suc j) (n ∷ ns) v h = refl
entry_other (suc i) zero (n ∷ ns) v h = refl
entry_other (suc i) (suc j) (n ∷ ns) v h = entry_other i j ns v (λ e. h (ap suc e))

entry_read : (i : ℕ) (used : List ℕ) → counted (entry i used) ≡ get_or used i 0
entry_read i [] = refl
entry_read zero (n ∷ ns) = refl
entry_read (suc i) (n ∷ ns) = entry_read i ns

one_less : (i : ℕ) → suc i - 1 ≡ i
one_less i = omega arith

-- The member's count, where the member has one more, where another has, and as its 10,000 are counted.
pub own_count_more : (u : ℕ) (used : List ℕ) → 1 ≤ u → own_count u (one_more u used) ≡ option_map (λ n. n + 1) (own_count u used)
own_count_more zero used h = absurd (omega arith)
own_count_more (suc i) used h = ap (λ j. entry i (set used j (get_or used j 0 + 1))) (one_less i) ∙ entry_more i used

pub own_count_other : (u m : ℕ) (used : List ℕ) → 1 ≤ m → eqb m u ≡ false → own_count u (one_more m used) ≡ own_count u used
own_count_other zero m used h k = refl
own_count_other (suc i) m used h k = entry_other i (m - 1) used (used_by m used + 1) (λ e. grind (arith, nat_tests))

pub own_count_read : (u : ℕ) (used : List ℕ) → 1 ≤ u → counted (own_count u used) ≡ used_by u used
own_count_read zero used h = absurd (omega arith)
own_count_read (suc i) used h = entry_read i used ∙ sym (ap (λ j. get_or used j 0) (one_less i))

-- The numbers of the auctions that wait.
pub numbered_follows : (n : ℕ) (es : List EndedValues) → numbered_known n (numbers es) ≡ option_map (λ (e : EndedValues). e.number) (waiting_auction n es)
numbered_follows n [] = refl
numbered_follows n (e ∷ es) =
    ap (λ o. cond (eqb e.number n) (Some e.number) o) (numbered_follows n es)
    ∙ sym (cond_through (option_map (λ (e : EndedValues). e.number)) (eqb e.number n) (Some e) (waiting_auction n es))

pub without_number_follows : (n : ℕ) (es : List EndedValues) → numbers (without_number n es) ≡ without_number_known n (numbers es)
without_number_follows n [] = refl
without_number_follows n (e ∷ es) =
    cond_through numbers (eqb e.number n) es (e ∷ without_number n es)
    ∙ ap (λ l. cond (eqb e.number n) (numbers es) (e.number ∷ l)) (without_number_follows n es)
