-- The auctions that wait, by their numbers: what one more, and one fewer, does to the others.
use Rattle.std.proofs.Common.{◌≡◌, ℕ, ◌+◌, Bool, true, false, cond, eqb, List, [], ◌∷◌, ◌++◌, length, Some, None, Option, sym, refl, ap, ◌∙◌, arith}
use Rattle.std.proofs.lemmas.Bool.Decides.{nat_tests}
use Rattle.std.proofs.lemmas.List.{length_push}
use Rattle.room.specs.State.{OpenValues, EndedValues, waiting_after_end, is_number, waiting_auction, without_number}
use Rattle.room.proofs.Tests.{none_some, true_false}
use Rattle.session.proofs.Choices.{cond_some_none}

-- an auction as it waits
abbrev pub as_ended : ℕ → OpenValues → EndedValues
as_ended c a = record { number = a.number; values = a.values; cause = c }

-- at most one of this number waits
abbrev pub Once : ℕ → List EndedValues → Type 0
Once n es = waiting_auction n (without_number n es) ≡ None

-- another that waits behind the others
pub numbered_other : (n : ℕ) (es : List EndedValues) (e : EndedValues) → eqb e.number n ≡ false → waiting_auction n (es ++ e ∷ []) ≡ waiting_auction n es
numbered_other n [] e h = ap (λ (b : Bool). cond b (Some e) None) h
numbered_other n (x ∷ xs) e h = ap (λ o. cond (eqb x.number n) (Some x) o) (numbered_other n xs e h)

-- the first of its number that waits
pub numbered_new : (n : ℕ) (es : List EndedValues) (e : EndedValues) → waiting_auction n es ≡ None → eqb e.number n ≡ true → waiting_auction n (es ++ e ∷ []) ≡ Some e
numbered_new n [] e h k = ap (λ (b : Bool). cond b (Some e) None) k
numbered_new n (x ∷ xs) e h k =
    let past = cond_some_none (eqb x.number n) x (waiting_auction n xs) h in
    ap (λ (b : Bool). cond b (Some x) (waiting_auction n (xs ++ e ∷ []))) past.0 ∙ numbered_new n xs e past.1 k

without_none : (n : ℕ) (es : List EndedValues) → waiting_auction n es ≡ None → without_number n es ≡ es
without_none n [] h = refl
without_none n (x ∷ xs) h =
    let past = cond_some_none (eqb x.number n) x (waiting_auction n xs) h in
    ap (λ (b : Bool). cond b xs (x ∷ without_number n xs)) past.0 ∙ ap (λ l. x ∷ l) (without_none n xs past.1)

pub once_of_none : (n : ℕ) (es : List EndedValues) → waiting_auction n es ≡ None → Once n es
once_of_none n es h = ap (waiting_auction n) (without_none n es h) ∙ h

pub once_new : (n : ℕ) (es : List EndedValues) (e : EndedValues) → waiting_auction n es ≡ None → eqb e.number n ≡ true → Once n (es ++ e ∷ [])
once_new n [] e h k = ap (λ (b : Bool). waiting_auction n (cond b [] (e ∷ []))) k
once_new n (x ∷ xs) e h k =
    let past = cond_some_none (eqb x.number n) x (waiting_auction n xs) h in
    ap (λ (b : Bool). waiting_auction n (cond b (xs ++ e ∷ []) (x ∷ without_number n (xs ++ e ∷ [])))) past.0
    ∙ ap (λ (b : Bool). cond b (Some x) (waiting_auction n (without_number n (xs ++ e ∷ [])))) past.0
    ∙ once_new n xs e past.1 k

once_at : (b : Bool) (n : ℕ) (x e : EndedValues) (xs : List EndedValues) → eqb x.number n ≡ b → eqb e.number n ≡ false
    → (Once n xs → Once n (xs ++ e ∷ [])) → waiting_auction n (cond b xs (x ∷ without_number n xs)) ≡ None → waiting_auction n (cond b (xs ++ e ∷ []) (x ∷ without_number n (xs ++ e ∷ []))) ≡ None
once_at true n x e xs h k again o = numbered_other n xs e k ∙ o
once_at false n x e xs h k again o =
    let past = cond_some_none (eqb x.number n) x (waiting_auction n (without_number n xs)) o in
    ap (λ (b : Bool). cond b (Some x) (waiting_auction n (without_number n (xs ++ e ∷ [])))) h ∙ again past.1

pub once_other : (n : ℕ) (es : List EndedValues) (e : EndedValues) → eqb e.number n ≡ false → Once n es → Once n (es ++ e ∷ [])
once_other n [] e h o = ap (λ (b : Bool). waiting_auction n (cond b [] (e ∷ []))) h ∙ ap (λ (b : Bool). cond b (Some e) None) h
once_other n (x ∷ xs) e h o = once_at (eqb x.number n) n x e xs refl h (once_other n xs e h) o

-- one fewer of another number
without_at : (b : Bool) (n : ℕ) (x : EndedValues) (xs ys : List EndedValues) → (b ≡ true → eqb x.number n ≡ false) → waiting_auction n ys ≡ waiting_auction n xs → waiting_auction n (cond b xs (x ∷ ys)) ≡ waiting_auction n (x ∷ xs)
without_at true n x xs ys h e = sym (ap (λ (b : Bool). cond b (Some x) (waiting_auction n xs)) (h refl))
without_at false n x xs ys h e = ap (λ o. cond (eqb x.number n) (Some x) o) e

other_number : (a k n : ℕ) → eqb k n ≡ false → eqb a k ≡ true → eqb a n ≡ false
other_number a k n h e = grind (arith, nat_tests)

pub numbered_without_other : (k n : ℕ) (es : List EndedValues) → eqb k n ≡ false → waiting_auction n (without_number k es) ≡ waiting_auction n es
numbered_without_other k n [] h = refl
numbered_without_other k n (x ∷ xs) h =
    without_at (eqb x.number k) n x xs (without_number k xs) (other_number x.number k n h) (numbered_without_other k n xs h)

-- both removed, in either order
swap_at : (a b : Bool) (x : EndedValues) (xs ks ns : List EndedValues) (k n : ℕ) → eqb x.number k ≡ a → eqb x.number n ≡ b → (a ≡ true → b ≡ true → ⊥)
    → ks ≡ without_number k xs → ns ≡ without_number n xs → without_number n ks ≡ without_number k ns
    → without_number n (cond a xs (x ∷ ks)) ≡ without_number k (cond b xs (x ∷ ns))
swap_at true true x xs ks ns k n e f no_both g h again = absurd (no_both refl refl)
swap_at true false x xs ks ns k n e f no_both g h again = sym h ∙ sym (ap (λ (b : Bool). cond b ns (x ∷ without_number k ns)) e)
swap_at false true x xs ks ns k n e f no_both g h again = ap (λ (b : Bool). cond b ks (x ∷ without_number n ks)) f ∙ g
swap_at false false x xs ks ns k n e f no_both g h again =
    ap (λ (b : Bool). cond b ks (x ∷ without_number n ks)) f ∙ ap (λ l. x ∷ l) again ∙ sym (ap (λ (b : Bool). cond b ns (x ∷ without_number k ns)) e)

not_both : (a k n : ℕ) → eqb k n ≡ false → eqb a k ≡ true → eqb a n ≡ true → ⊥
not_both a k n h e f = true_false (sym f ∙ other_number a k n h e)

without_swap : (k n : ℕ) (es : List EndedValues) → eqb k n ≡ false → without_number n (without_number k es) ≡ without_number k (without_number n es)
without_swap k n [] h = refl
without_swap k n (x ∷ xs) h =
    swap_at (eqb x.number k) (eqb x.number n) x xs (without_number k xs) (without_number n xs) k n refl refl (not_both x.number k n h) refl refl (without_swap k n xs h)

pub once_without_other : (k n : ℕ) (es : List EndedValues) → eqb k n ≡ false → Once n es → Once n (without_number k es)
once_without_other k n es h o = ap (waiting_auction n) (without_swap k n es h) ∙ numbered_without_other k n (without_number n es) h ∙ o

-- an open auction of another number, or none, that ends
pub closed_other : (c : ℕ) (n : ℕ) (o : Option OpenValues) (es : List EndedValues) → is_number n o ≡ false → waiting_auction n (waiting_after_end c o es) ≡ waiting_auction n es
closed_other c n None es h = refl
closed_other c n (Some a) es h = numbered_other n es (as_ended c a) h

pub once_closed : (c : ℕ) (n : ℕ) (o : Option OpenValues) (es : List EndedValues) → is_number n o ≡ false → Once n es → Once n (waiting_after_end c o es)
once_closed c n None es h k = k
once_closed c n (Some a) es h k = once_other n es (as_ended c a) h k

-- how many wait
without_length_at : (b : Bool) (n : ℕ) (x e : EndedValues) (xs : List EndedValues) → (waiting_auction n xs ≡ Some e → length (without_number n xs) + 1 ≡ length xs) → cond b (Some x) (waiting_auction n xs) ≡ Some e → length (cond b xs (x ∷ without_number n xs)) + 1 ≡ length (x ∷ xs)
without_length_at true n x e xs again h = omega arith
without_length_at false n x e xs again h = let less = again h in omega arith

pub without_length : (n : ℕ) (es : List EndedValues) (e : EndedValues) → waiting_auction n es ≡ Some e → length (without_number n es) + 1 ≡ length es
without_length n [] e h = none_some e h
without_length n (x ∷ xs) e h = without_length_at (eqb x.number n) n x e xs (without_length n xs e) h

pub closed_length : (c : ℕ) (a : OpenValues) (es : List EndedValues) → length (waiting_after_end c (Some a) es) ≡ length es + 1
closed_length c a es = length_push es (as_ended c a)
