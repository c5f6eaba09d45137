-- What the shares of responses come to: in all as many as there are, none above its size, each the part by size rounded
-- down or one more.
use Rattle.std.proofs.Common.{◌≡◌, ℕ, suc, ◌+◌, ◌-◌, ◌*◌, ◌/◌, ◌<◌, ◌≤◌, min, leb, ◌⊎◌, List, [], ◌∷◌, map, length, get_or, sum, sym, refl, ap, ◌∙◌, subst, inl, inr, mul_comm, div-lt_iff_lt-mul, add-mul, lt_of_mul-lt-mul_right, mul-add, div-mul-le_self, le_of_mul-le-mul_right, arith}
use native.Mathlib.Nat.{lt-div-mul-add, mul-lt-mul_of_pos_left, mul-div_cancel_left}
use Rattle.std.specs.List.{AllZip, AllByRecursion}
use Rattle.std.proofs.lemmas.Bool.{leb-true, leb-false, cond_both, cases_lt}
use Rattle.std.proofs.lemmas.List.Recursion.{is_sum_by}
use Rattle.std.proofs.lemmas.List.Sums.{sum-map, get_or-le-sum_by}
use Rattle.allocation.specs.declared.response.Response.{Response}
use Rattle.allocation.specs.LevelSteps.{Sized}
use Rattle.allocation.specs.Share.{sizes, total, parts_total, deal, shares}

-- Shares fs of k contracts among sizes ss.
pub record Fair (k : ℕ) (ss fs : List ℕ) : Type 0 where
  pub as_many : length fs ≡ length ss
  pub in_all : total fs ≡ min k (total ss)
  pub none_over : AllZip (λ s f. f ≤ s) ss fs
  pub near : AllZip (λ s f. (f ≡ min k (total ss) * s / total ss) ⊎ (f ≡ min k (total ss) * s / total ss + 1)) ss fs
  pub full : total ss ≤ k → fs ≡ ss

-- the totals, as std adds up
pub total_is : (ss : List ℕ) → total ss ≡ sum ss
total_is = is_sum_by total (λ s. s) refl (λ _ _. refl)

pub parts_total_is : (k t : ℕ) (xs : List Response) → parts_total k t (sizes xs) ≡ sum (map (λ (x : Response). k * x.size / t) xs)
parts_total_is k t xs = is_sum_by (λ ys. parts_total k t (sizes ys)) (λ (x : Response). k * x.size / t) refl (λ _ _. refl) xs ∙ sym (sum-map (λ (x : Response). k * x.size / t) xs)

pub total_most : (xs : List Response) → AllByRecursion Sized xs → total (sizes xs) ≤ 100000 * length xs
total_most [] h = omega arith
total_most (x ∷ xs) (s, a) = omega (arith, total_most xs a)

pub length_dealt : (k t odd : ℕ) (ss : List ℕ) → length (deal k t odd ss) ≡ length ss
length_dealt k t odd [] = refl
length_dealt k t odd (s ∷ ss) = ap suc (length_dealt k t (odd - 1) ss)

pub total_dealt : (k t odd : ℕ) (ss : List ℕ) → odd ≤ length ss → total (deal k t odd ss) ≡ parts_total k t ss + odd
total_dealt k t odd [] h = omega arith
total_dealt k t odd (s ∷ ss) h = omega (arith, total_dealt k t (odd - 1) ss (omega arith))

-- the parts_total come to k at most
pub parts_below : (k t : ℕ) (ss : List ℕ) → parts_total k t ss * t ≤ k * total ss
parts_below k t [] = omega arith
parts_below k t (s ∷ ss) =
    omega (arith, parts_below k t ss, div-mul-le_self (k * s) t, add-mul (k * s / t) (parts_total k t ss) t, mul-add k s (total ss))

-- and leave less than one for each
pub parts_above : (k t : ℕ) (ss : List ℕ) → 0 < t → k * total ss + length ss ≤ (parts_total k t ss + length ss) * t
parts_above k t [] pos = omega arith
parts_above k t (s ∷ ss) pos =
    let q : ℕ = k * s / t in
    let one : k * s < q * t + t = lt-div-mul-add pos in
    let rest = parts_above k t ss pos in
    let split = add-mul (q + 1) (parts_total k t ss + length ss) t in
    let split_q = add-mul q 1 t in
    let again : (parts_total k t (s ∷ ss) + length (s ∷ ss)) * t ≡ ((q + 1) + (parts_total k t ss + length ss)) * t = ap (λ n. n * t) (omega arith) in
    omega (arith, mul-add k s (total ss))

-- the odd contracts are fewer than the responses
pub odd_below : (k : ℕ) (ss : List ℕ) → k < total ss → (parts_total k (total ss) ss ≤ k) × (k < parts_total k (total ss) ss + length ss)
odd_below k ss h =
    let t : ℕ = total ss in
    let f : ℕ = parts_total k t ss in
    let n : ℕ = length ss in
    (le_of_mul-le-mul_right (parts_below k t ss) (omega arith), lt_of_mul-lt-mul_right t (omega (arith, parts_above k t ss (omega arith), some ss (omega arith))))
  where
    some : (ss : List ℕ) → 0 < total ss → 0 < length ss
    some [] h = omega arith
    some (s ∷ ss) h = omega arith

-- a part of the whole is below the size
pub part_below : (k t s : ℕ) → k < t → 0 < s → k * s / t < s
part_below k t s h p =
    let less : k * s < s * t = omega (arith, mul-lt-mul_of_pos_left {k = s} h p, mul_comm k s) in
    (div-lt_iff_lt-mul {k = t} {x = k * s} {y = s} (omega arith)).1 less

pub size_within : (xs : List Response) (i : ℕ) (d : Response) → i < length xs → (get_or xs i d).size ≤ total (sizes xs)
size_within xs i d h = omega (arith, is_sum_by (λ ys. total (sizes ys)) (λ (x : Response). x.size) refl (λ _ _. refl) xs, get_or-le-sum_by (λ (x : Response). x.size) xs i d h)

-- where all can be had, each part is the whole size
pub parts_all : (t : ℕ) (ss : List ℕ) → 0 < t → parts_total t t ss ≡ total ss
parts_all t [] p = refl
parts_all t (s ∷ ss) p = omega (arith, parts_all t ss p, mul-div_cancel_left s {n = t} p)

pub dealt_all : (t : ℕ) (ss : List ℕ) → 0 < t → deal t t 0 ss ≡ ss
dealt_all t [] p = refl
dealt_all t (s ∷ ss) p =
    let head : t * s / t + 0 ≡ s = omega (arith, mul-div_cancel_left s {n = t} p) in
    let rest = dealt_all t ss p in
    cc

-- what can be had is enough for the parts, and leaves none odd where it is enough for all
pub parts_within : (k : ℕ) (xs : List Response) → AllByRecursion Sized xs → k ≤ total (sizes xs) → parts_total k (total (sizes xs)) (sizes xs) ≤ k
parts_within k [] a h = omega arith
parts_within k (x ∷ xs) (s, a) h = le_of_mul-le-mul_right (parts_below k (total (sizes (x ∷ xs))) (sizes (x ∷ xs))) (omega (arith, s.0))

pub none_odd : (xs : List Response) → AllByRecursion Sized xs → total (sizes xs) - parts_total (total (sizes xs)) (total (sizes xs)) (sizes xs) ≡ 0
none_odd [] a = refl
none_odd (x ∷ xs) (s, a) = omega (arith, parts_all (total (sizes (x ∷ xs))) (sizes (x ∷ xs)) (omega (arith, s.0)))

-- to share is to deal what can be had
shared_dealt : (k : ℕ) (xs : List Response) → AllByRecursion Sized xs → shares k (sizes xs) ≡ deal (min k (total (sizes xs))) (total (sizes xs)) (min k (total (sizes xs)) - parts_total (min k (total (sizes xs))) (total (sizes xs)) (sizes xs)) (sizes xs)
shared_dealt k xs a =
    let ss : List ℕ = sizes xs in
    let t : ℕ = total ss in
    cond_both (leb t k) ss (deal k t (k - parts_total k t ss) ss) (λ fs. fs ≡ deal (min k t) t (min k t - parts_total (min k t) t ss) ss)
    (λ e. let le = leb-true t k e in let all : min k t ≡ t = omega arith in rw all (full xs a))
    (λ e. let lt = leb-false t k e in let all : min k t ≡ k = omega arith in rw all refl)
  where
    full : (ys : List Response) → AllByRecursion Sized ys → sizes ys ≡ deal (total (sizes ys)) (total (sizes ys)) (total (sizes ys) - parts_total (total (sizes ys)) (total (sizes ys)) (sizes ys)) (sizes ys)
    full [] h = refl
    full (y ∷ ys) (s, h) =
        let ss : List ℕ = sizes (y ∷ ys) in
        sym (dealt_all (total ss) ss (omega (arith, s.0))) ∙ ap (λ odd. deal (total ss) (total ss) odd ss) (sym (none_odd (y ∷ ys) (s, h)))

pub dealt_within : (k : ℕ) (xs : List Response) → AllByRecursion Sized xs → k ≤ total (sizes xs) → deal k (total (sizes xs)) (k - parts_total k (total (sizes xs)) (sizes xs)) (sizes xs) ≡ shares k (sizes xs)
dealt_within k xs a h =
    let ss : List ℕ = sizes xs in
    let t : ℕ = total ss in
    let same : k ≡ min k t = omega arith in
    ap (λ n. deal n t (n - parts_total n t ss) ss) same ∙ sym (shared_dealt k xs a)

pub none_over_dealt : (k t odd : ℕ) (ss : List ℕ) → k < t → AllByRecursion (λ s. 0 < s) ss → AllZip (λ s f. f ≤ s) ss (deal k t odd ss)
none_over_dealt k t odd [] h a = tt
none_over_dealt k t odd (s ∷ ss) h (p, a) = (omega (arith, part_below k t s h p), none_over_dealt k t (odd - 1) ss h a)

pub near_dealt : (k t odd : ℕ) (ss : List ℕ) → AllZip (λ s f. (f ≡ k * s / t) ⊎ (f ≡ k * s / t + 1)) ss (deal k t odd ss)
near_dealt k t odd [] = tt
near_dealt k t odd (s ∷ ss) =
    (elim (cases_lt 0 odd) [ inl h ↦ inr (omega arith) | inr h ↦ inl (omega arith) ], near_dealt k t (odd - 1) ss)

pub each_same : (R : ℕ → ℕ → Type 0) → ((s : ℕ) → R s s) → (ss : List ℕ) → AllZip R ss ss
each_same R r [] = tt
each_same R r (s ∷ ss) = (r s, each_same R r ss)

near_full : (ss : List ℕ) → AllByRecursion (λ s. 0 < s) ss → AllZip (λ s f. (f ≡ total ss * s / total ss) ⊎ (f ≡ total ss * s / total ss + 1)) ss ss
near_full [] a = tt
near_full (s ∷ ss) (p, a) =
    let t : ℕ = total (s ∷ ss) in
    each_same (λ s f. (f ≡ t * s / t) ⊎ (f ≡ t * s / t + 1)) (λ s. inl (sym (mul-div_cancel_left s (omega arith)))) (s ∷ ss)

fair_full : (k : ℕ) (ss : List ℕ) → AllByRecursion (λ s. 0 < s) ss → total ss ≤ k → Fair k ss ss
fair_full k ss a h =
    let all : total ss ≡ min k (total ss) = omega arith in
    record {
      as_many = refl;
      in_all = all;
      none_over = each_same (λ s f. f ≤ s) (λ s. omega arith) ss;
      near = subst (λ m. AllZip (λ s f. (f ≡ m * s / total ss) ⊎ (f ≡ m * s / total ss + 1)) ss ss) all (near_full ss a);
      full = λ _. refl;
    }

fair_dealt : (k : ℕ) (ss : List ℕ) → AllByRecursion (λ s. 0 < s) ss → k < total ss → Fair k ss (deal k (total ss) (k - parts_total k (total ss) ss) ss)
fair_dealt k ss a h =
    let t : ℕ = total ss in
    let odd : ℕ = k - parts_total k t ss in
    let below = odd_below k ss h in
    let part : k ≡ min k t = omega arith in
    record {
      as_many = length_dealt k t odd ss;
      in_all = omega (arith, total_dealt k t odd ss (omega arith));
      none_over = none_over_dealt k t odd ss h a;
      near = subst (λ m. AllZip (λ s f. (f ≡ m * s / t) ⊎ (f ≡ m * s / t + 1)) ss (deal k t odd ss)) part (near_dealt k t odd ss);
      full = λ le. absurd (omega arith);
    }

pub fair_shared : (k : ℕ) (ss : List ℕ) → AllByRecursion (λ s. 0 < s) ss → Fair k ss (shares k ss)
fair_shared k ss a =
    cond_both (leb (total ss) k) ss (deal k (total ss) (k - parts_total k (total ss) ss) ss) (Fair k ss)
    (λ e. fair_full k ss a (leb-true (total ss) k e))
    (λ e. fair_dealt k ss a (leb-false (total ss) k e))
