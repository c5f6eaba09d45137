-- Lists of rows: what a test keeps, sums, what holds of each, and pairs of rows of two lists.
use Rattle.std.proofs.Common.{◌≡◌, ℕ, ◌+◌, Bool, true, false, cond, List, [], ◌∷◌, ◌++◌, map, refl, ap, ◌∙◌, arith}
use Rattle.std.specs.List.{AllByRecursion}
use Rattle.std.proofs.ByRecursion.{All-append}
use Rattle.allocation.specs.FillLaws.{those}
use Rattle.allocation.specs.Share.{total}

module _ {X : Type 0} (p : X → Bool) where
  pub kept_append : (xs ys : List X) → those p (xs ++ ys) ≡ those p xs ++ those p ys
  kept_append [] ys = refl
  kept_append (x ∷ xs) ys =
      elim (p x) as (λ b. cond b (x ∷ those p (xs ++ ys)) (those p (xs ++ ys)) ≡ cond b (x ∷ those p xs) (those p xs) ++ those p ys) [
        | true ↦ ap (λ (zs : List X). x ∷ zs) (kept_append xs ys)
        | false ↦ kept_append xs ys
      ]

  pub kept_none : (xs : List X) → AllByRecursion (λ x. p x ≡ false) xs → those p xs ≡ []
  kept_none [] a = refl
  kept_none (x ∷ xs) (e, a) = ap (λ b. cond b (x ∷ those p xs) (those p xs)) e ∙ kept_none xs a

  pub kept_all : (xs : List X) → AllByRecursion (λ x. p x ≡ true) xs → those p xs ≡ xs
  kept_all [] a = refl
  kept_all (x ∷ xs) (e, a) = ap (λ b. cond b (x ∷ those p xs) (those p xs)) e ∙ ap (λ (zs : List X). x ∷ zs) (kept_all xs a)

module _ {X : Type 0} where
  pub sum_append : (f : X → ℕ) (xs ys : List X) → total (map f (xs ++ ys)) ≡ total (map f xs) + total (map f ys)
  sum_append f [] ys = omega arith
  sum_append f (x ∷ xs) ys = omega (arith, sum_append f xs ys)

  pub all_both : (P Q R : X → Type 0) → ((x : X) → P x → Q x → R x) → (xs : List X) → AllByRecursion P xs → AllByRecursion Q xs → AllByRecursion R xs
  all_both P Q R f [] a b = tt
  all_both P Q R f (x ∷ xs) (p, a) (q, b) = (f x p q, all_both P Q R f xs a b)

  pub all_always : (P : X → Type 0) → ((x : X) → P x) → (xs : List X) → AllByRecursion P xs
  all_always P f [] = tt
  all_always P f (x ∷ xs) = (f x, all_always P f xs)

  pub all_left : (P : X → Type 0) (xs ys : List X) → AllByRecursion P (xs ++ ys) → AllByRecursion P xs
  all_left P [] ys a = tt
  all_left P (x ∷ xs) ys (p, a) = (p, all_left P xs ys a)

  pub all_right : (P : X → Type 0) (xs ys : List X) → AllByRecursion P (xs ++ ys) → AllByRecursion P ys
  all_right P [] ys a = a
  all_right P (x ∷ xs) ys (p, a) = all_right P xs ys a

  -- each of xs with each of ys
  pub all_pairs : (P Q : X → Type 0) (R : X → X → Type 0) → ((x y : X) → P x → Q y → R x y) → (xs ys : List X) → AllByRecursion P xs → AllByRecursion Q ys → AllByRecursion (λ x. AllByRecursion (R x) ys) xs
  all_pairs P Q R f [] ys a b = tt
  all_pairs P Q R f (x ∷ xs) ys (p, a) b = (all_both Q Q (R x) (λ y q _. f x y p q) ys b b, all_pairs P Q R f xs ys a b)

  -- pairs of rows of xs ++ ys
  pub pairs_append : (R : X → X → Type 0) (xs ys : List X) → AllByRecursion (λ x. AllByRecursion (R x) xs) xs → AllByRecursion (λ x. AllByRecursion (R x) ys) xs → AllByRecursion (λ y. AllByRecursion (R y) xs) ys → AllByRecursion (λ y. AllByRecursion (R y) ys) ys → AllByRecursion (λ x. AllByRecursion (R x) (xs ++ ys)) (xs ++ ys)
  pairs_append R xs ys xx xy yx yy =
      All-append (λ x. AllByRecursion (R x) (xs ++ ys)) xs ys
      (all_both (λ x. AllByRecursion (R x) xs) (λ x. AllByRecursion (R x) ys) (λ x. AllByRecursion (R x) (xs ++ ys)) (λ x a b. All-append (R x) xs ys a b) xs xx xy)
      (all_both (λ x. AllByRecursion (R x) xs) (λ x. AllByRecursion (R x) ys) (λ x. AllByRecursion (R x) (xs ++ ys)) (λ x a b. All-append (R x) xs ys a b) ys yx yy)
