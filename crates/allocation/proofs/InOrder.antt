-- What holds of each of a list with all that follow it: in two lists one after another, and where two lists with it have the
-- same elements.
use Rattle.std.proofs.Common.{◌≡◌, ◌⊎◌, inl, inr, List, [], ◌∷◌, ◌++◌, map, sym, refl, ap, ◌∙◌, subst}
use Rattle.std.specs.List.{AllByRecursion}
use Rattle.std.proofs.ByRecursion.{All-append, All-weaker, All-map}
use Rattle.allocation.specs.Ranking.{AllInOrder}
use Rattle.allocation.proofs.RowLists.{all_both}

module _ {X : Type 0} where
  pub in_order_append : (R : X → X → Type 0) (xs ys : List X) → AllInOrder R xs → AllByRecursion (λ x. AllByRecursion (R x) ys) xs → AllInOrder R ys → AllInOrder R (xs ++ ys)
  in_order_append R [] ys a b c = c
  in_order_append R (x ∷ xs) ys (first, a) (past, b) c = (All-append (R x) xs ys first past, in_order_append R xs ys a b c)

  -- of those that have a property
  pub in_order_among : (P : X → Type 0) (R S : X → X → Type 0) → ((x y : X) → P x → P y → R x y → S x y) → (xs : List X) → AllByRecursion P xs → AllInOrder R xs → AllInOrder S xs
  in_order_among P R S f [] a o = tt
  in_order_among P R S f (x ∷ xs) (p, a) (first, o) = (all_both P (R x) (S x) (λ y q r. f x y p q r) xs a first, in_order_among P R S f xs a o)

  pub in_order_weaker : (R S : X → X → Type 0) → ((x y : X) → R x y → S x y) → (xs : List X) → AllInOrder R xs → AllInOrder S xs
  in_order_weaker R S f [] o = tt
  in_order_weaker R S f (x ∷ xs) (first, o) = (all_both (R x) (R x) (S x) (λ y r _. f x y r) xs first first, in_order_weaker R S f xs o)

  pub in_order_both : (R S : X → X → Type 0) (xs : List X) → AllInOrder R xs → AllInOrder S xs → AllInOrder (λ x y. R x y × S x y) xs
  in_order_both R S [] a b = tt
  in_order_both R S (x ∷ xs) (p, a) (q, b) = (all_both (R x) (S x) (λ y. R x y × S x y) (λ y r s. (r, s)) xs p q, in_order_both R S xs a b)

  -- where it holds of none, none has it before one that has not
  pub in_order_none : (P : X → Type 0) (xs : List X) → AllByRecursion (λ x. P x → ⊥) xs → AllInOrder (λ x y. P y → P x) xs
  in_order_none P [] a = tt
  in_order_none P (x ∷ xs) (here, a) = (All-weaker (λ y. P y → ⊥) (λ y. P y → P x) (λ y none p. absurd (none p)) xs a, in_order_none P xs a)

  pub in_order_map : {Y : Type 0} (f : Y → X) (R : X → X → Type 0) (ys : List Y) → AllInOrder (λ x y. R (f x) (f y)) ys → AllInOrder R (map f ys)
  in_order_map f R [] o = tt
  in_order_map f R (y ∷ ys) (first, o) = (All-map (R (f y)) f ys first, in_order_map f R ys o)

  -- what holds of each with itself, and both ways where one follows, holds of any two
  pub any_two : (A R : X → X → Type 0) → ((x : X) → R x x) → ((x y : X) → A x y → R x y × R y x) → (xs : List X) → AllInOrder A xs → AllByRecursion (λ x. AllByRecursion (R x) xs) xs
  any_two A R r f [] o = tt
  any_two A R r f (x ∷ xs) (first, o) = (
    (r x, All-weaker (A x) (R x) (λ y a. (f x y a).0) xs first),
    all_both (A x) (λ y. AllByRecursion (R y) xs) (λ y. AllByRecursion (R y) (x ∷ xs)) (λ y a b. ((f x y a).1, b)) xs first (any_two A R r f xs o),
  )

  -- x is one of them
  abbrev pub IsIn : X → List X → Type 0
  IsIn x [] = ⊥
  IsIn x (y ∷ ys) = (y ≡ x) ⊎ IsIn x ys

  pub of_one : (P : X → Type 0) (xs : List X) (x : X) → AllByRecursion P xs → IsIn x xs → P x
  of_one P [] x a i = absurd i
  of_one P (y ∷ ys) x (p, a) (inl e) = subst P e p
  of_one P (y ∷ ys) x (p, a) (inr i) = of_one P ys x a i

  pub all_in : (xs : List X) → AllByRecursion (λ x. IsIn x xs) xs
  all_in [] = tt
  all_in (x ∷ xs) = (inl refl, All-weaker (λ y. IsIn y xs) (λ y. IsIn y (x ∷ xs)) (λ y i. inr i) xs (all_in xs))

pub in_map : {X Y : Type 0} (f : X → Y) (xs : List X) (x : X) → IsIn x xs → IsIn (f x) (map f xs)
in_map f [] x i = absurd i
in_map f (y ∷ ys) x (inl e) = inl (ap f e)
in_map f (y ∷ ys) x (inr i) = inr (in_map f ys x i)

module _ {X : Type 0} (B : X → X → Type 0) (not_both : (x y : X) → B x y → B y x → ⊥) where
  -- what is one of a list, and follows its first, is one of the rest
  rest_in : (x y : X) (xs ys : List X) → y ≡ x → AllByRecursion (B x) xs → AllByRecursion (λ z. IsIn z (y ∷ ys)) xs → AllByRecursion (λ z. IsIn z ys) xs
  rest_in x y xs ys e first held = all_both (B x) (λ z. IsIn z (y ∷ ys)) (λ z. IsIn z ys) later xs first held
    where
      later : (z : X) → B x z → IsIn z (y ∷ ys) → IsIn z ys
      later z b (inl same) = absurd (let c : B x x = subst (B x) (sym same ∙ e) b in not_both x x c c)
      later z b (inr i) = i

  -- two lists of the same elements, both in the order of a relation that no two have both ways
  pub same_list : (xs ys : List X) → AllInOrder B xs → AllInOrder B ys → AllByRecursion (λ x. IsIn x ys) xs → AllByRecursion (λ y. IsIn y xs) ys → xs ≡ ys
  same_list [] [] a b p q = refl
  same_list [] (y ∷ ys) a b p (i, q) = absurd i
  same_list (x ∷ xs) [] a b (i, p) q = absurd i
  same_list (x ∷ xs) (y ∷ ys) (f, a) (g, b) (i, p) (j, q) =
      let same : y ≡ x = elim i [ inl e ↦ e | inr later ↦ elim j [ inl e ↦ sym e | inr behind ↦ absurd (not_both x y (of_one (B x) xs y f behind) (of_one (B y) ys x g later)) ] ] in
      let rest = same_list xs ys a b (rest_in x y xs ys same f p) (rest_in y x ys xs (sym same) g q) in
      ap (λ z. z ∷ xs) (sym same) ∙ ap (λ zs. y ∷ zs) rest
