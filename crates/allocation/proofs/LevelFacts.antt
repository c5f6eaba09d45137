-- What levels are: each holds its own, prices ascend, the contra's price is among them; level by level they hold the
-- same responses, in the order in which rows are written.
use Rattle.std.proofs.Common.{◌≡◌, ◌<◌, Bool, true, false, cond, not, ◌⊎◌, List, [], ◌∷◌, ◌++◌, length, ℤ, ◌<ℤ◌, sym, refl, ap, ◌∙◌, subst, inl, inr, arith, length-append}
use Rattle.allocation.proofs.RowLists.{all_left, all_right, all_both}
use borrow.Author.Differences.{ints}
use lib.Signed.{lt_z}
use Rattle.std.specs.List.{AllByRecursion}
use Rattle.std.specs.List.Sorted.{IsPermutation}
use Rattle.std.proofs.ByRecursion.{All-weaker, All-append, all_shuffled}
use Rattle.std.proofs.lemmas.List.Sorted.{IsPermutation-refl, IsPermutation-trans, IsPermutation-swap, IsPermutation-cons, length_permutation}
use Rattle.std.proofs.lemmas.Bool.{cond_both, not-false}
use Rattle.allocation.specs.declared.response.Class.{Class}
use Rattle.allocation.specs.declared.response.Class.TheVariants.{Customer, Other}
use Rattle.allocation.specs.declared.response.Key.{Key}
use Rattle.allocation.specs.declared.response.Response.{Response}
use Rattle.allocation.specs.Arrange.{class_before, before, arrangement}
use Rattle.allocation.specs.Levels.{Level, insertion, level_with_in, level_with, empty_level, levels_with, levels, flat}
use Rattle.allocation.specs.Ranking.{AllInOrder, Ordered, by_key}
use Rattle.allocation.proofs.LevelShape.{At, Holds, Ascending, Among}
use Rattle.allocation.proofs.StoodApart.{NotWith}

module _ (ahead : Response → Response → Bool) (x : Response) where
  pub shuffled_put : (xs : List Response) → IsPermutation (x ∷ xs) (insertion ahead x xs)
  shuffled_put [] = IsPermutation-refl (x ∷ [])
  shuffled_put (y ∷ ys) =
      cond_both (ahead x y) (x ∷ y ∷ ys) (y ∷ insertion ahead x ys) (IsPermutation (x ∷ y ∷ ys))
      (λ _. IsPermutation-refl (x ∷ y ∷ ys))
      (λ _. IsPermutation-trans (x ∷ y ∷ ys) (y ∷ x ∷ ys) (y ∷ insertion ahead x ys) (IsPermutation-swap (x ∷ y ∷ ys) (y ∷ x ∷ ys) 0 1 (omega arith) (omega arith) refl) (IsPermutation-cons y (x ∷ ys) (insertion ahead x ys) (shuffled_put ys)))

  pub all_put : (P : Response → Type 0) (ys : List Response) → P x → AllByRecursion P ys → AllByRecursion P (insertion ahead x ys)
  all_put P ys p a = all_shuffled P (x ∷ ys) (insertion ahead x ys) (shuffled_put ys) (p, a)

  -- x passes those that it is not ahead of
  put_past : (ys zs : List Response) → AllByRecursion (λ y. ahead x y ≡ false) ys → insertion ahead x (ys ++ zs) ≡ ys ++ insertion ahead x zs
  put_past [] zs a = refl
  put_past (y ∷ ys) zs (e, a) = rw e (ap (λ r. y ∷ r) (put_past ys zs a))

  put_first : (ys : List Response) → AllByRecursion (λ y. ahead x y ≡ true) ys → insertion ahead x ys ≡ x ∷ ys
  put_first [] a = refl
  put_first (y ∷ ys) (e, a) = rw e

-- x is put among those that two rankings judge alike, and before all that follow
put_among : (f g : Response → Response → Bool) (x : Response) (ys zs : List Response) → AllByRecursion (λ y. f x y ≡ g x y) ys → AllByRecursion (λ z. f x z ≡ true) zs → insertion f x (ys ++ zs) ≡ insertion g x ys ++ zs
put_among f g x [] zs alike later = put_first f x zs later
put_among f g x (y ∷ ys) zs (e, alike) later = rw e (go (g x y) (put_among f g x ys zs alike later))
  where
    go : (b : Bool) → insertion f x (ys ++ zs) ≡ insertion g x ys ++ zs → cond b (x ∷ y ∷ (ys ++ zs)) (y ∷ insertion f x (ys ++ zs)) ≡ cond b (x ∷ y ∷ ys) (y ∷ insertion g x ys) ++ zs
    go true ih = refl
    go false ih = ap (λ r. y ∷ r) ih

-- what holds of all responses holds of each level's
pub all_classes : (P : Response → Type 0) (ls : List Level) → AllByRecursion P (flat ls) → AllByRecursion (λ (l : Level). AllByRecursion P l.customers × AllByRecursion P l.others) ls
all_classes P [] a = tt
all_classes P (l ∷ ls) a =
    let rest = all_right P l.customers (l.others ++ flat ls) a in
    ((all_left P l.customers (l.others ++ flat ls) a, all_left P l.others (flat ls) rest), all_classes P ls (all_right P l.others (flat ls) rest))

-- what is below all levels is below all that they hold
pub above_flat : (low : ℤ) (ls : List Level) → AllByRecursion (λ (k : Level). low <ℤ k.price) ls → AllByRecursion Holds ls → AllByRecursion (λ (y : Response). low <ℤ y.price) (flat ls)
above_flat low [] up hs = tt
above_flat low (l ∷ ls) (below, up) (h, hs) =
    All-append Above l.customers (l.others ++ flat ls) (raised Customer l.customers h.customers_here)
    (All-append Above l.others (flat ls) (raised Other l.others h.others_here) (above_flat low ls up hs))
  where
    Above : Response → Type 0
    Above y = low <ℤ y.price

    raised : (c : Class) (ys : List Response) → AllByRecursion (At l.price c) ys → AllByRecursion (λ (y : Response). low <ℤ y.price) ys
    raised c ys a = All-weaker (At l.price c) (λ (y : Response). low <ℤ y.price) (λ y at. subst (λ p. low <ℤ p) (sym at.0) below) ys a

nothing_held : (price : ℤ) → Holds (empty_level price)
nothing_held price = record { customers_here = tt; others_here = tt }

module _ (ahead : Response → Response → Bool) where
  pub price_join : (x : Response) (l : Level) → (level_with ahead x l).price ≡ l.price
  price_join x l = elim x.class as (λ c. (level_with_in c ahead x l).price ≡ l.price) [ Customer ↦ refl | Other ↦ refl ]

  -- what holds of a level that x makes, of one that it joins and of one that it leaves holds of all
  pub all_place : (P Q : Level → Type 0) (x : Response) → Q (level_with ahead x (empty_level x.price)) → ((l : Level) → x.price ≡ l.price → P l → Q (level_with ahead x l)) → ((l : Level) → P l → Q l) → (ls : List Level) → AllByRecursion P ls → AllByRecursion Q (levels_with ahead x ls)
  all_place P Q x new joins stays [] a = (new, tt)
  all_place P Q x new joins stays (l ∷ ls) (p, a) =
      cond_both (lt_z x.price l.price) _ _ (AllByRecursion Q)
      (λ _. (new, (stays l p, All-weaker P Q stays ls a)))
      (λ e. cond_both (lt_z l.price x.price) _ _ (AllByRecursion Q)
      (λ _. (stays l p, all_place P Q x new joins stays ls a))
      (λ f. (joins l (grind (arith, ints)) p, All-weaker P Q stays ls a)))

  holds_join : (x : Response) (l : Level) → x.price ≡ l.price → Holds l → Holds (level_with ahead x l)
  holds_join x l e h = go x.class refl
    where
      go : (c : Class) → x.class ≡ c → Holds (level_with_in c ahead x l)
      go Customer is = record { customers_here = all_put ahead x (At l.price Customer) l.customers (e, is) h.customers_here; others_here = h.others_here }
      go Other is = record { customers_here = h.customers_here; others_here = all_put ahead x (At l.price Other) l.others (e, is) h.others_here }

  holds_place : (x : Response) (ls : List Level) → AllByRecursion Holds ls → AllByRecursion Holds (levels_with ahead x ls)
  holds_place x ls h = all_place Holds Holds x (holds_join x (empty_level x.price) refl (nothing_held x.price)) (λ l e k. holds_join x l e k) (λ l k. k) ls h

  pub holds_levels : (contra : ℤ) (xs : List Response) → AllByRecursion Holds (levels ahead contra xs)
  holds_levels contra [] = (nothing_held contra, tt)
  holds_levels contra (x ∷ xs) = holds_place x (levels ahead contra xs) (holds_levels contra xs)

  -- all levels stay above one that x is above
  above_place : (low : ℤ) (x : Response) (ls : List Level) → low <ℤ x.price → AllByRecursion (λ (k : Level). low <ℤ k.price) ls → AllByRecursion (λ (k : Level). low <ℤ k.price) (levels_with ahead x ls)
  above_place low x ls h a =
      all_place Above Above x
      (subst (λ p. low <ℤ p) (sym (price_join x (empty_level x.price))) h)
      (λ l _ k. subst (λ p. low <ℤ p) (sym (price_join x l)) k)
      (λ l k. k) ls a
    where
      Above : Level → Type 0
      Above k = low <ℤ k.price

  ascending_place : (x : Response) (ls : List Level) → Ascending ls → Ascending (levels_with ahead x ls)
  ascending_place x [] a = (tt, tt)
  ascending_place x (l ∷ ls) (up, a) =
      cond_both (lt_z x.price l.price) _ _ Ascending
      (λ e. (below_all (subst (λ p. p <ℤ l.price) (sym (price_join x (empty_level x.price))) (grind (arith, ints))), (up, a)))
      (λ e. cond_both (lt_z l.price x.price) _ _ Ascending
      (λ f. (above_place l.price x ls (grind (arith, ints)) up, ascending_place x ls a))
      (λ f. (subst (λ p. AllByRecursion (λ (k : Level). p <ℤ k.price) ls) (sym (price_join x l)) up, a)))
    where
      below_all : {p : ℤ} → p <ℤ l.price → AllByRecursion (λ (k : Level). p <ℤ k.price) (l ∷ ls)
      below_all {p} h = (h, All-weaker (λ (k : Level). l.price <ℤ k.price) (λ (k : Level). p <ℤ k.price) (λ k m. grind (arith, ints)) ls up)

  pub ascending_levels : (contra : ℤ) (xs : List Response) → Ascending (levels ahead contra xs)
  ascending_levels contra [] = (tt, tt)
  ascending_levels contra (x ∷ xs) = ascending_place x (levels ahead contra xs) (ascending_levels contra xs)

  among_place : (price : ℤ) (x : Response) (ls : List Level) → Among price ls → Among price (levels_with ahead x ls)
  among_place price x [] m = inr m
  among_place price x (l ∷ ls) (inl here) =
      cond_both (lt_z x.price l.price) _ _ (Among price)
      (λ _. inr (inl here))
      (λ _. cond_both (lt_z l.price x.price) _ _ (Among price) (λ _. inl here) (λ _. inl (price_join x l ∙ here)))
  among_place price x (l ∷ ls) (inr later) =
      cond_both (lt_z x.price l.price) _ _ (Among price)
      (λ _. inr (inr later))
      (λ _. cond_both (lt_z l.price x.price) _ _ (Among price) (λ _. inr (among_place price x ls later)) (λ _. inr later))

  pub among_levels : (contra : ℤ) (xs : List Response) → Among contra (levels ahead contra xs)
  among_levels contra [] = inl refl
  among_levels contra (x ∷ xs) = among_place contra x (levels ahead contra xs) (among_levels contra xs)

  before_lower : (x y : Response) → x.price <ℤ y.price → before ahead x y ≡ true
  before_lower x y h = let low : lt_z x.price y.price ≡ true = grind (arith, ints) in rw low

  before_higher : (x y : Response) → y.price <ℤ x.price → before ahead x y ≡ false
  before_higher x y h =
      let not_low : lt_z x.price y.price ≡ false = grind (arith, ints) in
      let high : lt_z y.price x.price ≡ true = grind (arith, ints) in
      rw (not_low, high)

  -- at one price the classes decide
  before_level : (x y : Response) (c d : Class) → x.class ≡ c → At x.price d y → before ahead x y ≡ class_before c d (ahead x y)
  before_level x y c d is (e, at) =
      let not_low : lt_z x.price y.price ≡ false = grind (arith, ints) in
      let not_high : lt_z y.price x.price ≡ false = grind (arith, ints) in
      rw (not_low, not_high, is, at)

  flat_new : (x : Response) (ls : List Level) → flat (level_with ahead x (empty_level x.price) ∷ ls) ≡ x ∷ flat ls
  flat_new x ls = elim x.class as (λ c. flat (level_with_in c ahead x (empty_level x.price) ∷ ls) ≡ x ∷ flat ls) [ Customer ↦ refl | Other ↦ refl ]

  flat_join : (x : Response) (l : Level) (ls : List Level) → x.price ≡ l.price → Holds l → AllByRecursion (λ (y : Response). x.price <ℤ y.price) (flat ls) → flat (level_with ahead x l ∷ ls) ≡ insertion (before ahead) x (flat (l ∷ ls))
  flat_join x l ls e h up = go x.class refl
    where
      judged : (c d : Class) → x.class ≡ c → (ys : List Response) → AllByRecursion (At l.price d) ys → AllByRecursion (λ (y : Response). before ahead x y ≡ class_before c d (ahead x y)) ys
      judged c d is ys a = All-weaker (At l.price d) (λ (y : Response). before ahead x y ≡ class_before c d (ahead x y)) (λ y at. before_level x y c d is (at.0 ∙ sym e, at.1)) ys a

      later : AllByRecursion (λ (y : Response). before ahead x y ≡ true) (flat ls)
      later = All-weaker (λ (y : Response). x.price <ℤ y.price) (λ (y : Response). before ahead x y ≡ true) (before_lower x) (flat ls) up

      go : (c : Class) → x.class ≡ c → flat (level_with_in c ahead x l ∷ ls) ≡ insertion (before ahead) x (flat (l ∷ ls))
      go Customer is =
          sym (put_among (before ahead) ahead x l.customers (l.others ++ flat ls)
          (judged Customer Customer is l.customers h.customers_here)
          (All-append (λ (y : Response). before ahead x y ≡ true) l.others (flat ls) (judged Customer Other is l.others h.others_here) later))
      go Other is =
          sym (put_past (before ahead) x l.customers (l.others ++ flat ls) (judged Other Customer is l.customers h.customers_here)
          ∙ ap (λ r. l.customers ++ r) (put_among (before ahead) ahead x l.others (flat ls) (judged Other Other is l.others h.others_here) later))

  -- to place a response in its level is to put it into the whole order
  pub flat_place : (x : Response) (ls : List Level) → AllByRecursion Holds ls → Ascending ls → flat (levels_with ahead x ls) ≡ insertion (before ahead) x (flat ls)
  flat_place x [] hs a = flat_new x []
  flat_place x (l ∷ ls) (h, hs) (up, a) =
      cond_both (lt_z x.price l.price) _ _ Right
      (λ e. flat_new x (l ∷ ls) ∙ sym (put_first (before ahead) x (flat (l ∷ ls)) (first (grind (arith, ints)))))
      (λ e. cond_both (lt_z l.price x.price) _ _ Right
      (λ f. past (grind (arith, ints)) (flat_place x ls hs a))
      (λ f. joined (grind (arith, ints))))
    where
      Right : List Level → Type 0
      Right ks = flat ks ≡ insertion (before ahead) x (flat (l ∷ ls))

      first : x.price <ℤ l.price → AllByRecursion (λ (y : Response). before ahead x y ≡ true) (flat (l ∷ ls))
      first low =
          All-weaker (λ (y : Response). x.price <ℤ y.price) (λ (y : Response). before ahead x y ≡ true) (before_lower x) (flat (l ∷ ls))
          (above_flat x.price (l ∷ ls) (low, All-weaker (λ (k : Level). l.price <ℤ k.price) (λ (k : Level). x.price <ℤ k.price) (λ k m. grind (arith, ints)) ls up) (h, hs))

      lower : l.price <ℤ x.price → (c : Class) (ys : List Response) → AllByRecursion (At l.price c) ys → AllByRecursion (λ (y : Response). before ahead x y ≡ false) ys
      lower low c ys at = All-weaker (At l.price c) (λ (y : Response). before ahead x y ≡ false) (λ y k. before_higher x y (subst (λ p. p <ℤ x.price) (sym k.0) low)) ys at

      past : l.price <ℤ x.price → flat (levels_with ahead x ls) ≡ insertion (before ahead) x (flat ls) → flat (l ∷ levels_with ahead x ls) ≡ insertion (before ahead) x (flat (l ∷ ls))
      past low ih =
          ap (λ r. l.customers ++ (l.others ++ r)) ih
          ∙ ap (λ r. l.customers ++ r) (sym (put_past (before ahead) x l.others (flat ls) (lower low Other l.others h.others_here)))
          ∙ sym (put_past (before ahead) x l.customers (l.others ++ flat ls) (lower low Customer l.customers h.customers_here))

      joined : x.price ≡ l.price → flat (level_with ahead x l ∷ ls) ≡ insertion (before ahead) x (flat (l ∷ ls))
      joined e = flat_join x l ls e h (subst (λ p. AllByRecursion (λ (y : Response). p <ℤ y.price) (flat ls)) (sym e) (above_flat l.price ls up hs))

  pub flat_arranged : (contra : ℤ) (xs : List Response) → flat (levels ahead contra xs) ≡ arrangement ahead xs
  flat_arranged contra [] = refl
  flat_arranged contra (x ∷ xs) = flat_place x (levels ahead contra xs) (holds_levels contra xs) (ascending_levels contra xs) ∙ ap (insertion (before ahead) x) (flat_arranged contra xs)

  filled_join : (x : Response) (l : Level) → 0 < length ((level_with ahead x l).customers ++ (level_with ahead x l).others)
  filled_join x l =
      elim x.class as (λ c. 0 < length ((level_with_in c ahead x l).customers ++ (level_with_in c ahead x l).others)) [
        | Customer ↦ omega (arith, length-append (insertion ahead x l.customers) l.others, length_permutation (x ∷ l.customers) (insertion ahead x l.customers) (shuffled_put ahead x l.customers))
        | Other ↦ omega (arith, length-append l.customers (insertion ahead x l.others), length_permutation (x ∷ l.others) (insertion ahead x l.others) (shuffled_put ahead x l.others))
      ]

  -- only the contra's level may be empty
  pub filled_or_contra : (contra : ℤ) (xs : List Response) → AllByRecursion (λ (l : Level). (l.price ≡ contra) ⊎ (0 < length (l.customers ++ l.others))) (levels ahead contra xs)
  filled_or_contra contra [] = (inl refl, tt)
  filled_or_contra contra (x ∷ xs) =
      all_place Filled Filled x (inr (filled_join x (empty_level x.price))) (λ l _ _. inr (filled_join x l)) (λ l k. k) (levels ahead contra xs) (filled_or_contra contra xs)
    where
      Filled : Level → Type 0
      Filled l = (l.price ≡ contra) ⊎ (0 < length (l.customers ++ l.others))

  pub shuffled_arranged : (xs : List Response) → IsPermutation xs (arrangement ahead xs)
  shuffled_arranged [] = IsPermutation-refl []
  shuffled_arranged (x ∷ xs) =
      IsPermutation-trans (x ∷ xs) (x ∷ arrangement ahead xs) (insertion (before ahead) x (arrangement ahead xs))
      (IsPermutation-cons x xs (arrangement ahead xs) (shuffled_arranged xs))
      (shuffled_put (before ahead) x (arrangement ahead xs))

  pub shuffled_flat : (contra : ℤ) (xs : List Response) → IsPermutation xs (flat (levels ahead contra xs))
  shuffled_flat contra xs = subst (IsPermutation xs) (sym (flat_arranged contra xs)) (shuffled_arranged xs)

  pub all_flat : (P : Response → Type 0) (contra : ℤ) (xs : List Response) → AllByRecursion P xs → AllByRecursion P (flat (levels ahead contra xs))
  all_flat P contra xs a = all_shuffled P xs (flat (levels ahead contra xs)) (shuffled_flat contra xs) a

abbrev BothOrdered : (Response → Response → Bool) → Level → Type 0
BothOrdered ahead l = Ordered ahead l.customers × Ordered ahead l.others

-- x arrived with none that the level holds
abbrev WithNone : Response → Level → Type 0
WithNone x l = AllByRecursion (NotWith x) l.customers × AllByRecursion (NotWith x) l.others

module _ (rank : Key → Key → Bool) (one_ahead : (x y : Key) → (x.arrival ≡ y.arrival → ⊥) → rank x y ≡ not (rank y x)) (carries_on : (x y z : Key) → rank x y ≡ true → rank y z ≡ true → rank x z ≡ true) where
  ordered_put : (x : Response) (ys : List Response) → AllByRecursion (NotWith x) ys → Ordered (by_key rank) ys → Ordered (by_key rank) (insertion (by_key rank) x ys)
  ordered_put x [] apart o = (tt, tt)
  ordered_put x (y ∷ ys) (apart, aparts) (first, o) =
      cond_both (by_key rank x y) (x ∷ y ∷ ys) (y ∷ insertion (by_key rank) x ys) (Ordered (by_key rank))
      (λ t. ((t, All-weaker (λ (z : Response). by_key rank y z ≡ true) (λ (z : Response). by_key rank x z ≡ true) (λ z h. carries_on _ _ _ t h) ys first), (first, o)))
      (λ f. (all_put (by_key rank) x (λ (z : Response). by_key rank y z ≡ true) ys (not-false (by_key rank y x) (sym (one_ahead _ _ apart) ∙ f)) first, ordered_put x ys aparts o))

  ordered_join : (x : Response) (l : Level) → WithNone x l → BothOrdered (by_key rank) l → BothOrdered (by_key rank) (level_with (by_key rank) x l)
  ordered_join x l w o =
      elim x.class as (λ c. BothOrdered (by_key rank) (level_with_in c (by_key rank) x l)) [
        | Customer ↦ (ordered_put x l.customers w.0 o.0, o.1)
        | Other ↦ (o.0, ordered_put x l.others w.1 o.1)
      ]

  -- where no two arrived together, each class of each level is in ranking order
  pub ordered_classes : (contra : ℤ) (xs : List Response) → AllInOrder NotWith xs → AllByRecursion (λ (l : Level). Ordered (by_key rank) l.customers × Ordered (by_key rank) l.others) (levels (by_key rank) contra xs)
  ordered_classes contra [] a = ((tt, tt), tt)
  ordered_classes contra (x ∷ xs) (apart, a) =
      let ls : List Level = levels (by_key rank) contra xs in
      let none = all_classes (NotWith x) ls (all_flat (by_key rank) (NotWith x) contra xs apart) in
      all_place (by_key rank) (λ (l : Level). WithNone x l × BothOrdered (by_key rank) l) (BothOrdered (by_key rank)) x
      (ordered_join x (empty_level x.price) (tt, tt) (tt, tt))
      (λ l _ k. ordered_join x l k.0 k.1)
      (λ l k. k.1)
      ls (all_both (WithNone x) (BothOrdered (by_key rank)) (λ (l : Level). WithNone x l × BothOrdered (by_key rank) l) (λ _ w o. (w, o)) ls none (ordered_classes contra xs a))
