-- To walk arranged responses by the lowest price that is still to come is to go through the levels one by one: each turn
-- meets the next level, and what is walked is the fill list.
use Rattle.std.proofs.Common.{◌≡◌, ℕ, zero, suc, ◌+◌, ◌-◌, ◌<◌, ◌≤◌, Bool, true, false, not, ◌⊎◌, List, [], ◌∷◌, ◌++◌, length, take, drop, ℤ, ◌≤ℤ◌, ◌<ℤ◌, Some, None, Option, unwrap_or, sym, refl, ap, ◌∙◌, subst, inl, inr, arith}
use Rattle.allocation.proofs.Mates.{same_class_self, same_price_self}
use borrow.Author.Differences.{ints}
use lib.Signed.{lt_z}
use Rattle.std.specs.List.{AllByRecursion}
use Rattle.std.specs.Option.{option_map}
use Rattle.std.proofs.ByRecursion.{All-weaker, All-append}
use Rattle.std.proofs.lemmas.List.{take_at, drop_at, drop-drop}
use Rattle.std.proofs.lemmas.Bool.{cond_both, cond-true, cond-false, both_ways, not-true, not_from_true, and_parts, and_from, and_left, and_right}
use Rattle.market.specs.declared.side.Side.{Side}
use Rattle.allocation.specs.declared.fill.FillRow.{FillRow}
use Rattle.allocation.specs.declared.order.ContraTerms.{ContraTerms}
use Rattle.allocation.specs.declared.response.Class.{Class}
use Rattle.allocation.specs.declared.response.Class.TheVariants.{Customer, Other}
use Rattle.allocation.specs.declared.response.Response.{Response}
use Rattle.allocation.specs.FillLaws.{same_price, same_class}
use Rattle.allocation.specs.Fill.{fills, level_rows, split_at}
use Rattle.allocation.specs.Levels.{Level, levels_with, levels, flat}
use Rattle.allocation.specs.LevelSteps.{stands_at, leading, next_price, counted_level, front_level}
use Rattle.allocation.specs.Split.{total_taken}
use Rattle.allocation.specs.Walk.{still_to_come, behind_level, walk_rows}
use Rattle.allocation.proofs.LevelFacts.{above_flat, holds_levels, ascending_levels, filled_or_contra, among_levels}
use Rattle.allocation.proofs.LevelShape.{At, Holds, Ascending, Among}

-- What is still to come of the contra's own price: it is among the levels, and below them once it is gone.
abbrev pub Due : ℤ → Option ℤ → List Level → Type 0
Due contra None ls = AllByRecursion (λ (l : Level). contra <ℤ l.price) ls
Due contra (Some coming) ls = (coming ≡ contra) × Among contra ls

-- Levels that are still to be walked.
pub record Walkable (contra : ℤ) (coming : Option ℤ) (ls : List Level) : Type 0 where
  pub holds : AllByRecursion Holds ls
  pub ascending : Ascending ls
  pub none_empty : AllByRecursion (λ (l : Level). (l.price ≡ contra) ⊎ (0 < length (l.customers ++ l.others))) ls
  pub due : Due contra coming ls

ends_there : (contra : ℤ) (coming : Option ℤ) → Walkable contra coming [] → next_price coming (flat []) ≡ None
ends_there contra (Some coming) w = absurd w.due.1
ends_there contra None w = refl

same_from_equal : (a b : ℤ) → a ≡ b → same_price a b ≡ true
same_from_equal a b e = subst (λ z. same_price a z ≡ true) e (same_price_self a)

equal_from_same : (a b : ℤ) → same_price a b ≡ true → a ≡ b
equal_from_same a b e =
    let both = and_parts (not (lt_z a b)) (not (lt_z b a)) e in
    let up : lt_z a b ≡ false = not-true (lt_z a b) both.0 in
    let down : lt_z b a ≡ false = not-true (lt_z b a) both.1 in
    grind (arith, ints)

-- the first level is not above the contra's own, where that is among them
lowest_first : (coming : ℤ) (l : Level) (ls : List Level) → Ascending (l ∷ ls) → Among coming (l ∷ ls) → l.price ≤ℤ coming
lowest_first coming l ls up (inl here) = grind (arith, ints)
lowest_first coming l ls up (inr later) = above ls up.0 later
  where
    above : (ks : List Level) → AllByRecursion (λ (k : Level). l.price <ℤ k.price) ks → Among coming ks → l.price ≤ℤ coming
    above [] a m = absurd m
    above (k ∷ ks) (a, rest) (inl here) = grind (arith, ints)
    above (k ∷ ks) (a, rest) (inr later) = above ks rest later

-- The contra's own price is not below this one while it is still to come, and below it once it is gone.
abbrev Near : ℤ → Option ℤ → ℤ → Type 0
Near contra None price = contra <ℤ price
Near contra (Some coming) price = (coming ≡ contra) × (price ≤ℤ contra)

near_first : (contra : ℤ) (coming : Option ℤ) (l : Level) (ls : List Level) → Walkable contra coming (l ∷ ls) → Near contra coming l.price
near_first contra None l ls w = w.due.0
near_first contra (Some coming) l ls w = (w.due.0, lowest_first contra l ls w.ascending w.due.1)

-- a response at the lowest price is the next
next_here : (contra price : ℤ) (coming : Option ℤ) (x : Response) (xs : List Response) → x.price ≡ price → Near contra coming price → next_price coming (x ∷ xs) ≡ Some price
next_here contra price (Some coming) x xs e near = ap Some (cond_both (lt_z coming x.price) coming x.price (λ z. z ≡ price) (λ t. grind (arith, ints)) (λ _. e))
next_here contra price None x xs e near = ap Some e

-- the contra's own price is the next before all that stand above it
next_own : (coming : ℤ) (xs : List Response) → AllByRecursion (λ (x : Response). coming <ℤ x.price) xs → next_price (Some coming) xs ≡ Some coming
next_own coming [] up = refl
next_own coming (x ∷ xs) (up, _) = ap Some (cond_both (lt_z coming x.price) coming x.price (λ z. z ≡ coming) (λ _. refl) (λ f. grind (arith, ints)))

next_first : (contra price : ℤ) (coming : Option ℤ) (cs os rest : List Response)
    → AllByRecursion (At price Customer) cs → AllByRecursion (At price Other) os → AllByRecursion (λ (x : Response). price <ℤ x.price) rest
    → Near contra coming price → (price ≡ contra) ⊎ (0 < length (cs ++ os))
    → next_price coming (cs ++ (os ++ rest)) ≡ Some price
next_first contra price coming (x ∷ cs) os rest ((e, _), _) b up near some = next_here contra price coming x (cs ++ (os ++ rest)) e near
next_first contra price coming [] (x ∷ os) rest a ((e, _), _) up near some = next_here contra price coming x (os ++ rest) e near
next_first contra price (Some coming) [] [] rest a b up near (inl e) =
    let here : price ≡ coming = e ∙ sym near.0 in
    next_own coming rest (subst (λ p. AllByRecursion (λ (x : Response). p <ℤ x.price) rest) here up) ∙ ap Some (sym here)
next_first contra price None [] [] rest a b up near (inl e) = absurd (grind (arith, ints))
next_first contra price coming [] [] rest a b up near (inr some) = absurd (omega arith)

-- the lowest price still to come is the first level's
pub first_price : (contra : ℤ) (coming : Option ℤ) (l : Level) (ls : List Level) → Walkable contra coming (l ∷ ls) → next_price coming (flat (l ∷ ls)) ≡ Some l.price
first_price contra coming l ls w =
    next_first contra l.price coming l.customers l.others (flat ls)
    w.holds.0.customers_here w.holds.0.others_here (above_flat l.price ls w.ascending.0 w.holds.1)
    (near_first contra coming l ls w) w.none_empty.0

-- behind a level stand the levels that follow it
pub behind : (l : Level) (ls : List Level) → behind_level l (flat (l ∷ ls)) ≡ flat ls
behind l ls =
    sym (drop-drop (length l.others) (length l.customers) (l.customers ++ (l.others ++ flat ls)))
    ∙ ap (drop (length l.others)) (drop_at l.customers (l.others ++ flat ls) (length l.customers) refl)
    ∙ drop_at l.others (flat ls) (length l.others) refl

pub walkable_rest : (contra : ℤ) (coming : Option ℤ) (l : Level) (ls : List Level) → Walkable contra coming (l ∷ ls) → Walkable contra (still_to_come coming l.price) ls
walkable_rest contra coming l ls w = record {
  holds = w.holds.1;
  ascending = w.ascending.1;
  none_empty = w.none_empty.1;
  due = due_rest coming w.due;
}
  where
    due_rest : (coming : Option ℤ) → Due contra coming (l ∷ ls) → Due contra (still_to_come coming l.price) ls
    due_rest None d = d.1
    due_rest (Some coming) (e, among) =
        cond_both (same_price l.price coming) None (Some coming) (λ o. Due contra o ls)
        (λ same. subst (λ p. AllByRecursion (λ (k : Level). p <ℤ k.price) ls) (equal_from_same l.price coming same ∙ e) w.ascending.0)
        (λ apart. (e, elim among [ inl here ↦ absurd (both_ways (same_price l.price coming) apart (same_from_equal l.price coming (here ∙ sym e))) | inr later ↦ later ]))

stands_there : (price : ℤ) (c : Class) (x : Response) → At price c x → stands_at price c x ≡ true
stands_there price c x (e, is) = and_from (same_class c x.class) (same_price price x.price) (subst (λ d. same_class c d ≡ true) (sym is) (same_class_self c)) (same_from_equal price x.price (sym e))

stands_above : (price : ℤ) (c : Class) (x : Response) → price <ℤ x.price → stands_at price c x ≡ false
stands_above price c x h =
    and_right (same_class c x.class) (same_price price x.price)
    (and_left (not (lt_z price x.price)) (not (lt_z x.price price)) (not_from_true (lt_z price x.price) (grind (arith, ints))))

other_stands : (price : ℤ) (x : Response) → At price Other x → stands_at price Customer x ≡ false
other_stands price x (e, is) = and_left (same_class Customer x.class) (same_price price x.price) (ap (same_class Customer) is)

leading_none : (price : ℤ) (c : Class) (xs : List Response) → AllByRecursion (λ (x : Response). stands_at price c x ≡ false) xs → leading price c xs ≡ 0
leading_none price c [] a = refl
leading_none price c (x ∷ xs) (e, a) = cond-false (stands_at price c x) (suc (leading price c xs)) 0 e

-- a front that stands there, before those that do not
leading_front : (price : ℤ) (c : Class) (front rest : List Response) → AllByRecursion (At price c) front → AllByRecursion (λ (x : Response). stands_at price c x ≡ false) rest → leading price c (front ++ rest) ≡ length front
leading_front price c [] rest a b = leading_none price c rest b
leading_front price c (x ∷ front) rest (at, a) b =
    cond-true (stands_at price c x) (suc (leading price c (front ++ rest))) 0 (stands_there price c x at)
    ∙ ap suc (leading_front price c front rest a b)

-- the level at the front of all responses is the first
pub first_level : (l : Level) (ls : List Level) → AllByRecursion Holds (l ∷ ls) → Ascending (l ∷ ls) → front_level l.price (flat (l ∷ ls)) ≡ l
first_level l ls (h, hs) (up, _) =
    ap (λ n. counted_level l.price n (leading l.price Other (drop n all)) all) customers
    ∙ ap (λ xs. counted xs (leading l.price Other xs)) past
    ∙ ap (counted rest) others
    ∙ ap (λ xs. with_classes xs (take (length l.others) rest)) (take_at l.customers rest (length l.customers) refl)
    ∙ ap (with_classes l.customers) (take_at l.others (flat ls) (length l.others) refl)
  where
    rest : List Response
    rest = l.others ++ flat ls

    all : List Response
    all = l.customers ++ rest

    above : (c : Class) → AllByRecursion (λ (x : Response). stands_at l.price c x ≡ false) (flat ls)
    above c = All-weaker (λ (x : Response). l.price <ℤ x.price) (λ (x : Response). stands_at l.price c x ≡ false) (stands_above l.price c) (flat ls) (above_flat l.price ls up hs)

    customers : leading l.price Customer all ≡ length l.customers
    customers =
        leading_front l.price Customer l.customers rest h.customers_here
        (All-append (λ (x : Response). stands_at l.price Customer x ≡ false) l.others (flat ls)
        (All-weaker (At l.price Other) (λ (x : Response). stands_at l.price Customer x ≡ false) (other_stands l.price) l.others h.others_here)
        (above Customer))

    others : leading l.price Other rest ≡ length l.others
    others = leading_front l.price Other l.others (flat ls) h.others_here (above Other)

    past : drop (length l.customers) all ≡ rest
    past = drop_at l.customers rest (length l.customers) refl

    with_classes : List Response → List Response → Level
    with_classes cs os = record { price = l.price; customers = cs; others = os }

    counted : List Response → ℕ → Level
    counted xs n = with_classes (take (length l.customers) all) (take n xs)

-- one turn at a level, with so many turns behind it
abbrev turn : Side → ContraTerms → Option ℤ → List Response → ℕ → ℕ → ℕ → Level → List FillRow
turn side t coming xs turns r m k = level_rows side k (split_at t k r m) ++ walk_rows turns side t (still_to_come coming k.price) (behind_level k xs) (r - total_taken (split_at t k r m)) (m + (split_at t k r m).contra)

-- with a turn for each level, what is walked is the fill list
pub walked_is_fills : (turns : ℕ) (side : Side) (t : ContraTerms) (contra : ℤ) (coming : Option ℤ) (ls : List Level) (r m : ℕ) → length ls ≤ turns → Walkable contra coming ls → walk_rows turns side t coming (flat ls) r m ≡ fills side t ls r m
walked_is_fills zero side t contra coming [] r m few w = refl
walked_is_fills zero side t contra coming (l ∷ ls) r m few w = absurd (omega arith)
walked_is_fills (suc turns) side t contra coming [] r m few w = ap (λ o. unwrap_or (option_map (λ price. turn side t coming [] turns r m (front_level price [])) o) []) (ends_there contra coming w)
walked_is_fills (suc turns) side t contra coming (l ∷ ls) r m few w =
    ap (λ o. unwrap_or (option_map (λ price. turn side t coming (flat (l ∷ ls)) turns r m (front_level price (flat (l ∷ ls)))) o) []) (first_price contra coming l ls w)
    ∙ ap (turn side t coming (flat (l ∷ ls)) turns r m) (first_level l ls w.holds w.ascending)
    ∙ ap (λ xs. level_rows side l (split_at t l r m) ++ walk_rows turns side t (still_to_come coming l.price) xs (r - total_taken (split_at t l r m)) (m + (split_at t l r m).contra)) (behind l ls)
    ∙ ap (λ fs. level_rows side l (split_at t l r m) ++ fs)
    (walked_is_fills turns side t contra (still_to_come coming l.price) ls (r - total_taken (split_at t l r m)) (m + (split_at t l r m).contra) (omega arith) (walkable_rest contra coming l ls w))

module _ (ahead : Response → Response → Bool) (coming : ℤ) where
  pub walkable_levels : (xs : List Response) → Walkable coming (Some coming) (levels ahead coming xs)
  walkable_levels xs = record {
    holds = holds_levels ahead coming xs;
    ascending = ascending_levels ahead coming xs;
    none_empty = filled_or_contra ahead coming xs;
    due = (refl, among_levels ahead coming xs);
  }

  few_placed : (x : Response) (ls : List Level) → length (levels_with ahead x ls) ≤ length ls + 1
  few_placed x [] = omega arith
  few_placed x (l ∷ ls) =
      let ih = few_placed x ls in
      cond_both (lt_z x.price l.price) _ _ (λ ks. length ks ≤ length (l ∷ ls) + 1)
      (λ _. omega arith)
      (λ _. cond_both (lt_z l.price x.price) _ _ (λ ks. length ks ≤ length (l ∷ ls) + 1) (λ _. omega arith) (λ _. omega arith))

  -- at most one level for each response, and the contra's own
  pub few_levels : (xs : List Response) → length (levels ahead coming xs) ≤ length xs + 1
  few_levels [] = omega arith
  few_levels (x ∷ xs) = omega (arith, few_placed x (levels ahead coming xs), few_levels xs)
