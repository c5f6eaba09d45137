-- Counts of rows that pass tests: by who is filled, by class and by price they add up; and what a law says of each row it
-- says of counts.
use Rattle.std.proofs.Common.{◌≡◌, ℕ, zero, suc, ◌+◌, ◌<◌, ◌≤◌, Bool, true, false, cond, not, ◌&&◌, List, [], ◌∷◌, map, ℤ, refl, ap, ◌∙◌, arith}
use borrow.Author.Differences.{ints, up, down}
use lib.Signed.{lt_z}
use Rattle.std.specs.List.{AllByRecursion}
use Rattle.market.specs.declared.side.Side.{Side}
use Rattle.allocation.specs.declared.fill.FillRow.{FillRow}
use Rattle.allocation.specs.declared.response.Class.{Class}
use Rattle.allocation.specs.declared.response.Class.TheVariants.{Customer, Other}
use Rattle.allocation.specs.ContraLaws.{of_contra, of_customer, of_other, row_price, priced_at, priced_below, priced_up_to, fill_of, demand_of}
use Rattle.allocation.specs.FillLaws.{of_response, those, filled_in, size_in, same_price, same_class}
use Rattle.allocation.specs.Share.{total}
use Rattle.allocation.proofs.RowLists.{kept_all, all_always, all_both}

-- Rows at a price beyond this one.
abbrev pub priced_beyond : Side → ℤ → FillRow → Bool
priced_beyond side z f = lt_z z (row_price side f)

-- the first row counts if it passes
pub kept_cons : {X : Type 0} (h : X → ℕ) (p : X → Bool) (x : X) (xs : List X) → total (map h (those p (x ∷ xs))) ≡ cond (p x) (h x) 0 + total (map h (those p xs))
kept_cons h p x xs = elim (p x) as (λ b. total (map h (cond b (x ∷ those p xs) (those p xs))) ≡ cond b (h x) 0 + total (map h (those p xs))) [ true ↦ refl | false ↦ omega arith ]

-- each row that passes one test passes one of two others
parted : {X : Type 0} (h : X → ℕ) (p q r : X → Bool) → ((x : X) (v : ℕ) → cond (p x) v 0 ≡ cond (q x) v 0 + cond (r x) v 0) → (xs : List X)
    → total (map h (those p xs)) ≡ total (map h (those q xs)) + total (map h (those r xs))
parted h p q r e [] = omega arith
parted h p q r e (x ∷ xs) = omega (arith, kept_cons h p x xs, kept_cons h q x xs, kept_cons h r x xs, e x (h x), parted h p q r e xs)

pub kept_alike : {X : Type 0} (p q : X → Bool) → ((x : X) → p x ≡ q x) → (xs : List X) → those p xs ≡ those q xs
kept_alike p q e [] = refl
kept_alike p q e (x ∷ xs) =
    ap (λ b. cond b (x ∷ those p xs) (those p xs)) (e x)
    ∙ ap (λ (ys : List _). cond (q x) (x ∷ ys) ys) (kept_alike p q e xs)

-- customers or others; responses or the contra
by_class : (a b : Bool) (c : Class) (v : ℕ) → cond (a && b) v 0 ≡ cond ((a && same_class Customer c) && b) v 0 + cond ((a && same_class Other c) && b) v 0
by_class true true Customer v = omega arith
by_class true true Other v = omega arith
by_class true false Customer v = omega arith
by_class true false Other v = omega arith
by_class false b c v = omega arith

by_who : (a b : Bool) (v : ℕ) → cond b v 0 ≡ cond (a && b) v 0 + cond (not a && b) v 0
by_who true true v = omega arith
by_who true false v = omega arith
by_who false true v = omega arith
by_who false false v = omega arith

-- up to a price: below it or at it; and all: up to it or beyond it
below_or_at : (a b : Bool) → (a ≡ true → b ≡ true → ⊥) → (v : ℕ) → cond (not a) v 0 ≡ cond b v 0 + cond (not a && not b) v 0
below_or_at true true no_way v = absurd (no_way refl refl)
below_or_at true false _ v = omega arith
below_or_at false true _ v = omega arith
below_or_at false false _ v = omega arith

up_to_parts : (z w : ℤ) (v : ℕ) → cond (not (lt_z z w)) v 0 ≡ cond (lt_z w z) v 0 + cond (same_price z w) v 0
up_to_parts z w v = below_or_at (lt_z z w) (lt_z w z) (λ a b. grind (arith, ints)) v

and_parted : (a b c d : Bool) → ((v : ℕ) → cond b v 0 ≡ cond c v 0 + cond d v 0) → (v : ℕ) → cond (a && b) v 0 ≡ cond (a && c) v 0 + cond (a && d) v 0
and_parted true b c d e v = e v
and_parted false b c d e v = omega arith

all_parts : (b : Bool) (v : ℕ) → v ≡ cond (not b) v 0 + cond b v 0
all_parts true v = omega arith
all_parts false v = omega arith

module _ (side : Side) (rows : List FillRow) where
  -- those of responses are customers' and others'
  pub responses_got : (z : ℤ) → fill_of of_response (priced_at side z) rows ≡ fill_of of_customer (priced_at side z) rows + fill_of of_other (priced_at side z) rows
  responses_got z = parted (λ (f : FillRow). f.filled) (λ f. of_response f && priced_at side z f) (λ f. of_customer f && priced_at side z f) (λ f. of_other f && priced_at side z f) (λ f v. by_class (of_response f) (priced_at side z f) f.class v) rows

  pub responses_asked : (z : ℤ) → demand_of of_response (priced_at side z) rows ≡ demand_of of_customer (priced_at side z) rows + demand_of of_other (priced_at side z) rows
  responses_asked z = parted (λ (f : FillRow). f.filled + f.left) (λ f. of_response f && priced_at side z f) (λ f. of_customer f && priced_at side z f) (λ f. of_other f && priced_at side z f) (λ f v. by_class (of_response f) (priced_at side z f) f.class v) rows

  -- all at a price
  pub at_price : (z : ℤ) → filled_in (those (priced_at side z) rows) ≡ fill_of of_customer (priced_at side z) rows + fill_of of_contra (priced_at side z) rows + fill_of of_other (priced_at side z) rows
  at_price z =
      omega (
        arith,
        parted (λ (f : FillRow). f.filled) (priced_at side z) (λ f. of_response f && priced_at side z f) (λ f. of_contra f && priced_at side z f) (λ f v. by_who (of_response f) (priced_at side z f) v) rows,
        responses_got z,
      )

  up_to : (z : ℤ) → filled_in (those (priced_up_to side z) rows) ≡ filled_in (those (priced_below side z) rows) + filled_in (those (priced_at side z) rows)
  up_to z = parted (λ (f : FillRow). f.filled) (priced_up_to side z) (priced_below side z) (priced_at side z) (λ f v. up_to_parts z (row_price side f) v) rows

  pub contra_up_to : (z : ℤ) → fill_of of_contra (priced_up_to side z) rows ≡ fill_of of_contra (priced_below side z) rows + fill_of of_contra (priced_at side z) rows
  contra_up_to z =
      parted (λ (f : FillRow). f.filled) (λ f. of_contra f && priced_up_to side z f) (λ f. of_contra f && priced_below side z f) (λ f. of_contra f && priced_at side z f)
      (λ f v. and_parted (of_contra f) (priced_up_to side z f) (priced_below side z f) (priced_at side z f) (up_to_parts z (row_price side f)) v) rows

  -- all rows: below a price, at it, beyond it
  pub all_rows : (z : ℤ) → filled_in rows ≡ filled_in (those (priced_below side z) rows) + filled_in (those (priced_at side z) rows) + filled_in (those (priced_beyond side z) rows)
  all_rows z =
      omega (
        arith,
        ap filled_in (kept_all (λ (f : FillRow). true) rows (all_always (λ f. true ≡ true) (λ f. refl) rows)),
        parted (λ (f : FillRow). f.filled) (λ f. true) (priced_up_to side z) (priced_beyond side z) (λ f v. all_parts (priced_beyond side z f) v) rows,
        up_to z,
      )

  -- below the next price: up to this one
  next : (z y w : ℤ) → up y + down z ≡ up z + down y + 1 → lt_z w y ≡ not (lt_z z w)
  next z y w e = go (lt_z z w) refl
    where
      go : (b : Bool) → lt_z z w ≡ b → lt_z w y ≡ not b
      go true h = grind (arith, ints)
      go false h = grind (arith, ints)

  pub below_next : (z y : ℤ) → up y + down z ≡ up z + down y + 1 → filled_in (those (priced_below side y) rows) ≡ filled_in (those (priced_below side z) rows) + filled_in (those (priced_at side z) rows)
  below_next z y e = ap filled_in (kept_alike (priced_below side y) (priced_up_to side z) (λ f. next z y (row_price side f) e) rows) ∙ up_to z

  pub contra_below_next : (z y : ℤ) → up y + down z ≡ up z + down y + 1 → fill_of of_contra (priced_below side y) rows ≡ fill_of of_contra (priced_below side z) rows + fill_of of_contra (priced_at side z) rows
  contra_below_next z y e =
      ap filled_in (kept_alike (λ f. of_contra f && priced_below side y f) (λ f. of_contra f && priced_up_to side z f) (λ f. ap (λ b. of_contra f && b) (next z y (row_price side f) e)) rows)
      ∙ contra_up_to z

-- no more than is asked for
pub got_most : (rows : List FillRow) → filled_in rows ≤ size_in rows
got_most [] = omega arith
got_most (f ∷ fs) = omega (arith, got_most fs)

-- what a law says of each row that trades it says where some are filled
pub trades : (p : FillRow → Bool) (Q : Type 0) (rows : List FillRow) → AllByRecursion (λ (f : FillRow). p f ≡ true → 0 < f.filled → Q) rows → 0 < filled_in (those p rows) → Q
trades p Q [] a h = absurd (omega arith)
trades p Q (f ∷ fs) (q, a) h = go (p f) refl f.filled refl (trades p Q fs a)
  where
    go : (b : Bool) → p f ≡ b → (n : ℕ) → f.filled ≡ n → (0 < filled_in (those p fs) → Q) → Q
    go true e zero is rest = rest (let c = kept_cons (λ (g : FillRow). g.filled) p f fs in let v : cond (p f) f.filled 0 ≡ f.filled = ap (λ b. cond b f.filled 0) e in omega arith)
    go true e (suc n) is rest = q e (omega arith)
    go false e n is rest = rest (let c = kept_cons (λ (g : FillRow). g.filled) p f fs in let v : cond (p f) f.filled 0 ≡ 0 = ap (λ b. cond b f.filled 0) e in omega arith)

-- what it says of each row with contracts left it says where less is filled than asked for
pub lacks : (p : FillRow → Bool) (Q : Type 0) (rows : List FillRow) → AllByRecursion (λ (f : FillRow). p f ≡ true → 0 < f.left → Q) rows → filled_in (those p rows) < size_in (those p rows) → Q
lacks p Q [] a h = absurd (omega arith)
lacks p Q (f ∷ fs) (q, a) h = go (p f) refl f.left refl (lacks p Q fs a)
  where
    c : filled_in (those p (f ∷ fs)) ≡ cond (p f) f.filled 0 + filled_in (those p fs)
    c = kept_cons (λ (g : FillRow). g.filled) p f fs

    d : size_in (those p (f ∷ fs)) ≡ cond (p f) (f.filled + f.left) 0 + size_in (those p fs)
    d = kept_cons (λ (g : FillRow). g.filled + g.left) p f fs

    go : (b : Bool) → p f ≡ b → (n : ℕ) → f.left ≡ n → (filled_in (those p fs) < size_in (those p fs) → Q) → Q
    go true e zero is rest =
        let v : cond (p f) f.filled 0 ≡ f.filled = ap (λ b. cond b f.filled 0) e in
        let w : cond (p f) (f.filled + f.left) 0 ≡ f.filled + f.left = ap (λ b. cond b (f.filled + f.left) 0) e in
        rest (omega (arith, c, d))
    go true e (suc n) is rest = q e (omega arith)
    go false e n is rest =
        let v : cond (p f) f.filled 0 ≡ 0 = ap (λ b. cond b f.filled 0) e in
        let w : cond (p f) (f.filled + f.left) 0 ≡ 0 = ap (λ b. cond b (f.filled + f.left) 0) e in
        rest (omega (arith, c, d))

-- where somebody asks for some, what it says of each row
pub stands : (p : FillRow → Bool) (Q : Type 0) (rows : List FillRow) → AllByRecursion (λ (f : FillRow). p f ≡ true → Q) rows → 0 < size_in (those p rows) → Q
stands p Q [] a h = absurd (omega arith)
stands p Q (f ∷ fs) (q, a) h = go (p f) refl (stands p Q fs a)
  where
    go : (b : Bool) → p f ≡ b → (0 < size_in (those p fs) → Q) → Q
    go true e rest = q e
    go false e rest = rest (let d = kept_cons (λ (g : FillRow). g.filled + g.left) p f fs in let w : cond (p f) (f.filled + f.left) 0 ≡ 0 = ap (λ b. cond b (f.filled + f.left) 0) e in omega arith)

-- where no row that passes is filled, they got nothing
pub nothing : (p : FillRow → Bool) (rows : List FillRow) → AllByRecursion (λ (f : FillRow). p f ≡ true → f.filled ≡ 0) rows → filled_in (those p rows) ≡ 0
nothing p [] a = refl
nothing p (f ∷ fs) (q, a) = go (p f) refl (nothing p fs a)
  where
    c : filled_in (those p (f ∷ fs)) ≡ cond (p f) f.filled 0 + filled_in (those p fs)
    c = kept_cons (λ (g : FillRow). g.filled) p f fs

    go : (b : Bool) → p f ≡ b → filled_in (those p fs) ≡ 0 → filled_in (those p (f ∷ fs)) ≡ 0
    go true e rest = let v : cond (p f) f.filled 0 ≡ f.filled = ap (λ b. cond b f.filled 0) e in omega (arith, c, q e)
    go false e rest = let v : cond (p f) f.filled 0 ≡ 0 = ap (λ b. cond b f.filled 0) e in omega (arith, c)

-- pairs of rows the other way round
pub transposed : {X Y : Type 0} (R : X → Y → Type 0) (xs : List X) (ys : List Y) → AllByRecursion (λ x. AllByRecursion (R x) ys) xs → AllByRecursion (λ y. AllByRecursion (λ x. R x y) xs) ys
transposed R [] ys a = all_always (λ y. Unit {0}) (λ y. tt) ys
transposed R (x ∷ xs) ys (a, b) = all_both (R x) (λ y. AllByRecursion (λ w. R w y) xs) (λ y. AllByRecursion (λ w. R w y) (x ∷ xs)) (λ y p q. (p, q)) ys a (transposed R xs ys b)
