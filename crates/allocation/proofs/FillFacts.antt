-- The laws of a fill list hold of what the definition gives: each level's rows have them, levels are told apart by price,
-- and nothing is left for later levels where a response lacks something or the contra's own price is passed.
use Rattle.std.proofs.Common.{◌≡◌, ℕ, ◌+◌, ◌-◌, ◌<◌, true, false, ◌⊎◌, List, [], ◌∷◌, ◌++◌, map, ℤ, ◌≤ℤ◌, ◌<ℤ◌, sym, refl, ap, ◌∙◌, subst, inl, inr, arith}
use Rattle.std.proofs.lemmas.List.Sorted.{IsPermutation-map}
use borrow.Author.Differences.{ints}
use Rattle.std.specs.List.{AllByRecursion}
use Rattle.std.specs.List.Sorted.{IsPermutation}
use Rattle.std.proofs.ByRecursion.{All-append, All-weaker}
use Rattle.std.proofs.lemmas.List.{append-nil, append_assoc, map-append}
use Rattle.std.proofs.lemmas.Bool.{cases_lt}
use Rattle.std.proofs.lemmas.Simd.{map-map}
use Rattle.market.specs.declared.side.Side.{Side}
use Rattle.market.specs.Side.{turned_price}
use Rattle.allocation.specs.declared.fill.FillRow.{FillRow}
use Rattle.allocation.specs.declared.order.ContraTerms.{ContraTerms}
use Rattle.allocation.specs.declared.response.Class.TheVariants.{Customer, Other}
use Rattle.allocation.specs.declared.response.Response.{Response}
use Rattle.allocation.specs.FillLaws.{Listing, stood_response, listing_of, row_listing, of_response, those, filled_in, size_in, classmate, classmates, ProRata, ContraRow, FillLaws}
use Rattle.allocation.specs.Fill.{level_rows, split_at, fills}
use Rattle.allocation.specs.Levels.{Level, contra_level, flat}
use Rattle.allocation.specs.Share.{sizes, total}
use Rattle.allocation.specs.Split.{total_taken}
use Rattle.allocation.proofs.ClassRows.{listed, rows_none}
use Rattle.allocation.proofs.LevelRows.{Stands, LevelLaws, level_laws}
use Rattle.allocation.proofs.LevelShape.{Holds, Ascending, Among}
use Rattle.allocation.proofs.Mates.{turned_twice, mate_above, mate_below, near_mates}
use Rattle.allocation.proofs.RowLists.{kept_append, kept_none, sum_append, all_both, all_always, all_left, all_right, all_pairs, pairs_append}
use Rattle.allocation.proofs.SplitFacts.{Reached, SplitLaws, split_laws}

-- Nothing is left, or the contra's own price is still to come.
abbrev pub Ends : ℤ → ℕ → List Level → Type 0
Ends contra_price r ls = (r ≡ 0) ⊎ Among contra_price ls

above_among : (z contra_price : ℤ) (ls : List Level) → AllByRecursion (λ (k : Level). z <ℤ k.price) ls → Among contra_price ls → z <ℤ contra_price
above_among z contra_price [] a i = absurd i
above_among z contra_price (l ∷ ls) (h, a) (inl e) = subst (λ (x : ℤ). z <ℤ x) e h
above_among z contra_price (l ∷ ls) (h, a) (inr i) = above_among z contra_price ls a i

pub reached : (contra_price : ℤ) (r : ℕ) (l : Level) (ls : List Level) → Ends contra_price r (l ∷ ls) → Ascending (l ∷ ls) → Reached contra_price l.price r
reached contra_price r l ls (inl e) up = inl e
reached contra_price r l ls (inr (inl e)) up = inr (grind (arith, ints))
reached contra_price r l ls (inr (inr i)) up = let h : l.price <ℤ contra_price = above_among l.price contra_price ls up.0 i in inr (grind (arith, ints))

ends_next : (contra_price : ℤ) (r k : ℕ) (l : Level) (ls : List Level) → (l.price ≡ contra_price → k ≡ r) → Ends contra_price r (l ∷ ls) → Ends contra_price (r - k) ls
ends_next contra_price r k l ls at (inl e) = inl (omega arith)
ends_next contra_price r k l ls at (inr (inl e)) = inl (omega (arith, at e))
ends_next contra_price r k l ls at (inr (inr i)) = inr i

module _ (side : Side) (t : ContraTerms) (floor : ℤ) (low : floor ≤ℤ contra_level t.guarantee.kind t) (high : t.guarantee.price ≤ℤ t.initiating) where
  -- the contra's own price
  abbrev pub contra_price : ℤ
  contra_price = contra_level t.guarantee.kind t

  abbrev pub Standing : List Level → Type 0
  Standing ls = AllByRecursion (Stands floor t.initiating) (flat ls)

  -- the rows of the first level, and those of the later levels
  abbrev pub first : Level → ℕ → ℕ → List FillRow
  first l r m = level_rows side l (split_at t l r m)

  abbrev pub later : Level → List Level → ℕ → ℕ → List FillRow
  later l ls r m = fills side t ls (r - total_taken (split_at t l r m)) (m + (split_at t l r m).contra)

  pub level_split : (l : Level) (r m : ℕ) → SplitLaws contra_price l.price r (total (sizes l.customers)) (total (sizes l.others)) (split_at t l r m)
  level_split l r m = split_laws t l.price r m (total (sizes l.customers)) (total (sizes l.others)) high

  pub first_laws : (l : Level) (ls : List Level) (r m : ℕ) → Holds l → Standing (l ∷ ls) → LevelLaws side contra_price floor t.initiating l r (split_at t l r m) (first l r m)
  first_laws l ls r m holds st =
      let S : Response → Type 0 = Stands floor t.initiating in
      level_laws side t floor l r m holds
      (all_left S l.customers (l.others ++ flat ls) st)
      (all_left S l.others (flat ls) (all_right S l.customers (l.others ++ flat ls) st))
      low high

  pub later_stand : (l : Level) (ls : List Level) → Standing (l ∷ ls) → Standing ls
  later_stand l ls st =
      let S : Response → Type 0 = Stands floor t.initiating in
      all_right S l.others (flat ls) (all_right S l.customers (l.others ++ flat ls) st)

  pub later_ends : (l : Level) (ls : List Level) (r m : ℕ) → Ends contra_price r (l ∷ ls) → Ends contra_price (r - total_taken (split_at t l r m)) ls
  later_ends l ls r m ends = ends_next contra_price r (total_taken (split_at t l r m)) l ls (level_split l r m).at_own ends

  pub fills_listed : (ls : List Level) (r m : ℕ) → AllByRecursion Holds ls → Standing ls → map row_listing (those of_response (fills side t ls r m)) ≡ map (listed side) (flat ls)
  fills_listed [] r m holds st = refl
  fills_listed (l ∷ ls) r m (h, holds) st =
      let A : List FillRow = first l r m in
      let B : List FillRow = later l ls r m in
      let tell : List Response → List Listing = map (listed side) in
      ap (map row_listing) (kept_append of_response A B)
      ∙ map-append row_listing (those of_response A) (those of_response B)
      ∙ ap (λ (x : List Listing). x ++ map row_listing (those of_response B)) (first_laws l ls r m h st).listed_are
      ∙ ap (λ (x : List Listing). (tell l.customers ++ tell l.others) ++ x) (fills_listed ls (r - total_taken (split_at t l r m)) (m + (split_at t l r m).contra) holds (later_stand l ls st))
      ∙ append_assoc (tell l.customers) (tell l.others) (tell (flat ls))
      ∙ ap (λ (x : List Listing). tell l.customers ++ x) (sym (map-append (listed side) l.others (flat ls)))
      ∙ sym (map-append (listed side) l.customers (l.others ++ flat ls))

  pub fills_contras : (ls : List Level) (r m : ℕ) → AllByRecursion Holds ls → Standing ls → AllByRecursion (λ (f : FillRow). of_response f ≡ false → ContraRow f) (fills side t ls r m)
  fills_contras [] r m holds st = tt
  fills_contras (l ∷ ls) r m (h, holds) st =
      All-append (λ (f : FillRow). of_response f ≡ false → ContraRow f) (first l r m) (later l ls r m)
      (first_laws l ls r m h st).contras
      (fills_contras ls (r - total_taken (split_at t l r m)) (m + (split_at t l r m).contra) holds (later_stand l ls st))

  pub fills_filled : (ls : List Level) (r m : ℕ) → AllByRecursion Holds ls → Standing ls → Ends contra_price r ls → filled_in (fills side t ls r m) ≡ r
  fills_filled [] r m holds st ends = elim ends [ inl e ↦ sym e | inr i ↦ absurd i ]
  fills_filled (l ∷ ls) r m (h, holds) st ends =
      omega (
        arith,
        sum_append (λ (f : FillRow). f.filled) (first l r m) (later l ls r m),
        (first_laws l ls r m h st).filled_is,
        (level_split l r m).within,
        fills_filled ls (r - total_taken (split_at t l r m)) (m + (split_at t l r m).contra) holds (later_stand l ls st) (later_ends l ls r m ends),
      )

  pub fills_in_range : (ls : List Level) (r m : ℕ) → AllByRecursion Holds ls → Ascending ls → Standing ls → Ends contra_price r ls → AllByRecursion (λ (f : FillRow). 0 < f.filled → (floor ≤ℤ turned_price side f.price) × (turned_price side f.price ≤ℤ t.initiating)) (fills side t ls r m)
  fills_in_range [] r m holds up st ends = tt
  fills_in_range (l ∷ ls) r m (h, holds) up st ends =
      All-append (λ (f : FillRow). 0 < f.filled → (floor ≤ℤ turned_price side f.price) × (turned_price side f.price ≤ℤ t.initiating)) (first l r m) (later l ls r m)
      ((first_laws l ls r m h st).in_range (reached contra_price r l ls ends up))
      (fills_in_range ls (r - total_taken (split_at t l r m)) (m + (split_at t l r m).contra) holds up.1 (later_stand l ls st) (later_ends l ls r m ends))

  -- with nothing left no row trades
  pub fills_none : (ls : List Level) (r m : ℕ) → AllByRecursion Holds ls → Standing ls → r ≡ 0 → AllByRecursion (λ (f : FillRow). f.filled ≡ 0) (fills side t ls r m)
  fills_none ls r m holds st e = rows_none (fills side t ls r m) (fills_filled ls r m holds st (inl e) ∙ e)

  -- the rows of the first level are at its price, and those of later levels above it
  pub first_at : (l : Level) (ls : List Level) (r m : ℕ) → Holds l → Standing (l ∷ ls) → AllByRecursion (λ (f : FillRow). turned_price side f.price ≡ l.price) (first l r m)
  first_at l ls r m h st =
      All-weaker (λ (f : FillRow). f.price ≡ turned_price side l.price) (λ (f : FillRow). turned_price side f.price ≡ l.price)
      (λ f e. ap (turned_price side) e ∙ turned_twice side l.price) (first l r m) (first_laws l ls r m h st).at_price

  fills_above : (z : ℤ) (ls : List Level) (r m : ℕ) → AllByRecursion Holds ls → Standing ls → AllByRecursion (λ (k : Level). z <ℤ k.price) ls → AllByRecursion (λ (f : FillRow). z <ℤ turned_price side f.price) (fills side t ls r m)
  fills_above z [] r m holds st up = tt
  fills_above z (l ∷ ls) r m (h, holds) st (z_below, up) =
      All-append (λ (f : FillRow). z <ℤ turned_price side f.price) (first l r m) (later l ls r m)
      (All-weaker (λ (f : FillRow). turned_price side f.price ≡ l.price) (λ (f : FillRow). z <ℤ turned_price side f.price) (λ f e. subst (λ (x : ℤ). z <ℤ x) (sym e) z_below) (first l r m) (first_at l ls r m h st))
      (fills_above z ls (r - total_taken (split_at t l r m)) (m + (split_at t l r m).contra) holds (later_stand l ls st) up)

  pub later_above : (l : Level) (ls : List Level) (r m : ℕ) → AllByRecursion Holds ls → Ascending (l ∷ ls) → Standing (l ∷ ls) → AllByRecursion (λ (f : FillRow). l.price <ℤ turned_price side f.price) (later l ls r m)
  later_above l ls r m holds up st = fills_above l.price ls (r - total_taken (split_at t l r m)) (m + (split_at t l r m).contra) holds (later_stand l ls st) up.0

  -- f does not trade while g, at a better price, has contracts left
  abbrev Better : FillRow → FillRow → Type 0
  Better f g = of_response g ≡ true → 0 < g.left → turned_price side g.price <ℤ turned_price side f.price → f.filled ≡ 0

  pub fills_better_first : (ls : List Level) (r m : ℕ) → AllByRecursion Holds ls → Ascending ls → Standing ls → Ends contra_price r ls → AllByRecursion (λ (f : FillRow). AllByRecursion (Better f) (fills side t ls r m)) (fills side t ls r m)
  fills_better_first [] r m holds up st ends = tt
  fills_better_first (l ∷ ls) r m (h, holds) up st ends =
      pairs_append Better A B
      (all_pairs here here Better (λ f g a b _ _ less. absurd (grind (arith, ints))) A A at at)
      (all_pairs here above Better (λ f g a b _ _ less. absurd (grind (arith, ints))) A B at over)
      (all_pairs (λ f. k ≡ r → f.filled ≡ 0) (λ g. of_response g ≡ true → 0 < g.left → k ≡ r) Better (λ f g none lack y some _. none (lack y some)) B A nones ((first_laws l ls r m h st).lack (reached contra_price r l ls ends up)))
      (fills_better_first ls (r - k) (m + (split_at t l r m).contra) holds up.1 (later_stand l ls st) (later_ends l ls r m ends))
    where
      A : List FillRow
      A = first l r m

      B : List FillRow
      B = later l ls r m

      k : ℕ
      k = total_taken (split_at t l r m)

      here : FillRow → Type 0
      here f = turned_price side f.price ≡ l.price

      above : FillRow → Type 0
      above f = l.price <ℤ turned_price side f.price

      at : AllByRecursion here A
      at = first_at l ls r m h st

      over : AllByRecursion above B
      over = later_above l ls r m holds up st

      nones : AllByRecursion (λ (f : FillRow). k ≡ r → f.filled ≡ 0) B
      nones = elim (cases_lt k r) [
        | inl less ↦ all_always (λ (f : FillRow). k ≡ r → f.filled ≡ 0) (λ f e. absurd (omega arith)) B
        | inr all ↦ All-weaker (λ (f : FillRow). f.filled ≡ 0) (λ (f : FillRow). k ≡ r → f.filled ≡ 0) (λ f e _. e) B (fills_none ls (r - k) (m + (split_at t l r m).contra) holds (later_stand l ls st) (omega arith))
      ]

  -- f, of the others or the contra, does not trade while g, a customer at its price, has contracts left
  abbrev Customers : FillRow → FillRow → Type 0
  Customers f g = g.class ≡ Customer → 0 < g.left → g.price ≡ f.price → f.class ≡ Other → f.filled ≡ 0

  pub fills_customers_first : (ls : List Level) (r m : ℕ) → AllByRecursion Holds ls → Ascending ls → Standing ls → AllByRecursion (λ (f : FillRow). AllByRecursion (Customers f) (fills side t ls r m)) (fills side t ls r m)
  fills_customers_first [] r m holds up st = tt
  fills_customers_first (l ∷ ls) r m (h, holds) up st =
      pairs_append Customers A B
      (All-weaker (λ f. AllByRecursion (AtOne f) A) (λ f. AllByRecursion (Customers f) A) (λ f a. All-weaker (AtOne f) (Customers f) (λ g k c some _ o. k c some o) A a) A (first_laws l ls r m h st).customers_first)
      (all_pairs here above Customers (λ f g a b _ _ e _. absurd (apart f g a b (sym e))) A B at over)
      (all_pairs above here Customers (λ f g a b _ _ e _. absurd (apart g f b a e)) B A over at)
      (fills_customers_first ls (r - total_taken (split_at t l r m)) (m + (split_at t l r m).contra) holds up.1 (later_stand l ls st))
    where
      A : List FillRow
      A = first l r m

      B : List FillRow
      B = later l ls r m

      AtOne : FillRow → FillRow → Type 0
      AtOne f g = g.class ≡ Customer → 0 < g.left → f.class ≡ Other → f.filled ≡ 0

      here : FillRow → Type 0
      here f = turned_price side f.price ≡ l.price

      above : FillRow → Type 0
      above f = l.price <ℤ turned_price side f.price

      apart : (f g : FillRow) → here f → above g → f.price ≡ g.price → ⊥
      apart f g a b e = let same = ap (turned_price side) e in grind (arith, ints)

      at : AllByRecursion here A
      at = first_at l ls r m h st

      over : AllByRecursion above B
      over = later_above l ls r m holds up st

  -- the classmates of the first level's rows are in that level, and those of later rows behind it
  pub mates_in_first : (l : Level) (ls : List Level) (r m : ℕ) → AllByRecursion (λ (g : FillRow). l.price <ℤ turned_price side g.price) (later l ls r m)
      → (f : FillRow) → turned_price side f.price ≡ l.price → classmates f (first l r m ++ later l ls r m) ≡ classmates f (first l r m)
  mates_in_first l ls r m over f a =
      let A : List FillRow = first l r m in
      let B : List FillRow = later l ls r m in
      let none : classmates f B ≡ [] = kept_none (classmate f) B (All-weaker (λ (g : FillRow). l.price <ℤ turned_price side g.price) (λ (g : FillRow). classmate f g ≡ false) (λ g b. mate_above side f g (subst (λ (z : ℤ). z <ℤ turned_price side g.price) (sym a) b)) B over) in
      kept_append (classmate f) A B ∙ ap (λ (gs : List FillRow). classmates f A ++ gs) none ∙ append-nil (classmates f A)

  pub mates_in_later : (l : Level) (ls : List Level) (r m : ℕ) → AllByRecursion (λ (g : FillRow). turned_price side g.price ≡ l.price) (first l r m)
      → (f : FillRow) → l.price <ℤ turned_price side f.price → classmates f (first l r m ++ later l ls r m) ≡ classmates f (later l ls r m)
  mates_in_later l ls r m at f b =
      let A : List FillRow = first l r m in
      let B : List FillRow = later l ls r m in
      let none : classmates f A ≡ [] = kept_none (classmate f) A (All-weaker (λ (g : FillRow). turned_price side g.price ≡ l.price) (λ (g : FillRow). classmate f g ≡ false) (λ g a. mate_below side f g (subst (λ (z : ℤ). z <ℤ turned_price side f.price) (sym a) b)) A at) in
      kept_append (classmate f) A B ∙ ap (λ (gs : List FillRow). gs ++ classmates f B) none

  pub fills_pro_rata : (ls : List Level) (r m : ℕ) → AllByRecursion Holds ls → Ascending ls → Standing ls → AllByRecursion (λ (f : FillRow). of_response f ≡ true → ProRata (filled_in (classmates f (fills side t ls r m))) (size_in (classmates f (fills side t ls r m))) f) (fills side t ls r m)
  fills_pro_rata [] r m holds up st = tt
  fills_pro_rata (l ∷ ls) r m (h, holds) up st =
      All-append (Near (A ++ B)) A B
      (all_both here (Near A) (Near (A ++ B)) (λ f a near y. near_mates f (A ++ B) (classmates f A) (mates_in_first l ls r m over f a) (near y)) A at (first_laws l ls r m h st).pro_rata)
      (all_both above (Near B) (Near (A ++ B)) (λ f b near y. near_mates f (A ++ B) (classmates f B) (mates_in_later l ls r m at f b) (near y)) B over
      (fills_pro_rata ls (r - total_taken (split_at t l r m)) (m + (split_at t l r m).contra) holds up.1 (later_stand l ls st)))
    where
      A : List FillRow
      A = first l r m

      B : List FillRow
      B = later l ls r m

      Near : List FillRow → FillRow → Type 0
      Near rows f = of_response f ≡ true → ProRata (filled_in (classmates f rows)) (size_in (classmates f rows)) f

      here : FillRow → Type 0
      here f = turned_price side f.price ≡ l.price

      above : FillRow → Type 0
      above f = l.price <ℤ turned_price side f.price

      at : AllByRecursion here A
      at = first_at l ls r m h st

      over : AllByRecursion above B
      over = later_above l ls r m holds up st

-- The guarantee's price is up to the initiating price; with an auto-match limit above it the contra would take nothing at
-- its own price, and the order would not be filled.
pub fills_lawful : (side : Side) (t : ContraTerms) (size : ℕ) (floor : ℤ) (stood : List Response) (ls : List Level)
    → AllByRecursion Holds ls → Ascending ls → Among (contra_level t.guarantee.kind t) ls → IsPermutation stood (flat ls)
    → AllByRecursion (λ (x : Response). (0 < x.member) × (0 < x.size) × (floor ≤ℤ x.price) × (x.price ≤ℤ t.initiating)) (flat ls)
    → (floor ≤ℤ contra_level t.guarantee.kind t) → (t.guarantee.price ≤ℤ t.initiating)
    → FillLaws side size floor t.initiating (map (stood_response side) stood) (fills side t ls size 0)
fills_lawful side t size floor stood ls holds up among shuffled st low high = record {
  each_once =
      subst (λ (ts : List Listing). IsPermutation ts (map row_listing (those of_response (fills side t ls size 0)))) (sym (map-map listing_of (stood_response side) stood))
      (subst (λ (ts : List Listing). IsPermutation (map (listed side) stood) ts) (sym (fills_listed side t floor low high ls size 0 holds st)) (IsPermutation-map (listed side) stood (flat ls) shuffled));
  others_contra = fills_contras side t floor low high ls size 0 holds st;
  whole_size = fills_filled side t floor low high ls size 0 holds st (inr among);
  in_range = fills_in_range side t floor low high ls size 0 holds up st (inr among);
  better_first = fills_better_first side t floor low high ls size 0 holds up st (inr among);
  customers_first = fills_customers_first side t floor low high ls size 0 holds up st;
  pro_rata = fills_pro_rata side t floor low high ls size 0 holds up st;
}
