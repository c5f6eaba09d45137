-- The rows of the fill list that the definition gives stand in their order, and the odd contracts go one each in it.
use Rattle.std.proofs.Common.{◌≡◌, ℕ, ◌+◌, ◌-◌, ◌*◌, ◌/◌, ◌<◌, ◌≤◌, min, Bool, true, false, List, [], ◌∷◌, ◌++◌, ℤ, ◌≤ℤ◌, ◌<ℤ◌, sym, refl, ap, ◌∙◌, subst, inl, inr, arith, leb, ltb}
use Rattle.std.specs.Prelude.{◌≢◌}
use native.Mathlib.Nat.{mul-div_cancel_left}
use borrow.Author.Differences.{ints}
use Rattle.std.specs.List.{AllZip, AllByRecursion}
use Rattle.std.proofs.ByRecursion.{All-append, All-weaker}
use Rattle.std.proofs.lemmas.Bool.{cond_both, leb-true, leb-false, cases_lt, both_ways, not_from_true}
use Rattle.market.specs.declared.side.Side.{Side}
use Rattle.market.specs.Side.{turned_price}
use Rattle.allocation.specs.declared.fill.FillRow.{FillRow}
use Rattle.allocation.specs.declared.order.ContraTerms.{ContraTerms}
use Rattle.allocation.specs.declared.response.Class.{Class}
use Rattle.allocation.specs.declared.response.Class.TheVariants.{Customer, Other}
use Rattle.allocation.specs.declared.response.Key.{Key}
use Rattle.allocation.specs.declared.response.Response.{Response}
use Rattle.allocation.specs.ContraLaws.{of_contra, row_price}
use Rattle.allocation.specs.FillLaws.{StoodResponse, of_response, filled_in, size_in, same_class, classmate, classmates}
use Rattle.allocation.specs.Fill.{fill_row, class_rows, shared_rows, contra_row, contra_rows, level_rows, split_at, fills}
use Rattle.allocation.specs.Levels.{Level, contra_level, flat}
use Rattle.allocation.specs.Ranking.{AllInOrder, Ordered, by_key, key_of}
use Rattle.allocation.specs.RowLaws.{order_at_price, stood_key, Lists, RankedAhead, GotOneMore, RowLaws}
use Rattle.allocation.specs.Share.{sizes, total, parts_total, deal, shares}
use Rattle.allocation.specs.Split.{Split, total_taken}
use Rattle.allocation.proofs.ClassRows.{ClassRows}
use Rattle.allocation.proofs.FillFacts.{first, later, later_stand, first_at, later_above, mates_in_first, mates_in_later}
use Rattle.allocation.proofs.InOrder.{in_order_append, in_order_among, in_order_weaker, in_order_both, in_order_none}
use Rattle.allocation.proofs.LevelRows.{Stands, ContraRows, LevelClasses, level_classes, mates_of_customers, mates_of_others}
use Rattle.allocation.proofs.LevelShape.{Holds, Ascending}
use Rattle.allocation.proofs.Mates.{mate_contra, mate_class, mate_above}
use Rattle.allocation.proofs.RowLists.{all_both, all_pairs, all_always, all_left, all_right}
use Rattle.allocation.proofs.ShareFacts.{none_over_dealt}
use Rattle.allocation.proofs.StoodApart.{StoodOnce}

-- what holds of responses in order holds of their rows in order
module _ (side : Side) (R : Response → Response → Type 0) (Q : FillRow → FillRow → Type 0) (h : (x y : Response) (f g : ℕ) → R x y → Q (fill_row side x f) (fill_row side y g)) where
  rows_behind : (x : Response) (f : ℕ) (ys : List Response) (gs : List ℕ) → AllByRecursion (R x) ys → AllByRecursion (Q (fill_row side x f)) (class_rows side ys gs)
  rows_behind x f [] gs a = tt
  rows_behind x f (y ∷ ys) [] a = tt
  rows_behind x f (y ∷ ys) (g ∷ gs) (r, a) = (h x y f g r, rows_behind x f ys gs a)

  rows_in_order : (xs : List Response) (fs : List ℕ) → AllInOrder R xs → AllInOrder Q (class_rows side xs fs)
  rows_in_order [] fs o = tt
  rows_in_order (x ∷ xs) [] o = tt
  rows_in_order (x ∷ xs) (f ∷ fs) (first, o) = (rows_behind x f xs fs first, rows_in_order xs fs o)

-- a row got one more than its part of k contracts by size, rounded down, where all ask for n
abbrev pub OneMore : ℕ → ℕ → FillRow → Type 0
OneMore k n f = f.filled ≡ k * (f.filled + f.left) / n + 1

abbrev OneMoreFirst : ℕ → ℕ → FillRow → FillRow → Type 0
OneMoreFirst k n f g = OneMore k n g → OneMore k n f

-- where none is odd, none gets one more
none_more : (side : Side) (k t : ℕ) (xs : List Response) → AllZip (λ s f. f ≤ s) (sizes xs) (deal k t 0 (sizes xs)) → AllByRecursion (λ (g : FillRow). OneMore k t g → ⊥) (class_rows side xs (deal k t 0 (sizes xs)))
none_more side k t [] e = tt
none_more side k t (x ∷ xs) (le, e) = (not_one, none_more side k t xs e)
  where
    f : ℕ
    f = k * x.size / t + 0

    not_one : f ≡ k * (f + (x.size - f)) / t + 1 → ⊥
    not_one h = let size : f + (x.size - f) ≡ x.size = omega arith in let same = ap (λ (m : ℕ). k * m / t) size in omega arith

-- the odd contracts go to the first
odd_dealt : (side : Side) (k t odd : ℕ) (xs : List Response) → AllZip (λ s f. f ≤ s) (sizes xs) (deal k t odd (sizes xs)) → AllInOrder (OneMoreFirst k t) (class_rows side xs (deal k t odd (sizes xs)))
odd_dealt side k t odd [] e = tt
odd_dealt side k t odd (x ∷ xs) (le, e) = (elim (cases_lt 0 odd) [ inl some ↦ first_of_all some | inr none ↦ nobody none ], odd_dealt side k t (odd - 1) xs e)
  where
    f : ℕ
    f = k * x.size / t + min odd 1

    rest : List FillRow
    rest = class_rows side xs (deal k t (odd - 1) (sizes xs))

    first_of_all : 0 < odd → AllByRecursion (OneMoreFirst k t (fill_row side x f)) rest
    first_of_all some =
        let size : f + (x.size - f) ≡ x.size = omega arith in
        let same = ap (λ (m : ℕ). k * m / t) size in
        let one : f ≡ k * (f + (x.size - f)) / t + 1 = omega arith in
        all_always (OneMoreFirst k t (fill_row side x f)) (λ g _. one) rest

    nobody : odd ≤ 0 → AllByRecursion (OneMoreFirst k t (fill_row side x f)) rest
    nobody none =
        let still : odd - 1 ≡ 0 = omega arith in
        let left = subst (λ (o : ℕ). AllZip (λ s f. f ≤ s) (sizes xs) (deal k t o (sizes xs))) still e in
        let more = subst (λ (o : ℕ). AllByRecursion (λ (g : FillRow). OneMore k t g → ⊥) (class_rows side xs (deal k t o (sizes xs)))) (sym still) (none_more side k t xs left) in
        All-weaker (λ (g : FillRow). OneMore k t g → ⊥) (OneMoreFirst k t (fill_row side x f)) (λ g none one. absurd (none one)) rest more

-- nor where all are filled
full_rows : (side : Side) (t : ℕ) (xs : List Response) → 0 < t → AllByRecursion (λ (g : FillRow). OneMore t t g → ⊥) (class_rows side xs (sizes xs))
full_rows side t [] p = tt
full_rows side t (x ∷ xs) p = (not_one, full_rows side t xs p)
  where
    not_one : x.size ≡ t * (x.size + (x.size - x.size)) / t + 1 → ⊥
    not_one h =
        let size : x.size + (x.size - x.size) ≡ x.size = omega arith in
        let same = ap (λ (m : ℕ). t * m / t) size in
        omega (arith, mul-div_cancel_left x.size {n = t} p)

all_positive : (xs : List Response) → AllByRecursion (λ (x : Response). 0 < x.size) xs → AllByRecursion (λ (s : ℕ). 0 < s) (sizes xs)
all_positive [] a = tt
all_positive (x ∷ xs) (p, a) = (p, all_positive xs a)

odd_shared : (side : Side) (k : ℕ) (xs : List Response) → AllByRecursion (λ (x : Response). 0 < x.size) xs → k ≤ total (sizes xs) → AllInOrder (OneMoreFirst k (total (sizes xs))) (shared_rows side k xs)
odd_shared side k [] some h = tt
odd_shared side k (x ∷ xs) (p, some) h =
    cond_both (leb n k) ss (deal k n (k - parts_total k n ss) ss) (λ (fs : List ℕ). AllInOrder (OneMoreFirst k n) (class_rows side ys fs))
    (λ e. let all : n ≡ k = omega (arith, leb-true n k e) in
    subst (λ (m : ℕ). AllInOrder (OneMoreFirst m n) (class_rows side ys ss)) all (in_order_none (OneMore n n) (class_rows side ys ss) (full_rows side n ys (omega arith))))
    (λ e. odd_dealt side k n (k - parts_total k n ss) ys (none_over_dealt k n (k - parts_total k n ss) ss (leb-false n k e) (all_positive ys (p, some))))
  where
    ys : List Response
    ys = x ∷ xs

    ss : List ℕ
    ss = sizes ys

    n : ℕ
    n = total ss

-- where rows stand at one price
pub customers_place : (f : FillRow) → of_response f ≡ true → f.class ≡ Customer → order_at_price f ≡ 0
customers_place f r c = rw (r, c)

pub others_place : (f : FillRow) → of_response f ≡ true → f.class ≡ Other → order_at_price f ≡ 2
others_place f r c = rw (r, c)

pub contras_place : (f : FillRow) → of_response f ≡ false → order_at_price f ≡ 1
contras_place f r = rw r

no_contra : (f : FillRow) → of_response f ≡ true → of_contra f ≡ true → ⊥
no_contra f r c = both_ways (of_contra f) (not_from_true (of_response f) r) c

-- the contra has one row at a price, or none
contra_alone : (side : Side) (price : ℤ) (k : ℕ) (R : FillRow → FillRow → Type 0) → AllInOrder R (contra_rows side price k)
contra_alone side price k R = cond_both (ltb 0 k) (contra_row side price k ∷ []) [] (AllInOrder R) (λ _. (tt, tt)) (λ _. tt)

module _ (side : Side) (ahead : Key → Key → Bool) (stood : List StoodResponse) where
  -- f stands in the list before g
  pub record Follows (rows : List FillRow) (f g : FillRow) : Type 0 where
    pub by_price : row_price side f ≤ℤ row_price side g
    pub by_class : f.price ≡ g.price → order_at_price f ≤ order_at_price g
    pub one_contra : of_contra f ≡ true → of_contra g ≡ true → f.price ≢ g.price
    pub by_ranking : of_response f ≡ true → classmate f g ≡ true → RankedAhead ahead stood f g
    pub odd_first : of_response f ≡ true → classmate f g ≡ true → GotOneMore rows g → GotOneMore rows f

  -- the rows of responses in ranking order
  ranked_rows : (x y : Response) (f g : ℕ) → StoodOnce stood x × StoodOnce stood y × (by_key ahead x y ≡ true) → RankedAhead ahead stood (fill_row side x f) (fill_row side y g)
  ranked_rows x y f g h =
      all_pairs (λ (t : StoodResponse). t.member ≡ x.member → t.own_number ≡ x.own_number → stood_key t ≡ key_of x) (λ (t : StoodResponse). t.member ≡ y.member → t.own_number ≡ y.own_number → stood_key t ≡ key_of y)
      (λ t u. Lists (fill_row side x f) t → Lists (fill_row side y g) u → ahead (stood_key t) (stood_key u) ≡ true)
      (λ t u p q lists also.
      let is = p (sym (ap (λ z. z.member) lists)) (sym (ap (λ z. z.own_number) lists)) in
      let other = q (sym (ap (λ z. z.member) also)) (sym (ap (λ z. z.own_number) also)) in
      ap (λ k. ahead k (stood_key u)) is ∙ ap (ahead (key_of x)) other ∙ h.2)
      stood stood h.0 h.1

  -- a row of a response of this class at this price
  abbrev Here : ℤ → Class → FillRow → Type 0
  Here z c f = (f.price ≡ turned_price side z) × (f.class ≡ c) × (of_response f ≡ true)

  here_rows : (z : ℤ) (c : Class) (k n : ℕ) (xs : List Response) (rows : List FillRow) → ClassRows side z c k n xs rows → AllByRecursion (Here z c) rows
  here_rows z c k n xs rows cs =
      all_both (λ f. f.price ≡ turned_price side z) (λ f. (f.class ≡ c) × (of_response f ≡ true)) (Here z c) (λ f p q. (p, q.0, q.1)) rows cs.at_price
      (all_both (λ f. f.class ≡ c) (λ f. of_response f ≡ true) (λ f. (f.class ≡ c) × (of_response f ≡ true)) (λ f p q. (p, q)) rows cs.of_class cs.of_responses)

  same_level : (z : ℤ) (f g : FillRow) → f.price ≡ turned_price side z → g.price ≡ turned_price side z → row_price side f ≤ℤ row_price side g
  same_level z f g p q = let e : row_price side f ≡ row_price side g = ap (turned_price side) (p ∙ sym q) in grind (arith, ints)

  one_more_is : (rows mates : List FillRow) (k n : ℕ) (f : FillRow) → classmates f rows ≡ mates → filled_in mates ≡ k → size_in mates ≡ n → GotOneMore rows f ≡ OneMore k n f
  one_more_is rows mates k n f e a b =
      ap (λ (gs : List FillRow). f.filled ≡ filled_in gs * (f.filled + f.left) / size_in gs + 1) e
      ∙ ap (λ (j : ℕ). f.filled ≡ j * (f.filled + f.left) / size_in mates + 1) a
      ∙ ap (λ (j : ℕ). f.filled ≡ k * (f.filled + f.left) / j + 1) b

  module _ (l : Level) (rows : List FillRow) where
    -- the rows of one class, of which these are the classmates
    class_follows : (c : Class) (k n p : ℕ) (xs : List Response) (C : List FillRow) → ClassRows side l.price c k n xs C → ((f : FillRow) → of_response f ≡ true → f.class ≡ c → order_at_price f ≡ p)
        → ((f : FillRow) → f.class ≡ c → f.price ≡ turned_price side l.price → classmates f rows ≡ C)
        → AllInOrder (RankedAhead ahead stood) C → AllInOrder (OneMoreFirst k n) C → AllInOrder (Follows rows) C
    class_follows c k n p xs C cs place mates ranked odd =
        in_order_among (Here l.price c) (λ f g. RankedAhead ahead stood f g × OneMoreFirst k n f g) (Follows rows)
        (λ f g a b both.
        let one = one_more_is rows C k n f (mates f a.1 a.0) cs.filled_is cs.size_is in
        let other = one_more_is rows C k n g (mates g b.1 b.0) cs.filled_is cs.size_is in
        record {
          by_price = same_level l.price f g a.0 b.0;
          by_class = λ _. omega (arith, place f a.2 a.1, place g b.2 b.1);
          one_contra = λ h _ _. no_contra f a.2 h;
          by_ranking = λ _ _. both.0;
          odd_first = λ _ _ h. subst (λ (X : Type 0). X) (sym one) (both.1 (subst (λ (X : Type 0). X) other h));
        })
        C (here_rows l.price c k n xs C cs) (in_order_both (RankedAhead ahead stood) (OneMoreFirst k n) C ranked odd)

    -- rows at one price of which the second is no classmate of the first
    apart_follows : (f g : FillRow) → f.price ≡ turned_price side l.price → g.price ≡ turned_price side l.price → order_at_price f ≤ order_at_price g → (of_contra f ≡ true → of_contra g ≡ true → ⊥) → (of_response f ≡ true → classmate f g ≡ false) → Follows rows f g
    apart_follows f g p q le one others = record {
      by_price = same_level l.price f g p q;
      by_class = λ _. le;
      one_contra = λ a b _. one a b;
      by_ranking = λ r m. absurd (both_ways (classmate f g) (others r) m);
      odd_first = λ r m. absurd (both_ways (classmate f g) (others r) m);
    }

    level_follows : (contra_price floor initiating : ℤ) (r : ℕ) (s : Split) → rows ≡ level_rows side l s → LevelClasses side contra_price l r s
        → AllInOrder (RankedAhead ahead stood) (shared_rows side s.customers l.customers) → AllInOrder (RankedAhead ahead stood) (shared_rows side s.others l.others)
        → AllInOrder (OneMoreFirst s.customers (total (sizes l.customers))) (shared_rows side s.customers l.customers) → AllInOrder (OneMoreFirst s.others (total (sizes l.others))) (shared_rows side s.others l.others)
        → AllInOrder (Follows rows) (level_rows side l s)
    level_follows contra_price floor initiating r s is classes ranked_customers ranked_others odd_customers odd_others =
        in_order_append (Follows rows) C (K ++ O)
        (class_follows Customer s.customers (total (sizes l.customers)) 0 l.customers C cs customers_place
        (λ f c p. ap (classmates f) is ∙ mates_of_customers side contra_price floor initiating l r s C K O cs ks os classes.split_up f c p)
        ranked_customers odd_customers)
        (all_pairs (Here l.price Customer) After (Follows rows)
        (λ f g a b. apart_follows f g a.0 b.0 (omega (arith, customers_place f a.2 a.1)) (λ h _. no_contra f a.2 h) (λ _. b.1 f a.1))
        C (K ++ O) (here_rows l.price Customer s.customers (total (sizes l.customers)) l.customers C cs)
        (All-append After K O
        (all_both (λ f. f.price ≡ turned_price side l.price) (λ f. of_response f ≡ false) After (λ f p n. (p, λ e _. mate_contra e f n)) K ks.at_price ks.of_none)
        (All-weaker (Here l.price Other) After (λ f h. (h.0, λ e c. mate_class e f (ap (λ (x : Class). same_class x f.class) c ∙ ap (same_class Customer) h.1))) O others)))
        (in_order_append (Follows rows) K O (contra_alone side l.price s.contra (Follows rows))
        (all_pairs (λ f. (f.price ≡ turned_price side l.price) × (of_response f ≡ false)) (Here l.price Other) (Follows rows)
        (λ f g a b. apart_follows f g a.0 b.0 (omega (arith, contras_place f a.1, others_place g b.2 b.1)) (λ _ h. no_contra g b.2 h) (λ y. absurd (both_ways (of_response f) a.1 y)))
        K O (all_both (λ f. f.price ≡ turned_price side l.price) (λ f. of_response f ≡ false) (λ f. (f.price ≡ turned_price side l.price) × (of_response f ≡ false)) (λ f p q. (p, q)) K ks.at_price ks.of_none) others)
        (class_follows Other s.others (total (sizes l.others)) 2 l.others O os others_place
        (λ f c p. ap (classmates f) is ∙ mates_of_others side contra_price floor initiating l r s C K O cs ks os classes.split_up f c p)
        ranked_others odd_others))
      where
        C : List FillRow
        C = shared_rows side s.customers l.customers

        K : List FillRow
        K = contra_rows side l.price s.contra

        O : List FillRow
        O = shared_rows side s.others l.others

        cs : ClassRows side l.price Customer s.customers (total (sizes l.customers)) l.customers C
        cs = classes.of_customers

        ks : ContraRows side l.price s.contra K
        ks = classes.of_contra

        os : ClassRows side l.price Other s.others (total (sizes l.others)) l.others O
        os = classes.of_others

        -- at the level's price, and no classmate of a customer's row
        After : FillRow → Type 0
        After g = (g.price ≡ turned_price side l.price) × ((f : FillRow) → f.class ≡ Customer → classmate f g ≡ false)

        others : AllByRecursion (Here l.price Other) O
        others = here_rows l.price Other s.others (total (sizes l.others)) l.others O os

  -- each class of a level in ranking order, and its responses as they stood
  abbrev pub Ranked : Level → Type 0
  Ranked l = (Ordered (by_key ahead) l.customers × Ordered (by_key ahead) l.others) × (AllByRecursion (StoodOnce stood) l.customers × AllByRecursion (StoodOnce stood) l.others)

  class_ranked : (k : ℕ) (xs : List Response) → Ordered (by_key ahead) xs → AllByRecursion (StoodOnce stood) xs → AllInOrder (RankedAhead ahead stood) (shared_rows side k xs)
  class_ranked k xs o once =
      rows_in_order side (λ x y. StoodOnce stood x × StoodOnce stood y × (by_key ahead x y ≡ true)) (RankedAhead ahead stood) ranked_rows xs (shares k (sizes xs))
      (in_order_among (StoodOnce stood) (λ x y. by_key ahead x y ≡ true) (λ x y. StoodOnce stood x × StoodOnce stood y × (by_key ahead x y ≡ true)) (λ x y a b h. (a, b, h)) xs once o)

  module _ (t : ContraTerms) (floor : ℤ) (low : floor ≤ℤ contra_level t.guarantee.kind t) (high : t.guarantee.price ≤ℤ t.initiating) where
    abbrev Upright : List Level → Type 0
    Upright ls = AllByRecursion (Stands floor t.initiating) (flat ls)

    some : (xs : List Response) → AllByRecursion (Stands floor t.initiating) xs → AllByRecursion (λ (x : Response). 0 < x.size) xs
    some xs a = All-weaker (Stands floor t.initiating) (λ (x : Response). 0 < x.size) (λ x h. h.1) xs a

    first_follows : (l : Level) (ls : List Level) (r m : ℕ) → Holds l → Upright (l ∷ ls) → Ranked l → AllInOrder (Follows (level_rows side l (split_at t l r m))) (level_rows side l (split_at t l r m))
    first_follows l ls r m holds st ranked =
        level_follows l (level_rows side l s) (contra_level t.guarantee.kind t) floor t.initiating r s refl classes
        (class_ranked s.customers l.customers ranked.0.0 ranked.1.0)
        (class_ranked s.others l.others ranked.0.1 ranked.1.1)
        (odd_shared side s.customers l.customers (some l.customers customers) (omega (arith, classes.split_up.customers_are)))
        (odd_shared side s.others l.others (some l.others others) classes.split_up.asked)
      where
        s : Split
        s = split_at t l r m

        S : Response → Type 0
        S = Stands floor t.initiating

        customers : AllByRecursion S l.customers
        customers = all_left S l.customers (l.others ++ flat ls) st

        others : AllByRecursion S l.others
        others = all_left S l.others (flat ls) (all_right S l.customers (l.others ++ flat ls) st)

        classes : LevelClasses side (contra_level t.guarantee.kind t) l r s
        classes = level_classes side t floor l r m holds customers others high

    -- the same rows in a longer list
    longer : (short long : List FillRow) (f g : FillRow) → classmates f long ≡ classmates f short → classmates g long ≡ classmates g short → Follows short f g → Follows long f g
    longer short long f g a b h = record {
      by_price = h.by_price;
      by_class = h.by_class;
      one_contra = h.one_contra;
      by_ranking = h.by_ranking;
      odd_first = λ r m one. subst (λ (gs : List FillRow). f.filled ≡ filled_in gs * (f.filled + f.left) / size_in gs + 1) (sym a)
          (h.odd_first r m (subst (λ (gs : List FillRow). g.filled ≡ filled_in gs * (g.filled + g.left) / size_in gs + 1) b one));
    }

    fills_follow : (ls : List Level) (r m : ℕ) → AllByRecursion Holds ls → Ascending ls → Upright ls → AllByRecursion Ranked ls → AllInOrder (Follows (fills side t ls r m)) (fills side t ls r m)
    fills_follow [] r m holds up st ranked = tt
    fills_follow (l ∷ ls) r m (h, holds) up st (k, ranked) =
        in_order_append (Follows (A ++ B)) A B
        (in_order_among here (Follows A) (Follows (A ++ B)) (λ f g a b. longer A (A ++ B) f g (in_first f a) (in_first g b)) A at (first_follows l ls r m h st k))
        (all_pairs here above (Follows (A ++ B)) past A B at over)
        (in_order_among above (Follows B) (Follows (A ++ B)) (λ f g a b. longer B (A ++ B) f g (in_later f a) (in_later g b)) B over
        (fills_follow ls (r - total_taken (split_at t l r m)) (m + (split_at t l r m).contra) holds up.1 (later_stand side t floor low high l ls st) ranked))
      where
        A : List FillRow
        A = first side t floor low high l r m

        B : List FillRow
        B = later side t floor low high l ls r m

        here : FillRow → Type 0
        here f = turned_price side f.price ≡ l.price

        above : FillRow → Type 0
        above f = l.price <ℤ turned_price side f.price

        at : AllByRecursion here A
        at = first_at side t floor low high l ls r m h st

        over : AllByRecursion above B
        over = later_above side t floor low high l ls r m holds up st

        in_first : (f : FillRow) → here f → classmates f (A ++ B) ≡ classmates f A
        in_first = mates_in_first side t floor low high l ls r m over

        in_later : (f : FillRow) → above f → classmates f (A ++ B) ≡ classmates f B
        in_later = mates_in_later side t floor low high l ls r m at

        past : (f g : FillRow) → here f → above g → Follows (A ++ B) f g
        past f g a b =
            let less : row_price side f <ℤ row_price side g = subst (λ (z : ℤ). z <ℤ turned_price side g.price) (sym a) b in
            let differ : f.price ≡ g.price → ⊥ = λ e. (let same : row_price side f ≡ row_price side g = ap (turned_price side) e in grind (arith, ints)) in
            record {
              by_price = grind (arith, ints);
              by_class = λ e. absurd (differ e);
              one_contra = λ _ _. differ;
              by_ranking = λ r m. absurd (both_ways (classmate f g) (mate_above side f g less) m);
              odd_first = λ r m. absurd (both_ways (classmate f g) (mate_above side f g less) m);
            }

    -- the rows of levels in ranking order stand in their order
    pub rows_stand : (ls : List Level) (r m : ℕ) → AllByRecursion Holds ls → Ascending ls → Upright ls → AllByRecursion Ranked ls → RowLaws side ahead stood (fills side t ls r m)
    rows_stand ls r m holds up st ranked =
        let rows : List FillRow = fills side t ls r m in
        let all = fills_follow ls r m holds up st ranked in
        record {
          by_price = in_order_weaker (Follows rows) _ (λ f g h. h.by_price) rows all;
          by_class = in_order_weaker (Follows rows) _ (λ f g h. h.by_class) rows all;
          one_contra = in_order_weaker (Follows rows) _ (λ f g h. h.one_contra) rows all;
          by_ranking = in_order_weaker (Follows rows) _ (λ f g h. h.by_ranking) rows all;
          odd_first = in_order_weaker (Follows rows) _ (λ f g h. h.odd_first) rows all;
        }
