-- What the rows of one level come to, each law of the fill list at that level alone.
use Rattle.std.proofs.Common.{◌≡◌, ℕ, ◌+◌, ◌<◌, Bool, true, false, ltb, List, [], ◌∷◌, ◌++◌, map, ℤ, ◌≤ℤ◌, sym, refl, ap, ◌∙◌, subst, inl, inr, arith}
use borrow.Author.Differences.{ints}
use Rattle.std.specs.List.{AllByRecursion}
use Rattle.std.proofs.ByRecursion.{All-append, All-weaker}
use Rattle.std.proofs.lemmas.List.{append-nil, map-append}
use Rattle.std.proofs.lemmas.Bool.{ltb-true, ltb-false, cases_lt, cond_both, both_ways}
use Rattle.market.specs.declared.side.Side.{Side}
use Rattle.market.specs.Side.{turned_price}
use Rattle.allocation.specs.declared.fill.FillRow.{FillRow}
use Rattle.allocation.specs.declared.order.ContraTerms.{ContraTerms}
use Rattle.allocation.specs.declared.order.GuaranteeKind.{GuaranteeKind}
use Rattle.allocation.specs.declared.order.GuaranteeKind.TheVariants.{SingleStop, AutoMatchLimit}
use Rattle.allocation.specs.declared.response.Class.{Class}
use Rattle.allocation.specs.declared.response.Class.TheVariants.{Customer, Other}
use Rattle.allocation.specs.declared.response.Response.{Response}
use Rattle.allocation.specs.FillLaws.{row_listing, of_response, those, filled_in, size_in, same_class, classmate, classmates, ProRata, ContraRow}
use Rattle.allocation.specs.Fill.{shared_rows, contra_row, contra_rows, level_rows, split_at}
use Rattle.allocation.specs.Levels.{Level, contra_level}
use Rattle.allocation.specs.Share.{sizes, total}
use Rattle.allocation.specs.Split.{Split, total_taken}
use Rattle.allocation.proofs.ClassRows.{ClassRows, listed, class_laws, rows_none}
use Rattle.allocation.proofs.LevelShape.{At, Holds}
use Rattle.allocation.proofs.Mates.{turned_twice, mate_same, mate_contra, mate_class, near_mates}
use Rattle.allocation.proofs.RowLists.{kept_append, kept_none, kept_all, sum_append, all_both, all_always, all_pairs}
use Rattle.allocation.proofs.SplitFacts.{Reached, SplitLaws, split_laws}

-- A response that stood: it has a member and a size, and its price is from the floor to the initiating price.
abbrev pub Stands : ℤ → ℤ → Response → Type 0
Stands floor initiating x = (0 < x.member) × (0 < x.size) × (floor ≤ℤ x.price) × (x.price ≤ℤ initiating)

-- rows of k contracts that the contra got at a price
pub record ContraRows (side : Side) (price : ℤ) (k : ℕ) (rows : List FillRow) : Type 0 where
  pub at_price : AllByRecursion (λ (f : FillRow). f.price ≡ turned_price side price) rows
  pub of_class : AllByRecursion (λ (f : FillRow). f.class ≡ Other) rows
  pub of_none : AllByRecursion (λ (f : FillRow). of_response f ≡ false) rows
  pub are_contra : AllByRecursion ContraRow rows
  pub filled_is : filled_in rows ≡ k
  pub each_filled : AllByRecursion (λ (f : FillRow). f.filled ≡ k) rows

pub contra_laws : (side : Side) (price : ℤ) (k : ℕ) → ContraRows side price k (contra_rows side price k)
contra_laws side price k =
    cond_both (ltb 0 k) (contra_row side price k ∷ []) [] (ContraRows side price k)
    (λ e. record {
      at_price = (refl, tt);
      of_class = (refl, tt);
      of_none = (refl, tt);
      are_contra = (record { no_number = refl; as_other = refl; as_plain = refl; some_filled = ltb-true 0 k e; none_left = refl }, tt);
      filled_is = omega arith;
      each_filled = (refl, tt);
    })
    (λ e. record { at_price = tt; of_class = tt; of_none = tt; are_contra = tt; filled_is = omega (arith, ltb-false 0 k e); each_filled = tt })

-- where something is asked for, the price is in the range
asked_range : (floor initiating price : ℤ) (c : Class) (xs : List Response) → AllByRecursion (At price c) xs → AllByRecursion (Stands floor initiating) xs → 0 < total (sizes xs) → (floor ≤ℤ price) × (price ≤ℤ initiating)
asked_range floor initiating price c [] here stand h = absurd (omega arith)
asked_range floor initiating price c (x ∷ xs) (at, here) (s, stand) h =
    let is : x.price ≡ price = at.0 in
    (subst (λ (z : ℤ). floor ≤ℤ z) is s.2, subst (λ (z : ℤ). z ≤ℤ initiating) is s.3)

own_in_range : (kind : GuaranteeKind) (t : ContraTerms) → t.guarantee.price ≤ℤ t.initiating → contra_level kind t ≤ℤ t.initiating
own_in_range SingleStop t h = h
own_in_range AutoMatchLimit t h = grind (arith, ints)

-- rows of a level, with a split s of the r contracts that were left
pub record LevelLaws (side : Side) (contra_price floor initiating : ℤ) (l : Level) (r : ℕ) (s : Split) (rows : List FillRow) : Type 0 where
  pub listed_are : map row_listing (those of_response rows) ≡ map (listed side) l.customers ++ map (listed side) l.others
  pub contras : AllByRecursion (λ (f : FillRow). of_response f ≡ false → ContraRow f) rows
  pub filled_is : filled_in rows ≡ total_taken s
  pub at_price : AllByRecursion (λ (f : FillRow). f.price ≡ turned_price side l.price) rows
  pub in_range : Reached contra_price l.price r → AllByRecursion (λ (f : FillRow). 0 < f.filled → (floor ≤ℤ turned_price side f.price) × (turned_price side f.price ≤ℤ initiating)) rows
  pub lack : Reached contra_price l.price r → AllByRecursion (λ (g : FillRow). of_response g ≡ true → 0 < g.left → total_taken s ≡ r) rows
  pub customers_first : AllByRecursion (λ (f : FillRow). AllByRecursion (λ (g : FillRow). g.class ≡ Customer → 0 < g.left → f.class ≡ Other → f.filled ≡ 0) rows) rows
  pub pro_rata : AllByRecursion (λ (f : FillRow). of_response f ≡ true → ProRata (filled_in (classmates f rows)) (size_in (classmates f rows)) f) rows

pub not_both : (c : Class) → c ≡ Customer → c ≡ Other → ⊥
not_both c p q = let z : ◌≡◌ {A = ℕ} 0 1 = cc in omega arith

module _ (side : Side) (contra_price floor initiating : ℤ) (l : Level) (r : ℕ) (s : Split) (C K O : List FillRow)
    (cs : ClassRows side l.price Customer s.customers (total (sizes l.customers)) l.customers C)
    (ks : ContraRows side l.price s.contra K)
    (os : ClassRows side l.price Other s.others (total (sizes l.others)) l.others O)
    (laws : SplitLaws contra_price l.price r (total (sizes l.customers)) (total (sizes l.others)) s) where
  -- what holds of the rows of each of the three holds of the level's
  all_three : (P : FillRow → Type 0) → AllByRecursion P C → AllByRecursion P K → AllByRecursion P O → AllByRecursion P (C ++ (K ++ O))
  all_three P a b c = All-append P C (K ++ O) a (All-append P K O b c)

  kept_three : (p : FillRow → Bool) (x y z : List FillRow) → those p C ≡ x → those p K ≡ y → those p O ≡ z → those p (C ++ (K ++ O)) ≡ x ++ (y ++ z)
  kept_three p x y z a b c = let one = kept_append p C (K ++ O) in let two = kept_append p K O in cc

  level_listed : map row_listing (those of_response (C ++ (K ++ O))) ≡ map (listed side) l.customers ++ map (listed side) l.others
  level_listed =
      let rows = kept_three of_response C [] O (kept_all of_response C cs.of_responses) (kept_none of_response K ks.of_none) (kept_all of_response O os.of_responses) in
      let split_up = map-append row_listing C O in
      let c = cs.listed_are in
      let o = os.listed_are in
      cc (ap (map row_listing) rows)

  level_contras : AllByRecursion (λ (f : FillRow). of_response f ≡ false → ContraRow f) (C ++ (K ++ O))
  level_contras =
      all_three (λ f. of_response f ≡ false → ContraRow f)
      (All-weaker (λ f. of_response f ≡ true) (λ f. of_response f ≡ false → ContraRow f) (λ f y n. absurd (both_ways (of_response f) n y)) C cs.of_responses)
      (All-weaker ContraRow (λ f. of_response f ≡ false → ContraRow f) (λ f k _. k) K ks.are_contra)
      (All-weaker (λ f. of_response f ≡ true) (λ f. of_response f ≡ false → ContraRow f) (λ f y n. absurd (both_ways (of_response f) n y)) O os.of_responses)

  level_filled : filled_in (C ++ (K ++ O)) ≡ total_taken s
  level_filled = omega (arith, sum_append (λ (f : FillRow). f.filled) C (K ++ O), sum_append (λ (f : FillRow). f.filled) K O, cs.filled_is, ks.filled_is, os.filled_is)

  level_price : AllByRecursion (λ (f : FillRow). f.price ≡ turned_price side l.price) (C ++ (K ++ O))
  level_price = all_three (λ f. f.price ≡ turned_price side l.price) cs.at_price ks.at_price os.at_price

  level_range : (0 < total_taken s → (floor ≤ℤ l.price) × (l.price ≤ℤ initiating)) → AllByRecursion (λ (f : FillRow). 0 < f.filled → (floor ≤ℤ turned_price side f.price) × (turned_price side f.price ≤ℤ initiating)) (C ++ (K ++ O))
  level_range h =
      let P : FillRow → Type 0 = λ f. 0 < f.filled → (floor ≤ℤ turned_price side f.price) × (turned_price side f.price ≤ℤ initiating) in
      elim (cases_lt 0 (total_taken s)) [
        | inl some ↦ All-weaker (λ f. f.price ≡ turned_price side l.price) P (λ f e _. subst (λ (z : ℤ). (floor ≤ℤ z) × (z ≤ℤ initiating)) (sym (ap (turned_price side) e ∙ turned_twice side l.price)) (h some)) (C ++ (K ++ O)) level_price
        | inr none ↦ All-weaker (λ f. f.filled ≡ 0) P (λ f e k. absurd (omega arith)) (C ++ (K ++ O)) (rows_none (C ++ (K ++ O)) (omega (arith, level_filled)))
      ]

  level_lack : Reached contra_price l.price r → AllByRecursion (λ (g : FillRow). of_response g ≡ true → 0 < g.left → total_taken s ≡ r) (C ++ (K ++ O))
  level_lack reached =
      let P : FillRow → Type 0 = λ g. of_response g ≡ true → 0 < g.left → total_taken s ≡ r in
      all_three P
      (All-weaker (λ g. 0 < g.left → s.customers < total (sizes l.customers)) P (λ g h _ k. (laws.customers_lack (h k)).2) C cs.lack)
      (All-weaker (λ g. of_response g ≡ false) P (λ g n y _. absurd (both_ways (of_response g) n y)) K ks.of_none)
      (All-weaker (λ g. 0 < g.left → s.others < total (sizes l.others)) P (λ g h _ k. laws.others_lack reached (h k)) O os.lack)

  level_customers : AllByRecursion (λ (f : FillRow). AllByRecursion (λ (g : FillRow). g.class ≡ Customer → 0 < g.left → f.class ≡ Other → f.filled ≡ 0) (C ++ (K ++ O))) (C ++ (K ++ O))
  level_customers = elim (cases_lt s.customers (total (sizes l.customers))) [
    | inl less ↦
        let none = laws.customers_lack less in
        let P : FillRow → Type 0 = λ f. f.class ≡ Other → f.filled ≡ 0 in
        all_pairs P (λ _. Unit {0}) R (λ f g h _ _ _ o. h o) rows rows
        (all_three P
        (All-weaker (λ f. f.class ≡ Customer) P (λ f c o. absurd (not_both f.class c o)) C cs.of_class)
        (All-weaker (λ f. f.filled ≡ s.contra) P (λ f e _. e ∙ none.0) K ks.each_filled)
        (All-weaker (λ f. f.filled ≡ 0) P (λ f e _. e) O (os.nothing none.1)))
        (all_always (λ _. Unit {0}) (λ _. tt) rows)
    | inr all ↦
        let Q : FillRow → Type 0 = λ g. g.class ≡ Customer → 0 < g.left → ⊥ in
        all_pairs (λ _. Unit {0}) Q R (λ f g _ h c k _. absurd (h c k)) rows rows
        (all_always (λ _. Unit {0}) (λ _. tt) rows)
        (all_three Q
        (All-weaker (λ g. 0 < g.left → s.customers < total (sizes l.customers)) Q (λ g h _ k. omega (arith, h k)) C cs.lack)
        (All-weaker (λ g. g.class ≡ Other) Q (λ g o c _. not_both g.class c o) K ks.of_class)
        (All-weaker (λ g. g.class ≡ Other) Q (λ g o c _. not_both g.class c o) O os.of_class))
  ]
    where
      rows : List FillRow
      rows = C ++ (K ++ O)

      R : FillRow → FillRow → Type 0
      R f g = g.class ≡ Customer → 0 < g.left → f.class ≡ Other → f.filled ≡ 0

  -- the classmates of a customer's row are the customers' rows, and those of another response's row the others'
  pub mates_of_customers : (f : FillRow) → f.class ≡ Customer → f.price ≡ turned_price side l.price → classmates f (C ++ (K ++ O)) ≡ C
  mates_of_customers f c p =
      kept_three (classmate f) C [] []
      (kept_all (classmate f) C (all_both (λ g. of_response g ≡ true) (λ g. (g.class ≡ Customer) × (g.price ≡ turned_price side l.price)) (λ g. classmate f g ≡ true) (λ g y h. mate_same f g y (c ∙ sym h.0) (p ∙ sym h.1)) C cs.of_responses
      (all_both (λ g. g.class ≡ Customer) (λ g. g.price ≡ turned_price side l.price) (λ g. (g.class ≡ Customer) × (g.price ≡ turned_price side l.price)) (λ g a b. (a, b)) C cs.of_class cs.at_price)))
      (kept_none (classmate f) K (All-weaker (λ g. of_response g ≡ false) (λ g. classmate f g ≡ false) (λ g n. mate_contra f g n) K ks.of_none))
      (kept_none (classmate f) O (All-weaker (λ g. g.class ≡ Other) (λ g. classmate f g ≡ false) (λ g o. mate_class f g (ap (λ (x : Class). same_class x g.class) c ∙ ap (same_class Customer) o)) O os.of_class))
      ∙ append-nil C

  pub mates_of_others : (f : FillRow) → f.class ≡ Other → f.price ≡ turned_price side l.price → classmates f (C ++ (K ++ O)) ≡ O
  mates_of_others f c p =
      kept_three (classmate f) [] [] O
      (kept_none (classmate f) C (All-weaker (λ g. g.class ≡ Customer) (λ g. classmate f g ≡ false) (λ g o. mate_class f g (ap (λ (x : Class). same_class x g.class) c ∙ ap (same_class Other) o)) C cs.of_class))
      (kept_none (classmate f) K (All-weaker (λ g. of_response g ≡ false) (λ g. classmate f g ≡ false) (λ g n. mate_contra f g n) K ks.of_none))
      (kept_all (classmate f) O (all_both (λ g. of_response g ≡ true) (λ g. (g.class ≡ Other) × (g.price ≡ turned_price side l.price)) (λ g. classmate f g ≡ true) (λ g y h. mate_same f g y (c ∙ sym h.0) (p ∙ sym h.1)) O os.of_responses
      (all_both (λ g. g.class ≡ Other) (λ g. g.price ≡ turned_price side l.price) (λ g. (g.class ≡ Other) × (g.price ≡ turned_price side l.price)) (λ g a b. (a, b)) O os.of_class os.at_price)))

  level_near : AllByRecursion (λ (f : FillRow). of_response f ≡ true → ProRata (filled_in (classmates f (C ++ (K ++ O)))) (size_in (classmates f (C ++ (K ++ O)))) f) (C ++ (K ++ O))
  level_near =
      all_three P
      (all_both (λ f. (f.class ≡ Customer) × (f.price ≡ turned_price side l.price)) (ProRata s.customers (total (sizes l.customers))) P
      (λ f h n _. near_mates f rows C (mates_of_customers f h.0 h.1) (given f C s.customers (total (sizes l.customers)) cs.filled_is cs.size_is n))
      C
      (all_both (λ f. f.class ≡ Customer) (λ f. f.price ≡ turned_price side l.price) (λ f. (f.class ≡ Customer) × (f.price ≡ turned_price side l.price)) (λ f a b. (a, b)) C cs.of_class cs.at_price)
      cs.near)
      (All-weaker (λ f. of_response f ≡ false) P (λ f n y. absurd (both_ways (of_response f) n y)) K ks.of_none)
      (all_both (λ f. (f.class ≡ Other) × (f.price ≡ turned_price side l.price)) (ProRata s.others (total (sizes l.others))) P
      (λ f h n _. near_mates f rows O (mates_of_others f h.0 h.1) (given f O s.others (total (sizes l.others)) os.filled_is os.size_is n))
      O
      (all_both (λ f. f.class ≡ Other) (λ f. f.price ≡ turned_price side l.price) (λ f. (f.class ≡ Other) × (f.price ≡ turned_price side l.price)) (λ f a b. (a, b)) O os.of_class os.at_price)
      os.near)
    where
      rows : List FillRow
      rows = C ++ (K ++ O)

      P : FillRow → Type 0
      P f = of_response f ≡ true → ProRata (filled_in (classmates f rows)) (size_in (classmates f rows)) f

      given : (f : FillRow) (gs : List FillRow) (k n : ℕ) → filled_in gs ≡ k → size_in gs ≡ n → ProRata k n f → ProRata (filled_in gs) (size_in gs) f
      given f gs k n a b h = subst (λ (x : ℕ). ProRata x (size_in gs) f) (sym a) (subst (λ (x : ℕ). ProRata k x f) (sym b) h)

-- the rows of a level, class by class, and how it is split
pub record LevelClasses (side : Side) (contra_price : ℤ) (l : Level) (r : ℕ) (s : Split) : Type 0 where
  pub of_customers : ClassRows side l.price Customer s.customers (total (sizes l.customers)) l.customers (shared_rows side s.customers l.customers)
  pub of_contra : ContraRows side l.price s.contra (contra_rows side l.price s.contra)
  pub of_others : ClassRows side l.price Other s.others (total (sizes l.others)) l.others (shared_rows side s.others l.others)
  pub split_up : SplitLaws contra_price l.price r (total (sizes l.customers)) (total (sizes l.others)) s

pub level_classes : (side : Side) (t : ContraTerms) (floor : ℤ) (l : Level) (r m : ℕ) → Holds l → AllByRecursion (Stands floor t.initiating) l.customers → AllByRecursion (Stands floor t.initiating) l.others → t.guarantee.price ≤ℤ t.initiating → LevelClasses side (contra_level t.guarantee.kind t) l r (split_at t l r m)
level_classes side t floor l r m holds customers others high = record {
  of_customers = class_laws side l.price Customer s.customers l.customers holds.customers_here (members l.customers customers) (some l.customers customers) (omega (arith, laws.customers_are));
  of_contra = contra_laws side l.price s.contra;
  of_others = class_laws side l.price Other s.others l.others holds.others_here (members l.others others) (some l.others others) laws.asked;
  split_up = laws;
}
  where
    s : Split
    s = split_at t l r m

    laws : SplitLaws (contra_level t.guarantee.kind t) l.price r (total (sizes l.customers)) (total (sizes l.others)) s
    laws = split_laws t l.price r m (total (sizes l.customers)) (total (sizes l.others)) high

    members : (xs : List Response) → AllByRecursion (Stands floor t.initiating) xs → AllByRecursion (λ (x : Response). 0 < x.member) xs
    members xs a = All-weaker (Stands floor t.initiating) (λ (x : Response). 0 < x.member) (λ x h. h.0) xs a

    some : (xs : List Response) → AllByRecursion (Stands floor t.initiating) xs → AllByRecursion (λ (x : Response). 0 < x.size) xs
    some xs a = All-weaker (Stands floor t.initiating) (λ (x : Response). 0 < x.size) (λ x h. h.1) xs a

pub level_laws : (side : Side) (t : ContraTerms) (floor : ℤ) (l : Level) (r m : ℕ) → Holds l → AllByRecursion (Stands floor t.initiating) l.customers → AllByRecursion (Stands floor t.initiating) l.others → floor ≤ℤ contra_level t.guarantee.kind t → t.guarantee.price ≤ℤ t.initiating → LevelLaws side (contra_level t.guarantee.kind t) floor t.initiating l r (split_at t l r m) (level_rows side l (split_at t l r m))
level_laws side t floor l r m holds customers others low high =
    record {
      listed_are = level_listed side contra_price floor t.initiating l r s C K O cs ks os laws;
      contras = level_contras side contra_price floor t.initiating l r s C K O cs ks os laws;
      filled_is = level_filled side contra_price floor t.initiating l r s C K O cs ks os laws;
      at_price = level_price side contra_price floor t.initiating l r s C K O cs ks os laws;
      in_range = λ reached. level_range side contra_price floor t.initiating l r s C K O cs ks os laws (range reached);
      lack = λ reached. level_lack side contra_price floor t.initiating l r s C K O cs ks os laws reached;
      customers_first = level_customers side contra_price floor t.initiating l r s C K O cs ks os laws;
      pro_rata = level_near side contra_price floor t.initiating l r s C K O cs ks os laws;
    }
  where
    contra_price : ℤ
    contra_price = contra_level t.guarantee.kind t

    c : ℕ
    c = total (sizes l.customers)

    n : ℕ
    n = total (sizes l.others)

    s : Split
    s = split_at t l r m

    classes : LevelClasses side contra_price l r s
    classes = level_classes side t floor l r m holds customers others high

    laws : SplitLaws contra_price l.price r c n s
    laws = classes.split_up

    C : List FillRow
    C = shared_rows side s.customers l.customers

    K : List FillRow
    K = contra_rows side l.price s.contra

    O : List FillRow
    O = shared_rows side s.others l.others

    cs : ClassRows side l.price Customer s.customers c l.customers C
    cs = classes.of_customers

    ks : ContraRows side l.price s.contra K
    ks = classes.of_contra

    os : ClassRows side l.price Other s.others n l.others O
    os = classes.of_others

    stood : 0 < c + n → (floor ≤ℤ l.price) × (l.price ≤ℤ t.initiating)
    stood h = elim (cases_lt 0 c) [
      | inl k ↦ asked_range floor t.initiating l.price Customer l.customers holds.customers_here customers k
      | inr k ↦ asked_range floor t.initiating l.price Other l.others holds.others_here others (omega arith)
    ]

    at_own : l.price ≡ contra_price → (floor ≤ℤ l.price) × (l.price ≤ℤ t.initiating)
    at_own e = subst (λ (z : ℤ). (floor ≤ℤ z) × (z ≤ℤ t.initiating)) (sym e) (low, own_in_range t.guarantee.kind t high)

    range : Reached contra_price l.price r → 0 < total_taken s → (floor ≤ℤ l.price) × (l.price ≤ℤ t.initiating)
    range reached h = elim (cases_lt 0 s.contra) [
      | inl k ↦ elim (laws.contra_where reached k) [ inl e ↦ at_own e | inr k' ↦ stood k' ]
      | inr k ↦ stood (omega (arith, laws.customers_are, laws.asked))
    ]
