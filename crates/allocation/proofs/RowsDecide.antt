-- Rows that keep the laws of a fill list and of the order of its rows, and have the same shares, are the same rows: they list
-- the same responses and the same rows of the contra, in one order; and in a class at a price each gets its part rounded down,
-- and as many of the first one more.
use Rattle.std.proofs.Common.{◌≡◌, ℕ, ◌+◌, ◌*◌, ◌/◌, ◌<◌, ◌≤◌, Bool, true, false, cond, not, ◌&&◌, List, [], ◌∷◌, map, ℤ, ◌≤ℤ◌, sym, refl, ap, ◌∙◌, subst, inl, inr, arith}
use borrow.Author.Differences.{ints}
use Rattle.std.specs.Prelude.{◌≢◌}
use Rattle.std.specs.List.{AllZip, AllByRecursion}
use Rattle.std.proofs.ByRecursion.{All-weaker, All-map, all_shuffled}
use Rattle.std.proofs.lemmas.Bool.{both_ways, not-true, ltb-false, and_from}
use Rattle.std.proofs.lemmas.List.Recursion.{is_sum_by}
use Rattle.std.proofs.lemmas.List.Sorted.{IsPermutation-sym, sum_by-IsPermutation}
use Rattle.market.specs.declared.side.Side.{Side}
use Rattle.market.specs.Side.{turned_price}
use Rattle.allocation.specs.declared.fill.FillRow.{FillRow}
use Rattle.allocation.specs.declared.response.Class.{Class}
use Rattle.allocation.specs.declared.response.Class.TheVariants.{Customer, Other}
use Rattle.allocation.specs.declared.response.Key.{Key}
use Rattle.allocation.specs.declared.response.Kind.{Kind}
use Rattle.allocation.specs.ContraLaws.{of_contra, row_price, priced_at}
use Rattle.allocation.specs.FillLaws.{StoodResponse, Listing, listing_of, row_listing, of_response, those, filled_in, size_in, same_price, same_class, classmate, classmates, ProRata, ContraRow, FillLaws}
use Rattle.allocation.specs.OnlyShares.{SameShares}
use Rattle.allocation.specs.Ranking.{AllInOrder}
use Rattle.allocation.specs.RowLaws.{order_at_price, stood_key, Lists, RankedAhead, GotOneMore, RowLaws}
use Rattle.allocation.specs.Share.{total}
use Rattle.allocation.proofs.AuctionKept.{both_left, both_right}
use Rattle.allocation.proofs.InOrder.{IsIn, of_one, all_in, in_map, in_order_map, in_order_among, in_order_both, in_order_weaker, any_two, same_list}
use Rattle.allocation.proofs.LawsDecide.{asked_by_those_that_stood, second_class, same_is, same_row_price}
use Rattle.allocation.proofs.Mates.{turned_twice, same_class_self, same_price_self, mate_same}
use Rattle.allocation.proofs.RowCounts.{kept_cons, kept_alike}
use Rattle.allocation.proofs.RowLists.{kept_none, all_both, all_always}
use Rattle.allocation.proofs.RowOrder.{OneMore, customers_place, others_place, contras_place}
use Rattle.allocation.proofs.StoodApart.{Apart, ListedApart, counts, one_listed, listed_apart}

-- what holds of those that pass a test
module _ {X Y : Type 0} (p : X → Bool) (h : X → Y) where
  passed : (P : Y → Type 0) (xs : List X) → AllByRecursion P (map h (those p xs)) → AllByRecursion (λ x. p x ≡ true → P (h x)) xs
  passed P [] a = tt
  passed P (x ∷ xs) a = go (p x) refl a (passed P xs)
    where
      go : (b : Bool) → p x ≡ b → AllByRecursion P (map h (cond b (x ∷ those p xs) (those p xs))) → (AllByRecursion P (map h (those p xs)) → AllByRecursion (λ y. p y ≡ true → P (h y)) xs) → AllByRecursion (λ y. p y ≡ true → P (h y)) (x ∷ xs)
      go true e (q, r) rest = ((λ _. q), rest r)
      go false e r rest = ((λ t. absurd (both_ways (p x) e t)), rest r)

  passing : (P : Y → Type 0) (xs : List X) → AllByRecursion (λ x. p x ≡ true → P (h x)) xs → AllByRecursion P (map h (those p xs))
  passing P [] a = tt
  passing P (x ∷ xs) (q, a) = go (p x) refl (passing P xs a)
    where
      go : (b : Bool) → p x ≡ b → AllByRecursion P (map h (those p xs)) → AllByRecursion P (map h (cond b (x ∷ those p xs) (those p xs)))
      go true e rest = (q e, rest)
      go false e rest = rest

  passed_in_order : (R : Y → Y → Type 0) (xs : List X) → AllInOrder R (map h (those p xs)) → AllInOrder (λ x y. p x ≡ true → p y ≡ true → R (h x) (h y)) xs
  passed_in_order R [] a = tt
  passed_in_order R (x ∷ xs) a = go (p x) refl a (passed_in_order R xs)
    where
      go : (b : Bool) → p x ≡ b → AllInOrder R (map h (cond b (x ∷ those p xs) (those p xs))) → (AllInOrder R (map h (those p xs)) → AllInOrder (λ y z. p y ≡ true → p z ≡ true → R (h y) (h z)) xs) → AllInOrder (λ y z. p y ≡ true → p z ≡ true → R (h y) (h z)) (x ∷ xs)
      go true e (first, o) rest = (All-weaker (λ y. p y ≡ true → R (h x) (h y)) (λ y. p x ≡ true → p y ≡ true → R (h x) (h y)) (λ y f _ t. f t) xs (passed (R (h x)) xs first), rest o)
      go false e o rest = (all_always (λ y. p x ≡ true → p y ≡ true → R (h x) (h y)) (λ y t. absurd (both_ways (p x) e t)) xs, rest o)

-- rows that are filled are there
found : (p : FillRow → Bool) (rows : List FillRow) → 0 < filled_in (those p rows) → (f : FillRow) × IsIn f rows × (p f ≡ true)
found p [] h = absurd (omega arith)
found p (f ∷ fs) h = go (p f) refl (found p fs)
  where
    go : (b : Bool) → p f ≡ b → (0 < filled_in (those p fs) → (g : FillRow) × IsIn g fs × (p g ≡ true)) → (g : FillRow) × IsIn g (f ∷ fs) × (p g ≡ true)
    go true e rest = (f, inl refl, e)
    go false e rest =
        let c = kept_cons (λ (g : FillRow). g.filled) p f fs in
        let v : cond (p f) f.filled 0 ≡ 0 = ap (λ b. cond b f.filled 0) e in
        let r = rest (omega arith) in
        (r.0, inr r.1, r.2)

-- where one that passes is alone, it got what they got
alone : (p : FillRow → Bool) (f : FillRow) (rows : List FillRow) → p f ≡ true → AllInOrder (λ g h. p g ≡ true → p h ≡ true → ⊥) rows → IsIn f rows → filled_in (those p rows) ≡ f.filled
alone p f [] e o i = absurd i
alone p f (g ∷ gs) e (first, o) (inl is) =
    let here : p g ≡ true = ap p is ∙ e in
    let none = kept_none p gs (All-weaker (λ h. p g ≡ true → p h ≡ true → ⊥) (λ h. p h ≡ false) (λ h clash. not_passing h (clash here)) gs first) in
    let c = kept_cons (λ (h : FillRow). h.filled) p g gs in
    let v : cond (p g) g.filled 0 ≡ g.filled = ap (λ b. cond b g.filled 0) here in
    let z : filled_in (those p gs) ≡ 0 = ap filled_in none in
    let w : g.filled ≡ f.filled = ap (λ (x : FillRow). x.filled) is in
    omega arith
  where
    not_passing : (h : FillRow) → (p h ≡ true → ⊥) → p h ≡ false
    not_passing h clash = elim (p h) as (λ b. (b ≡ true → ⊥) → b ≡ false) [ true ↦ λ k. absurd (k refl) | false ↦ λ k. refl ] clash
alone p f (g ∷ gs) e (first, o) (inr i) = go (p g) refl (alone p f gs e o i)
  where
    go : (b : Bool) → p g ≡ b → filled_in (those p gs) ≡ f.filled → filled_in (those p (g ∷ gs)) ≡ f.filled
    go true t rest = absurd (of_one (λ h. p g ≡ true → p h ≡ true → ⊥) gs f first i t e)
    go false t rest =
        let c = kept_cons (λ (h : FillRow). h.filled) p g gs in
        let v : cond (p g) g.filled 0 ≡ 0 = ap (λ b. cond b g.filled 0) t in
        omega arith

-- A row but for what a response got.
abbrev pub bare : FillRow → FillRow
bare f = record {
  price = f.price;
  member = f.member;
  own_number = f.own_number;
  class = f.class;
  kind = f.kind;
  filled = cond (of_response f) 0 f.filled;
  left = cond (of_response f) (f.filled + f.left) f.left;
}

-- what a row shows, as a row of which nothing is filled
abbrev unfilled : Listing → FillRow
unfilled l = record { price = l.price; member = l.member; own_number = l.own_number; class = l.class; kind = l.kind; filled = 0; left = l.size }

bare_is : (f : FillRow) → of_response f ≡ true → bare f ≡ unfilled (row_listing f)
bare_is f r = ap (λ (b : Bool). record { price = f.price; member = f.member; own_number = f.own_number; class = f.class; kind = f.kind; filled = cond b 0 f.filled; left = cond b (f.filled + f.left) f.left }) r

bare_lists : (f : FillRow) → of_response f ≡ true → row_listing (bare f) ≡ row_listing f
bare_lists f r =
    ap row_listing (bare_is f r)
    ∙ ap (λ (n : ℕ). record { member = f.member; own_number = f.own_number; price = f.price; class = f.class; kind = f.kind; size = n }) (let e : 0 + (f.filled + f.left) ≡ f.filled + f.left = omega arith in e)

-- the contra's row is its own
bare_contra : (f : FillRow) → of_response f ≡ false → bare f ≡ f
bare_contra f r = ap (λ (b : Bool). record { price = f.price; member = f.member; own_number = f.own_number; class = f.class; kind = f.kind; filled = cond b 0 f.filled; left = cond b (f.filled + f.left) f.left }) r

module _ (side : Side) (ahead : Key → Key → Bool) (one_ahead : (x y : Key) → x.arrival ≢ y.arrival → ahead x y ≡ not (ahead y x)) (stood : List StoodResponse) (differ : Apart stood) where
  -- the response of f, which arrived at another time, is ahead of g's
  pub record Ahead (f g : FillRow) : Type 0 where
    pub one : StoodResponse
    pub other : StoodResponse
    pub one_in : IsIn one stood
    pub other_in : IsIn other stood
    pub one_listed_by : Lists f one
    pub other_listed_by : Lists g other
    pub ranked : RankedAhead ahead stood f g
    pub arrived_apart : one.arrival ≡ other.arrival → ⊥

  -- f stands in the list before g
  pub record Before (f g : FillRow) : Type 0 where
    pub by_price : row_price side f ≤ℤ row_price side g
    pub by_class : f.price ≡ g.price → order_at_price f ≤ order_at_price g
    pub one_contra : of_contra f ≡ true → of_contra g ≡ true → f.price ≢ g.price
    pub by_ranking : of_response f ≡ true → classmate f g ≡ true → Ahead f g

  ranked_at : (f g : FillRow) (t u : StoodResponse) → RankedAhead ahead stood f g → IsIn t stood → IsIn u stood → Lists f t → Lists g u → ahead (stood_key t) (stood_key u) ≡ true
  ranked_at f g t u all i j l k =
      of_one (λ y. Lists f t → Lists g y → ahead (stood_key t) (stood_key y) ≡ true) stood u
      (of_one (λ x. AllByRecursion (λ y. Lists f x → Lists g y → ahead (stood_key x) (stood_key y) ≡ true) stood) stood t all i) j l k

  not_both_ahead : (f g : FillRow) → Ahead f g → Ahead g f → ⊥
  not_both_ahead f g a b =
      let there = ranked_at f g a.one a.other a.ranked a.one_in a.other_in a.one_listed_by a.other_listed_by in
      let back = ranked_at g f a.other a.one b.ranked a.other_in a.one_in a.other_listed_by a.one_listed_by in
      both_ways (ahead (stood_key a.one) (stood_key a.other)) (one_ahead (stood_key a.one) (stood_key a.other) a.arrived_apart ∙ ap not back) there

  -- no two rows stand before each other
  not_both_before : (f g : FillRow) → Before f g → Before g f → ⊥
  not_both_before f g a b = go (of_response f) refl (of_response g) refl
    where
      level : row_price side f ≡ row_price side g
      level = let x = a.by_price in let y = b.by_price in grind (arith, ints)

      same : f.price ≡ g.price
      same = same_row_price side f g level

      place : order_at_price f ≡ order_at_price g
      place = let x : order_at_price f ≤ order_at_price g = a.by_class same in let y : order_at_price g ≤ order_at_price f = b.by_class (sym same) in omega arith

      ranked : (c d : Class) → f.class ≡ c → g.class ≡ d → of_response f ≡ true → of_response g ≡ true → ⊥
      ranked Customer Customer k l r s = not_both_ahead f g (a.by_ranking r (mate_same f g s (k ∙ sym l) same)) (b.by_ranking s (mate_same g f r (l ∙ sym k) (sym same)))
      ranked Customer Other k l r s = omega (arith, place, customers_place f r k, others_place g s l)
      ranked Other Customer k l r s = omega (arith, place, others_place f r k, customers_place g s l)
      ranked Other Other k l r s = not_both_ahead f g (a.by_ranking r (mate_same f g s (k ∙ sym l) same)) (b.by_ranking s (mate_same g f r (l ∙ sym k) (sym same)))

      at_one : (x : FillRow) → order_at_price x ≡ 1 → of_response x ≡ true → ⊥
      at_one x e r = go_class x.class refl
        where
          go_class : (c : Class) → x.class ≡ c → ⊥
          go_class Customer k = omega (arith, customers_place x r k)
          go_class Other k = omega (arith, others_place x r k)

      go : (p : Bool) → of_response f ≡ p → (q : Bool) → of_response g ≡ q → ⊥
      go true r true s = ranked f.class g.class refl refl r s
      go true r false s = at_one f (place ∙ contras_place g s) r
      go false r true s = at_one g (sym place ∙ contras_place f r) s
      go false r false s = a.one_contra (ap not r) (ap not s) same

  module _ (rows : List FillRow) (size : ℕ) (floor initiating : ℤ) (laws : FillLaws side size floor initiating stood rows) (order : RowLaws side ahead stood rows) where
    -- what is listed stood
    abbrev FromStood : Listing → Type 0
    FromStood l = (t : StoodResponse) × IsIn t stood × (l ≡ listing_of t)

    from_stood : AllByRecursion (λ f. of_response f ≡ true → FromStood (row_listing f)) rows
    from_stood =
        passed of_response row_listing FromStood rows
        (all_shuffled FromStood (map listing_of stood) (map row_listing (those of_response rows)) laws.each_once
        (All-map FromStood listing_of stood (All-weaker (λ t. IsIn t stood) (λ t. FromStood (listing_of t)) (λ t i. (t, i, refl)) stood (all_in stood))))

    -- no two rows list one response
    owns_differ : AllInOrder (λ f g. of_response f ≡ true → of_response g ≡ true → ListedApart (row_listing f) (row_listing g)) rows
    owns_differ =
        passed_in_order of_response row_listing ListedApart rows
        (listed_apart (map row_listing (those of_response rows)) (λ member own_number.
        let as_stood = sum_by-IsPermutation (counts member own_number) (map listing_of stood) (map row_listing (those of_response rows)) laws.each_once in
        let once = one_listed member own_number (map listing_of stood) (in_order_map listing_of ListedApart stood differ.owns) in
        let a = is_sum_by (λ (ls : List Listing). total (map (counts member own_number) ls)) (counts member own_number) refl (λ x ys. refl) (map row_listing (those of_response rows)) in
        let b = is_sum_by (λ (ls : List Listing). total (map (counts member own_number) ls)) (counts member own_number) refl (λ x ys. refl) (map listing_of stood) in
        omega arith))

    arrivals_differ : AllByRecursion (λ (t : StoodResponse). AllByRecursion (λ (u : StoodResponse). t.arrival ≡ u.arrival → (t.member ≡ u.member) × (t.own_number ≡ u.own_number)) stood) stood
    arrivals_differ =
        any_two (λ (t u : StoodResponse). t.arrival ≡ u.arrival → ⊥) (λ (t u : StoodResponse). t.arrival ≡ u.arrival → (t.member ≡ u.member) × (t.own_number ≡ u.own_number))
        (λ t _. (refl, refl)) (λ t u apart. ((λ e. absurd (apart e)), (λ e. absurd (apart (sym e))))) stood differ.arrivals

    -- one row stands before another
    before_one : (f g : FillRow) → (of_response f ≡ true → FromStood (row_listing f)) → (of_response g ≡ true → FromStood (row_listing g))
        → (of_response f ≡ true → of_response g ≡ true → ListedApart (row_listing f) (row_listing g))
        → (row_price side f ≤ℤ row_price side g) → (f.price ≡ g.price → order_at_price f ≤ order_at_price g) → (of_contra f ≡ true → of_contra g ≡ true → f.price ≢ g.price)
        → (of_response f ≡ true → classmate f g ≡ true → RankedAhead ahead stood f g) → Before (bare f) (bare g)
    before_one f g from also apart price class contra ranking = record {
      by_price = price;
      by_class = class;
      one_contra = contra;
      by_ranking = λ r mates.
          let s = both_left (of_response g) (same_class f.class g.class && same_price f.price g.price) mates in
          let t = from r in
          let u = also s in
          record {
            one = t.0;
            other = u.0;
            one_in = t.1;
            other_in = u.1;
            one_listed_by = bare_lists f r ∙ t.2;
            other_listed_by = bare_lists g s ∙ u.2;
            ranked = All-weaker _ _ (λ x. All-weaker _ _ (λ y h l k. h (sym (bare_lists f r) ∙ l) (sym (bare_lists g s) ∙ k)) stood) stood (ranking r mates);
            arrived_apart = λ e.
                let same = of_one (λ (y : StoodResponse). t.0.arrival ≡ y.arrival → (t.0.member ≡ y.member) × (t.0.own_number ≡ y.own_number)) stood u.0
                (of_one (λ (x : StoodResponse). AllByRecursion (λ (y : StoodResponse). x.arrival ≡ y.arrival → (x.member ≡ y.member) × (x.own_number ≡ y.own_number)) stood) stood t.0 arrivals_differ t.1) u.1 e in
                apart r s
                (ap (λ (l : Listing). l.member) t.2 ∙ same.0 ∙ sym (ap (λ (l : Listing). l.member) u.2))
                (ap (λ (l : Listing). l.own_number) t.2 ∙ same.1 ∙ sym (ap (λ (l : Listing). l.own_number) u.2));
          };
    }

    -- the rows stand in this order
    pub stand_before : AllInOrder Before (map bare rows)
    stand_before =
        in_order_map bare Before rows
        (in_order_among (λ f. of_response f ≡ true → FromStood (row_listing f)) All_five (λ f g. Before (bare f) (bare g))
        (λ f g from also h. before_one f g from also h.0 h.1.0 h.1.1.0 h.1.1.1.0 h.1.1.1.1)
        rows from_stood
        (in_order_both _ _ rows owns_differ (in_order_both _ _ rows order.by_price (in_order_both _ _ rows order.by_class (in_order_both _ _ rows order.one_contra order.by_ranking)))))
      where
        All_five : FillRow → FillRow → Type 0
        All_five f g =
            (of_response f ≡ true → of_response g ≡ true → ListedApart (row_listing f) (row_listing g))
            × ((row_price side f ≤ℤ row_price side g)
            × ((f.price ≡ g.price → order_at_price f ≤ order_at_price g)
            × ((of_contra f ≡ true → of_contra g ≡ true → f.price ≢ g.price)
            × (of_response f ≡ true → classmate f g ≡ true → RankedAhead ahead stood f g))))

-- which rows are of responses of a class at a price
abbrev pub of_class : Side → Class → ℤ → FillRow → Bool
of_class side c z f = (of_response f && same_class c f.class) && priced_at side z f

either_way : (a b : Bool) → (a ≡ true → b ≡ true) → (b ≡ true → a ≡ true) → a ≡ b
either_way true b f g = sym (f refl)
either_way false true f g = g refl
either_way false false f g = refl

-- equal both at the row's price and at the turned one
same_turned : (side : Side) (a b : ℤ) → same_price a b ≡ same_price (turned_price side a) (turned_price side b)
same_turned side a b =
    either_way (same_price a b) (same_price (turned_price side a) (turned_price side b))
    (λ h. subst (λ (z : ℤ). same_price (turned_price side a) (turned_price side z) ≡ true) (sym (same_is a b h)) (same_price_self (turned_price side a)))
    (λ h. let e : turned_price side b ≡ turned_price side a = same_is (turned_price side a) (turned_price side b) h in
    let same : b ≡ a = sym (turned_twice side b) ∙ ap (turned_price side) e ∙ turned_twice side a in
    subst (λ (z : ℤ). same_price a z ≡ true) (sym same) (same_price_self a))

and_assoc : (a b c : Bool) → (a && (b && c)) ≡ ((a && b) && c)
and_assoc true b c = refl
and_assoc false b c = refl

-- what passes is of the class and at the price
pub record Passes (side : Side) (c : Class) (z : ℤ) (f : FillRow) : Type 0 where
  pub of_one_response : of_response f ≡ true
  pub class_is : f.class ≡ c
  pub price_is : row_price side f ≡ z

same_class_is : (c d : Class) → same_class c d ≡ true → d ≡ c
same_class_is Customer Customer e = refl
same_class_is Customer Other e = absurd (both_ways false refl e)
same_class_is Other Customer e = absurd (both_ways false refl e)
same_class_is Other Other e = refl

passes : (side : Side) (c : Class) (z : ℤ) (f : FillRow) → of_class side c z f ≡ true → Passes side c z f
passes side c z f h =
    let of = both_left (of_response f && same_class c f.class) (priced_at side z f) h in
    record {
      of_one_response = both_left (of_response f) (same_class c f.class) of;
      class_is = same_class_is c f.class (both_right (of_response f) (same_class c f.class) of);
      price_is = same_is z (row_price side f) (both_right (of_response f && same_class c f.class) (priced_at side z f) h);
    }

pub own_class : (side : Side) (f : FillRow) → of_response f ≡ true → of_class side f.class (row_price side f) f ≡ true
own_class side f r = and_from (of_response f && same_class f.class f.class) (same_price (row_price side f) (row_price side f)) (and_from (of_response f) (same_class f.class f.class) r (same_class_self f.class)) (same_price_self (row_price side f))

-- its classmates are all that pass
mate_passes : (side : Side) (c : Class) (z : ℤ) (f g : FillRow) → Passes side c z f → classmate f g ≡ of_class side c z g
mate_passes side c z f g h =
    and_assoc (of_response g) (same_class f.class g.class) (same_price f.price g.price)
    ∙ ap (λ (d : Class). (of_response g && same_class d g.class) && same_price f.price g.price) h.class_is
    ∙ ap (λ b. (of_response g && same_class c g.class) && b) (same_turned side f.price g.price ∙ ap (λ (y : ℤ). same_price y (row_price side g)) h.price_is)

pub mates_pass : (side : Side) (c : Class) (z : ℤ) (f : FillRow) (rows : List FillRow) → Passes side c z f → classmates f rows ≡ those (of_class side c z) rows
mates_pass side c z f rows h = kept_alike (classmate f) (of_class side c z) (λ g. mate_passes side c z f g h) rows

-- rows but for what responses got: who they are of, and what they show
module _ (f g : FillRow) (e : bare f ≡ bare g) where
  alike_response : of_response f ≡ of_response g
  alike_response = ap (λ (x : FillRow). of_response x) e

  alike_size : of_response f ≡ true → f.filled + f.left ≡ g.filled + g.left
  alike_size r =
      let a : cond (of_response f) (f.filled + f.left) f.left ≡ cond (of_response g) (g.filled + g.left) g.left = ap (λ (x : FillRow). x.left) e in
      let b : cond (of_response f) (f.filled + f.left) f.left ≡ f.filled + f.left = ap (λ (y : Bool). cond y (f.filled + f.left) f.left) r in
      let c : cond (of_response g) (g.filled + g.left) g.left ≡ g.filled + g.left = ap (λ (y : Bool). cond y (g.filled + g.left) g.left) (sym alike_response ∙ r) in
      sym b ∙ a ∙ c

  alike_passes : (side : Side) (c : Class) (z : ℤ) → of_class side c z f ≡ of_class side c z g
  alike_passes side c z = ap (λ (x : FillRow). (of_response x && same_class c x.class) && priced_at side z x) e

  pub alike_rows : (of_response f ≡ true → f.filled ≡ g.filled) → f ≡ g
  alike_rows same = go (of_response f) refl
    where
      go : (b : Bool) → of_response f ≡ b → f ≡ g
      go true r =
          let filled = same r in
          let left : f.left ≡ g.left = (let size = alike_size r in omega arith) in
          let back : record { price = f.price; member = f.member; own_number = f.own_number; class = f.class; kind = f.kind; filled = f.filled; left = f.left } ≡ record { price = g.price; member = g.member; own_number = g.own_number; class = g.class; kind = g.kind; filled = f.filled; left = f.left } = ap (λ (x : FillRow). record { price = x.price; member = x.member; own_number = x.own_number; class = x.class; kind = x.kind; filled = f.filled; left = f.left }) e in
          back ∙ ap (λ (n : ℕ). record { price = g.price; member = g.member; own_number = g.own_number; class = g.class; kind = g.kind; filled = n; left = f.left }) filled
          ∙ ap (λ (n : ℕ). record { price = g.price; member = g.member; own_number = g.own_number; class = g.class; kind = g.kind; filled = g.filled; left = n }) left
      go false r = sym (bare_contra f r) ∙ e ∙ bare_contra g (sym alike_response ∙ r)

-- rows of a class at a price, each of which gets its part of k contracts among n, or one more
module _ (p : FillRow → Bool) (k n : ℕ) where
  abbrev part : FillRow → ℕ
  part f = k * (f.filled + f.left) / n

  abbrev parts : List FillRow → ℕ
  parts rows = total (map part (those p rows))

  abbrev Near : FillRow → Type 0
  Near f = p f ≡ true → ProRata k n f

  at_least : (rows : List FillRow) → AllByRecursion Near rows → parts rows ≤ filled_in (those p rows)
  at_least [] a = omega arith
  at_least (f ∷ fs) (near, a) = go (p f) refl (at_least fs a)
    where
      go : (b : Bool) → p f ≡ b → parts fs ≤ filled_in (those p fs) → total (map part (cond b (f ∷ those p fs) (those p fs))) ≤ filled_in (cond b (f ∷ those p fs) (those p fs))
      go true e rest = elim (near e) [ inl is ↦ omega arith | inr one ↦ omega arith ]
      go false e rest = rest

  -- where none got one more
  just_parts : (rows : List FillRow) → AllByRecursion Near rows → AllByRecursion (λ f. p f ≡ true → OneMore k n f → ⊥) rows → filled_in (those p rows) ≡ parts rows
  just_parts [] a b = refl
  just_parts (f ∷ fs) (near, a) (none, b) = go (p f) refl (just_parts fs a b)
    where
      go : (b : Bool) → p f ≡ b → filled_in (those p fs) ≡ parts fs → filled_in (cond b (f ∷ those p fs) (those p fs)) ≡ total (map part (cond b (f ∷ those p fs) (those p fs)))
      go true e rest = elim (near e) [ inl is ↦ omega arith | inr one ↦ absurd (none e one) ]
      go false e rest = rest

  -- no row got one more behind a row that did not
  abbrev First : FillRow → FillRow → Type 0
  First f g = p f ≡ true → p g ≡ true → OneMore k n g → OneMore k n f

  abbrev Alike : FillRow → FillRow → Type 0
  Alike f g = (p f ≡ p g) × (p f ≡ true → f.filled + f.left ≡ g.filled + g.left)

  same_parts : (fs gs : List FillRow) → AllZip Alike fs gs → parts fs ≡ parts gs
  same_parts [] [] z = refl
  same_parts [] (g ∷ gs) z = absurd z
  same_parts (f ∷ fs) [] z = absurd z
  same_parts (f ∷ fs) (g ∷ gs) (alike, z) = go (p f) refl (same_parts fs gs z)
    where
      go : (b : Bool) → p f ≡ b → parts fs ≡ parts gs → parts (f ∷ fs) ≡ parts (g ∷ gs)
      go b e rest =
          let c = kept_cons part p f fs in
          let d = kept_cons part p g gs in
          let same : cond (p f) (part f) 0 ≡ cond (p g) (part g) 0 = weigh b e in
          omega arith
        where
          weigh : (b : Bool) → p f ≡ b → cond (p f) (part f) 0 ≡ cond (p g) (part g) 0
          weigh true e =
              ap (λ y. cond y (part f) 0) e ∙ ap (λ (m : ℕ). k * m / n) (alike.1 e) ∙ sym (ap (λ y. cond y (part g) 0) (sym alike.0 ∙ e))
          weigh false e = ap (λ y. cond y (part f) 0) e ∙ sym (ap (λ y. cond y (part g) 0) (sym alike.0 ∙ e))

  -- as many in all: each got as much
  pub dealt_alike : (fs gs : List FillRow) → AllZip Alike fs gs → AllByRecursion Near fs → AllByRecursion Near gs → AllInOrder First fs → AllInOrder First gs → filled_in (those p fs) ≡ filled_in (those p gs)
      → AllZip (λ f g. p f ≡ true → f.filled ≡ g.filled) fs gs
  dealt_alike [] [] z a b o q e = tt
  dealt_alike [] (g ∷ gs) z a b o q e = absurd z
  dealt_alike (f ∷ fs) [] z a b o q e = absurd z
  dealt_alike (f ∷ fs) (g ∷ gs) (alike, z) (near, a) (near', b) (first, o) (first', q) e =
      go (p f) refl (dealt_alike fs gs z a b o q)
    where
      c : filled_in (those p (f ∷ fs)) ≡ cond (p f) f.filled 0 + filled_in (those p fs)
      c = kept_cons (λ (x : FillRow). x.filled) p f fs

      d : filled_in (those p (g ∷ gs)) ≡ cond (p g) g.filled 0 + filled_in (those p gs)
      d = kept_cons (λ (x : FillRow). x.filled) p g gs

      -- where the head did not get one more, none behind it did
      rest_just : (x : FillRow) (xs : List FillRow) → p x ≡ true → x.filled ≡ part x → AllByRecursion Near xs → AllByRecursion (First x) xs → filled_in (those p xs) ≡ parts xs
      rest_just x xs t is near_all first_all = just_parts xs near_all (All-weaker (First x) (λ y. p y ≡ true → OneMore k n y → ⊥) (λ y h s one. let more = h t s one in omega arith) xs first_all)

      heads : p f ≡ true → f.filled ≡ g.filled
      heads t =
          let s : p g ≡ true = sym alike.0 ∙ t in
          let same : part f ≡ part g = ap (λ (m : ℕ). k * m / n) (alike.1 t) in
          let v : cond (p f) f.filled 0 ≡ f.filled = ap (λ y. cond y f.filled 0) t in
          let w : cond (p g) g.filled 0 ≡ g.filled = ap (λ y. cond y g.filled 0) s in
          let both : parts fs ≡ parts gs = same_parts fs gs z in
          elim (near t) [
            | inl is ↦ elim (near' s) [
              | inl also ↦ omega arith
              | inr one ↦ absurd (let j : filled_in (those p fs) ≡ parts fs = rest_just f fs t is a first in let l : parts gs ≤ filled_in (those p gs) = at_least gs b in omega (arith, c, d))
            ]
            | inr one ↦ elim (near' s) [
              | inl is ↦ absurd (let j : filled_in (those p gs) ≡ parts gs = rest_just g gs s is b first' in let l : parts fs ≤ filled_in (those p fs) = at_least fs a in omega (arith, c, d))
              | inr also ↦ omega arith
            ]
          ]

      go : (y : Bool) → p f ≡ y → (filled_in (those p fs) ≡ filled_in (those p gs) → AllZip (λ f g. p f ≡ true → f.filled ≡ g.filled) fs gs) → (p f ≡ true → f.filled ≡ g.filled) × AllZip (λ f g. p f ≡ true → f.filled ≡ g.filled) fs gs
      go true t rest =
          let h : f.filled ≡ g.filled = heads t in
          let v : cond (p f) f.filled 0 ≡ f.filled = ap (λ y. cond y f.filled 0) t in
          let w : cond (p g) g.filled 0 ≡ g.filled = ap (λ y. cond y g.filled 0) (sym alike.0 ∙ t) in
          (heads, rest (omega (arith, c, d)))
      go false t rest =
          let v : cond (p f) f.filled 0 ≡ 0 = ap (λ y. cond y f.filled 0) t in
          let w : cond (p g) g.filled 0 ≡ 0 = ap (λ y. cond y g.filled 0) (sym alike.0 ∙ t) in
          (heads, rest (omega (arith, c, d)))

-- rows of the same values, but for what responses got
zipped : (fs gs : List FillRow) → map bare fs ≡ map bare gs → AllZip (λ f g. bare f ≡ bare g) fs gs
zipped [] [] e = tt
zipped [] (g ∷ gs) e = let z : ◌≡◌ {A = ℕ} 0 1 = cc in absurd (omega arith)
zipped (f ∷ fs) [] e = let z : ◌≡◌ {A = ℕ} 0 1 = cc in absurd (omega arith)
zipped (f ∷ fs) (g ∷ gs) e = (ap (first_or (bare f)) e, zipped fs gs (ap behind e))
  where
    first_or : FillRow → List FillRow → FillRow
    first_or d [] = d
    first_or d (x ∷ xs) = x

    behind : List FillRow → List FillRow
    behind [] = []
    behind (x ∷ xs) = xs

zip_weaker : (R S : FillRow → FillRow → Type 0) → ((f g : FillRow) → R f g → S f g) → (fs gs : List FillRow) → AllZip R fs gs → AllZip S fs gs
zip_weaker R S h [] [] z = tt
zip_weaker R S h [] (g ∷ gs) z = absurd z
zip_weaker R S h (f ∷ fs) [] z = absurd z
zip_weaker R S h (f ∷ fs) (g ∷ gs) (r, z) = (h f g r, zip_weaker R S h fs gs z)

-- where every class at every price got as much row by row, every response did; so all rows are the same
all_alike : (side : Side) (fs gs : List FillRow) → AllZip (λ f g. bare f ≡ bare g) fs gs → ((c : Class) (z : ℤ) → AllZip (λ f g. of_class side c z f ≡ true → f.filled ≡ g.filled) fs gs) → fs ≡ gs
all_alike side [] [] z h = refl
all_alike side [] (g ∷ gs) z h = absurd z
all_alike side (f ∷ fs) [] z h = absurd z
all_alike side (f ∷ fs) (g ∷ gs) (e, z) h =
    let one : f ≡ g = alike_rows f g e (λ r. (h f.class (row_price side f)).0 (own_class side f r)) in
    let rest : fs ≡ gs = all_alike side fs gs z (λ c y. (h c y).1) in
    ap (λ (x : FillRow). x ∷ fs) one ∙ ap (λ (xs : List FillRow). g ∷ xs) rest

module _ (side : Side) (stood : List StoodResponse) (rs ss : List FillRow) (size : ℕ) (floor initiating : ℤ)
    (rl : FillLaws side size floor initiating stood rs) (sl : FillLaws side size floor initiating stood ss)
    (shares : SameShares side rs ss)
    (alone_there : AllInOrder (λ f g. of_contra f ≡ true → of_contra g ≡ true → f.price ≢ g.price) rs) (alone_here : AllInOrder (λ f g. of_contra f ≡ true → of_contra g ≡ true → f.price ≢ g.price) ss) where
  abbrev There : Listing → Type 0
  There l = (g : FillRow) × IsIn g ss × (of_response g ≡ true) × (row_listing g ≡ l)

  -- what one list lists the other lists
  listed_there : AllByRecursion (λ f. of_response f ≡ true → There (row_listing f)) rs
  listed_there =
      passed of_response row_listing There rs
      (all_shuffled There (map listing_of stood) (map row_listing (those of_response rs)) rl.each_once
      (all_shuffled There (map row_listing (those of_response ss)) (map listing_of stood) (IsPermutation-sym (map listing_of stood) (map row_listing (those of_response ss)) sl.each_once)
      (passing of_response row_listing There ss (All-weaker (λ g. IsIn g ss) (λ g. of_response g ≡ true → There (row_listing g)) (λ g i r. (g, i, r, refl)) ss (all_in ss)))))

  -- the contra's row is alone at its price
  alone_at : (z : ℤ) (rows : List FillRow) → AllInOrder (λ f g. of_contra f ≡ true → of_contra g ≡ true → f.price ≢ g.price) rows
      → AllInOrder (λ f g. (of_contra f && priced_at side z f) ≡ true → (of_contra g && priced_at side z g) ≡ true → ⊥) rows
  alone_at z rows o =
      in_order_weaker _ _ (λ f g h p q.
      h (both_left (of_contra f) (priced_at side z f) p) (both_left (of_contra g) (priced_at side z g) q)
      (same_row_price side f g (same_is z (row_price side f) (both_right (of_contra f) (priced_at side z f) p) ∙ sym (same_is z (row_price side g) (both_right (of_contra g) (priced_at side z g) q)))))
      rows o

  same_contra : (f g : FillRow) → ContraRow f → ContraRow g → of_response f ≡ false → of_response g ≡ false → f.price ≡ g.price → f.filled ≡ g.filled → f ≡ g
  same_contra f g a b r s price filled =
      let member : f.member ≡ g.member = (let m = ltb-false 0 f.member r in let n = ltb-false 0 g.member s in omega arith) in
      let own_number : f.own_number ≡ g.own_number = a.no_number ∙ sym b.no_number in
      let class : f.class ≡ g.class = second_class f.class a.as_other ∙ sym (second_class g.class b.as_other) in
      let kind : f.kind ≡ g.kind = a.as_plain ∙ sym b.as_plain in
      let left : f.left ≡ g.left = a.none_left ∙ sym b.none_left in
      let fields : row f.price f.member f.own_number f.class f.kind f.filled f.left ≡ row g.price g.member g.own_number g.class g.kind g.filled g.left = cc in
      fields
    where
      row : ℤ → ℕ → ℕ → Class → Kind → ℕ → ℕ → FillRow
      row p m o c k n l = record { price = p; member = m; own_number = o; class = c; kind = k; filled = n; left = l }

  contra_there : (f : FillRow) → IsIn f rs → of_response f ≡ false → ContraRow f → IsIn (bare f) (map bare ss)
  contra_there f i r contra =
      let z : ℤ = row_price side f in
      let p : FillRow → Bool = λ g. of_contra g && priced_at side z g in
      let mine : p f ≡ true = and_from (of_contra f) (priced_at side z f) (ap not r) (same_price_self z) in
      let got_there : filled_in (those p rs) ≡ f.filled = alone p f rs mine (alone_at z rs alone_there) i in
      let as_many : filled_in (those p rs) ≡ filled_in (those p ss) = (shares z).1 in
      let g = found p ss (let some = contra.some_filled in omega arith) in
      let got_here : filled_in (those p ss) ≡ g.0.filled = alone p g.0 ss g.2 (alone_at z ss alone_here) g.1 in
      let of_none : of_response g.0 ≡ false = not-true (of_response g.0) (both_left (of_contra g.0) (priced_at side z g.0) g.2) in
      let price : f.price ≡ g.0.price = same_row_price side f g.0 (sym (same_is z (row_price side g.0) (both_right (of_contra g.0) (priced_at side z g.0) g.2))) in
      let also = of_one (λ (x : FillRow). of_response x ≡ false → ContraRow x) ss g.0 sl.others_contra g.1 of_none in
      let is : f ≡ g.0 = same_contra f g.0 contra also r of_none price (sym got_there ∙ as_many ∙ got_here) in
      subst (λ (x : FillRow). IsIn (bare x) (map bare ss)) (sym is) (in_map bare ss g.0 g.1)

  -- so each of one is one of the other, but for what responses got
  pub all_there : AllByRecursion (λ x. IsIn x (map bare ss)) (map bare rs)
  all_there =
      All-map (λ x. IsIn x (map bare ss)) bare rs
      (all_both (λ f. IsIn f rs) (λ f. (of_response f ≡ true → There (row_listing f)) × (of_response f ≡ false → ContraRow f)) (λ f. IsIn (bare f) (map bare ss)) each_there rs (all_in rs)
      (all_both (λ f. of_response f ≡ true → There (row_listing f)) (λ f. of_response f ≡ false → ContraRow f) (λ f. (of_response f ≡ true → There (row_listing f)) × (of_response f ≡ false → ContraRow f)) (λ f a b. (a, b)) rs listed_there rl.others_contra))
    where
      each_there : (f : FillRow) → IsIn f rs → (of_response f ≡ true → There (row_listing f)) × (of_response f ≡ false → ContraRow f) → IsIn (bare f) (map bare ss)
      each_there f i h = go (of_response f) refl
        where
          go : (b : Bool) → of_response f ≡ b → IsIn (bare f) (map bare ss)
          go true r =
              let g = h.0 r in
              let same : bare g.0 ≡ bare f = bare_is g.0 g.2 ∙ ap unfilled g.3 ∙ sym (bare_is f r) in
              subst (λ (x : FillRow). IsIn x (map bare ss)) same (in_map bare ss g.0 g.1)
          go false r = contra_there f i r (h.1 r)

  -- what a class asks for at a price
  same_size : (c : Class) (z : ℤ) → size_in (those (of_class side c z) rs) ≡ size_in (those (of_class side c z) ss)
  same_size c z = asked_by_those_that_stood side z c size floor initiating stood rs rl ∙ sym (asked_by_those_that_stood side z c size floor initiating stood ss sl)

  same_got : (c : Class) (z : ℤ) → filled_in (those (of_class side c z) rs) ≡ filled_in (those (of_class side c z) ss)
  same_got Customer z = (shares z).0
  same_got Other z = (shares z).2

-- each got its part of what the class got there, or one more; none one more behind one that did not
module _ (side : Side) (ahead : Key → Key → Bool) (stood : List StoodResponse) (rows : List FillRow) (size : ℕ) (floor initiating : ℤ) (laws : FillLaws side size floor initiating stood rows) (order : RowLaws side ahead stood rows) (c : Class) (z : ℤ) (k n : ℕ)
    (got_is : filled_in (those (of_class side c z) rows) ≡ k) (size_is : size_in (those (of_class side c z) rows) ≡ n) where
  near_part : AllByRecursion (λ f. of_class side c z f ≡ true → ProRata k n f) rows
  near_part =
      All-weaker (λ f. of_response f ≡ true → ProRata (filled_in (classmates f rows)) (size_in (classmates f rows)) f) (λ f. of_class side c z f ≡ true → ProRata k n f)
      (λ f h t. let is = passes side c z f t in
      subst (λ (m : ℕ). ProRata k m f) size_is (subst (λ (m : ℕ). ProRata m (size_in (those (of_class side c z) rows)) f) got_is
      (subst (λ (gs : List FillRow). ProRata (filled_in gs) (size_in gs) f) (mates_pass side c z f rows is) (h is.of_one_response))))
      rows laws.pro_rata

  one_more_is : (f : FillRow) → Passes side c z f → GotOneMore rows f ≡ OneMore k n f
  one_more_is f is =
      ap (λ (gs : List FillRow). f.filled ≡ filled_in gs * (f.filled + f.left) / size_in gs + 1) (mates_pass side c z f rows is)
      ∙ ap (λ (j : ℕ). f.filled ≡ j * (f.filled + f.left) / size_in (those (of_class side c z) rows) + 1) got_is
      ∙ ap (λ (j : ℕ). f.filled ≡ k * (f.filled + f.left) / j + 1) size_is

  odd_in_order : AllInOrder (λ f g. of_class side c z f ≡ true → of_class side c z g ≡ true → OneMore k n g → OneMore k n f) rows
  odd_in_order =
      in_order_weaker _ (λ f g. of_class side c z f ≡ true → of_class side c z g ≡ true → OneMore k n g → OneMore k n f)
      (λ f g h t u one.
      let a = passes side c z f t in
      let b = passes side c z g u in
      subst (λ (X : Type 0). X) (one_more_is f a) (h a.of_one_response (mate_passes side c z f g a ∙ u) (subst (λ (X : Type 0). X) (sym (one_more_is g b)) one)))
      rows order.odd_first

-- Rows that keep the laws, and have the same shares, are the same.
pub rows_decide : (side : Side) (ahead : Key → Key → Bool) (one_ahead : (x y : Key) → x.arrival ≢ y.arrival → ahead x y ≡ not (ahead y x)) (stood : List StoodResponse) → Apart stood → (size : ℕ) (floor initiating : ℤ) (rs ss : List FillRow)
    → FillLaws side size floor initiating stood rs → RowLaws side ahead stood rs → FillLaws side size floor initiating stood ss → RowLaws side ahead stood ss → SameShares side rs ss → rs ≡ ss
rows_decide side ahead one_ahead stood differ size floor initiating rs ss rl ro sl so shares = all_alike side rs ss pairs dealt
  where
    back : SameShares side ss rs
    back z = (sym (shares z).0, sym (shares z).1, sym (shares z).2)

    pairs : AllZip (λ f g. bare f ≡ bare g) rs ss
    pairs =
        zipped rs ss
        (same_list (Before side ahead one_ahead stood differ) (not_both_before side ahead one_ahead stood differ) (map bare rs) (map bare ss)
        (stand_before side ahead one_ahead stood differ rs size floor initiating rl ro)
        (stand_before side ahead one_ahead stood differ ss size floor initiating sl so)
        (all_there side stood rs ss size floor initiating rl sl shares ro.one_contra so.one_contra)
        (all_there side stood ss rs size floor initiating sl rl back so.one_contra ro.one_contra))

    dealt : (c : Class) (z : ℤ) → AllZip (λ f g. of_class side c z f ≡ true → f.filled ≡ g.filled) rs ss
    dealt c z =
        dealt_alike p k n rs ss
        (zip_weaker _ _ (λ f g e. (alike_passes f g e side c z, λ t. alike_size f g e (passes side c z f t).of_one_response)) rs ss pairs)
        (near_part side ahead stood rs size floor initiating rl ro c z k n got asks) (near_part side ahead stood ss size floor initiating sl so c z k n refl refl)
        (odd_in_order side ahead stood rs size floor initiating rl ro c z k n got asks) (odd_in_order side ahead stood ss size floor initiating sl so c z k n refl refl)
        got
      where
        p : FillRow → Bool
        p = of_class side c z

        k : ℕ
        k = filled_in (those (of_class side c z) ss)

        n : ℕ
        n = size_in (those (of_class side c z) ss)

        got : filled_in (those (of_class side c z) rs) ≡ filled_in (those (of_class side c z) ss)
        got = same_got side stood rs ss size floor initiating rl sl shares ro.one_contra so.one_contra c z

        asks : size_in (those (of_class side c z) rs) ≡ size_in (those (of_class side c z) ss)
        asks = same_size side stood rs ss size floor initiating rl sl shares ro.one_contra so.one_contra c z
