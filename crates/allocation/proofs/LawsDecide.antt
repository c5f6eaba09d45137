-- Rows that keep the laws of a fill list and of what the contra may take have the shares of the definition's split at each
-- price, from the lowest price up: so any two such lists have the same shares.
use Rattle.std.proofs.Common.{◌≡◌, ℕ, zero, suc, ◌+◌, ◌-◌, ◌<◌, ◌≤◌, Bool, true, false, cond, not, ◌&&◌, ◌⊎◌, List, [], ◌∷◌, map, ℤ, pos, negsuc, ◌≤ℤ◌, ◌<ℤ◌, sym, refl, ap, ◌∙◌, subst, inl, inr, arith}
use borrow.Author.Differences.{ints, up, down}
use lib.Signed.{lt_z}
use Rattle.std.specs.List.{AllByRecursion, sum_by}
use Rattle.std.proofs.ByRecursion.{All-weaker}
use Rattle.std.proofs.lemmas.Bool.{cases_lt, not-true, both_ways}
use Rattle.std.proofs.lemmas.List.Recursion.{is_sum_by}
use Rattle.std.proofs.lemmas.List.Sorted.{sum_by-IsPermutation}
use Rattle.market.specs.declared.side.Side.{Side}
use Rattle.market.specs.Side.{turned_price}
use Rattle.allocation.specs.declared.fill.FillRow.{FillRow}
use Rattle.allocation.specs.declared.order.ContraTerms.{ContraTerms}
use Rattle.allocation.specs.declared.order.GuaranteeKind.{GuaranteeKind}
use Rattle.allocation.specs.declared.order.GuaranteeKind.TheVariants.{SingleStop, AutoMatchLimit}
use Rattle.allocation.specs.declared.response.Class.{Class}
use Rattle.allocation.specs.declared.response.Class.TheVariants.{Customer, Other}
use Rattle.allocation.specs.Response.{class_number}
use Rattle.allocation.specs.ContraLaws.{of_contra, of_customer, of_other, row_price, priced_at, priced_below, priced_up_to, fill_of, demand_of, GuaranteeAllows, Matched, MatchedAll, TooFewToMatch, ContraLaws}
use Rattle.allocation.specs.FillLaws.{StoodResponse, Listing, listing_of, row_listing, of_response, those, filled_in, size_in, same_price, same_class, FillLaws}
use Rattle.allocation.specs.Levels.{contra_level}
use Rattle.allocation.specs.OnlyShares.{SameShares}
use Rattle.allocation.specs.Share.{total}
use Rattle.allocation.specs.Split.{split}
use Rattle.allocation.proofs.AuctionKept.{both_left, both_right}
use Rattle.allocation.proofs.Mates.{turned_twice}
use Rattle.allocation.proofs.RowCounts.{priced_beyond, responses_got, responses_asked, at_price, contra_up_to, all_rows, below_next, contra_below_next, got_most, trades, lacks, stands, nothing, transposed}
use Rattle.allocation.proofs.RowLists.{all_both}
use Rattle.allocation.proofs.SharesDecided.{Facts, shares_decided}

is_customer : (c : Class) → same_class Customer c ≡ true → c ≡ Customer
is_customer Customer e = refl
is_customer Other e = absurd (both_ways false refl e)

is_other : (c : Class) → same_class Other c ≡ true → c ≡ Other
is_other Customer e = absurd (both_ways false refl e)
is_other Other e = refl

pub second_class : (c : Class) → class_number c ≡ 1 → c ≡ Other
second_class Customer e = absurd (omega arith)
second_class Other e = refl

pub same_is : (z w : ℤ) → same_price z w ≡ true → w ≡ z
same_is z w h =
    let a = not-true (lt_z z w) (both_left (not (lt_z z w)) (not (lt_z w z)) h) in
    let b = not-true (lt_z w z) (both_right (not (lt_z z w)) (not (lt_z w z)) h) in
    grind (arith, ints)

-- a row that passes at a price is at that price
at_is : (side : Side) (who : FillRow → Bool) (z : ℤ) (f : FillRow) → (who f && priced_at side z f) ≡ true → row_price side f ≡ z
at_is side who z f h = same_is z (row_price side f) (both_right (who f) (priced_at side z f) h)

pub same_row_price : (side : Side) (f g : FillRow) → row_price side f ≡ row_price side g → f.price ≡ g.price
same_row_price side f g e = sym (turned_twice side f.price) ∙ ap (turned_price side) e ∙ turned_twice side g.price

-- what rows of a class ask for at a price is what those that stood ask for
module _ (side : Side) (z : ℤ) (c : Class) where
  abbrev weight : Listing → ℕ
  weight x = cond (same_class c x.class && same_price z (turned_price side x.price)) x.size 0

  first_counts : (b : Bool) (f : FillRow) (fs : List FillRow) → total (map (λ (g : FillRow). g.filled + g.left) (cond b (f ∷ fs) fs)) ≡ cond b (f.filled + f.left) 0 + total (map (λ (g : FillRow). g.filled + g.left) fs)
  first_counts true f fs = refl
  first_counts false f fs = omega arith

  asked_listed : (rows : List FillRow) → demand_of (λ f. of_response f && same_class c f.class) (priced_at side z) rows ≡ total (map weight (map row_listing (those of_response rows)))
  asked_listed [] = refl
  asked_listed (f ∷ fs) = go (of_response f) (asked_listed fs)
    where
      Q : List FillRow
      Q = those (λ (g : FillRow). (of_response g && same_class c g.class) && priced_at side z g) fs

      R : List FillRow
      R = those of_response fs

      go : (b : Bool) → size_in Q ≡ total (map weight (map row_listing R)) → size_in (cond ((b && same_class c f.class) && priced_at side z f) (f ∷ Q) Q) ≡ total (map weight (map row_listing (cond b (f ∷ R) R)))
      go true ih = first_counts (same_class c f.class && priced_at side z f) f Q ∙ ap (λ (n : ℕ). cond (same_class c f.class && priced_at side z f) (f.filled + f.left) 0 + n) ih
      go false ih = ih

  as_sum : (xs : List Listing) → total (map weight xs) ≡ sum_by weight xs
  as_sum xs = is_sum_by (λ (ys : List Listing). total (map weight ys)) weight refl (λ x ys. refl) xs

  pub asked_by_those_that_stood : (size : ℕ) (floor initiating : ℤ) (stood : List StoodResponse) (rows : List FillRow) → FillLaws side size floor initiating stood rows
      → demand_of (λ f. of_response f && same_class c f.class) (priced_at side z) rows ≡ sum_by weight (map listing_of stood)
  asked_by_those_that_stood size floor initiating stood rows laws =
      asked_listed rows ∙ as_sum (map row_listing (those of_response rows)) ∙ sum_by-IsPermutation weight (map listing_of stood) (map row_listing (those of_response rows)) laws.each_once

module _ (side : Side) (t : ContraTerms) (size : ℕ) (floor : ℤ) (stood : List StoodResponse) (rows : List FillRow)
    (laws : FillLaws side size floor t.initiating stood rows) (contra : ContraLaws side t.guarantee t.initiating t.guaranteed rows) where
  abbrev contra_price : ℤ
  contra_price = contra_level t.guarantee.kind t

  -- nothing trades beyond the contra's own price
  up_to_own : AllByRecursion (λ (f : FillRow). 0 < f.filled → row_price side f ≤ℤ contra_price) rows
  up_to_own = go t.guarantee.kind refl
    where
      go : (kind : GuaranteeKind) → t.guarantee.kind ≡ kind → AllByRecursion (λ (f : FillRow). 0 < f.filled → row_price side f ≤ℤ contra_level kind t) rows
      go SingleStop e = contra.nothing_beyond_stop e
      go AutoMatchLimit e = All-weaker _ (λ (f : FillRow). 0 < f.filled → row_price side f ≤ℤ t.initiating) (λ f h some. (h some).1) rows laws.in_range

  unfilled : (p : FillRow → Bool) → ((f : FillRow) → p f ≡ true → row_price side f ≤ℤ contra_price → ⊥) → filled_in (those p rows) ≡ 0
  unfilled p no_way =
      nothing p rows
      (All-weaker (λ (f : FillRow). 0 < f.filled → row_price side f ≤ℤ contra_price) (λ (f : FillRow). p f ≡ true → f.filled ≡ 0)
      (λ f h e. elim (cases_lt 0 f.filled) [ inl some ↦ absurd (no_way f e (h some)) | inr none ↦ omega arith ]) rows up_to_own)

  -- below the floor nothing trades
  below_floor : (p : FillRow → Bool) → ((f : FillRow) → p f ≡ true → floor ≤ℤ row_price side f → ⊥) → filled_in (those p rows) ≡ 0
  below_floor p no_way =
      nothing p rows
      (All-weaker _ (λ (f : FillRow). p f ≡ true → f.filled ≡ 0)
      (λ f h e. elim (cases_lt 0 f.filled) [ inl some ↦ absurd (no_way f e (h some).0) | inr none ↦ omega arith ]) rows laws.in_range)

  module _ (z : ℤ) where
    abbrev customers : FillRow → Bool
    customers f = of_customer f && priced_at side z f

    abbrev contras : FillRow → Bool
    contras f = of_contra f && priced_at side z f

    abbrev others : FillRow → Bool
    others f = of_other f && priced_at side z f

    abbrev k : ℕ
    k = fill_of of_customer (priced_at side z) rows

    abbrev x : ℕ
    x = fill_of of_contra (priced_at side z) rows

    abbrev o : ℕ
    o = fill_of of_other (priced_at side z) rows

    abbrev y : ℕ
    y = filled_in (those (priced_beyond side z) rows)

    abbrev m : ℕ
    m = fill_of of_contra (priced_below side z) rows

    abbrev c : ℕ
    c = demand_of of_customer (priced_at side z) rows

    abbrev n : ℕ
    n = demand_of of_other (priced_at side z) rows

    -- where a response at the price has contracts left nothing trades beyond
    lack_of : (who : FillRow → Bool) → ((f : FillRow) → who f ≡ true → of_response f ≡ true) → fill_of who (priced_at side z) rows < demand_of who (priced_at side z) rows → y ≡ 0
    lack_of who is h =
        lacks (λ f. who f && priced_at side z f) (y ≡ 0) rows
        (All-weaker _ (λ (g : FillRow). (who g && priced_at side z g) ≡ true → 0 < g.left → y ≡ 0)
        (λ g all e some. nothing (priced_beyond side z) rows
        (All-weaker _ (λ (f : FillRow). priced_beyond side z f ≡ true → f.filled ≡ 0)
        (λ f better on. let w = at_is side who z g e in better (is g (both_left (who g) (priced_at side z g) e)) some (grind (arith, ints))) rows all))
        rows (transposed _ rows rows laws.better_first))
        h

    contras_other : AllByRecursion (λ (f : FillRow). of_contra f ≡ true → f.class ≡ Other) rows
    contras_other = All-weaker _ (λ (f : FillRow). of_contra f ≡ true → f.class ≡ Other) (λ f row e. second_class f.class (row (not-true (of_response f) e)).as_other) rows laws.others_contra

    -- where a customer has contracts left neither the contra nor an other trades
    first_customers : k < c → (x ≡ 0) × (o ≡ 0)
    first_customers h =
        lacks customers ((x ≡ 0) × (o ≡ 0)) rows
        (All-weaker _ (λ (g : FillRow). customers g ≡ true → 0 < g.left → (x ≡ 0) × (o ≡ 0))
        (λ g all e some.
        let is = is_customer g.class (both_right (of_response g) (same_class Customer g.class) (both_left (of_customer g) (priced_at side z g) e)) in
        let w = at_is side of_customer z g e in (
          nothing contras rows
              (all_both _ (λ (f : FillRow). of_contra f ≡ true → f.class ≡ Other) (λ (f : FillRow). contras f ≡ true → f.filled ≡ 0)
              (λ f first other a. first is some (same_row_price side g f (w ∙ sym (at_is side of_contra z f a))) (other (both_left (of_contra f) (priced_at side z f) a))) rows all contras_other),
          nothing others rows
              (All-weaker _ (λ (f : FillRow). others f ≡ true → f.filled ≡ 0)
              (λ f first a. first is some (same_row_price side g f (w ∙ sym (at_is side of_other z f a)))
              (is_other f.class (both_right (of_response f) (same_class Other f.class) (both_left (of_other f) (priced_at side z f) a)))) rows all),
        ))
        rows (transposed _ rows rows laws.customers_first))
        h

    contra_allowed : 0 < x → GuaranteeAllows t.guarantee.kind t.guarantee.price z
    contra_allowed h =
        trades contras (GuaranteeAllows t.guarantee.kind t.guarantee.price z) rows
        (All-weaker _ (λ (f : FillRow). contras f ≡ true → 0 < f.filled → GuaranteeAllows t.guarantee.kind t.guarantee.price z)
        (λ f allows e _. subst (λ (w : ℤ). GuaranteeAllows t.guarantee.kind t.guarantee.price w) (at_is side of_contra z f e) (allows (both_left (of_contra f) (priced_at side z f) e))) rows contra.from_guarantee_on)
        h

    none_yet : t.guarantee.kind ≡ SingleStop → z ≤ℤ t.guarantee.price → m ≡ 0
    none_yet e le =
        nothing (λ f. of_contra f && priced_below side z f) rows
        (All-weaker _ (λ (f : FillRow). (of_contra f && priced_below side z f) ≡ true → f.filled ≡ 0)
        (λ f allows a.
        let here : row_price side f ≡ t.guarantee.price = subst (λ k. GuaranteeAllows k t.guarantee.price (row_price side f)) e (allows (both_left (of_contra f) (priced_below side z f) a)) in
        let less : lt_z (row_price side f) z ≡ true = both_right (of_contra f) (priced_below side z f) a in
        absurd (grind (arith, ints))) rows contra.from_guarantee_on)

    while_wanted : 0 < x → o < n → m + x ≤ t.guaranteed
    while_wanted some few =
        trades contras (m + x ≤ t.guaranteed) rows
        (All-weaker _ (λ (f : FillRow). contras f ≡ true → 0 < f.filled → m + x ≤ t.guaranteed)
        (λ f all e _.
        let w = at_is side of_contra z f e in
        lacks others (m + x ≤ t.guaranteed) rows
        (All-weaker _ (λ (g : FillRow). others g ≡ true → 0 < g.left → m + x ≤ t.guaranteed)
        (λ g law a left.
        let v = at_is side of_other z g a in
        let le : row_price side g ≤ℤ row_price side f = grind (arith, ints) in
        let most = law (both_left (of_contra f) (priced_at side z f) e) (both_left (of_response g) (same_class Other g.class) (both_left (of_other g) (priced_at side z g) a)) left le in
        omega (arith, contra_up_to side rows z, subst (λ (u : ℤ). fill_of of_contra (priced_up_to side u) rows ≤ t.guaranteed) w most)) rows all)
        few) rows contra.no_more_while_wanted)
        some

    abbrev HasOrMatches : Type 0
    HasOrMatches = (t.guaranteed ≤ m + x) ⊎ ((t.guarantee.kind ≡ AutoMatchLimit) × (z <ℤ t.initiating) × (x ≡ k + o) × (k + o ≡ c + n))

    before_others : 0 < o → t.guarantee.price ≤ℤ z → HasOrMatches
    before_others some from =
        trades others HasOrMatches rows
        (All-weaker _ (λ (f : FillRow). others f ≡ true → 0 < f.filled → HasOrMatches)
        (λ f law e filled.
        let w = at_is side of_other z f e in
        elim (subst (λ (u : ℤ). t.guarantee.price ≤ℤ u → (t.guaranteed ≤ fill_of of_contra (priced_up_to side u) rows) ⊎ MatchedAll side t.guarantee.kind t.initiating u rows) w (law (both_left (of_other f) (priced_at side z f) e) filled) from) [
          | inl has ↦ inl (omega (arith, contra_up_to side rows z))
          | inr all ↦ inr (all.by_limit, all.before_initiating, all.as_many ∙ responses_got side rows z, sym (responses_got side rows z) ∙ all.all_filled ∙ responses_asked side rows z)
        ]) rows contra.share_before_others)
        some

    lacking_some : t.guarantee.kind ≡ AutoMatchLimit → 0 < x → z <ℤ t.initiating → m < t.guaranteed
    lacking_some is some less =
        trades contras (m < t.guaranteed) rows
        (All-weaker _ (λ (f : FillRow). contras f ≡ true → 0 < f.filled → m < t.guaranteed)
        (λ f law e _. subst (λ (u : ℤ). u <ℤ t.initiating → fill_of of_contra (priced_below side u) rows < t.guaranteed) (at_is side of_contra z f e) (law (both_left (of_contra f) (priced_at side z f) e)) less) rows (contra.only_while_lacking is))
        some

    match_most : t.guarantee.kind ≡ AutoMatchLimit → 0 < x → z <ℤ t.initiating → (x ≤ k + o) ⊎ (x + o < n + (c + n))
    match_most is some less =
        trades contras ((x ≤ k + o) ⊎ (x + o < n + (c + n))) rows
        (All-weaker _ (λ (f : FillRow). contras f ≡ true → 0 < f.filled → (x ≤ k + o) ⊎ (x + o < n + (c + n)))
        (λ f law e _.
        elim (subst (λ (u : ℤ). u <ℤ t.initiating → (fill_of of_contra (priced_at side u) rows ≤ fill_of of_response (priced_at side u) rows) ⊎ TooFewToMatch side u rows) (at_is side of_contra z f e) (law (both_left (of_contra f) (priced_at side z f) e)) less) [
          | inl most ↦ inl (omega (arith, responses_got side rows z))
          | inr few ↦ inr (omega (arith, responses_asked side rows z))
        ]) rows (contra.match_at_most is))
        some

    matches_there : t.guarantee.kind ≡ AutoMatchLimit → 0 < c + n → t.guarantee.price ≤ℤ z → z <ℤ t.initiating → 0 < y → (t.guaranteed ≤ m) ⊎ (x ≡ k + o)
    matches_there is some from less on =
        stands (λ f. of_response f && priced_at side z f) ((t.guaranteed ≤ m) ⊎ (x ≡ k + o)) rows
        (All-weaker _ (λ (f : FillRow). (of_response f && priced_at side z f) ≡ true → (t.guaranteed ≤ m) ⊎ (x ≡ k + o))
        (λ f all e.
        let w = at_is side of_response z f e in
        trades (priced_beyond side z) ((t.guaranteed ≤ m) ⊎ (x ≡ k + o)) rows
        (All-weaker _ (λ (g : FillRow). priced_beyond side z g ≡ true → 0 < g.filled → (t.guaranteed ≤ m) ⊎ (x ≡ k + o))
        (λ g law a filled.
        let above : z <ℤ row_price side g = grind (arith, ints) in
        elim (subst (λ (u : ℤ). t.guarantee.price ≤ℤ u → u <ℤ t.initiating → 0 < g.filled → u <ℤ row_price side g → (t.guaranteed ≤ fill_of of_contra (priced_below side u) rows) ⊎ Matched side u rows) w (law (both_left (of_response f) (priced_at side z f) e)) from less filled above) [
          | inl has ↦ inl has
          | inr as_many ↦ inr (as_many ∙ responses_got side rows z)
        ]) rows all)
        on) rows (contra.matches_while_lacking is))
        (omega (arith, responses_asked side rows z))

    facts : Facts t.guarantee.kind t z (size - filled_in (those (priced_below side z) rows)) m c n k x o y
    facts = record {
      in_all = omega (arith, all_rows side rows z, at_price side rows z, laws.whole_size);
      customers_most = got_most (those customers rows);
      others_most = got_most (those others rows);
      lack = λ h. elim h [
        | inl few ↦ lack_of of_customer (λ f e. both_left (of_response f) (same_class Customer f.class) e) few
        | inr few ↦ lack_of of_other (λ f e. both_left (of_response f) (same_class Other f.class) e) few
      ];
      customers_lack = first_customers;
      allowed = contra_allowed;
      none_before_stop = none_yet;
      none_beyond = λ le. unfilled (priced_beyond side z) (λ f on most. grind (arith, ints));
      wanted = while_wanted;
      before = before_others;
      while_lacking = lacking_some;
      at_most = match_most;
      matches = matches_there;
    }

    -- beyond the contra's own price nobody gets any
    none_there : contra_price <ℤ z → (k ≡ 0) × (x ≡ 0) × (o ≡ 0)
    none_there less = (
      unfilled customers (λ f e most. let w = at_is side of_customer z f e in grind (arith, ints)),
      unfilled contras (λ f e most. let w = at_is side of_contra z f e in grind (arith, ints)),
      unfilled others (λ f e most. let w = at_is side of_other z f e in grind (arith, ints)),
    )

-- the price before
abbrev before : ℤ → ℤ
before (pos zero) = negsuc zero
before (pos (suc a)) = pos a
before (negsuc a) = negsuc (suc a)

before_is : (z : ℤ) → up z + down (before z) ≡ up (before z) + down z + 1
before_is (pos zero) = omega arith
before_is (pos (suc a)) = omega arith
before_is (negsuc a) = omega arith

module _ (side : Side) (t : ContraTerms) (size : ℕ) (floor : ℤ) (stood : List StoodResponse) (rs ss : List FillRow)
    (high : t.guarantee.price ≤ℤ t.initiating)
    (rl : FillLaws side size floor t.initiating stood rs) (rc : ContraLaws side t.guarantee t.initiating t.guaranteed rs)
    (sl : FillLaws side size floor t.initiating stood ss) (sc : ContraLaws side t.guarantee t.initiating t.guaranteed ss) where
  abbrev spent : List FillRow → ℤ → ℕ
  spent rows z = filled_in (those (priced_below side z) rows)

  abbrev so_far : List FillRow → ℤ → ℕ
  so_far rows z = fill_of of_contra (priced_below side z) rows

  -- below a price both filled as many, and the contra got as many
  abbrev Agree : ℤ → Type 0
  Agree z = (spent rs z ≡ spent ss z) × (so_far rs z ≡ so_far ss z)

  abbrev SameAt : ℤ → Type 0
  SameAt z =
      (fill_of of_customer (priced_at side z) rs ≡ fill_of of_customer (priced_at side z) ss)
      × (fill_of of_contra (priced_at side z) rs ≡ fill_of of_contra (priced_at side z) ss)
      × (fill_of of_other (priced_at side z) rs ≡ fill_of of_other (priced_at side z) ss)

  same_asked : (z : ℤ) (c : Class) → demand_of (λ f. of_response f && same_class c f.class) (priced_at side z) rs ≡ demand_of (λ f. of_response f && same_class c f.class) (priced_at side z) ss
  same_asked z c = asked_by_those_that_stood side z c size floor t.initiating stood rs rl ∙ sym (asked_by_those_that_stood side z c size floor t.initiating stood ss sl)

  same_at : (z : ℤ) → Agree z → SameAt z
  same_at z e = go (lt_z (contra_level t.guarantee.kind t) z) refl
    where
      go : (b : Bool) → lt_z (contra_level t.guarantee.kind t) z ≡ b → SameAt z
      go true h =
          let a = none_there side t size floor stood rs rl rc z (grind (arith, ints)) in
          let b = none_there side t size floor stood ss sl sc z (grind (arith, ints)) in
          (a.0 ∙ sym b.0, a.1 ∙ sym b.1, a.2 ∙ sym b.2)
      go false h =
          let under : z ≤ℤ contra_level t.guarantee.kind t = grind (arith, ints) in
          let a = shares_decided t z (size - spent rs z) (so_far rs z) (demand_of of_customer (priced_at side z) rs) (demand_of of_other (priced_at side z) rs)
          (fill_of of_customer (priced_at side z) rs) (fill_of of_contra (priced_at side z) rs) (fill_of of_other (priced_at side z) rs) (filled_in (those (priced_beyond side z) rs))
          (facts side t size floor stood rs rl rc z) under high in
          let b = shares_decided t z (size - spent ss z) (so_far ss z) (demand_of of_customer (priced_at side z) ss) (demand_of of_other (priced_at side z) ss)
          (fill_of of_customer (priced_at side z) ss) (fill_of of_contra (priced_at side z) ss) (fill_of of_other (priced_at side z) ss) (filled_in (those (priced_beyond side z) ss))
          (facts side t size floor stood ss sl sc z) under high in
          let same = ap (λ (n : ℕ). split t z (size - n) (so_far rs z) (demand_of of_customer (priced_at side z) rs) (demand_of of_other (priced_at side z) rs)) e.0
          ∙ ap (λ (n : ℕ). split t z (size - spent ss z) n (demand_of of_customer (priced_at side z) rs) (demand_of of_other (priced_at side z) rs)) e.1
          ∙ ap (λ (n : ℕ). split t z (size - spent ss z) (so_far ss z) n (demand_of of_other (priced_at side z) rs)) (same_asked z Customer)
          ∙ ap (λ (n : ℕ). split t z (size - spent ss z) (so_far ss z) (demand_of of_customer (priced_at side z) ss) n) (same_asked z Other) in
          (a.0 ∙ ap (λ s. s.customers) same ∙ sym b.0, a.1 ∙ ap (λ s. s.contra) same ∙ sym b.1, a.2 ∙ ap (λ s. s.others) same ∙ sym b.2)

  agree_next : (z y : ℤ) → up y + down z ≡ up z + down y + 1 → Agree z → SameAt z → Agree y
  agree_next z y next e s = (
    omega (arith, below_next side rs z y next, below_next side ss z y next, at_price side rs z, at_price side ss z, e.0, s.0, s.1, s.2),
    omega (arith, contra_below_next side rs z y next, contra_below_next side ss z y next, e.1, s.1),
  )

  agree : (d : ℕ) (z : ℤ) → up z + down floor ≤ up floor + down z + d → Agree z
  agree zero z near = (
    below_floor side t size floor stood rs rl rc (priced_below side z) (λ f h le. grind (arith, ints)) ∙ sym (below_floor side t size floor stood ss sl sc (priced_below side z) (λ f h le. grind (arith, ints))),
    below_floor side t size floor stood rs rl rc (λ f. of_contra f && priced_below side z f) (λ f h le. let less = both_right (of_contra f) (priced_below side z f) h in grind (arith, ints))
        ∙ sym (below_floor side t size floor stood ss sl sc (λ f. of_contra f && priced_below side z f) (λ f h le. let less = both_right (of_contra f) (priced_below side z f) h in grind (arith, ints))),
  )
  agree (suc d) z near =
      let y = before z in
      let here = agree d y (omega (arith, before_is z)) in
      agree_next y z (before_is z) here (same_at y here)

  pub laws_decide : SameShares side rs ss
  laws_decide z = same_at z (agree (up z + down floor) z (omega arith))
