-- What the code writes is the fill list of the auction, and the fill list keeps its laws.
use Rattle.std.proofs.Common.{◌≡◌, ℕ, ◌+◌, ◌*◌, ◌/◌, ◌<◌, ◌≤◌, max, Bool, true, false, cond, not, ◌&&◌, eqb, leb, List, [], ◌∷◌, ◌++◌, map, length, take, drop, ℤ, ◌≤ℤ◌, Some, sym, refl, ap, ◌∙◌, subst, arith, length-append}
use borrow.Author.Differences.{ints}
use lib.Signed.{le_z}
use Rattle.std.proofs.lemmas.List.{take_at, drop_at, length-map}
use Rattle.std.proofs.lemmas.List.Sorted.{length_permutation}
use Rattle.std.proofs.ByRecursion.{all_shuffled}
use Rattle.std.proofs.lemmas.Bool.Decides.{nat_tests}
use Rattle.std.specs.List.{AllByRecursion}
use Rattle.std.specs.Prelude.{◌≢◌}
use Rattle.market.specs.declared.side.Side.{Side}
use Rattle.market.specs.Limits.{showable}
use Rattle.allocation.specs.declared.fill.FillRow.{FillRow}
use Rattle.allocation.specs.declared.order.ContraTerms.{ContraTerms}
use Rattle.allocation.specs.declared.order.GuaranteeKind.{GuaranteeKind}
use Rattle.allocation.specs.declared.order.GuaranteeKind.TheVariants.{SingleStop, AutoMatchLimit}
use Rattle.allocation.specs.declared.order.PairedOrder.{PairedOrder}
use Rattle.allocation.specs.declared.response.Key.{Key}
use Rattle.allocation.specs.declared.response.Response.{Response}
use Rattle.allocation.specs.Arrange.{arrangement}
use Rattle.allocation.specs.Auction.{AuctionValues, stood_responses, auction_fills}
use Rattle.allocation.specs.AuctionInvariant.{from_to, stop_ok, range_ok, guarantee_ok, terms_ok, response_ok, each, arrivals_apart, owns_apart}
use Rattle.allocation.specs.ContraLaws.{ContraLaws}
use Rattle.allocation.specs.FillLaws.{StoodResponse, stood_response, FillLaws}
use Rattle.allocation.specs.Fill.{fills, fill_list, contra_terms, order_levels}
use Rattle.allocation.specs.Levels.{Level, levels, contra_level, flat}
use Rattle.allocation.specs.LevelSteps.{Sized, Sound}
use Rattle.allocation.specs.OnlyRows.{LawfulRows, lawful_share}
use Rattle.allocation.specs.OnlyShares.{OnlyTheseShares}
use Rattle.allocation.specs.Ranking.{by_key}
use Rattle.allocation.specs.RowLaws.{RowLaws}
use Rattle.allocation.specs.Split.{guaranteed_share}
use Rattle.allocation.specs.Walk.{walk_rows}
use Rattle.allocation.proofs.AuctionKept.{both_left, both_right}
use Rattle.allocation.proofs.ContraFacts.{fills_contra_lawful}
use Rattle.allocation.proofs.FillFacts.{fills_lawful}
use Rattle.allocation.proofs.LevelFacts.{all_classes, ordered_classes, holds_levels, ascending_levels, among_levels, shuffled_flat, flat_arranged, all_flat, shuffled_arranged}
use Rattle.allocation.proofs.LawsDecide.{laws_decide}
use Rattle.allocation.proofs.RowLists.{all_both}
use Rattle.allocation.proofs.RowOrder.{Ranked, rows_stand}
use Rattle.allocation.proofs.RowsDecide.{rows_decide}
use Rattle.allocation.proofs.StoodApart.{StoodOnce, are_apart, owns_are_apart, all_stood_once, stood_apart}
use Rattle.allocation.proofs.LevelRows.{Stands}
use Rattle.allocation.proofs.LevelShape.{Holds, Ascending, Among}
use Rattle.allocation.proofs.WalkFacts.{walked_is_fills, walkable_levels, few_levels}

pub sound_arranged : (ahead : Response → Response → Bool) (xs : List Response) → Sound xs → Sound (arrangement ahead xs)
sound_arranged ahead xs h =
    let same = shuffled_arranged ahead xs in
    let long = length_permutation xs (arrangement ahead xs) same in
    (omega arith, all_shuffled Sized xs (arrangement ahead xs) same h.1)

-- walking the arranged responses writes the fills of their levels
pub walked_levels : (ahead : Response → Response → Bool) (side : Side) (t : ContraTerms) (xs ys : List Response) (size : ℕ) → ys ≡ arrangement ahead xs
    → walk_rows (length ys + 1) side t (Some (contra_level t.guarantee.kind t)) ys size 0 ≡ fills side t (levels ahead (contra_level t.guarantee.kind t) xs) size 0
walked_levels ahead side t xs ys size e =
    let contra_price : ℤ = contra_level t.guarantee.kind t in
    let ls = levels ahead contra_price xs in
    let flat_is : flat ls ≡ ys = flat_arranged ahead contra_price xs ∙ sym e in
    let long : length ys ≡ length xs = ap length e ∙ length_permutation xs (arrangement ahead xs) (shuffled_arranged ahead xs) in
    let few : length ls ≤ length ys + 1 = omega (arith, few_levels ahead contra_price xs) in
    ap (λ zs. walk_rows (length ys + 1) side t (Some contra_price) zs size 0) (sym flat_is) ∙ walked_is_fills (length ys + 1) side t contra_price (Some contra_price) ls size 0 few (walkable_levels ahead contra_price xs)

-- a price between two that can be turned can be turned
between : (low z high : ℤ) → showable (Some low) ≡ true → showable (Some high) ≡ true → le_z low z ≡ true → le_z z high ≡ true → showable (Some z) ≡ true
between low z high a b c d = grind (arith, ints, nat_tests)

-- what holds of the terms of an auction
pub record Terms (order : PairedOrder) (floor initiating : ℤ) : Type 0 where
  pub size_most : order.size ≤ 100000
  pub floor_shown : showable (Some floor) ≡ true
  pub initiating_shown : showable (Some initiating) ≡ true
  pub in_order : le_z floor initiating ≡ true
  pub guaranteed_at : le_z order.guarantee.price initiating ≡ true
  pub stop_at : stop_ok order.guarantee.kind floor order.guarantee.price ≡ true

pub terms_hold : (order : PairedOrder) (floor initiating : ℤ) → terms_ok order floor initiating ≡ true → Terms order floor initiating
terms_hold order floor initiating h =
    let size = both_left (from_to 1 100000 order.size) (range_ok floor initiating && guarantee_ok order.guarantee floor initiating) h in
    let rest = both_right (from_to 1 100000 order.size) (range_ok floor initiating && guarantee_ok order.guarantee floor initiating) h in
    let range = both_left (range_ok floor initiating) (guarantee_ok order.guarantee floor initiating) rest in
    let guarantee = both_right (range_ok floor initiating) (guarantee_ok order.guarantee floor initiating) rest in
    let shown = both_right (showable (Some floor)) (showable (Some initiating) && le_z floor initiating) range in
    record {
      size_most = let most : leb order.size 100000 ≡ true = both_right (leb 1 order.size) (leb order.size 100000) size in grind (arith, nat_tests);
      floor_shown = both_left (showable (Some floor)) (showable (Some initiating) && le_z floor initiating) range;
      initiating_shown = both_left (showable (Some initiating)) (le_z floor initiating) shown;
      in_order = both_right (showable (Some initiating)) (le_z floor initiating) shown;
      guaranteed_at = both_left (le_z order.guarantee.price initiating) (stop_ok order.guarantee.kind floor order.guarantee.price) guarantee;
      stop_at = both_right (le_z order.guarantee.price initiating) (stop_ok order.guarantee.kind floor order.guarantee.price) guarantee;
    }

-- the contra's own price lies in the range
own_in_range : (k : GuaranteeKind) (price floor initiating : ℤ) (t : ContraTerms) → t.guarantee.price ≡ price → t.initiating ≡ initiating → le_z floor initiating ≡ true → le_z price initiating ≡ true → stop_ok k floor price ≡ true → le_z floor (contra_level k t) ≡ true
own_in_range SingleStop price floor initiating t e f a b c = ap (le_z floor) e ∙ c
own_in_range AutoMatchLimit price floor initiating t e f a b c = ap (le_z floor) f ∙ a

-- what holds of a response that stands
one_stands : (size : ℕ) (floor initiating : ℤ) (x : Response) → response_ok size floor initiating x ≡ true → (0 < x.member) × (1 ≤ x.size) × (x.size ≤ size) × (le_z floor x.price ≡ true) × (le_z x.price initiating ≡ true)
one_stands size floor initiating x h =
    let r1 = both_right (from_to 1 16 x.member) (from_to 1 4 x.own_number && (from_to 1 size x.size && (le_z floor x.price && le_z x.price initiating))) h in
    let r2 = both_right (from_to 1 4 x.own_number) (from_to 1 size x.size && (le_z floor x.price && le_z x.price initiating)) r1 in
    let r3 = both_right (from_to 1 size x.size) (le_z floor x.price && le_z x.price initiating) r2 in
    let member = both_left (leb 1 x.member) (leb x.member 16) (both_left (from_to 1 16 x.member) (from_to 1 4 x.own_number && (from_to 1 size x.size && (le_z floor x.price && le_z x.price initiating))) h) in
    let sized = both_left (from_to 1 size x.size) (le_z floor x.price && le_z x.price initiating) r2 in
    let least = both_left (leb 1 x.size) (leb x.size size) sized in
    let most = both_right (leb 1 x.size) (leb x.size size) sized in
    (grind (arith, nat_tests), grind (arith, nat_tests), grind (arith, nat_tests), both_left (le_z floor x.price) (le_z x.price initiating) r3, both_right (le_z floor x.price) (le_z x.price initiating) r3)

pub all_sized : (size : ℕ) (floor initiating : ℤ) (xs : List Response) → size ≤ 100000 → showable (Some floor) ≡ true → showable (Some initiating) ≡ true → each (response_ok size floor initiating) xs ≡ true → AllByRecursion Sized xs
all_sized size floor initiating [] h a b e = tt
all_sized size floor initiating (x ∷ xs) h a b e =
    let one = one_stands size floor initiating x (both_left (response_ok size floor initiating x) (each (response_ok size floor initiating) xs) e) in
    ((one.1, omega (arith, one.2), between floor x.price initiating a b one.3 one.4), all_sized size floor initiating xs h a b (both_right (response_ok size floor initiating x) (each (response_ok size floor initiating) xs) e))

all_stand : (size : ℕ) (floor initiating : ℤ) (xs : List Response) → each (response_ok size floor initiating) xs ≡ true → AllByRecursion (Stands floor initiating) xs
all_stand size floor initiating [] e = tt
all_stand size floor initiating (x ∷ xs) e =
    let one = one_stands size floor initiating x (both_left (response_ok size floor initiating x) (each (response_ok size floor initiating) xs) e) in
    let low = one.3 in
    let high = one.4 in
    ((one.0, omega (arith, one.1), grind (arith, ints), grind (arith, ints)), all_stand size floor initiating xs (both_right (response_ok size floor initiating x) (each (response_ok size floor initiating) xs) e))

-- the levels of an order whose range and guarantee are in order: what the laws of their fills rest on
record InOrder (t : ContraTerms) (floor : ℤ) (ls : List Level) : Type 0 where
  holds : AllByRecursion Holds ls
  ascending : Ascending ls
  among : Among (contra_level t.guarantee.kind t) ls
  stand : AllByRecursion (Stands floor t.initiating) (flat ls)
  low : floor ≤ℤ contra_level t.guarantee.kind t
  high : t.guarantee.price ≤ℤ t.initiating

levels_in_order : (ahead : Response → Response → Bool) (order : PairedOrder) (floor initiating : ℤ) (stood : List Response) → le_z floor initiating ≡ true → le_z order.guarantee.price initiating ≡ true
    → stop_ok order.guarantee.kind floor order.guarantee.price ≡ true → each (response_ok order.size floor initiating) stood ≡ true
    → InOrder (contra_terms order initiating (length stood)) floor (order_levels ahead order initiating stood)
levels_in_order ahead order floor initiating stood in_order under stop_at e =
    let t : ContraTerms = contra_terms order initiating (length stood) in
    let contra_price : ℤ = contra_level order.guarantee.kind t in
    let above = own_in_range order.guarantee.kind order.guarantee.price floor initiating t refl refl in_order under stop_at in
    record {
      holds = holds_levels ahead contra_price stood;
      ascending = ascending_levels ahead contra_price stood;
      among = among_levels ahead contra_price stood;
      stand = all_flat ahead (Stands floor initiating) contra_price stood (all_stand order.size floor initiating stood e);
      low = grind (arith, ints);
      high = grind (arith, ints);
    }

-- the fill list keeps its laws where the range and the guarantee are in order
fill_list_in_order : (ahead : Response → Response → Bool) (order : PairedOrder) (floor initiating : ℤ) (stood : List Response) → le_z floor initiating ≡ true → le_z order.guarantee.price initiating ≡ true
    → stop_ok order.guarantee.kind floor order.guarantee.price ≡ true → each (response_ok order.size floor initiating) stood ≡ true → FillLaws order.side order.size floor initiating (map (stood_response order.side) stood) (fill_list ahead order initiating stood)
fill_list_in_order ahead order floor initiating stood in_order under stop_at e =
    let t : ContraTerms = contra_terms order initiating (length stood) in
    let h = levels_in_order ahead order floor initiating stood in_order under stop_at e in
    fills_lawful order.side t order.size floor stood (order_levels ahead order initiating stood) h.holds h.ascending h.among (shuffled_flat ahead (contra_level order.guarantee.kind t) stood) h.stand h.low h.high

-- and in it the contra takes what it may
contra_in_order : (ahead : Response → Response → Bool) (order : PairedOrder) (floor initiating : ℤ) (stood : List Response) → le_z floor initiating ≡ true → le_z order.guarantee.price initiating ≡ true
    → stop_ok order.guarantee.kind floor order.guarantee.price ≡ true → each (response_ok order.size floor initiating) stood ≡ true → ContraLaws order.side order.guarantee initiating (guaranteed_share order.size (length stood)) (fill_list ahead order initiating stood)
contra_in_order ahead order floor initiating stood in_order under stop_at e =
    let h = levels_in_order ahead order floor initiating stood in_order under stop_at e in
    fills_contra_lawful order.side (contra_terms order initiating (length stood)) order.size floor (order_levels ahead order initiating stood) h.holds h.ascending h.among h.stand h.low h.high

-- and no other shares keep both
only_in_order : (ahead : Response → Response → Bool) (order : PairedOrder) (floor initiating : ℤ) (stood : List Response) → le_z floor initiating ≡ true → le_z order.guarantee.price initiating ≡ true
    → stop_ok order.guarantee.kind floor order.guarantee.price ≡ true → each (response_ok order.size floor initiating) stood ≡ true
    → OnlyTheseShares order.side order.size floor order.guarantee initiating (guaranteed_share order.size (length stood)) (map (stood_response order.side) stood) (fill_list ahead order initiating stood)
only_in_order ahead order floor initiating stood in_order under stop_at e rows laws contra =
    laws_decide order.side (contra_terms order initiating (length stood)) order.size floor (map (stood_response order.side) stood) rows (fill_list ahead order initiating stood)
    (levels_in_order ahead order floor initiating stood in_order under stop_at e).high laws contra
    (fill_list_in_order ahead order floor initiating stood in_order under stop_at e)
    (contra_in_order ahead order floor initiating stood in_order under stop_at e)

-- what the laws of the fill list of an auction rest on
pub record Fillable (v : AuctionValues) : Type 0 where
  pub in_order : le_z v.floor v.initiating ≡ true
  pub guaranteed_at : le_z v.order.guarantee.price v.initiating ≡ true
  pub stop_at : stop_ok v.order.guarantee.kind v.floor v.order.guarantee.price ≡ true
  pub standing : each (response_ok v.order.size v.floor v.initiating) v.stood ≡ true
  pub arrivals : arrivals_apart v.stood ≡ true
  pub owns : owns_apart v.stood ≡ true

-- what a ranking keeps: of two different arrivals exactly one is ahead, and ahead carries on
pub record Ranks (ahead : Key → Key → Bool) : Type 0 where
  pub one_ahead : (x y : Key) → x.arrival ≢ y.arrival → ahead x y ≡ not (ahead y x)
  pub carries_on : (x y z : Key) → ahead x y ≡ true → ahead y z ≡ true → ahead x z ≡ true

-- its rows stand in their order
rows_in_order : (ahead : Key → Key → Bool) → Ranks ahead → (v : AuctionValues) → Fillable v → RowLaws v.order.side ahead (stood_responses v) (auction_fills (by_key ahead) v)
rows_in_order ahead ranks v h =
    let contra_price : ℤ = contra_level v.order.guarantee.kind (contra_terms v.order v.initiating (length v.stood)) in
    let shape = levels_in_order (by_key ahead) v.order v.floor v.initiating v.stood h.in_order h.guaranteed_at h.stop_at h.standing in
    let ls : List Level = order_levels (by_key ahead) v.order v.initiating v.stood in
    let once = all_stood_once v.order.side v.stood (owns_are_apart v.stood h.owns) in
    let stood = all_classes (StoodOnce (stood_responses v)) ls (all_flat (by_key ahead) (StoodOnce (stood_responses v)) contra_price v.stood once) in
    let ordered = ordered_classes ahead ranks.one_ahead ranks.carries_on contra_price v.stood (are_apart v.stood h.arrivals) in
    rows_stand v.order.side ahead (stood_responses v) (contra_terms v.order v.initiating (length v.stood)) v.floor shape.low shape.high ls v.order.size 0 shape.holds shape.ascending shape.stand
    (all_both _ _ (Ranked v.order.side ahead (stood_responses v)) (λ l o t. (o, t)) ls ordered stood)

-- the guaranteed share, by the split and by the laws
share_by : (size : ℕ) (b : Bool) → max 1 (size * cond b 50 40 / 100) ≡ max 1 (cond b (size * 50 / 100) (size * 40 / 100))
share_by size true = refl
share_by size false = refl

share_is : (size stood : ℕ) → guaranteed_share size stood ≡ lawful_share size stood
share_is size stood = share_by size (eqb stood 1)

-- the fill list of an auction keeps all laws, and no other rows do
pub fills_are_lawful : (ahead : Key → Key → Bool) → Ranks ahead → (v : AuctionValues) → Fillable v
    → LawfulRows v.order.side v.order.size v.floor v.order.guarantee v.initiating ahead (stood_responses v) (auction_fills (by_key ahead) v)
fills_are_lawful ahead ranks v h = record {
  fill_laws = laws;
  contra_laws = contra;
  row_laws = order;
  only_shares = shares;
  only_rows = λ fs fl fc fo. rows_decide side ahead ranks.one_ahead stood (stood_apart side v.stood h.arrivals h.owns) v.order.size v.floor v.initiating fs rows fl fo laws order (shares fs fl fc);
}
  where
    stood : List StoodResponse
    stood = stood_responses v

    side : Side
    side = v.order.side

    rows : List FillRow
    rows = auction_fills (by_key ahead) v

    counted : guaranteed_share v.order.size (length v.stood) ≡ lawful_share v.order.size (length stood)
    counted = share_is v.order.size (length v.stood) ∙ ap (lawful_share v.order.size) (sym (length-map v.stood (stood_response side)))

    laws : FillLaws side v.order.size v.floor v.initiating stood rows
    laws = fill_list_in_order (by_key ahead) v.order v.floor v.initiating v.stood h.in_order h.guaranteed_at h.stop_at h.standing

    contra : ContraLaws side v.order.guarantee v.initiating (lawful_share v.order.size (length stood)) rows
    contra = subst (λ (g : ℕ). ContraLaws side v.order.guarantee v.initiating g rows) counted
        (contra_in_order (by_key ahead) v.order v.floor v.initiating v.stood h.in_order h.guaranteed_at h.stop_at h.standing)

    shares : OnlyTheseShares side v.order.size v.floor v.order.guarantee v.initiating (lawful_share v.order.size (length stood)) stood rows
    shares = subst (λ (g : ℕ). OnlyTheseShares side v.order.size v.floor v.order.guarantee v.initiating g stood rows) counted
        (only_in_order (by_key ahead) v.order v.floor v.initiating v.stood h.in_order h.guaranteed_at h.stop_at h.standing)

    order : RowLaws side ahead stood rows
    order = rows_in_order ahead ranks v h

-- the front and the rest of what an accepted call wrote
pub written_front : (fs rows new : List FillRow) (n : ℕ) → n ≡ length fs → new ≡ fs ++ drop n rows → take n new ≡ fs
written_front fs rows new n e k = ap (take n) k ∙ take_at fs (drop n rows) n (sym e)

pub written_past : (fs rows new : List FillRow) (n : ℕ) → n ≡ length fs → new ≡ fs ++ drop n rows → (n ≤ length new) × (drop n new ≡ drop n rows)
written_past fs rows new n e k =
    let long : length new ≡ length fs + length (drop n rows) = ap length k ∙ length-append fs (drop n rows) in
    (omega arith, ap (drop n) k ∙ drop_at fs (drop n rows) n (sym e))
