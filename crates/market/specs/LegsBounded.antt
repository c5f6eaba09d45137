-- How far prices go: a leg adds at most 9 × 1,000,000 cents either way, four legs at most 36,000,000, and a
-- turned price goes as far as the price.
use Rattle.std.specs.Prelude.{◌≡◌, ℕ, ◌+◌, ◌*◌, ◌≤◌, true, List, [], ℤ, pos, negsuc, ◌*ℤ◌, Some, None, Option, FitsSigned, refl}
use Rattle.std.proofs.Common.{ap, ◌∙◌, mul-le-mul, arith, to_z, of_z}
use Rattle.std.proofs.Math.IntN.{pos-*ℤ-pos}
use Rattle.std.specs.Int.{w64}
use Rattle.std.specs.Option.{option_map_or}
use Rattle.std.proofs.lemmas.Int.{to_z-of_z, ints}
use Rattle.std.proofs.lemmas.Bool.Decides.{nat_tests}
use Rattle.market.specs.declared.legs.Legs.{Legs}
use Rattle.market.specs.declared.leg.Leg.{Leg}
use Rattle.market.specs.declared.leg.LegQuote.{LegQuote}
use Rattle.market.specs.declared.leg.QuoteSide.{QuoteSide}
use Rattle.market.specs.declared.leg.QuoteSide.TheVariants.{Bid, Offer}
use Rattle.market.specs.declared.side.Side.{Side}
use Rattle.market.specs.declared.side.Side.TheVariants.{Buy, Sell}
use Rattle.market.specs.Leg.{leg_price_ok, leg_quote_ok, leg_ok, optional_leg_ok, leg_price, leg_part, plus}
use Rattle.market.specs.Legs.{legs_sum, legs_of, legs_quote, with_leg}
use Rattle.market.specs.Limits.{within, showable}
use Rattle.market.specs.Market.{Bounded}
use Rattle.market.specs.Side.{turned_price}

-- a ratio times a leg's price
pub product_within : (n : ℕ) (z : ℤ) → n ≤ 9 → leg_price_ok z ≡ true → within 9000000 (Some (pos n *ℤ z)) ≡ true
product_within n (pos p) h k =
    let le : p ≤ 1000000 = grind (arith, nat_tests) in
    let m : n * p ≤ 9000000 = mul-le-mul h le in
    let q : within 9000000 (Some (pos (n * p))) ≡ true = grind (arith, nat_tests) in
    ap (λ z. within 9000000 (Some z)) (pos-*ℤ-pos n p) ∙ q
product_within n (negsuc p) h k = grind arith

-- what is so small fits a signed number of 64 bits
pub small_fits : (z : ℤ) → within 9000000 (Some z) ≡ true → FitsSigned w64 z
small_fits (pos n) h = record { sfits = grind (arith, nat_tests) }
small_fits (negsuc n) h = record { sfits = grind (arith, nat_tests) }

pub leg_price_within : (z : ℤ) → leg_price_ok z ≡ true → within 9000000 (Some z) ≡ true
leg_price_within (pos p) h = grind (arith, nat_tests)
leg_price_within (negsuc p) h = grind arith

-- the product as the machine has it, of a ratio that became r
pub product_is : (n : ℕ) (r z : ℤ) → r ≡ pos n → n ≤ 9 → leg_price_ok z ≡ true
    → to_z w64 (of_z w64 r) *ℤ to_z w64 (of_z w64 z) ≡ pos n *ℤ z
product_is n r z e h k =
    let small : within 9000000 (Some (pos n)) ≡ true = grind (arith, nat_tests) in
    let f : FitsSigned w64 (pos n) = small_fits (pos n) small in
    let g : FitsSigned w64 z = small_fits z (leg_price_within z k) in
    rw e (rw (to_z-of_z w64 (pos n) f, to_z-of_z w64 z g))

-- a turned price goes as far as the price
pub turned_within : (n : ℕ) (side : Side) (z : ℤ) → within n (Some (turned_price side z)) ≡ within n (Some z)
turned_within n Buy z = refl
turned_within n Sell z = grind (arith, ints, nat_tests)

-- the price of a quote in order is one of its two
leg_price_in_order : (w : QuoteSide) (side : Side) (q : LegQuote) → leg_quote_ok q ≡ true
    → leg_price_ok (leg_price w side q) ≡ true
leg_price_in_order Bid Buy q h = grind arith
leg_price_in_order Bid Sell q h = grind arith
leg_price_in_order Offer Buy q h = grind arith
leg_price_in_order Offer Sell q h = grind arith

-- what a leg adds, of its terms and the quote that it took last
part_within : (w : QuoteSide) (l : Leg) (q : Option LegQuote) → leg_ok (record l { quote = q }) ≡ true
    → within 9000000 (leg_part w (record l { quote = q })) ≡ true
part_within w l None h = refl
part_within w l (Some q) h =
    let few : l.ratio ≤ 9 = grind (arith, nat_tests) in
    let fair : leg_quote_ok q ≡ true = grind (arith, nat_tests) in
    turned_within 9000000 l.side (pos l.ratio *ℤ leg_price w l.side q)
    ∙ product_within l.ratio (leg_price w l.side q) few (leg_price_in_order w l.side q fair)

-- a sum goes as far as its parts together
pub plus_within : (m n : ℕ) (x y : Option ℤ) → within m x ≡ true → within n y ≡ true → within (m + n) (plus x y) ≡ true
plus_within m n None y h k = refl
plus_within m n (Some x) None h k = refl
plus_within m n (Some x) (Some y) h k = grind (arith, ints, nat_tests)

pub wider : (m n : ℕ) (x : Option ℤ) → m ≤ n → within m x ≡ true → within n x ≡ true
wider m n None h k = refl
wider m n (Some z) h k = grind (arith, nat_tests)

pub wider_at : (m n : ℕ) {x y : Option ℤ} → x ≡ y → m ≤ n → within m y ≡ true → within n x ≡ true
wider_at m n {x} {y} e h k = ap (within n) e ∙ wider m n y h k

-- a sum with one leg more, if there is one
abbrev pub sum_with : QuoteSide → Option Leg → Option ℤ → Option ℤ
sum_with w leg rest = option_map_or (λ l. plus (leg_part w l) rest) leg rest

pub sum_with_within : (w : QuoteSide) (n : ℕ) (o : Option Leg) (rest : Option ℤ) → optional_leg_ok o ≡ true
    → within n rest ≡ true → within (9000000 + n) (sum_with w o rest) ≡ true
sum_with_within w n None rest h k = wider n (9000000 + n) rest (omega arith) k
sum_with_within w n (Some l) rest h k = plus_within 9000000 n (leg_part w l) rest (part_within w l l.quote h) k

-- the sum over the fourth leg, over the last two and over the last three
abbrev pub last_one : QuoteSide → Legs → Option ℤ
last_one w s = sum_with w s.fourth (Some (pos 0))

abbrev pub last_two : QuoteSide → Legs → Option ℤ
last_two w s = sum_with w s.third (last_one w s)

abbrev pub last_three : QuoteSide → Legs → Option ℤ
last_three w s = sum_with w (Some s.second) (last_two w s)

pub last_one_within : (w : QuoteSide) (s : Legs) → within 9000000 (last_one w s) ≡ true
last_one_within w s = sum_with_within w 0 s.fourth (Some (pos 0)) s.fourth_ok refl

pub last_two_within : (w : QuoteSide) (s : Legs) → within 18000000 (last_two w s) ≡ true
last_two_within w s = sum_with_within w 9000000 s.third (last_one w s) s.third_ok (last_one_within w s)

pub last_three_within : (w : QuoteSide) (s : Legs) → within 27000000 (last_three w s) ≡ true
last_three_within w s = sum_with_within w 18000000 (Some s.second) (last_two w s) s.second_ok (last_two_within w s)

-- a sum over a list that may hold one leg more
sum_of_with : (w : QuoteSide) (o : Option Leg) (ls : List Leg) → legs_sum w (with_leg o ls) ≡ sum_with w o (legs_sum w ls)
sum_of_with w None ls = refl
sum_of_with w (Some l) ls = refl

pub legs_sum_is : (w : QuoteSide) (s : Legs) → legs_sum w (legs_of s) ≡ sum_with w (Some s.first) (last_three w s)
legs_sum_is w s =
    ap (λ rest. plus (leg_part w s.first) (plus (leg_part w s.second) rest))
    (sum_of_with w s.third (with_leg s.fourth []) ∙ ap (sum_with w s.third) (sum_of_with w s.fourth []))

pub legs_sum_within : (w : QuoteSide) (s : Legs) → within 36000000 (legs_sum w (legs_of s)) ≡ true
legs_sum_within w s =
    ap (within 36000000) (legs_sum_is w s)
    ∙ sum_with_within w 27000000 (Some s.first) (last_three w s) s.first_ok (last_three_within w s)

-- what legs show is bounded
pub legs_bounded : (s : Legs) → Bounded (legs_quote (legs_of s))
legs_bounded s = (shown_within Bid, shown_within Offer)
  where
    shown_within : (w : QuoteSide) → showable (legs_sum w (legs_of s)) ≡ true
    shown_within w = wider 36000000 50000000 (legs_sum w (legs_of s)) (omega arith) (legs_sum_within w s)
