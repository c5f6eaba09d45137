-- The laws of a range hold of what the definition answers: the lower of limit and contra price is below the floor
-- exactly where one of the two is.
use Rattle.std.proofs.Common.{◌≡◌, ℕ, Bool, true, false, cond, ◌⊎◌, ℤ, neg_ℤ, ◌≤ℤ◌, ◌<ℤ◌, Some, None, Ok, Err, Option, Result, sym, refl, ap, ◌∙◌, subst, inl, inr, arith}
use borrow.Author.Differences.{ints}
use lib.Signed.{lt_z}
use Rattle.std.specs.Int.{int_min}
use Rattle.std.specs.Option.{option_map}
use Rattle.std.specs.Result.{result_err}
use Rattle.market.specs.declared.quote.Quote.{Quote}
use Rattle.market.specs.declared.side.Side.{Side}
use Rattle.market.specs.declared.side.Side.TheVariants.{Buy, Sell}
use Rattle.market.specs.Limits.{in_limits}
use Rattle.market.specs.Range.{RangePrices, turned_quote, range_from, range_faced, permitted_range}
use Rattle.market.specs.RangeLaws.{Gives, PlainPrices, mirror_of, as_sell, RangeLaws}
use Rattle.market.specs.Side.{turned_price}
use Rattle.market.specs.LegsBounded.{turned_within}

below : (side : Side) (limit floor contra : ℤ) → (limit <ℤ floor) ⊎ (contra <ℤ floor) → result_err (range_from side limit floor contra) ≡ Some 15
below side limit floor contra h =
    let low : lt_z (int_min limit contra) floor ≡ true = grind (arith, ints) in
    rw low

above : (side : Side) (limit floor contra : ℤ) → floor ≤ℤ limit → floor ≤ℤ contra → Gives (range_from side limit floor contra) side floor contra limit
above side limit floor contra h k =
    let high : lt_z (int_min limit contra) floor ≡ false = grind (arith, ints) in
    rw high (
      refl,
      refl,
      refl,
      record {
        from_floor = grind (arith, ints);
        to_limit = grind (arith, ints);
        to_contra = grind (arith, ints);
        one_of_both = elim (lt_z contra limit) as (λ b. (cond b contra limit ≡ limit) ⊎ (cond b contra limit ≡ contra)) [ true ↦ inr refl | false ↦ inl refl ];
      },
    )

-- inside its limits a limit price is judged by what is shown
permitted_inside : (side : Side) (limit : ℤ) (q : Quote) → in_limits (Some limit) ≡ true → permitted_range side limit q ≡ range_faced side (turned_price side limit) (turned_quote side q).floor (turned_quote side q).contra
permitted_inside side limit q h = rw h

no_floor_is : (side : Side) (limit : ℤ) (floor contra : Option ℤ) → floor ≡ None → result_err (range_faced side limit floor contra) ≡ Some 14
no_floor_is side limit floor contra e = rw e

no_contra_is : (side : Side) (limit : ℤ) (floor contra : Option ℤ) → contra ≡ None → result_err (range_faced side limit floor contra) ≡ Some 14
no_contra_is side limit None contra e = refl
no_contra_is side limit (Some f) contra e = rw e

faced_is : (side : Side) (limit f c : ℤ) (floor contra : Option ℤ) → floor ≡ Some f → contra ≡ Some c → range_faced side limit floor contra ≡ range_from side limit f c
faced_is side limit f c floor contra e k = rw (e, k)

-- a sell order's prices are those of the mirrored buy order
sell_from : (limit floor contra : ℤ) → range_from Sell limit floor contra ≡ as_sell (range_from Buy limit floor contra)
sell_from limit floor contra =
    elim (lt_z (int_min limit contra) floor) as (λ b. cond b (Err 15) (Ok (prices Sell)) ≡ as_sell (cond b (Err 15) (Ok (prices Buy)))) [ true ↦ refl | false ↦ refl ]
  where
    prices : Side → RangePrices
    prices side = record { side = side; floor = floor; contra = contra; initiating = int_min limit contra }

sell_faced : (limit : ℤ) (floor contra : Option ℤ) → range_faced Sell limit floor contra ≡ as_sell (range_faced Buy limit floor contra)
sell_faced limit None contra = refl
sell_faced limit (Some f) None = refl
sell_faced limit (Some f) (Some c) = sell_from limit f c

mirrors : (limit : ℤ) (q : Quote) → permitted_range Sell limit q ≡ as_sell (permitted_range Buy (neg_ℤ limit) (mirror_of q))
mirrors limit q =
    let judge : Bool → Result RangePrices ℕ = λ b. as_sell (cond b (range_faced Buy (neg_ℤ limit) (mirror_of q).bid (mirror_of q).offer) (Err 2)) in
    by (in_limits (Some limit)) ∙ ap judge (sym (turned_within 40000000 Sell limit))
  where
    by : (b : Bool) → cond b (range_faced Sell (neg_ℤ limit) (mirror_of q).bid (mirror_of q).offer) (Err 2) ≡ as_sell (cond b (range_faced Buy (neg_ℤ limit) (mirror_of q).bid (mirror_of q).offer) (Err 2))
    by true = sell_faced (neg_ℤ limit) (mirror_of q).bid (mirror_of q).offer
    by false = refl

-- a range has the lower of limit and contra price, which is not below the floor
range_from_ok : (side : Side) (limit floor contra : ℤ) (r : RangePrices) → range_from side limit floor contra ≡ Ok r → (record { side = side; floor = floor; contra = contra; initiating = int_min limit contra } ≡ r) × (lt_z (int_min limit contra) floor ≡ false)
range_from_ok side limit floor contra r e = go (lt_z (int_min limit contra) floor) refl
  where
    prices : RangePrices
    prices = record { side = side; floor = floor; contra = contra; initiating = int_min limit contra }

    go : (b : Bool) → lt_z (int_min limit contra) floor ≡ b → (prices ≡ r) × (lt_z (int_min limit contra) floor ≡ false)
    go true k =
        let low : range_from side limit floor contra ≡ Err 15 = rw k in
        let z : ◌≡◌ {A = ℕ} 0 1 = cc in
        absurd (omega arith)
    go false k =
        let high : range_from side limit floor contra ≡ Ok prices = rw k in
        (cc, k)

-- and its limit price is inside the limits
permitted_ok : (side : Side) (limit : ℤ) (q : Quote) (r : RangePrices) → permitted_range side limit q ≡ Ok r → range_faced side (turned_price side limit) (turned_quote side q).floor (turned_quote side q).contra ≡ Ok r
permitted_ok side limit q r e = go (in_limits (Some limit)) refl
  where
    go : (b : Bool) → in_limits (Some limit) ≡ b → range_faced side (turned_price side limit) (turned_quote side q).floor (turned_quote side q).contra ≡ Ok r
    go true k = let same = permitted_inside side limit q k in cc
    go false k =
        let out : permitted_range side limit q ≡ Err 2 = rw k in
        let z : ◌≡◌ {A = ℕ} 0 1 = cc in
        absurd (omega arith)

buy_prices : (limit bid offer : ℤ) → lt_z (int_min limit offer) bid ≡ false → PlainPrices Buy limit bid offer (record { side = Buy; floor = bid; contra = offer; initiating = int_min limit offer })
buy_prices limit bid offer h = (grind (arith, ints), grind (arith, ints))

sell_prices : (limit bid offer : ℤ) → lt_z (int_min (neg_ℤ limit) (neg_ℤ bid)) (neg_ℤ offer) ≡ false → PlainPrices Sell limit bid offer (record { side = Sell; floor = neg_ℤ offer; contra = neg_ℤ bid; initiating = int_min (neg_ℤ limit) (neg_ℤ bid) })
sell_prices limit bid offer h = (grind (arith, ints), grind (arith, ints))

plain_prices_hold : (side : Side) (limit : ℤ) (q : Quote) (bid offer : ℤ) → q.bid ≡ Some bid → q.offer ≡ Some offer → (r : RangePrices) → permitted_range side limit q ≡ Ok r → PlainPrices side limit bid offer r
plain_prices_hold Buy limit q bid offer b o r e =
    let given = range_from_ok Buy limit bid offer r (sym (faced_is Buy limit bid offer q.bid q.offer b o) ∙ permitted_ok Buy limit q r e) in
    subst (PlainPrices Buy limit bid offer) given.0 (buy_prices limit bid offer given.1)
plain_prices_hold Sell limit q bid offer b o r e =
    let floor = ap (option_map neg_ℤ) o in
    let contra = ap (option_map neg_ℤ) b in
    let given = range_from_ok Sell (neg_ℤ limit) (neg_ℤ offer) (neg_ℤ bid) r (sym (faced_is Sell (neg_ℤ limit) (neg_ℤ offer) (neg_ℤ bid) (option_map neg_ℤ q.offer) (option_map neg_ℤ q.bid) floor contra) ∙ permitted_ok Sell limit q r e) in
    subst (PlainPrices Sell limit bid offer) given.0 (sell_prices limit bid offer given.1)

pub range_laws : (side : Side) (limit : ℤ) (q : Quote) → RangeLaws side limit q (permitted_range side limit q)
range_laws side limit q = record {
  outside_limits = λ h. rw h;
  no_floor = λ h e. ap result_err (permitted_inside side limit q h) ∙ no_floor_is side (turned_price side limit) (turned_quote side q).floor (turned_quote side q).contra e;
  no_contra = λ h e. ap result_err (permitted_inside side limit q h) ∙ no_contra_is side (turned_price side limit) (turned_quote side q).floor (turned_quote side q).contra e;
  below_floor = λ h f c e k low. ap result_err (permitted_inside side limit q h ∙ faced_is side (turned_price side limit) f c (turned_quote side q).floor (turned_quote side q).contra e k) ∙ below side (turned_price side limit) f c low;
  in_range = λ h f c e k l m. subst (λ r. Gives r side f c (turned_price side limit)) (sym (permitted_inside side limit q h ∙ faced_is side (turned_price side limit) f c (turned_quote side q).floor (turned_quote side q).contra e k)) (above side (turned_price side limit) f c l m);
  plain_prices = plain_prices_hold side limit q;
  sell_mirrors_buy = λ e. ap (λ s. permitted_range s limit q) e ∙ mirrors limit q;
}
