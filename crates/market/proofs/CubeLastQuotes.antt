-- After any ticks the CUBE market's book holds its last accepted quote, and each leg its last accepted one.
use Rattle.std.proofs.Common.{◌≡◌, ℕ, suc, ◌-◌, ◌≤◌, min, Bool, true, false, cond, ◌&&◌, eqb, List, [], ◌∷◌, length, is_ok, Some, sym, refl, ap, ◌∙◌, arith}
use Rattle.std.proofs.lemmas.Bool.Decides.{nat_tests}
use Rattle.market.specs.declared.better_of.Half.TheVariants.{Left, Right}
use Rattle.market.specs.declared.leg.Leg.{Leg}
use Rattle.market.specs.declared.leg.LegQuote.{LegQuote}
use Rattle.market.specs.declared.leg.LegTick.{LegTick}
use Rattle.market.specs.declared.quote.Quote.{Quote}
use Rattle.market.specs.BetterOf.{better_quote}
use Rattle.market.specs.Cube.{CubeTicks, cube_start, cube_meaning, cube_quote}
use Rattle.market.specs.CubeHistory.{position_after, last_or, book_quotes, leg_quotes, last_book, with_last_quote, legs_from, last_legs}
use Rattle.market.specs.Improve.{improved_quote}
use Rattle.market.specs.Leg.{tick_answer, with_quote}
use Rattle.market.specs.Legs.{legs_answer, legs_next, quote_leg, smallest_ratio, legs_quote}
use Rattle.market.specs.Market.{nothing_shown}
use Rattle.market.specs.Touch.{touch_answer, touch_next}

-- a quote keeps the number of legs
length_quoted : (n : ℕ) (q : LegQuote) (ls : List Leg) → length (quote_leg n q ls) ≡ length ls
length_quoted n q [] = refl
length_quoted n q (l ∷ ls) =
    elim (eqb n 1) as (λ b. length (cond b (with_quote q l ∷ ls) (l ∷ quote_leg (n - 1) q ls)) ≡ suc (length ls)) [
      | true ↦ refl
      | false ↦ ap suc (length_quoted (n - 1) q ls)
    ]

length_next : (ls : List Leg) (t : LegTick) → length (legs_next ls t) ≡ length ls
length_next ls t =
    elim (is_ok (legs_answer ls t)) as (λ b. length (cond b (quote_leg t.leg t.quote ls) ls) ≡ length ls) [
      | true ↦ length_quoted t.leg t.quote ls
      | false ↦ refl
    ]

-- a tick that leg n does not take leaves its quotes, and one that it takes is the oldest of them
not_taken : (count n : ℕ) (t : LegTick) (ts : CubeTicks) → (eqb t.leg n && is_ok (tick_answer count t)) ≡ false → leg_quotes count n (Right t ∷ ts) ≡ leg_quotes count n ts
not_taken count n t ts e = ap (λ b. cond b (Some t.quote ∷ leg_quotes count n ts) (leg_quotes count n ts)) e

taken : (count n : ℕ) (t : LegTick) (ts : CubeTicks) → (eqb t.leg n && is_ok (tick_answer count t)) ≡ true → leg_quotes count n (Right t ∷ ts) ≡ Some t.quote ∷ leg_quotes count n ts
taken count n t ts e = ap (λ b. cond b (Some t.quote ∷ leg_quotes count n ts) (leg_quotes count n ts)) e

and_left : (a b : Bool) → a ≡ false → (a && b) ≡ false
and_left a b e = rw e

and_right : (a b : Bool) → b ≡ false → (a && b) ≡ false
and_right true b e = e
and_right false b e = refl

and_both : (a b : Bool) → a ≡ true → b ≡ true → (a && b) ≡ true
and_both a b e f = rw e f

-- a tick that none of the legs from n on takes
none_take : (count n : ℕ) (ls : List Leg) (t : LegTick) (ts : CubeTicks) → ((k : ℕ) → n ≤ k → (eqb t.leg k && is_ok (tick_answer count t)) ≡ false) → legs_from count n ls (Right t ∷ ts) ≡ legs_from count n ls ts
none_take count n [] t ts h = refl
none_take count n (l ∷ ls) t ts h =
    let here = ap (λ qs. with_last_quote qs l) (not_taken count n t ts (h n (omega arith))) in
    let rest = none_take count (suc n) ls t ts (λ k m. h k (omega arith)) in
    cc

-- an accepted tick is the oldest quote of the leg that it is for
one_takes : (count n : ℕ) (ls : List Leg) (t : LegTick) (ts : CubeTicks) → is_ok (tick_answer count t) ≡ true → n ≤ t.leg → legs_from count n ls (Right t ∷ ts) ≡ legs_from count n (quote_leg (suc t.leg - n) t.quote ls) ts
one_takes count n [] t ts h k = refl
one_takes count n (l ∷ ls) t ts h k = go (eqb t.leg n) refl (λ m. one_takes count (suc n) ls t ts h m)
  where
    go : (b : Bool) → eqb t.leg n ≡ b → (suc n ≤ t.leg → legs_from count (suc n) ls (Right t ∷ ts) ≡ legs_from count (suc n) (quote_leg (suc t.leg - suc n) t.quote ls) ts) → legs_from count n (l ∷ ls) (Right t ∷ ts) ≡ legs_from count n (quote_leg (suc t.leg - n) t.quote (l ∷ ls)) ts
    go true e later =
        let this : eqb (suc t.leg - n) 1 ≡ true = grind (arith, nat_tests) in
        let here = ap (λ qs. with_last_quote qs l) (taken count n t ts (and_both _ _ e h)) in
        let rest = none_take count (suc n) ls t ts (λ j m. let past : eqb t.leg j ≡ false = grind (arith, nat_tests) in and_left (eqb t.leg j) (is_ok (tick_answer count t)) past) in
        rw this cc
    go false e later =
        let that : eqb (suc t.leg - n) 1 ≡ false = grind (arith, nat_tests) in
        let fewer : suc t.leg - n - 1 ≡ suc t.leg - suc n = omega arith in
        let here = ap (λ qs. with_last_quote qs l) (not_taken count n t ts (and_left _ _ e)) in
        let rest = later (grind (arith, nat_tests)) in
        rw (that, fewer) cc

-- with no tick, each leg has the quote that it had
none_yet : (count n : ℕ) (ls : List Leg) → legs_from count n ls [] ≡ ls
none_yet count n [] = refl
none_yet count n (l ∷ ls) = ap (λ rest. l ∷ rest) (none_yet count (suc n) ls)

-- a tick for the book passes the legs by
book_passes : (count n : ℕ) (ls : List Leg) (q : Quote) (ts : CubeTicks) → legs_from count n ls (Left q ∷ ts) ≡ legs_from count n ls ts
book_passes count n [] q ts = refl
book_passes count n (l ∷ ls) q ts = ap (λ rest. with_last_quote (leg_quotes count n ts) l ∷ rest) (book_passes count (suc n) ls q ts)

-- one tick for the book: it is the oldest of the book's quotes, if it is accepted
book_more : (b q : Quote) (ts : CubeTicks) → last_or (touch_next b q) (book_quotes ts) ≡ last_or b (book_quotes (Left q ∷ ts))
book_more b q ts =
    elim (is_ok (touch_answer q)) as (λ ok. last_or (cond ok q b) (book_quotes ts) ≡ last_or b (cond ok (q ∷ book_quotes ts) (book_quotes ts))) [ true ↦ refl | false ↦ refl ]

-- one tick for the legs
legs_more : (count : ℕ) (ls : List Leg) (t : LegTick) (ts : CubeTicks) → count ≡ length ls → legs_from count 1 (legs_next ls t) ts ≡ legs_from count 1 ls (Right t ∷ ts)
legs_more count ls t ts e = go (is_ok (tick_answer count t)) refl
  where
    answers : is_ok (legs_answer ls t) ≡ is_ok (tick_answer count t)
    answers = ap (λ n. is_ok (tick_answer n t)) (sym e)

    go : (b : Bool) → is_ok (tick_answer count t) ≡ b → legs_from count 1 (legs_next ls t) ts ≡ legs_from count 1 ls (Right t ∷ ts)
    go true h =
        let known : 1 ≤ t.leg = grind (arith, nat_tests) in
        let one = one_takes count 1 ls t ts h known in
        let number : suc t.leg - 1 ≡ t.leg = omega arith in
        ap (λ b. legs_from count 1 (cond b (quote_leg t.leg t.quote ls) ls) ts) (answers ∙ h)
        ∙ ap (λ n. legs_from count 1 (quote_leg n t.quote ls) ts) (sym number)
        ∙ sym one
    go false h =
        let none = none_take count 1 ls t ts (λ k m. and_right (eqb t.leg k) (is_ok (tick_answer count t)) h) in
        ap (λ b. legs_from count 1 (cond b (quote_leg t.leg t.quote ls) ls) ts) (answers ∙ h) ∙ sym none

-- the whole position after any ticks
after_is : (b : Quote) (m n : ℕ) (ls : List Leg) (ts : CubeTicks) → position_after cube_meaning ((b, m), (ls, n)) ts ≡ ((last_or b (book_quotes ts), m), (legs_from (length ls) 1 ls ts, n))
after_is b m n ls [] = ap (λ xs. ((b, m), (xs, n))) (sym (none_yet (length ls) 1 ls))
after_is b m n ls (Left q ∷ ts) =
    let ih = after_is (touch_next b q) m n ls ts in
    let book = book_more b q ts in
    let legs = book_passes (length ls) 1 ls q ts in
    ih ∙ ap (λ x. ((x, m), (legs_from (length ls) 1 ls ts, n))) book ∙ ap (λ x. ((last_or b (book_quotes (Left q ∷ ts)), m), (x, n))) (sym legs)
after_is b m n ls (Right t ∷ ts) =
    let ih = after_is b m n (legs_next ls t) ts in
    let count = ap (λ k. legs_from k 1 (legs_next ls t) ts) (length_next ls t) in
    let legs = legs_more (length ls) ls t ts refl in
    ih ∙ ap (λ x. ((last_or b (book_quotes ts), m), (x, n))) (count ∙ legs)

-- quotes leave the ratios
same_ratio : (count n : ℕ) (ls : List Leg) (ts : CubeTicks) → smallest_ratio (legs_from count n ls ts) ≡ smallest_ratio ls
same_ratio count n [] ts = refl
same_ratio count n (l ∷ ls) ts = ap (min l.ratio) (same_ratio count (suc n) ls ts)

-- what the CUBE market shows after any ticks
pub shows_last_quotes : (ls : List Leg) (ts : CubeTicks) → cube_meaning.shows (position_after cube_meaning (cube_start ls) ts) ≡ cube_quote (last_book ts) (last_legs ls ts)
shows_last_quotes ls ts =
    ap cube_meaning.shows (after_is nothing_shown 1 (smallest_ratio ls) ls ts)
    ∙ ap (λ n. better_quote (improved_quote 1 (last_book ts)) (improved_quote n (legs_quote (last_legs ls ts)))) (sym (same_ratio (length ls) 1 ls ts))
