-- Legs: two to four, each bought or sold, made of two, the others added singly. Prices show once every leg
-- is quoted.
use Rattle.std.specs.Prelude.{ℕ, ◌-◌, min, cond, ◌&&◌, List, [], ◌∷◌, ◌++◌, length, ℤ, pos, is_ok, Some, None, Ok, Err, Option, Result, ◌==◌, nat_le}
use Rattle.std.specs.Result.{result_map_both}
use Rattle.market.specs.declared.leg.Leg.{Leg}
use Rattle.market.specs.declared.leg.LegQuote.{LegQuote}
use Rattle.market.specs.declared.leg.LegTerms.{LegTerms}
use Rattle.market.specs.declared.leg.LegTick.{LegTick}
use Rattle.market.specs.declared.leg.QuoteSide.{QuoteSide}
use Rattle.market.specs.declared.leg.QuoteSide.TheVariants.{Bid, Offer}
use Rattle.market.specs.declared.legs.Legs.{Legs}
use Rattle.market.specs.declared.quote.Quote.{Quote}
use Rattle.market.specs.declared.refusal.SetupRefusal.{SetupRefusal}
use Rattle.market.specs.Fault.{FaultTold}
use Rattle.market.specs.Leg.{new_leg, leg_part, plus, with_quote, tick_answer}
use Rattle.market.specs.Limits.{one_to_nine}
use Rattle.market.specs.Market.{Meaning}
use Rattle.market.specs.Refusal.{setup_number}

-- A leg in front of others, if there is one.
abbrev pub with_leg : Option Leg → List Leg → List Leg
with_leg None ls = ls
with_leg (Some l) ls = l ∷ ls

-- The legs in their order, the first of which is number 1.
abbrev pub legs_of : Legs → List Leg
legs_of s = s.first ∷ (s.second ∷ with_leg s.third (with_leg s.fourth []))

-- Made of two legs: refusal 9 for a ratio outside 1 to 9.
abbrev pub new_legs : LegTerms → LegTerms → Result (List Leg) ℕ
new_legs x y = cond (one_to_nine x.ratio && one_to_nine y.ratio) (Ok (new_leg x ∷ (new_leg y ∷ []))) (Err 9)

-- The legs that were made, or the refusal's number.
abbrev pub legs_or_number : Result Legs SetupRefusal → Result (List Leg) ℕ
legs_or_number = result_map_both legs_of setup_number

-- One leg more: refusal 9 for its ratio, then 10 for a fifth leg.
abbrev pub add_answer : List Leg → LegTerms → Result (Unit {0}) ℕ
add_answer ls x = cond (one_to_nine x.ratio) (cond (nat_le 4 (length ls)) (Err 10) (Ok tt)) (Err 9)

-- An accepted leg stands behind those that are there; a refused one is not there.
abbrev pub add_next : List Leg → LegTerms → List Leg
add_next ls x = cond (is_ok (add_answer ls x)) (ls ++ new_leg x ∷ []) ls

-- The smallest ratio of the legs; ratios are at most 9.
abbrev pub smallest_ratio : List Leg → ℕ
smallest_ratio [] = 9
smallest_ratio (l ∷ ls) = min l.ratio (smallest_ratio ls)

-- The sum over the legs; no price until every leg is quoted.
abbrev pub legs_sum : QuoteSide → List Leg → Option ℤ
legs_sum w [] = Some (pos 0)
legs_sum w (l ∷ ls) = plus (leg_part w l) (legs_sum w ls)

-- What the strategy shows.
abbrev pub legs_quote : List Leg → Quote
legs_quote ls = record { bid = legs_sum Bid ls; offer = legs_sum Offer ls }

-- The answer of these legs to a tick.
abbrev pub legs_answer : List Leg → LegTick → Result (Unit {0}) FaultTold
legs_answer ls t = tick_answer (length ls) t

-- The leg of number n takes the quote; the others stay.
abbrev pub quote_leg : ℕ → LegQuote → List Leg → List Leg
quote_leg n q [] = []
quote_leg n q (l ∷ ls) = cond (n == 1) (with_quote q l ∷ ls) (l ∷ quote_leg (n - 1) q ls)

-- An accepted tick quotes its leg; a refused one leaves all.
abbrev pub legs_next : List Leg → LegTick → List Leg
legs_next ls t = cond (is_ok (legs_answer ls t)) (quote_leg t.leg t.quote ls) ls

-- Legs as a market: the position is the legs with their quotes.
abbrev pub legs_meaning : Meaning (List Leg) LegTick FaultTold
legs_meaning = record { shows = legs_quote; answer = legs_answer; next = legs_next }
