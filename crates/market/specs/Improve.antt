-- Improve, over any market, by a step of 1 to 9 cents: the bid a step higher, the offer a step lower, as
-- far as a market shows prices; no price stays no price; ticks and faults pass through.
use Rattle.std.specs.Prelude.{ℕ, cond, ℤ, pos, ◌+ℤ◌, ◌-ℤ◌, Ok, Err, Option, Result}
use Rattle.std.specs.Option.{option_map}
use Rattle.std.specs.Result.{result_map_both}
use Rattle.market.specs.declared.improve.Improve.{Improve}
use Rattle.market.specs.declared.quote.Quote.{Quote}
use Rattle.market.specs.declared.refusal.SetupRefusal.{SetupRefusal}
use Rattle.market.specs.Limits.{nearest_showable, one_to_nine}
use Rattle.market.specs.Market.{Meaning}
use Rattle.market.specs.Refusal.{setup_number}

-- The bid a step higher.
abbrev pub raised_bid : ℕ → Option ℤ → Option ℤ
raised_bid step = option_map (λ z. nearest_showable (z +ℤ pos step))

-- The offer a step lower.
abbrev pub lowered_offer : ℕ → Option ℤ → Option ℤ
lowered_offer step = option_map (λ z. nearest_showable (z -ℤ pos step))

-- Both.
abbrev pub improved_quote : ℕ → Quote → Quote
improved_quote step q = record { bid = raised_bid step q.bid; offer = lowered_offer step q.offer }

-- The position is the inner market's, with the step.
abbrev pub improve_meaning : {P T F : Type 0} → Meaning P T F → Meaning (P × ℕ) T F
improve_meaning m = record {
  shows = λ p. improved_quote p.1 (m.shows p.0);
  answer = λ p t. m.answer p.0 t;
  next = λ p t. (m.next p.0 t, p.1);
}

module _ {M : Type 0} where
  -- What is made of a market and a step: both, as given, or refusal 9 and the market back.
  abbrev pub new_improve : M → ℕ → Result (M × ℕ) (ℕ × M)
  new_improve market step = cond (one_to_nine step) (Ok (market, step)) (Err (9, market))

  -- The market and the step that were taken, or the refusal's number with the market.
  abbrev pub improve_parts : Result (Improve M) (SetupRefusal × M) → Result (M × ℕ) (ℕ × M)
  improve_parts = result_map_both (λ i. (i.inner, i.step)) (λ e. (setup_number e.0, e.1))
