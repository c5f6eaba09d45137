-- Better-of, over any two markets: the bid is the higher shown, the offer the lower shown, and a half with
-- no price does not count. A tick is for one half; a fault says which half refused, and holds that half's
-- fault whole.
use Rattle.std.specs.Prelude.{ℤ, Some, None, Option, Result}
use Rattle.std.specs.Int.{int_max, int_min}
use Rattle.market.specs.declared.better_of.Half.{Half}
use Rattle.market.specs.declared.better_of.Half.TheVariants.{Left, Right}
use Rattle.market.specs.declared.quote.Quote.{Quote}
use Rattle.market.specs.Market.{Meaning, told_by}

-- The higher of two bids; no price does not count.
abbrev pub higher_bid : Option ℤ → Option ℤ → Option ℤ
higher_bid (Some x) (Some y) = Some (int_max x y)
higher_bid x None = x
higher_bid None y = y

-- The lower of two offers; no price does not count.
abbrev pub lower_offer : Option ℤ → Option ℤ → Option ℤ
lower_offer (Some x) (Some y) = Some (int_min x y)
lower_offer x None = x
lower_offer None y = y

-- Both.
abbrev pub better_quote : Quote → Quote → Quote
better_quote p q = record { bid = higher_bid p.bid q.bid; offer = lower_offer p.offer q.offer }

-- What is told of a fault of a half: which half, and what is told of that half's fault.
abbrev pub half_told : {D E F G : Type 0} → (D → F) → (E → G) → Half D E → Half F G
half_told f g (Left d) = Left (f d)
half_told f g (Right e) = Right (g e)

module _ {P Q S T E F : Type 0} where
  -- The half that a tick is for answers it,
  abbrev pub half_answer : Meaning P S E → Meaning Q T F → P → Q → Half S T → Result (Unit {0}) (Half E F)
  half_answer m n p q (Left s) = told_by Left (m.answer p s)
  half_answer m n p q (Right t) = told_by Right (n.answer q t)

  -- and takes it; the other half stays.
  abbrev pub half_next : Meaning P S E → Meaning Q T F → P → Q → Half S T → P × Q
  half_next m n p q (Left s) = (m.next p s, q)
  half_next m n p q (Right t) = (p, n.next q t)

  -- The position is both halves'.
  abbrev pub better_of_meaning : Meaning P S E → Meaning Q T F → Meaning (P × Q) (Half S T) (Half E F)
  better_of_meaning m n = record {
    shows = λ p. better_quote (m.shows p.0) (n.shows p.1);
    answer = λ p t. half_answer m n p.0 p.1 t;
    next = λ p t. half_next m n p.0 p.1 t;
  }
