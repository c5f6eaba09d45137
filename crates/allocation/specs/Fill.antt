-- The fill list: level by level the customers' rows by ranking, the contra's if it got any, and the others' by ranking.
use Rattle.std.specs.Prelude.{ℕ, ◌+◌, ◌-◌, Bool, cond, List, [], ◌∷◌, ◌++◌, length, ℤ, nat_lt}
use Rattle.market.specs.declared.side.Side.{Side}
use Rattle.market.specs.Side.{turned_price}
use Rattle.allocation.specs.declared.fill.FillRow.{FillRow}
use Rattle.allocation.specs.declared.order.ContraTerms.{ContraTerms}
use Rattle.allocation.specs.declared.order.PairedOrder.{PairedOrder}
use Rattle.allocation.specs.declared.response.Class.TheVariants.{Other}
use Rattle.allocation.specs.declared.response.Kind.TheVariants.{Plain}
use Rattle.allocation.specs.declared.response.Response.{Response}
use Rattle.allocation.specs.Levels.{Level, levels, contra_level}
use Rattle.allocation.specs.Share.{sizes, total, shares}
use Rattle.allocation.specs.Split.{Split, split, total_taken, guaranteed_share}

-- A response that got f contracts. A price is turned back by turning it once more.
abbrev pub fill_row : Side → Response → ℕ → FillRow
fill_row side x f = record {
  price = turned_price side x.price;
  member = x.member;
  own_number = x.own_number;
  class = x.class;
  kind = x.kind;
  filled = f;
  left = x.size - f;
}

-- A row for each response, also where it got nothing.
abbrev pub class_rows : Side → List Response → List ℕ → List FillRow
class_rows side [] fs = []
class_rows side (x ∷ xs) [] = []
class_rows side (x ∷ xs) (f ∷ fs) = fill_row side x f ∷ class_rows side xs fs

-- The responses of a class share k contracts.
abbrev pub shared_rows : Side → ℕ → List Response → List FillRow
shared_rows side k xs = class_rows side xs (shares k (sizes xs))

-- What the contra got at a price.
abbrev pub contra_row : Side → ℤ → ℕ → FillRow
contra_row side price f = record {
  price = turned_price side price;
  member = 0;
  own_number = 0;
  class = Other;
  kind = Plain;
  filled = f;
  left = 0;
}

-- One row for what the contra got at a price, if it got any.
abbrev pub contra_rows : Side → ℤ → ℕ → List FillRow
contra_rows side price f = cond (nat_lt 0 f) (contra_row side price f ∷ []) []

-- A level's rows: customers, contra, others.
abbrev pub level_rows : Side → Level → Split → List FillRow
level_rows side l s =
    shared_rows side s.customers l.customers ++ (contra_rows side l.price s.contra ++ shared_rows side s.others l.others)

-- The split at a level, by the sizes that stand there.
abbrev pub split_at : ContraTerms → Level → ℕ → ℕ → Split
split_at t l r m = split t l.price r m (total (sizes l.customers)) (total (sizes l.others))

-- Level after level: r contracts are left, and m are the contra's so far.
abbrev pub fills : Side → ContraTerms → List Level → ℕ → ℕ → List FillRow
fills side t [] r m = []
fills side t (l ∷ ls) r m =
    let s = split_at t l r m in
    level_rows side l s ++ fills side t ls (r - total_taken s) (m + s.contra)

-- The contra's terms for an order with so many responses standing.
abbrev pub contra_terms : PairedOrder → ℤ → ℕ → ContraTerms
contra_terms order initiating standing = record {
  guarantee = order.guarantee;
  initiating = initiating;
  guaranteed = guaranteed_share order.size standing;
}

-- The levels of an order's responses and of the contra's own price.
abbrev pub order_levels : (Response → Response → Bool) → PairedOrder → ℤ → List Response → List Level
order_levels ahead order initiating standing =
    levels ahead (contra_level order.guarantee.kind (contra_terms order initiating (length standing))) standing

-- The fill list of an order, whose prices are turned and whose guarantee is as stored, with these responses standing.
abbrev pub fill_list : (Response → Response → Bool) → PairedOrder → ℤ → List Response → List FillRow
fill_list ahead order initiating standing =
    fills order.side (contra_terms order initiating (length standing)) (order_levels ahead order initiating standing) order.size 0
