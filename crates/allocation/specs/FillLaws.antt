-- What a fill list comes to, in the words of those who are filled.
use Rattle.std.specs.Prelude.{◌≡◌, ℕ, ◌+◌, ◌*◌, ◌/◌, ◌<◌, Bool, true, false, cond, not, ◌&&◌, ◌⊎◌, List, [], ◌∷◌, map, ℤ, ◌≤ℤ◌, ◌<ℤ◌, int_lt, nat_lt}
use Rattle.std.specs.List.{AllByRecursion}
use Rattle.std.specs.List.Sorted.{IsPermutation}
use Rattle.market.specs.declared.side.Side.{Side}
use Rattle.market.specs.Side.{turned_price}
use Rattle.allocation.specs.declared.fill.FillRow.{FillRow}
use Rattle.allocation.specs.declared.response.Class.{Class}
use Rattle.allocation.specs.declared.response.Class.TheVariants.{Customer, Other}
use Rattle.allocation.specs.declared.response.Kind.{Kind}
use Rattle.allocation.specs.declared.response.Kind.TheVariants.{Plain}
use Rattle.allocation.specs.declared.response.Response.{Response}
use Rattle.allocation.specs.Response.{class_number}
use Rattle.allocation.specs.Share.{total}

-- A response that stood: all that it is, with its price not turned.
pub record StoodResponse : Type 0 where
  pub member : ℕ
  pub own_number : ℕ
  pub price : ℤ
  pub class : Class
  pub kind : Kind
  pub size : ℕ
  pub arrival : ℕ

-- A response of an auction, its price turned back.
abbrev pub stood_response : Side → Response → StoodResponse
stood_response side x = record {
  member = x.member;
  own_number = x.own_number;
  price = turned_price side x.price;
  class = x.class;
  kind = x.kind;
  size = x.size;
  arrival = x.arrival;
}

-- What a row shows of a response besides its fill.
pub record Listing : Type 0 where
  pub member : ℕ
  pub own_number : ℕ
  pub price : ℤ
  pub class : Class
  pub kind : Kind
  pub size : ℕ

-- What a response has to be listed with.
abbrev pub listing_of : StoodResponse → Listing
listing_of x = record { member = x.member; own_number = x.own_number; price = x.price; class = x.class; kind = x.kind; size = x.size }

-- What a row lists: filled and left together are the size.
abbrev pub row_listing : FillRow → Listing
row_listing f = record {
  member = f.member;
  own_number = f.own_number;
  price = f.price;
  class = f.class;
  kind = f.kind;
  size = f.filled + f.left;
}

-- Rows of responses have a member; the contra's have none.
abbrev pub of_response : FillRow → Bool
of_response f = nat_lt 0 f.member

-- Those of a list that pass a test, in their order.
abbrev pub those : {X : Type 0} → (X → Bool) → List X → List X
those p [] = []
those p (x ∷ xs) = cond (p x) (x ∷ those p xs) (those p xs)

-- The contracts filled in these rows.
abbrev pub filled_in : List FillRow → ℕ
filled_in fs = total (map (λ (f : FillRow). f.filled) fs)

-- The sizes of these rows: filled and left together.
abbrev pub size_in : List FillRow → ℕ
size_in fs = total (map (λ (f : FillRow). f.filled + f.left) fs)

-- Neither price is below the other.
abbrev pub same_price : ℤ → ℤ → Bool
same_price a b = not (int_lt a b) && not (int_lt b a)

-- Both are customers, or both are others.
abbrev pub same_class : Class → Class → Bool
same_class Customer Customer = true
same_class Customer Other = false
same_class Other Customer = false
same_class Other Other = true

-- The second is a row of a response of the first's class at its price.
abbrev pub classmate : FillRow → FillRow → Bool
classmate f g = of_response g && (same_class f.class g.class && same_price f.price g.price)

-- The rows of the responses of a row's class at its price.
abbrev pub classmates : FillRow → List FillRow → List FillRow
classmates f fs = those (classmate f) fs

-- k × size / t rounded down, or one more.
abbrev pub ProRata : ℕ → ℕ → FillRow → Type 0
ProRata k t f = (f.filled ≡ k * (f.filled + f.left) / t) ⊎ (f.filled ≡ k * (f.filled + f.left) / t + 1)

-- A row that is the contra's, whose member is 0.
pub record ContraRow (f : FillRow) : Type 0 where
  pub no_number : f.own_number ≡ 0
  pub as_other : class_number f.class ≡ 1
  pub as_plain : f.kind ≡ Plain
  pub some_filled : 0 < f.filled
  pub none_left : f.left ≡ 0

-- The order's side and size, the floor and the initiating price (turned), the responses that stood, and the
-- rows.
pub record FillLaws (side : Side) (size : ℕ) (floor initiating : ℤ) (stood : List StoodResponse) (rows : List FillRow) : Type 0 where
  -- The rows of responses list exactly once each response that stood: with its member, own number, price (not turned),
  -- class and kind, and filled + left is its size. So filled is at most its size.
  pub each_once : IsPermutation (map listing_of stood) (map row_listing (those of_response rows))
  -- The other rows are the contra's.
  pub others_contra : AllByRecursion (λ f. of_response f ≡ false → ContraRow f) rows
  -- The filled of all rows total the order's size.
  pub whole_size : filled_in rows ≡ size
  -- Each row that trades has its turned price from the floor to the initiating price.
  pub in_range : AllByRecursion (λ f. 0 < f.filled → (floor ≤ℤ turned_price side f.price) × (turned_price side f.price ≤ℤ initiating)) rows
  -- No row trades at a price while a response at a better (lower turned) price has contracts left.
  pub better_first :
      AllByRecursion (λ f. AllByRecursion (λ g.
      of_response g ≡ true → 0 < g.left → turned_price side g.price <ℤ turned_price side f.price → f.filled ≡ 0) rows) rows
  -- At one price no other response and no contra trades while a customer has contracts left.
  pub customers_first :
      AllByRecursion (λ f. AllByRecursion (λ g.
      g.class ≡ Customer → 0 < g.left → g.price ≡ f.price → f.class ≡ Other → f.filled ≡ 0) rows) rows
  -- In each class at each price a response's filled is K × size / T rounded down, or one more, where K is what the
  -- class's responses got there in all and T their total size.
  pub pro_rata :
      AllByRecursion (λ f. of_response f ≡ true
      → ProRata (filled_in (classmates f rows)) (size_in (classmates f rows)) f) rows
