-- An auction's values.
use Rattle.std.specs.Prelude.{◌≡◌, ℕ, ◌<◌, ◌≤◌, Bool, cond, not, ◌&&◌, List, [], ◌∷◌, ◌++◌, map, length, take, drop, ℤ, is_some, Ok, Err, Result, MatchResult, nat_lt}
use Rattle.std.specs.List.{AllByRecursion}
use Rattle.allocation.specs.declared.auction.Auction.{Auction}
use Rattle.allocation.specs.declared.fill.FillRow.{FillRow}
use Rattle.allocation.specs.declared.order.PairedOrder.{PairedOrder}
use Rattle.allocation.specs.declared.refusal.FillRefusal.{FillRefusal}
use Rattle.allocation.specs.declared.response.Key.{Key}
use Rattle.allocation.specs.declared.response.NewTerms.{NewTerms}
use Rattle.allocation.specs.declared.response.Response.{Response}
use Rattle.allocation.specs.declared.response.ResponseId.{ResponseId}
use Rattle.allocation.specs.AuctionInvariant.{terms_ok, stored_ok, response_ok, arrival_free}
use Rattle.allocation.specs.FillLaws.{StoodResponse, stood_response}
use Rattle.allocation.specs.Fill.{fill_list, order_levels}
use Rattle.allocation.specs.Levels.{Level}
use Rattle.allocation.specs.OnlyRows.{LawfulRows}
use Rattle.allocation.specs.Ranking.{Ordered, by_key}
use Rattle.allocation.specs.Table.{standing, own_response, own_changed, without_own, any_below}

-- The order with its guarantee as stored, the range, and the responses that stand; prices are turned.
pub record AuctionValues : Type 0 where
  pub order : PairedOrder
  pub floor : ℤ
  pub initiating : ℤ
  pub stood : List Response

-- The values that an auction holds.
abbrev pub auction_values : Auction → AuctionValues
auction_values a = record { order = a.order; floor = a.floor; initiating = a.initiating; stood = standing a.table }

-- The responses that stand, with their prices not turned.
abbrev pub stood_responses : AuctionValues → List StoodResponse
stood_responses a = map (stood_response a.order.side) a.stood

-- An auction of these terms, with no response yet.
abbrev pub new_auction : PairedOrder → ℤ → ℤ → AuctionValues
new_auction order floor initiating = record { order = order; floor = floor; initiating = initiating; stood = [] }

-- The levels of an auction under a ranking.
abbrev pub auction_levels : (Response → Response → Bool) → AuctionValues → List Level
auction_levels ahead a = order_levels ahead a.order a.initiating a.stood

-- The fill list of an auction under a ranking.
abbrev pub auction_fills : (Response → Response → Bool) → AuctionValues → List FillRow
auction_fills ahead a = fill_list ahead a.order a.initiating a.stood

-- The same by what a ranking says of keys.
abbrev pub ranked_fills : (Key → Key → Bool) → AuctionValues → List FillRow
ranked_fills ahead a = auction_fills (by_key ahead) a

-- A list of rows under 129 is refusal 6; otherwise the answer is how many rows were written.
abbrev pub fill_answer : (Key → Key → Bool) → AuctionValues → List FillRow → Result ℕ ℕ
fill_answer ahead a rows = cond (nat_lt (length rows) 129) (Err 6) (Ok (length (ranked_fills ahead a)))

-- The rows are written from the first on, and those past them stay; a refusal writes none.
abbrev pub rows_after : (Key → Key → Bool) → AuctionValues → List FillRow → List FillRow
rows_after ahead a rows =
    let fills = ranked_fills ahead a in
    cond (nat_lt (length rows) 129) rows (fills ++ drop (length fills) rows)

-- Rows keep the laws of a fill list of this auction, of what the contra may take and of the order of the rows, and no other
-- rows keep them.
abbrev pub LawfulFills : (Key → Key → Bool) → AuctionValues → List FillRow → Type 0
LawfulFills ahead a rows =
    LawfulRows a.order.side a.order.size a.floor a.order.guarantee a.initiating ahead (stood_responses a) rows

-- The rows that an accepted call wrote, as many as it answered, are lawful, and the rows past them are as they were. A refused
-- call had a list under 129 rows, and wrote nothing.
abbrev pub LawfullyFilled : (Key → Key → Bool) → AuctionValues → Result ℕ FillRefusal → List FillRow → List FillRow → Type 0
LawfullyFilled ahead a r before after =
    MatchResult r
    (λ n. LawfulFills ahead a (take n after) × (n ≤ length after) × (drop n after ≡ drop n before) × (129 ≤ length before))
    (λ _. (after ≡ before) × (length before < 129))

-- At each level the customers stand in ranking order, and so do the others.
abbrev pub LevelsInRankingOrder : (Key → Key → Bool) → AuctionValues → Type 0
LevelsInRankingOrder ahead a =
    AllByRecursion (λ (l : Level). Ordered (by_key ahead) l.customers × Ordered (by_key ahead) l.others)
    (auction_levels (by_key ahead) a)

-- The same auction with other responses standing.
abbrev pub with_stood : AuctionValues → List Response → AuctionValues
with_stood a xs = record a { stood = xs }

-- The same auction with another floor.
abbrev pub with_floor : AuctionValues → ℤ → AuctionValues
with_floor a floor = record a { floor = floor }

-- A response may be stored if it may stand, its arrival number and its member's own number are not in use, and fewer
-- than 64 stand (16 members with 4 own numbers each make no more).
abbrev pub may_store : AuctionValues → Response → Bool
may_store a x =
    response_ok a.order.size a.floor a.initiating x
    && (arrival_free x.arrival a.stood
    && (not (is_some (own_response x.member x.own_number a.stood)) && nat_lt (length a.stood) 64))

-- A response that is stored stands behind the others.
abbrev pub after_store : AuctionValues → Response → AuctionValues
after_store a x = with_stood a (a.stood ++ x ∷ [])

-- A response may be changed if it stands, may stand with the new size and price, and the new arrival number is not in use.
abbrev pub may_change : AuctionValues → ResponseId → NewTerms → Bool
may_change a of to =
    is_some (own_response of.member of.own_number a.stood)
    && (stored_ok a.order.size a.floor a.initiating to.size to.price && arrival_free to.arrival a.stood)

-- A change gives that one response the new size, price and arrival number, and leaves every other.
abbrev pub after_change : AuctionValues → ResponseId → NewTerms → AuctionValues
after_change a of to = with_stood a (own_changed of.member of.own_number to.size to.price to.arrival a.stood)

-- A withdrawal removes that one response.
abbrev pub after_withdrawal : AuctionValues → ResponseId → AuctionValues
after_withdrawal a of = with_stood a (without_own of.member of.own_number a.stood)

-- An auction may have another floor if it can have it with the same order and initiating price, and no response stands
-- below it.
abbrev pub may_move_floor : AuctionValues → ℤ → Bool
may_move_floor a floor = terms_ok a.order floor a.initiating && not (any_below floor a.stood)
