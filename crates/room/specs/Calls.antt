-- What the contract of a room's call says. A room is read by what its market, its ranking and its source
-- mean. Its state afterwards, and what is told of the answer, are those of the model; the ranking, which is
-- no part of the state, stays.
use Rattle.std.specs.Prelude.{◌≡◌, ℕ, List, ◌++◌, length, drop, Result}
use Rattle.std.specs.Result.{result_map_both}
use Rattle.interval.specs.declared.source.IntervalSource as intervals
use Rattle.market.specs.declared.Market as markets
use Rattle.market.specs.Market.{told_by}
use Rattle.market.specs.Range.{RangePrices}
use Rattle.allocation.specs.declared.fill.FillRow.{FillRow}
use Rattle.allocation.specs.declared.order.PairedOrder.{PairedOrder}
use Rattle.allocation.specs.declared.ranking.Ranking as rankings
use Rattle.room.specs.declared.Room.{Room}
use Rattle.room.specs.declared.answers.ClaimNumbers.{ClaimNumbers}
use Rattle.room.specs.declared.answers.Collection.{Collection}
use Rattle.room.specs.declared.claim.Claim.{Claim}
use Rattle.room.specs.declared.refusal.Refusal.{Refusal}
use Rattle.room.specs.Collecting.{CollectionTold, collect_call, collect_rows}
use Rattle.room.specs.Openings.{after_opening, opening_range}
use Rattle.room.specs.Refusals.{RefusalTold, refusal_told}
use Rattle.room.specs.Rooms.{claim_answer, claim_numbers, collected_answer, collection_answer, collection_told, state_of, world_of}
use Rattle.room.specs.State.{RoomState}
use Rattle.room.specs.World.{World}

-- What is told of an answer: a refusal by its number, and of a market's fault what its market tells.
abbrev pub answer_told : {M T F X : Type 0} (market : markets.Ghosts M T F)
    → Result X (Refusal F) → Result X (RefusalTold market.Told)
answer_told market = told_by (refusal_told market.told)

-- The same of an opening: a claim by its numbers.
abbrev pub claim_told : {M T F : Type 0} (market : markets.Ghosts M T F)
    → Result Claim (Refusal F) → Result ClaimNumbers (RefusalTold market.Told)
claim_told market = claim_answer market.told

-- The same of the fill list that a collecting writes.
abbrev pub fills_told : {M T F : Type 0} (market : markets.Ghosts M T F)
    → Result Collection (Refusal F) → Result CollectionTold (RefusalTold market.Told)
fills_told market = result_map_both collection_told (refusal_told market.told)

-- Rows that are written over the head of a list; those behind them stay.
abbrev pub rows_over : List FillRow → List FillRow → List FillRow
rows_over rows list = rows ++ drop (length rows) list

module _ {M T F R S : Type 0} (market : markets.Ghosts M T F) (source : intervals.Ghosts S) where
  -- The state of a room.
  abbrev pub room_state : Room M R S → RoomState market.Position source.Position
  room_state room = state_of market.position source.position room

  -- A step of a room has this effect on its state.
  pub record HasEffect (before after : Room M R S)
      (effect : RoomState market.Position source.Position → RoomState market.Position source.Position) : Type 0 where
    pub state : room_state after ≡ effect (room_state before)
    pub ranking : after.ranking ≡ before.ranking

module _ {M T F R S : Type 0} (market : markets.Ghosts M T F) (ranks : rankings.Ghosts R)
    (source : intervals.Ghosts S) where
  -- What a room is made over.
  abbrev pub room_world : Room M R S → World market.Position T market.Told source.Position
  room_world room = world_of market.meaning source.meaning (ranks.ahead room.ranking)

  -- A room's state with what a call gives as it is told.
  abbrev pub Outcome : Type 0 → Type 0
  Outcome X = RoomState market.Position source.Position × Result X (RefusalTold market.Told)

  -- The range of an order that may open in a room, or the first refusal.
  abbrev pub range_for : Room M R S → PairedOrder → Result RangePrices ℕ
  range_for room order = opening_range (room_world room) (room_state market source room) order

  -- An auction of an order in its range is opened; one that was open ends first.
  abbrev pub Opens : Room M R S → Room M R S → PairedOrder → RangePrices → Type 0
  Opens before after order range =
      HasEffect market source before after (λ s. after_opening (room_world before) s order range)

  -- A call of a room gives the state and the answer, as it is told, that the model's function gives.
  pub record Gives {X : Type 0} (before after : Room M R S) (told : Result X (RefusalTold market.Told))
      (call : World market.Position T market.Told source.Position → RoomState market.Position source.Position
      → Outcome X) : Type 0 where
    pub state : room_state market source after ≡ (call (room_world before) (room_state market source before)).0
    pub answer : told ≡ (call (room_world before) (room_state market source before)).1
    pub ranking : after.ranking ≡ before.ranking

  -- What the model makes of a collecting with a claim of these numbers and so many rows.
  abbrev pub collecting : Room M R S → ClaimNumbers → ℕ → Outcome CollectionTold
  collecting room claim rows = collect_call (room_world room) (room_state market source room) claim rows

  -- The list with the rows of the fill list over its head; the rows behind them stay. A refused collecting
  -- writes none.
  abbrev pub list_after : Room M R S → ClaimNumbers → List FillRow → List FillRow
  list_after room claim list =
      rows_over (collect_rows (room_world room) (room_state market source room) claim (length list)) list

  -- The fill list of a claim's auction is written, or it is refused.
  pub record Writes (room : Room M R S) (claim : ClaimNumbers) (list new_list : List FillRow)
      (told : Result CollectionTold (RefusalTold market.Told)) : Type 0 where
    pub answer : told ≡ (collecting room claim (length list)).1
    pub rows : new_list ≡ list_after room claim list

  -- A collecting with this claim and this list of rows gives the model's state and answer, and writes the
  -- model's rows. A refused one hands the very claim back.
  pub record CollectingGives (before after : Room M R S) (claim : Claim) (list new_list : List FillRow)
      (answered : Result Collection (Refusal F × Claim)) : Type 0 where
    pub state : room_state market source after ≡ (collecting before (claim_numbers claim) (length list)).0
    pub answer : collection_answer market.told answered
        ≡ collected_answer claim (collecting before (claim_numbers claim) (length list)).1
    pub rows : new_list ≡ list_after before (claim_numbers claim) list
    pub ranking : after.ranking ≡ before.ranking
