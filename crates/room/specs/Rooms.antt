-- The state of a room in code, as the model has it.
use Rattle.std.specs.Prelude.{List, ℕ, Bool, Ok, Err, Result}
use Rattle.std.specs.Option.{option_map}
use Rattle.std.specs.Result.{result_map_both}
use denote.Ref.{Bor}
use Rattle.market.specs.declared.range.PermittedRange.{PermittedRange}
use Rattle.market.specs.Market.{Meaning}
use Rattle.market.specs.Range.{RangePrices, range_prices}
use Rattle.interval.specs.Source.{SourceMeaning}
use Rattle.allocation.specs.declared.response.Key.{Key}
use Rattle.allocation.specs.Auction.{auction_values}
use Rattle.allocation.specs.Cause.{cause_letter}
use Rattle.room.specs.declared.answers.ClaimNumbers.{ClaimNumbers}
use Rattle.room.specs.declared.answers.Collection.{Collection}
use Rattle.room.specs.declared.open_auction.OpenAuction.{OpenAuction}
use Rattle.room.specs.declared.ended.EndedAuction.{EndedAuction}
use Rattle.room.specs.declared.claim.Claim.{Claim}
use Rattle.room.specs.declared.refusal.Refusal.{Refusal}
use Rattle.room.specs.declared.Room.{Room}
use Rattle.room.specs.declared.waiting.WaitingAuctions.{WaitingAuctions}
use Rattle.room.specs.Collecting.{CollectionTold}
use Rattle.room.specs.Refusals.{RefusalTold, refusal_number, refusal_told}
use Rattle.room.specs.State.{OpenValues, EndedValues, RoomState}
use Rattle.room.specs.Waiting.{ended_values, waiting_list}
use Rattle.room.specs.World.{World}

abbrev pub claim_numbers : Claim → ClaimNumbers
claim_numbers c = c.numbers

abbrev pub open_values : OpenAuction → OpenValues
open_values a =
    record { number = a.number; deadline = a.deadline; values = auction_values a.auction; arrivals = a.arrivals; used = a.used }

-- The values of the auctions that wait, the oldest first.
abbrev pub waiting_values : WaitingAuctions → List EndedValues
waiting_values w = waiting_list w.first w.second

-- What a collecting tells: the cause by its letter.
abbrev pub collection_told : Collection → CollectionTold
collection_told k = record { count = k.count; cause = cause_letter k.cause }

-- The prices of a range, or the refusal's number.
abbrev pub range_result : {F : Type 0} → Result PermittedRange (Refusal F) → Result RangePrices ℕ
range_result = result_map_both range_prices refusal_number

-- The values of an auction that waits, or the refusal's number.
abbrev pub waiting_result : {F : Type 0} → Result (Bor EndedAuction) (Refusal F) → Result EndedValues ℕ
waiting_result = result_map_both (λ e. ended_values e.now) refusal_number

-- A refused collecting hands the claim back.
abbrev pub collected_answer : {F : Type 0} → Claim → Result CollectionTold (RefusalTold F)
    → Result CollectionTold (RefusalTold F × Claim)
collected_answer c (Ok k) = Ok k
collected_answer c (Err e) = Err (e, c)

module _ {F G : Type 0} (told : F → G) where
  -- The numbers of the claim that an opening was answered, or what is told of the refusal.
  abbrev pub claim_answer : Result Claim (Refusal F) → Result ClaimNumbers (RefusalTold G)
  claim_answer = result_map_both claim_numbers (refusal_told told)

  -- What a collecting tells, or what is told of the refusal, with the claim that came back.
  abbrev pub collection_answer : Result Collection (Refusal F × Claim) → Result CollectionTold (RefusalTold G × Claim)
  collection_answer = result_map_both collection_told (λ e. (refusal_told told e.0, e.1))

-- What a room is made over.
abbrev pub world_of : {P T F Q : Type 0} → Meaning P T F → SourceMeaning Q → (Key → Key → Bool) → World P T F Q
world_of market source ahead = record { market = market; source = source; ahead = ahead }

module _ {M R S P Q : Type 0} where
  -- Market and source are known by their positions.
  abbrev pub state_of : (M → P) → (S → Q) → Room M R S → RoomState P Q
  state_of position source r = record {
    number = r.number;
    time = r.time;
    halted = r.halted;
    position = position r.market;
    source = source r.source;
    current = option_map open_values r.current;
    waiting = waiting_values r.waiting;
    opened = r.opened;
  }
