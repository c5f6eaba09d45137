-- One auction by a room's own methods: the calls, and what they are answered.
use Rattle.std.specs.Prelude.{List, [], ◌∷◌, take}
use Rattle.market.specs.Market.{told_by}
use Rattle.room.specs.declared.answers.ClaimNumbers.{ClaimNumbers}
use Rattle.room.specs.Refusals.{refusal_told}
use Rattle.room.specs.Rooms.{collection_told}
use Rattle.session.specs.declared.call.Call.{Call}
use Rattle.session.specs.declared.call.Call.TheVariants.{Tick, Open, Respond, Halt, Collect}
use Rattle.session.specs.Runs.{Answer, Opened, Stored, Accepted, Collected, answer_of_result}
use Rattle.room_examples.specs.declared.collected.AuctionRequests.{AuctionRequests}
use Rattle.room_examples.specs.declared.collected.CollectedRoom.{CollectedRoom}

-- A tick, an opening, a response, a halt at the room's own time, and a collecting with the claim.
abbrev pub auction_calls : {T : Type 0} → AuctionRequests T → ClaimNumbers → List (Call T)
auction_calls x claim =
    Tick x.time x.tick ∷ (Open x.opening ∷ (Respond x.response ∷ (Halt 0 ∷ (Collect claim 129 ∷ []))))

abbrev pub auction_answers : {M R S D F : Type 0} → (D → F) → CollectedRoom M R S D → List (Answer F)
auction_answers fault done =
    answer_of_result (λ _. Accepted) (told_by (refusal_told fault) done.ticked)
    ∷ (Opened done.claim
    ∷ (answer_of_result Stored (told_by (refusal_told fault) done.responded)
    ∷ (Accepted
    ∷ (Collected (collection_told done.collection) (take done.collection.count done.rows)
    ∷ []))))
