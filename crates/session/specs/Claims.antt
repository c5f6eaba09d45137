-- The claims to the auctions that a room holds.
use Rattle.std.specs.Prelude.{ℕ, List, [], ◌∷◌, ◌++◌, map, Some, None, Option}
use Rattle.room.specs.declared.answers.ClaimNumbers.{ClaimNumbers}
use Rattle.room.specs.declared.Room.{Room}
use Rattle.room.specs.Rooms.{state_of}
use Rattle.room.specs.State.{OpenValues, EndedValues, RoomState}

abbrev pub number_of_open : Option OpenValues → List ℕ
number_of_open None = []
number_of_open (Some a) = a.number ∷ []

-- The auctions that a room holds, by their numbers: those that wait, the oldest first, and the one that is open.
abbrev pub auction_numbers : {P Q : Type 0} → RoomState P Q → List ℕ
auction_numbers s = map (λ (e : EndedValues). e.number) s.waiting ++ number_of_open s.current

abbrev pub claim_to : ℕ → ℕ → ClaimNumbers
claim_to room auction = record { room = room; auction = auction }

-- The claims to all of them.
abbrev pub claims_to : {P Q : Type 0} → RoomState P Q → List ClaimNumbers
claims_to s = map (claim_to s.number) (auction_numbers s)

-- The claims to the auctions that a room in code holds, whatever its market and its source.
abbrev pub claims_of_room : {M R S : Type 0} → Room M R S → List ClaimNumbers
claims_of_room r = claims_to (state_of (λ _. tt {0}) (λ _. tt {0}) r)
