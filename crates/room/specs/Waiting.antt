-- The auctions that wait to be collected, in code two fields, and as the model has them.
use Rattle.std.specs.Prelude.{ℕ, Bool, true, List, [], ◌∷◌, is_some, Some, None, Option}
use Rattle.allocation.specs.Auction.{auction_values}
use Rattle.allocation.specs.Cause.{cause_letter}
use Rattle.room.specs.declared.ended.EndedAuction.{EndedAuction}
use Rattle.room.specs.State.{EndedValues}

abbrev pub ended_values : EndedAuction → EndedValues
ended_values e = record { number = e.number; values = auction_values e.auction; cause = cause_letter e.cause }

-- The second waits only behind a first.
abbrev pub in_order : Option EndedAuction → Option EndedAuction → Bool
in_order _ None = true
in_order first (Some _) = is_some first

-- They are listed the oldest first.
unfoldable pub waiting_list : Option EndedAuction → Option EndedAuction → List EndedValues
waiting_list None None = []
waiting_list None (Some b) = ended_values b ∷ []
waiting_list (Some a) None = ended_values a ∷ []
waiting_list (Some a) (Some b) = ended_values a ∷ (ended_values b ∷ [])

-- One open auction, or none.
abbrev pub count_of : {X : Type 0} → Option X → ℕ
count_of None = 0
count_of (Some _) = 1
