-- Collecting an ended auction with its claim. It carries no time.
use Rattle.std.specs.Prelude.{ℕ, not, List, [], length, Some, None, Ok, Err, Option, Result, ◌==◌}
use Rattle.allocation.specs.declared.fill.FillRow.{FillRow}
use Rattle.allocation.specs.Auction.{auction_fills}
use Rattle.allocation.specs.Ranking.{by_key}
use Rattle.room.specs.declared.answers.ClaimNumbers.{ClaimNumbers}
use Rattle.room.specs.Checks.{collect_checks}
use Rattle.room.specs.Refusals.{RefusalTold, refuse, unless, outcome}
use Rattle.room.specs.State.{EndedValues, RoomState, is_number, waiting_auction, without_number, with_waiting}
use Rattle.room.specs.World.{World}

-- What is told of a collecting: how many rows the fill list has, and the letter of the cause for which the
-- auction ended.
pub record CollectionTold : Type 0 where
  pub count : ℕ
  pub cause : ℕ

-- 42: the auction neither is open nor waits. (One that is open was refused before.)
abbrev pub waiting_now : Option EndedValues → Result EndedValues ℕ
waiting_now None = Err 42
waiting_now (Some e) = Ok e

-- The auction of a claim: 6 a list under 129 rows; 42 a claim with another room's number (rooms of one number
-- take each other's); 41 the auction is still open.
abbrev pub collectable : {P Q : Type 0} → RoomState P Q → ClaimNumbers → ℕ → Result EndedValues ℕ
collectable s claim rows =
    unless (collect_checks rows)
    (unless (refuse (not (claim.room == s.number)) 42 (refuse (is_number claim.auction s.current) 41 None))
    (waiting_now (waiting_auction claim.auction s.waiting)))

module _ {P T F Q : Type 0} (w : World P T F Q) where
  -- The rows of an ended auction.
  abbrev pub fill_rows : EndedValues → List FillRow
  fill_rows e = auction_fills (by_key w.ahead) e.values

  -- What is told of an ended auction: the row count and the cause's letter.
  abbrev pub collection_of : EndedValues → CollectionTold
  collection_of e = record { count = length (fill_rows e); cause = e.cause }

  -- The claim is spent and the auction waits no longer.
  abbrev pub collect_call : RoomState P Q → ClaimNumbers → ℕ → RoomState P Q × Result CollectionTold (RefusalTold F)
  collect_call s claim rows =
      outcome (collectable s claim rows) s (λ _. with_waiting (without_number claim.auction s.waiting) s) collection_of

  -- The rows that are written, from the first on; a refused collecting writes none.
  abbrev pub written_rows : Result EndedValues ℕ → List FillRow
  written_rows (Ok e) = fill_rows e
  written_rows (Err n) = []

  abbrev pub collect_rows : RoomState P Q → ClaimNumbers → ℕ → List FillRow
  collect_rows s claim rows = written_rows (collectable s claim rows)
