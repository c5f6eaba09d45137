-- What is told of the answers in code: each case its own, a refusal by its number and the market's fault that it holds, the end
-- of an auction by its letter, and none where no call was made.
use Rattle.std.specs.Prelude.{Some, None, Ok, Err, vec_items, Option, Result}
use Rattle.room.specs.declared.refusal.Refusal.{Refusal}
use Rattle.room.specs.Refusals.{refusal_told}
use Rattle.room.specs.Rooms.{collection_told}
use Rattle.session.specs.declared.answer.Answer.{Answer as CodeAnswer}
use Rattle.session.specs.declared.answer.Answer.TheVariants.{Opened as CodeOpened, Stored as CodeStored, Accepted as CodeAccepted, Looked as CodeLooked, Collected as CodeCollected, Refused as CodeRefused, NoClaim}
use Rattle.session.specs.Runs.{Answer, Opened, Stored, Accepted, Looked, Collected, Refused}

module _ {F G : Type 0} (fault : F → G) where
  abbrev pub told : CodeAnswer F → Option (Answer G)
  told (CodeOpened c) = Some (Opened c)
  told (CodeStored x) = Some (Stored x)
  told CodeAccepted = Some Accepted
  told (CodeLooked v) = Some (Looked v)
  told (CodeCollected k rows) = Some (Collected (collection_told k) (vec_items rows))
  told (CodeRefused e) = Some (Refused (refusal_told fault e))
  told NoClaim = None

  -- The same of a result whose refusal is not an answer yet.
  abbrev pub told_result : Result (CodeAnswer F) (Refusal F) → Option (Answer G)
  told_result (Ok a) = told a
  told_result (Err e) = Some (Refused (refusal_told fault e))
