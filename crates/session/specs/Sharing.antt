-- How contracts are shared: every accepted collecting of a run writes a lawful fill list of the auction as its history
-- tells it.
use Rattle.std.specs.Prelude.{◌≡◌, ℕ, List, [], length, Some}
use Rattle.allocation.specs.declared.fill.FillRow.{FillRow}
use Rattle.allocation.specs.OnlyRows.{LawfulRows}
use Rattle.room.specs.Collecting.{CollectionTold}
use Rattle.room.specs.World.{World}
use Rattle.session.specs.declared.call.Call.{Call}
use Rattle.session.specs.declared.call.Call.TheVariants.{Collect}
use Rattle.session.specs.History.{Story, story_of, guarantee_of}
use Rattle.session.specs.Moments.{history_of, Throughout}
use Rattle.session.specs.Runs.{Collected, Moment, run}

-- The rows that a collecting wrote list the responses that stood, total the order's size, lie between the auction's floor
-- (the ending tick not counted) and its initiating price, and keep the other laws of a fill list; the contra takes what its
-- guarantee, as it was stored, lets it take; they stand in their order, by the room's ranking and the arrivals; no other
-- rows keep these laws; and the collecting wrote as many rows as it told.
pub record SharedLawfully {P T F Q : Type 0} (w : World P T F Q) (p : P) (q : Q) (n : ℕ) (past : List (Moment P T F Q)) (k : CollectionTold) (rows : List FillRow) : Type 0 where
  pub story : Story
  pub is_its_story : story_of w p q n (history_of past) ≡ Some story
  pub laws : LawfulRows story.opening.order.side story.opening.order.size story.floor (guarantee_of story.opening) story.opening.range.initiating w.ahead story.stood rows
  pub as_many_as_told : length rows ≡ k.count

abbrev pub CollectedLawfully : {P T F Q : Type 0} → World P T F Q → P → Q → List (Moment P T F Q) → Moment P T F Q → Type 0
CollectedLawfully w p q past m =
    (room auction long : ℕ) (k : CollectionTold) (rows : List FillRow)
    → m.call ≡ Collect (record { room = room; auction = auction }) long → m.answer ≡ Collected k rows
    → SharedLawfully w p q auction past k rows

-- Of every run and every accepted collecting in it.
abbrev pub ContractsAreSharedLawfully : {P T F Q : Type 0} → World P T F Q → Type 0
ContractsAreSharedLawfully {P} {T} {F} {Q} w =
    (number : ℕ) (p : P) (q : Q) (cs : List (Call T)) → Throughout (CollectedLawfully w p q) [] (run w number p q cs)
