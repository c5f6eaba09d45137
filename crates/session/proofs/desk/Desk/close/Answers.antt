-- After the halt none is open; each auction that waits is told, the oldest first, the room then holds none, and no claim is
-- left. So it is after the calls of the close.
use Rattle.std.proofs.Common.{◌+◌, ◌≤◌, [], length, refl, ap, ◌∙◌, arith}
use Rattle.room.specs.declared.Room.{Room}
use Rattle.room.specs.Rooms.{claim_numbers, state_of, world_of, waiting_values}
use Rattle.room.specs.Waiting.{count_of}
use Rattle.room.specs.State.{RoomState, with_waiting}
use Rattle.room.specs.World.{World}
use Rattle.session.specs.Claims.{claims_to}
use Rattle.session.specs.Closed.{first_of, told_of_ended, told_of_waiting}
use Rattle.session.proofs.Closing.{two_told, emptied, none_left, none_of_none}
use Rattle.session.proofs.Promises.{closed_by_calls}
use Rattle.session.proofs.desk.Desk.close.Goals as goal

two_wait : {M R S : Type 0} (room : Room M R S) → length (waiting_values room.waiting) ≤ 2
two_wait room = let two : count_of room.current + length (waiting_values room.waiting) ≤ 2 = room.two in omega arith

pub destroy_empty-requires : goal.destroy_empty-requires
destroy_empty-requires g c =
    let halted = state_of g.M.Market.position g.S.IntervalSource.position c.halt.new.self in
    let none_open = ap (λ (s : RoomState g.M.Market.Position g.S.IntervalSource.Position). s.current) c.halt.ensures.state in
    none_of_none claim_numbers c.collect_first-second.new.claims
    (c.collect_first-second.ensures.every_claim ∙ ap claims_to (emptied halted _ _ (two_wait c.halt.new.self) c.collect_first-first.ensures.state c.collect_first-second.ensures.state) ∙ none_left (with_waiting [] halted) none_open refl)

pub returns-clause-told : goal.returns-clause-told
returns-clause-told g c =
    let at : g.row.R.Denot → World g.M.Market.Position g.row.M-Tick.Denot g.M.Market.Told g.S.IntervalSource.Position = λ r. world_of g.M.Market.meaning g.S.IntervalSource.meaning (g.R.Ranking.ahead r) in
    let w = at c.args.self.session.room.ranking in
    let room = c.halt.new.self in
    let halted = state_of g.M.Market.position g.S.IntervalSource.position room in
    let first = c.collect_first-first.ensures in
    let second = c.collect_first-second.ensures in
    let ranked = first.ranking ∙ c.halt.ensures.ranking in
    let left = state_of g.M.Market.position g.S.IntervalSource.position c.collect_first-first.new.room in
    two_told (told_of_ended w room.number) (waiting_values room.waiting) _ _ (two_wait room) (first.told ∙ ap (λ r. first_of (told_of_waiting (at r) halted)) c.halt.ensures.ranking)
    (second.told ∙ ap (λ r. first_of (told_of_waiting (at r) left)) ranked ∙ ap (λ s. first_of (told_of_waiting w s)) first.state)
    ∙ ap (told_of_waiting w) c.halt.ensures.state

pub returns-clause-state : goal.returns-clause-state
returns-clause-state g c =
    let halted = state_of g.M.Market.position g.S.IntervalSource.position c.halt.new.self in
    emptied halted _ _ (two_wait c.halt.new.self) c.collect_first-first.ensures.state c.collect_first-second.ensures.state ∙ ap (with_waiting []) c.halt.ensures.state

pub returns-clause-as_calls : goal.returns-clause-as_calls
returns-clause-as_calls g c =
    let w = world_of g.M.Market.meaning g.S.IntervalSource.meaning (g.R.Ranking.ahead c.args.self.session.room.ranking) in
    closed_by_calls w (state_of g.M.Market.position g.S.IntervalSource.position c.args.self.session.room) _ _ (returns-clause-told g c) (returns-clause-state g c)
