-- The two calls were made one after another, each as the contract of its method says.
use Rattle.std.proofs.Common.{List, [], ◌∷◌, map, ap, refl, subst, sym}
use Rattle.market.specs.Market.{told_by}
use Rattle.room.specs.Refusals.{refusal_told}
use Rattle.room.specs.Rooms.{world_of}
use Rattle.session.specs.declared.call.Call.TheVariants.{Halt, Look}
use Rattle.session.specs.InTurn.{MethodCall}
use Rattle.session.specs.Laws.{LawsOfRun}
use Rattle.session.specs.Runs.{Moment, Accepted, Looked, answer_of_result}
use Rattle.room_examples.proofs.turns.halted_room.Goals as goal

pub returns : goal.returns
returns g c =
    let p = g.M.Market.position c.args.market in
    let q = g.S.IntervalSource.position c.args.source in
    let made = c.new-room.result in
    let room = c.halt-halted.new.self in
    let calls : List (MethodCall g.row.M.Denot g.row.R.Denot g.row.S.Denot g.row.M-Tick.Denot g.M.Market.Told) =
    record { before = made; call = Halt c.args.time; answer = answer_of_result (λ _. Accepted) (told_by (refusal_told g.M.Market.told) c.halt-halted.result); after = room }
    ∷ (record { before = room; call = Look; answer = Looked c.look-view.result; after = room } ∷ []) in
    let did = c.calls_in_turn_are_a_run.ensures 1 p q made calls c.new-room.ensures.state (
      refl,
      record { result = c.halt-halted.result; state = c.halt-halted.ensures.state; answer = c.halt-halted.ensures.answer; ranking = c.halt-halted.ensures.ranking; told = refl },
      (refl, record { result = c.look-view.result; unchanged = refl; answer = c.look-view.ensures; told = refl }, tt),
    ) in
    record {
      answers = sym (ap (map (λ (m : Moment g.M.Market.Position g.row.M-Tick.Denot g.M.Market.Told g.S.IntervalSource.Position). m.answer)) did.moments);
      laws =
          subst (λ r. LawsOfRun (world_of g.M.Market.meaning g.S.IntervalSource.meaning (g.R.Ranking.ahead r)) 1 p q (Halt c.args.time ∷ (Look ∷ [])))
          c.new-room.ensures.ranking did.laws;
    }
