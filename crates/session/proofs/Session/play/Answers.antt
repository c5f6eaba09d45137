-- The answers so far and those to come are the model's of all the calls, and every call has its memory.
use Rattle.std.proofs.Common.{length, subst, ap, ◌∙◌, arith}
use Rattle.room.specs.Rooms.{world_of}
use Rattle.room.specs.World.{World}
use Rattle.session.specs.Session.{HasMemoryFor, session_now}
use Rattle.session.specs.SessionState.{session_answer, session_after}
use Rattle.session.specs.Answer.{told}
use Rattle.session.proofs.SessionState.{one_answered, one_ended, one_told}
use Rattle.session.proofs.Session.play.Goals as goal

pub loop-call-preserved : goal.loop-call-preserved
loop-call-preserved g c =
    let at : g.row.R.Denot → World g.M.Market.Position g.row.M-Tick.Denot g.M.Market.Told g.S.IntervalSource.Position = λ r. world_of g.M.Market.meaning g.S.IntervalSource.meaning (g.R.Ranking.ahead r) in
    let w = at c.args.self.now.room.ranking in
    let before = session_now g.M.Market.position g.S.IntervalSource.position c.loop-call.self in
    let call = c.in-Some.call in
    let did = c.make_call.ensures in
    let so_far = c.loop-call.invariant in
    let after = did.session ∙ ap (λ r. session_after (at r) before call) so_far.ranking in
    let answer = did.answer ∙ ap (λ r. session_answer (at r) before call) so_far.ranking in
    let took = c.in-Some.ensures.steps.0 in
    record {
      answers = one_answered w _ _ before _ _ call _ _ (one_told (told g.M.Market.told) _ _ _ c.push_reserved.ensures.items) after answer took ∙ so_far.answers;
      session = one_ended w before _ call _ _ after took ∙ so_far.session;
      ranking = did.ranking ∙ so_far.ranking;
      memory = did.memory _ (subst (λ cs. HasMemoryFor c.loop-call.self cs) took so_far.memory);
      free = let rest = ap length took in let before = so_far.free in omega arith;
    }
