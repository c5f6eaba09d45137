-- The calls are carried out from the session as it was handed in, with no answer yet; and the terms of the laws are those of the
-- three interfaces.
use Rattle.std.proofs.Common.{List, ◌++◌, map, vec_items, Option, ap, ◌∙◌, arith}
use Rattle.room.specs.declared.Room.{Room}
use Rattle.room.specs.Rooms.{state_of, world_of}
use Rattle.room.specs.World.{World}
use Rattle.session.specs.Session.{session_now}
use Rattle.session.specs.Runs.{Answer}
use Rattle.session.specs.SessionState.{SessionState, session_answers, session_end}
use Rattle.session.specs.Answer.{told}
use Rattle.session.proofs.Promises.{promised}
use Rattle.session.proofs.SessionState.{session_is}
use Rattle.session.proofs.Session.run.Goals as goal

pub returns : goal.returns
returns g c =
    let at : Room g.row.M.Denot g.row.R.Denot g.row.S.Denot → World g.M.Market.Position g.row.M-Tick.Denot g.M.Market.Told g.S.IntervalSource.Position =
    λ r. world_of g.M.Market.meaning g.S.IntervalSource.meaning (g.R.Ranking.ahead r.ranking) in
    let before = session_now g.M.Market.position g.S.IntervalSource.position c.args.self.now in
    let reserved = session_now g.M.Market.position g.S.IntervalSource.position c.reserve_for_all.new.self in
    let w = at c.args.self.now.room in
    let calls = vec_items c.args.calls in
    let same_room = c.reserve_for_all.ensures.same_room in
    let starts = session_is reserved.room reserved.purse before (ap (state_of g.M.Market.position g.S.IntervalSource.position) same_room) c.reserve_for_all.ensures.same_claims in
    let ended = c.play.ensures.session ∙ ap (λ r. session_end (at r) reserved calls) same_room ∙ ap (λ s. session_end w s calls) starts in
    let answers =
    c.play.ensures.answers
    ∙ ap (λ (l : List (Option (Answer g.M.Market.Told))). l ++ session_answers (at c.reserve_for_all.new.self.room) reserved calls) (ap (map (told g.M.Market.told)) c.in-Ok.ensures.answers.0)
    ∙ ap (λ r. session_answers (at r) reserved calls) same_room
    ∙ ap (λ s. session_answers w s calls) starts in
    record {
      run = record {
        answers = answers;
        room = ap (λ (s : SessionState g.M.Market.Position g.S.IntervalSource.Position). s.room) ended;
        claims = ap (λ (s : SessionState g.M.Market.Position g.S.IntervalSource.Position). s.purse) ended;
        promise = λ start same.
            let last = ended ∙ ap (λ s. session_end w s calls) same in
            promised w
            (record {
              refused_leaves = g.met.M.Market.refused;
              drawn_within = g.met.S.IntervalSource.in_limits;
              one_ahead = g.met.R.Ranking.one_ahead c.args.self.now.room.ranking;
              carries_on = g.met.R.Ranking.carries_on c.args.self.now.room.ranking;
            })
            _
            (record {
              answers = answers ∙ ap (λ s. session_answers w s calls) same;
              room = ap (λ (s : SessionState g.M.Market.Position g.S.IntervalSource.Position). s.room) last;
              claims = ap (λ (s : SessionState g.M.Market.Position g.S.IntervalSource.Position). s.purse) last;
            });
        ranking = c.play.ensures.ranking ∙ ap (λ (r : Room g.row.M.Denot g.row.R.Denot g.row.S.Denot). r.ranking) same_room;
      };
      calls_back = tt;
      room_back = tt;
      claims_back = tt;
      lists_back = tt;
      no_more_lists = let kept = c.len-kept.ensures in let left = c.truncate.ensures in omega arith;
    }
