-- With the calls that are left the session now comes to the same end, and to the same answers behind those so far, as the first
-- one did with all; its ranking is the first one's, and each call left has its memory and memory for its answer.
use Rattle.std.proofs.Common.{◌≡◌, ◌+◌, ◌≤◌, ◌++◌, map, length, vec_items, vec_len, vec_capacity}
use Rattle.std.specs.Vec.Iter.{into_iter_items}
use Rattle.session.specs.Session.{HasMemoryFor, session_now, session_world}
use Rattle.session.specs.SessionState.{session_answers, session_end}
use Rattle.session.specs.Answer.{told}
use Rattle.session.proofs.Session.play.Given as goal

abbrev pub invariant-loop-call : goal.invariant-loop-call
invariant-loop-call g l =
    let w = session_world g.M.Market.meaning g.S.IntervalSource.meaning g.R.Ranking.ahead l.initial.self in
    let first = session_now g.M.Market.position g.S.IntervalSource.position l.initial.self in
    let now_at = session_now g.M.Market.position g.S.IntervalSource.position l.self in
    let rest = into_iter_items l.call-iterator in
    let all = into_iter_items l.initial.call-iterator in
    record {
      answers : map (told g.M.Market.told) (vec_items l.answers) ++ session_answers w now_at rest ≡ map (told g.M.Market.told) (vec_items l.initial.answers) ++ session_answers w first all;
      session : session_end w now_at rest ≡ session_end w first all;
      ranking : l.self.room.ranking ≡ l.initial.self.room.ranking;
      memory : HasMemoryFor l.self rest;
      free : vec_len l.answers + length rest ≤ vec_capacity l.answers;
    }
