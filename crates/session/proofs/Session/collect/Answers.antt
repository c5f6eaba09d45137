-- With no claim of these numbers, and with one and a list that is long enough: the session afterwards and the answer are the
-- model's, and memory stays for the calls to come. With a list that is too short the check finds it: the model's answer is then
-- a refusal.
use Rattle.std.proofs.Common.{None, sym, refl, arith}
use Rattle.std.proofs.lemmas.Option.{cond_some}
use Rattle.room.specs.Rooms.{claim_numbers}
use Rattle.session.specs.Session.{session_now, session_world}
use Rattle.session.specs.Purse.{holds}
use Rattle.session.proofs.Choices.{cond_some_none}
use Rattle.session.proofs.Collecting.{long_enough, made_with, not_made}
use Rattle.session.proofs.Session.collect.Goals as goal

pub returns-in_default : goal.returns-in_default
returns-in_default g c =
    let self = c.args.self.now in
    let w = session_world g.M.Market.meaning g.S.IntervalSource.meaning g.R.Ranking.ahead self in
    let first = session_now g.M.Market.position g.S.IntervalSource.position self in
    let numbers = c.args.numbers in
    let is = not_made w first.room first.purse numbers c.args.rows c.take.new.self.numbers (cond_some_none (holds numbers first.purse) numbers None (sym c.in_default.ensures.claim)).0 c.take.ensures.others in
    record {
      session = is.0;
      answer = is.1;
      ranking = refl;
      memory = λ cs m. let same = c.in_default.ensures.free in let claims = m.claims in let lists = m.lists in record { claims = omega arith; lists = omega arith };
    }

pub returns : goal.returns
returns g c =
    let self = c.args.self.now in
    let w = session_world g.M.Market.meaning g.S.IntervalSource.meaning g.R.Ranking.ahead self in
    let first = session_now g.M.Market.position g.S.IntervalSource.position self in
    let numbers = c.args.numbers in
    let claim = claim_numbers c.in-Some.taken.claim in
    let did = c.collect_whole.ensures in
    let held = cond_some (holds numbers first.purse) numbers claim (sym c.in-Some.ensures.claim) in
    let long = c.if-rows-lt-LEAST_ROWS.false in
    let is =
    made_with w first.room first.purse numbers c.args.rows claim 129 _ _ _ _ _ held.0 (sym held.1)
    did.room did.answer did.claims c.take.ensures.others c.in-Some.ensures.index.1 (long_enough c.args.rows long) in
    record {
      session = is.0;
      answer = is.1;
      ranking = did.ranking;
      memory = λ cs m. let more = c.in-Some.ensures.free in let less = did.free in let fewer = did.lists in let claims = m.claims in let lists = m.lists in record { claims = omega arith; lists = omega arith };
    }
