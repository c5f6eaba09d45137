-- Accepted, and refused: the room and the answer are the model's, and the claim is spent or back at its index. The rows that
-- are told are at most as many as the list has.
use Rattle.std.proofs.Common.{Some, cond, List, sym, ap, ◌∙◌, arith, length-take}
use Rattle.std.specs.List.{insert}
use Rattle.allocation.specs.declared.fill.FillRow.{FillRow}
use Rattle.room.specs.declared.claim.Claim.{Claim}
use Rattle.room.specs.Refusals.{refusal_told}
use Rattle.room.specs.Rooms.{claim_numbers, collection_answer, collection_told, state_of}
use Rattle.session.specs.History.{is_collected}
use Rattle.session.specs.Session.{session_world}
use Rattle.session.specs.Runs.{Answer, Collected}
use Rattle.session.proofs.Collecting.{gathered, refused}
use Rattle.session.proofs.Session.collect_into.Goals as goal

pub slice_bounds-take-end : goal.slice_bounds-take-end
slice_bounds-take-end g c =
    let self = c.args.self.now in
    let w = session_world g.M.Market.meaning g.S.IntervalSource.meaning g.R.Ranking.ahead self in
    let room = state_of g.M.Market.position g.S.IntervalSource.position self.room in
    let claim = c.args.taken.claim in
    let new : List FillRow = c.collect.new.rows in
    let told = gathered w room (claim_numbers claim) _ claim (collection_told c.in-Ok.collection) _ new (ap (collection_answer g.M.Market.told) (sym c.in-Ok.is) ∙ c.collect.ensures.answer) c.collect.ensures.rows c.collect.auto.rows in
    let within = told.0 in
    omega (arith, length-take c.in-Ok.collection.count new)

pub take-rows-requires-clause-few : goal.take-rows-requires-clause-few
take-rows-requires-clause-few g c = let few = c.requires.few in let same = c.collect.auto.rows in omega (arith, length-take c.in-Ok.collection.count c.collect.new.rows)

pub returns-in-Ok : goal.returns-in-Ok
returns-in-Ok g c =
    let self = c.args.self.now in
    let w = session_world g.M.Market.meaning g.S.IntervalSource.meaning g.R.Ranking.ahead self in
    let room = state_of g.M.Market.position g.S.IntervalSource.position self.room in
    let claim = c.args.taken.claim in
    let back = insert self.purse.numbers c.args.taken.index (claim_numbers claim) in
    let k = collection_told c.in-Ok.collection in
    let new : List FillRow = c.collect.new.rows in
    let told = gathered w room (claim_numbers claim) _ claim k _ new (ap (collection_answer g.M.Market.told) (sym c.in-Ok.is) ∙ c.collect.ensures.answer) c.collect.ensures.rows c.collect.auto.rows in
    record {
      room = c.collect.ensures.state;
      answer = ap (λ l. Some (Collected k l)) c.take-rows.ensures.rows ∙ sym (ap Some told.1);
      claims = sym (ap (λ (a : Answer g.M.Market.Told). cond (is_collected a) self.purse.numbers back) told.1);
      ranking = c.collect.ensures.ranking;
      free = omega arith;
      lists = let one = c.take-rows.ensures.one in omega arith;
    }

pub returns-in-Err : goal.returns-in-Err
returns-in-Err g c =
    let self = c.args.self.now in
    let w = session_world g.M.Market.meaning g.S.IntervalSource.meaning g.R.Ranking.ahead self in
    let room = state_of g.M.Market.position g.S.IntervalSource.position self.room in
    let claim = c.args.taken.claim in
    let back = insert self.purse.numbers c.args.taken.index (claim_numbers claim) in
    let told = refused w room (claim_numbers claim) _ claim c.in-Err.claim (refusal_told g.M.Market.told c.in-Err.refusal) (ap (collection_answer g.M.Market.told) (sym c.in-Err.is) ∙ c.collect.ensures.answer) in
    record {
      room = c.collect.ensures.state;
      answer = sym (ap Some told.0);
      claims =
          c.put_back.ensures.numbers ∙ ap (λ (x : Claim). insert self.purse.numbers c.args.taken.index (claim_numbers x)) told.1
          ∙ sym (ap (λ (a : Answer g.M.Market.Told). cond (is_collected a) self.purse.numbers back) told.0);
      ranking = c.collect.ensures.ranking;
      free = let less = c.put_back.ensures.free in omega arith;
      lists = omega arith;
    }
