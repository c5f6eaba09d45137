-- The calls were made one after another, each as the contract of its method says; and the claim collects.
use Rattle.std.proofs.Common.{◌≡◌, List, [], ◌∷◌, map, IsOk, Ok, Result, pos, replicate, take, ap, refl, subst, sym, ◌∙◌}
use Rattle.market.specs.Market.{told_by}
use Rattle.allocation.specs.declared.fill.FillRow.{FillRow}
use Rattle.allocation.specs.declared.response.Class.TheVariants.{Other}
use Rattle.allocation.specs.declared.response.Kind.TheVariants.{Plain}
use Rattle.room.specs.declared.answers.Collection.{Collection}
use Rattle.room.specs.declared.answers.ClaimNumbers.{ClaimNumbers}
use Rattle.room.specs.declared.claim.Claim.{Claim}
use Rattle.room.specs.declared.refusal.Refusal.{Refusal}
use Rattle.room.specs.Refusals.{RefusalTold, refusal_told}
use Rattle.room.specs.Rooms.{claim_numbers, claim_answer, collected_answer, collection_answer, collection_told, state_of, world_of}
use Rattle.room.specs.State.{RoomState}
use Rattle.room.specs.World.{World}
use Rattle.session.specs.declared.call.Call.TheVariants.{Tick, Open, Respond, Halt, Collect}
use Rattle.session.specs.Claims.{claims_to}
use Rattle.session.specs.InTurn.{MethodCall, collecting_told}
use Rattle.session.specs.Laws.{LawsOfRun}
use Rattle.session.specs.Purse.{claim_in}
use Rattle.session.specs.Runs.{Answer, Moment, Opened, Stored, Accepted, Collected, answer_of_result, run}
use Rattle.session.specs.SessionState.{session_of}
use Rattle.session.proofs.Claims.{match_kept}
use Rattle.session.proofs.Closing.{first_collected, ok_as_told}
use Rattle.room_examples.specs.Collected.{auction_answers, auction_calls}
use Rattle.room_examples.proofs.collected.collected_room.Goals as goal

-- a row before anything is written into it
abbrev blank : FillRow
blank = record { price = pos 0; member = 0; own_number = 0; class = Other; kind = Plain; filled = 0; left = 0 }

-- Each call keeps the claim as that to the room's one auction, and after the halt none is open, so it collects.
pub unwrap-collection-requires : goal.unwrap-collection-requires
unwrap-collection-requires g c =
    let at : g.row.R.Denot → World g.M.Market.Position g.row.M-Tick.Denot g.M.Market.Told g.S.IntervalSource.Position = λ r. world_of g.M.Market.meaning g.S.IntervalSource.meaning (g.R.Ranking.ahead r) in
    let room = c.new-room.result in
    let ticked = c.tick-ticked.new.self in
    let opened = c.open.new.self in
    let responded = c.respond-responded.new.self in
    let halted = state_of g.M.Market.position g.S.IntervalSource.position c.halt.new.self in
    let claim = c.in_ok-claim.claim in
    let purse = claim_numbers claim ∷ [] in
    let none = sym (ap claims_to c.new-room.ensures.state) in
    let before = match_kept (at room.ranking) (session_of (state_of g.M.Market.position g.S.IntervalSource.position room) []) (Tick c.args.requests.time c.args.requests.tick) none ∙ sym (ap claims_to c.tick-ticked.ensures.state) in
    let told : answer_of_result {F = g.M.Market.Told} Opened (Ok (claim_numbers claim)) ≡ _ = ap (answer_of_result Opened) c.in_ok-claim.ensures.answer in
    let first = ap claim_in told ∙ match_kept (at ticked.ranking) (session_of (state_of g.M.Market.position g.S.IntervalSource.position ticked) []) (Open c.args.requests.opening) before ∙ sym (ap claims_to c.in_ok-claim.ensures.state) in
    let second = match_kept (at opened.ranking) (session_of (state_of g.M.Market.position g.S.IntervalSource.position opened) purse) (Respond c.args.requests.response) first ∙ sym (ap claims_to c.respond-responded.ensures.state) in
    let last = match_kept (at responded.ranking) (session_of (state_of g.M.Market.position g.S.IntervalSource.position responded) purse) (Halt 0) second ∙ sym (ap claims_to c.halt.ensures.state) in
    let none_open = ap (λ (s : RoomState g.M.Market.Position g.S.IntervalSource.Position). s.current) c.halt.ensures.state in
    let did = first_collected (at c.halt.new.self.ranking) halted (claim_numbers claim) [] halted.waiting none_open refl last in
    ok_as_told _ _ c.collect.result (subst (λ r. IsOk r) (sym (c.collect.ensures.answer ∙ ap (collected_answer claim) did.answer_is)) refl)

pub returns : goal.returns
returns g c =
    let p = g.M.Market.position c.args.market in
    let q = g.S.IntervalSource.position c.args.source in
    let at : g.row.R.Denot → World g.M.Market.Position g.row.M-Tick.Denot g.M.Market.Told g.S.IntervalSource.Position = λ r. world_of g.M.Market.meaning g.S.IntervalSource.meaning (g.R.Ranking.ahead r) in
    let made = c.new-room.result in
    let ticked = c.tick-ticked.new.self in
    let opened = c.open.new.self in
    let responded = c.respond-responded.new.self in
    let halted = c.halt.new.self in
    let collected = c.collect.new.self in
    let claim = c.in_ok-claim.claim in
    let numbers = c.numbers-numbers.result in
    let k = c.unwrap-collection.result in
    let requests = c.args.requests in
    let accepted : Result (Unit {0}) (Refusal g.row.M-Fault.Denot) → Answer g.M.Market.Told = λ r. answer_of_result (λ _. Accepted) (told_by (refusal_told g.M.Market.told) r) in
    let stored = answer_of_result Stored (told_by (refusal_told g.M.Market.told) c.respond-responded.result) in
    let written = Collected (collection_told k) (take k.count c.collect.new.rows) in
    let calls : List (MethodCall g.row.M.Denot g.row.R.Denot g.row.S.Denot g.row.M-Tick.Denot g.M.Market.Told) =
    record { before = made; call = Tick requests.time requests.tick; answer = accepted c.tick-ticked.result; after = ticked }
    ∷ (record { before = ticked; call = Open requests.opening; answer = Opened numbers; after = opened }
    ∷ (record { before = opened; call = Respond requests.response; answer = stored; after = responded }
    ∷ (record { before = responded; call = Halt 0; answer = Accepted; after = halted }
    ∷ (record { before = halted; call = Collect numbers 129; answer = written; after = collected } ∷ [])))) in
    let did = c.calls_in_turn_are_a_run.ensures 1 p q made calls c.new-room.ensures.state (
      refl,
      record { result = c.tick-ticked.result; state = c.tick-ticked.ensures.state; answer = c.tick-ticked.ensures.answer; ranking = c.tick-ticked.ensures.ranking; told = refl },
      (
        refl,
        record { result = Ok claim; state = c.in_ok-claim.ensures.state; answer = c.in_ok-claim.ensures.answer; ranking = c.in_ok-claim.ensures.ranking; told = ap Opened c.numbers-numbers.ensures },
        (
          refl,
          record { result = c.respond-responded.result; state = c.respond-responded.ensures.state; answer = c.respond-responded.ensures.answer; ranking = c.respond-responded.ensures.ranking; told = refl },
          (
            refl,
            record { result = c.halt.result; state = c.halt.ensures.state; answer = c.halt.ensures.answer; ranking = c.halt.ensures.ranking; told = sym (ap accepted c.unwrap.ensures) },
            (
              refl,
              record {
                claim = claim;
                its_numbers = sym c.numbers-numbers.ensures;
                rows_before = replicate 129 blank;
                as_long = refl;
                rows_after = c.collect.new.rows;
                result = c.collect.result;
                state = c.collect.ensures.state;
                answer = c.collect.ensures.answer;
                rows = c.collect.ensures.rows;
                ranking = c.collect.ensures.ranking;
                told = sym (ap (λ r. collecting_told at g.M.Market.position g.S.IntervalSource.position g.M.Market.told (collection_answer g.M.Market.told r) c.collect.new.rows) c.unwrap-collection.ensures);
              },
              tt,
            ),
          ),
        ),
      ),
    ) in
    record {
      answers =
          subst (λ r. map (λ (m : Moment g.M.Market.Position g.row.M-Tick.Denot g.M.Market.Told g.S.IntervalSource.Position). m.answer) (run (at r) 1 p q (auction_calls requests numbers)) ≡ map (λ (d : MethodCall g.row.M.Denot g.row.R.Denot g.row.S.Denot g.row.M-Tick.Denot g.M.Market.Told). d.answer) calls)
          c.new-room.ensures.ranking
          (sym (ap (map (λ (m : Moment g.M.Market.Position g.row.M-Tick.Denot g.M.Market.Told g.S.IntervalSource.Position). m.answer)) did.moments));
      laws = subst (λ r. LawsOfRun (at r) 1 p q (auction_calls requests numbers)) c.new-room.ensures.ranking did.laws;
    }
