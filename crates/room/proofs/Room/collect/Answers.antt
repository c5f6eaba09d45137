-- No more auctions wait than before; and a refused collecting leaves the room, as in the model.
use Rattle.std.proofs.Common.{length, sym, refl, ap, ◌∙◌, arith}
use Rattle.room.specs.Calls.{fills_told, room_state}
use Rattle.room.specs.Collecting.{collectable}
use Rattle.room.specs.Refusals.{refusal_told}
use Rattle.room.specs.Rooms.{claim_numbers, collected_answer, waiting_values}
use Rattle.room.proofs.Collected.{without_no_longer, refused_leaves}
use Rattle.room.proofs.Room.collect.Goals as goal

pub invariant_of-self-clause-two : goal.invariant_of-self-clause-two
invariant_of-self-clause-two g c =
    let before = c.args.self.now in
    let fewer = without_no_longer c.args.claim.numbers.auction (waiting_values before.waiting) in
    let is = ap length c.remove.ensures in
    omega arith

pub returns-in-Err : goal.returns-in-Err
returns-in-Err g c =
    let state = room_state g.M.Market g.S.IntervalSource c.args.self.now in
    let numbers = claim_numbers c.args.claim in
    let rows = length c.args.rows.now in
    let told = ap (fills_told g.M.Market) (sym c.in-Err.is) ∙ c.write_fills.ensures.answer in
    record {
      state = sym (refused_leaves (collectable state numbers rows) state _ _ (refusal_told g.M.Market.told c.in-Err.refusal) told);
      answer = ap (collected_answer c.args.claim) told;
      rows = c.write_fills.ensures.rows;
      ranking = refl;
    }
