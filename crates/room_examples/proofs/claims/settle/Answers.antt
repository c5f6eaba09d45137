-- After the halt the one claim collects, and the room has kept its number.
use Rattle.std.proofs.Common.{◌≡◌, ◌∷◌, [], Bool, true, false, cond, max, IsOk, sym, refl, ap, ◌∙◌, subst}
use Rattle.std.specs.Str.{byte}
use Rattle.room.specs.Rooms.{claim_numbers, collected_answer, state_of, world_of}
use Rattle.room.specs.Clock.{due}
use Rattle.room.specs.State.{RoomState, at_time, after_end}
use Rattle.session.specs.declared.call.Call.TheVariants.{Halt}
use Rattle.session.specs.Claims.{claims_to}
use Rattle.session.specs.SessionState.{session_of}
use Rattle.session.proofs.Claims.{match_kept}
use Rattle.session.proofs.Closing.{first_collected, ok_as_told}
use Rattle.room_examples.proofs.claims.settle.Goals as goal

-- the clock step keeps the room's number
number_kept : {P Q : Type 0} (b : Bool) (s : RoomState P Q) → (cond b (after_end (byte "T") s) s).number ≡ s.number
number_kept true s = refl
number_kept false s = refl

-- Halting leaves the claims to the room's auctions, and none is open, so the first of them collects.
pub unwrap-requires-2 : goal.unwrap-requires-2
unwrap-requires-2 g c =
    let w = world_of g.M.Market.meaning g.S.IntervalSource.meaning (g.R.Ranking.ahead c.halt.new.self.ranking) in
    let first = state_of g.M.Market.position g.S.IntervalSource.position c.args.room.now in
    let halted = state_of g.M.Market.position g.S.IntervalSource.position c.halt.new.self in
    let claim = c.args.claim in
    let purse = claim_numbers claim ∷ [] in
    let kept = match_kept w (session_of first purse) (Halt 0) (sym c.requires) ∙ sym (ap claims_to c.halt.ensures.state) in
    let none_open = ap (λ (s : RoomState g.M.Market.Position g.S.IntervalSource.Position). s.current) c.halt.ensures.state in
    let did = first_collected w halted (claim_numbers claim) [] halted.waiting none_open refl kept in
    ok_as_told _ _ c.collect.result (subst (λ r. IsOk r) (sym (c.collect.ensures.answer ∙ ap (collected_answer claim) did.answer_is)) refl)

pub returns : goal.returns
returns g c =
    let w = world_of g.M.Market.meaning g.S.IntervalSource.meaning (g.R.Ranking.ahead c.halt.new.self.ranking) in
    let first = state_of g.M.Market.position g.S.IntervalSource.position c.args.room.now in
    let halted = state_of g.M.Market.position g.S.IntervalSource.position c.halt.new.self in
    let claim = c.args.claim in
    let number = λ (s : RoomState g.M.Market.Position g.S.IntervalSource.Position). s.number in
    let kept = match_kept w (session_of first (claim_numbers claim ∷ [])) (Halt 0) (sym c.requires) ∙ sym (ap claims_to c.halt.ensures.state) in
    let did = first_collected w halted (claim_numbers claim) [] halted.waiting (ap (λ (s : RoomState g.M.Market.Position g.S.IntervalSource.Position). s.current) c.halt.ensures.state) refl kept in
    ap number (c.collect.ensures.state ∙ did.state_is) ∙ ap number c.halt.ensures.state ∙ number_kept (due (max first.time 0) first.current) (at_time (max first.time 0) first)
