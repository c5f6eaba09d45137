-- After the call, too, the desk holds the claims to the auctions of its room, and no others.
use Rattle.std.proofs.Common.{sym, ap, ◌∙◌}
use Rattle.session.specs.Claims.{claims_of_room, claims_to}
use Rattle.session.specs.Session.{session_now, session_world}
use Rattle.session.specs.SessionState.{SessionState}
use Rattle.session.proofs.Claims.{match_kept}
use Rattle.session.proofs.desk.Desk.call.Goals as goal

pub invariant_of-self-2 : goal.invariant_of-self-2
invariant_of-self-2 g c =
    let before = c.reserve.new.self in
    let w = session_world g.M.Market.meaning g.S.IntervalSource.meaning g.R.Ranking.ahead before in
    let held = c.reserve.ensures.same_claims ∙ c.args.self.now.every_claim ∙ sym (ap claims_of_room c.reserve.ensures.same_room) in
    let after = c.make_call.ensures.session in
    record {
      every_claim =
          ap (λ (s : SessionState g.M.Market.Position g.S.IntervalSource.Position). s.purse) after
          ∙ match_kept w (session_now g.M.Market.position g.S.IntervalSource.position before) c.args.call held
          ∙ sym (ap (λ (s : SessionState g.M.Market.Position g.S.IntervalSource.Position). claims_to s.room) after);
    }
