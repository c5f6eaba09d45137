-- After a run, too, the desk holds the claims to the auctions of its room, and no others; and where no call was made all is as it
-- was.
use Rattle.std.proofs.Common.{◌≡◌, Ok, Err, IfOk, OnErr, Result, List, vec_items, sym, ap, ◌∙◌}
use Rattle.room.specs.World.{World}
use Rattle.session.specs.declared.answer.Answer.{Answer}
use Rattle.session.specs.declared.call.Call.{Call}
use Rattle.session.specs.declared.Session.{Session}
use Rattle.session.specs.Claims.{claims_of_room, claims_to}
use Rattle.session.specs.Session.{session_now, session_world, RunAsModelled}
use Rattle.session.proofs.Claims.{match_at_end}
use Rattle.session.proofs.desk.Desk.run.Goals as goal

held_by : {M R S P T D F Q A B : Type 0} (fault : D → F) (position : M → P) (source : S → Q) (w : World P T F Q) (items : A → List (Answer D)) (before after : Session M R S) (calls : List (Call T)) (result : Result A B)
    → IfOk result (λ a. RunAsModelled fault position source w before after calls (items a)) → OnErr result (after.room ≡ before.room) → OnErr result (after.purse.numbers ≡ before.purse.numbers)
    → before.purse.numbers ≡ claims_of_room before.room → after.purse.numbers ≡ claims_of_room after.room
held_by fault position source w items before after calls (Ok a) run room claims h =
    run.claims ∙ match_at_end w (session_now position source before) calls h ∙ sym (ap claims_to run.room)
held_by fault position source w items before after calls (Err b) run room claims h = claims ∙ h ∙ sym (ap claims_of_room room)

pub invariant_of-self : goal.invariant_of-self
invariant_of-self g c =
    let before = c.args.self.now.session in
    let did = c.run.ensures in
    record {
      every_claim =
          held_by g.M.Market.told g.M.Market.position g.S.IntervalSource.position (session_world g.M.Market.meaning g.S.IntervalSource.meaning g.R.Ranking.ahead before) vec_items before _ _ c.run.result
          did.run did.room_back did.claims_back c.args.self.now.every_claim;
    }
