-- How contracts are shared: the rows of an accepted collecting are a lawful fill list of the auction that its history
-- tells of.
use Rattle.std.proofs.Common.{◌≡◌, ◌⊎◌, inl, inr, ℕ, false, List, [], length, ℤ, Some, sym, ap, ◌∙◌, subst}
use Rattle.allocation.proofs.FillProved.{fills_are_lawful}
use Rattle.allocation.specs.declared.fill.FillRow.{FillRow}
use Rattle.allocation.specs.declared.order.PairedOrder.{PairedOrder}
use Rattle.allocation.specs.Auction.{stood_responses, auction_fills}
use Rattle.allocation.specs.FillLaws.{StoodResponse}
use Rattle.allocation.specs.OnlyRows.{LawfulRows}
use Rattle.allocation.specs.Ranking.{by_key}
use Rattle.room.specs.declared.answers.ClaimNumbers.{ClaimNumbers}
use Rattle.room.specs.Collecting.{CollectionTold, fill_rows}
use Rattle.room.specs.State.{OpenValues, EndedValues, RoomState, new_room, waiting_auction}
use Rattle.room.specs.World.{World, Terms}
use Rattle.session.specs.declared.call.Call.{Call}
use Rattle.session.specs.declared.call.Call.TheVariants.{Collect}
use Rattle.session.specs.History.{Story, guarantee_of, is_collected}
use Rattle.session.specs.Runs.{Answer, Collected, Moment, moment, step}
use Rattle.session.specs.Sharing.{SharedLawfully, CollectedLawfully, ContractsAreSharedLawfully}
use Rattle.session.proofs.Ending.Apart.{Apart}
use Rattle.session.proofs.Ending.Held.{Holds, holds_new}
use Rattle.session.proofs.Ending.Laws.{throughout, waits_over}
use Rattle.session.proofs.Ending.Lives.{waits_or_not}
use Rattle.session.proofs.Ending.Shapes.{CollectedHere, collected_or_not, did}
use Rattle.session.proofs.Linked.{Matches}
use Rattle.room.proofs.Sound.{Sound}
use Rattle.room.proofs.Tests.{true_false}

module _ {P T F Q : Type 0} (w : World P T F Q) (p : P) (q : Q) where
  -- a sound auction's fill list is lawful
  sound_lawful : Terms w → (a : OpenValues) (e : EndedValues) → e.values ≡ a.values → Sound a.values → Apart a
      → LawfulRows a.values.order.side a.values.order.size a.values.floor a.values.order.guarantee a.values.initiating w.ahead (stood_responses a.values) (fill_rows w e)
  sound_lawful terms a e k h c =
      subst (λ (rows : List FillRow). LawfulRows a.values.order.side a.values.order.size a.values.floor a.values.order.guarantee a.values.initiating w.ahead (stood_responses a.values) rows) (ap (auction_fills (by_key w.ahead)) (sym k))
      (fills_are_lawful w.ahead (record { one_ahead = terms.one_ahead; carries_on = terms.carries_on }) a.values
      (record { in_order = h.in_order; guaranteed_at = h.guaranteed_at; stop_at = h.stop_at; standing = h.standing; arrivals = c.arrivals; owns = c.owns }))

  -- and so it is of what its story tells
  told_lawful : Terms w → (f : Story) (e : EndedValues) (was : OpenValues) → e.values ≡ was.values → Apart was → Matches f was
      → LawfulRows f.opening.order.side f.opening.order.size f.floor (guarantee_of f.opening) f.opening.range.initiating w.ahead f.stood (fill_rows w e)
  told_lawful terms f e was k c t =
      let v = was.values in
      let laws = sound_lawful terms was e k t.sound c in
      let stood = subst (λ (l : List StoodResponse). LawfulRows v.order.side v.order.size v.floor v.order.guarantee v.initiating w.ahead l (fill_rows w e)) t.stood_is laws in
      let initiating = subst (λ (z : ℤ). LawfulRows v.order.side v.order.size v.floor v.order.guarantee z w.ahead f.stood (fill_rows w e)) t.initiating_is stood in
      let floor = subst (λ (z : ℤ). LawfulRows v.order.side v.order.size z v.order.guarantee f.opening.range.initiating w.ahead f.stood (fill_rows w e)) t.floor_is initiating in
      subst (λ (o : PairedOrder). LawfulRows o.side o.size f.floor o.guarantee f.opening.range.initiating w.ahead f.stood (fill_rows w e)) t.order_is floor

  module _ (terms : Terms w) (number : ℕ) (past : List (Moment P T F Q)) (s : RoomState P Q) (c : Call T) (h : Holds w terms.drawn_within number p q past s) where
    -- what an accepted collecting answers
    shared_by : CollectedHere w (moment w s c) ⊎ (is_collected (step w s c).1 ≡ false) → (room auction rows : ℕ) (k : CollectionTold) (fs : List FillRow)
        → c ≡ Collect (record { room = room; auction = auction }) rows → (step w s c).1 ≡ Collected k fs → SharedLawfully w p q auction past k fs
    shared_by (inl d) room auction long k fs e a =
        let x = d.auction in
        let is : d.claim.auction ≡ auction = ap (λ (z : ClaimNumbers). z.auction) (let same : d.claim ≡ record { room = room; auction = auction } = let j = d.call_is in cc in same) in
        let at : waiting_auction auction s.waiting ≡ Some x = ap (λ (z : RoomState P Q). waiting_auction auction z.waiting) (sym d.no_clock_step) ∙ ap (λ i. waiting_auction i (moment w s c).stepped.waiting) (sym is) ∙ d.waited in
        let over = waits_over w terms.drawn_within number p q past s c h auction x at (waits_or_not w p q auction past s (h.lives auction)) in
        let y = d.answer_is in
        let wrote : fill_rows w x ≡ fs = cc in
        let told : record { count = length (fill_rows w x); cause = x.cause } ≡ k = cc in
        record {
          story = over.story;
          is_its_story = over.is_its_story;
          laws =
              let f = over.story in
              subst (LawfulRows f.opening.order.side f.opening.order.size f.floor (guarantee_of f.opening) f.opening.range.initiating w.ahead f.stood) wrote (told_lawful terms f x over.was over.as_it_was over.apart over.matches);
          as_many_as_told = ap length (sym wrote) ∙ ap (λ (z : CollectionTold). z.count) told;
        }
    shared_by (inr none) room auction long k fs e a = true_false (sym (ap (λ (z : Answer F). is_collected z) a) ∙ none)

    collected_lawfully : CollectedLawfully w p q past (moment w s c)
    collected_lawfully room auction long k fs e a = shared_by (collected_or_not w (moment w s c) (did w s c)) room auction long k fs e a

-- of every run
pub contracts_are_shared_lawfully : {P T F Q : Type 0} (w : World P T F Q) → Terms w → ContractsAreSharedLawfully w
contracts_are_shared_lawfully w terms number p q cs =
    throughout w terms.drawn_within number p q (CollectedLawfully w p q) (collected_lawfully w p q terms number) [] (new_room number p q) cs (holds_new w terms.drawn_within number p q)
