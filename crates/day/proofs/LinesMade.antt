-- Lines whose calls are made one by one come to what all of them come to.
use Rattle.std.proofs.Common.{◌≡◌, ◌++◌, ◌∙◌, ap, sym, refl, ℕ, List, [], ◌∷◌}
use Rattle.std.proofs.lemmas.List.{append_assoc, append-nil}
use Rattle.day.specs.Calls.{call_in, calls_in}
use Rattle.day.specs.CarriedOut.{CarriedOut, CubeRoom, CubeWorld, answers_to, calls_carried, room_behind, start_in, world_in}
use Rattle.day.specs.Ends.{ended_at, ended_to}
use Rattle.day.specs.Member.{MemberNotes, answers_behind, line_for, member_notes_after, text_for}
use Rattle.day.specs.Fills.{FillNotes, collected_by, fills_in, fill_notes_after, opened_by, orders_in}
use Rattle.day.specs.Notes.{notes_after_all}
use Rattle.day.specs.declared.fills.OpenedOrder.{OpenedOrder}
use Rattle.day.specs.declared.ends.Ends.{Ends}
use Rattle.day.specs.declared.ends.Ends.TheVariants.{Omitted, Shown}
use Rattle.day.specs.Lines.{CubeCall, Line, Entry, Call}
use Rattle.day.specs.Whole.{WholeNotes, market_behind, whole_line, whole_lines, whole_notes_after}
use Rattle.market.specs.Cube.{CubePosition}
use Rattle.script.specs.declared.chosen.ChosenInterval.{ChosenInterval}
use Rattle.script.specs.declared.setup.room_terms.RoomTerms.{RoomTerms}
use Rattle.session.specs.Desk.{at_desk}
use Rattle.session.specs.Closed.{told_at_close, after_close}
use Rattle.session.specs.Promises.{Modelled, ModelKeepsThePromise, at_first}
use Rattle.session.specs.SessionState.{SessionState, session_answers, session_end, session_moments}
use Rattle.session.proofs.Claims.{match_at_end}
use Rattle.session.proofs.Promises.{closed_modelled, desk_closed, is_desk}

module _ (w : CubeWorld) (s : CubeRoom) where
  -- Behind calls at a desk there is a desk.
  pub desk_left : (cs : List CubeCall) → session_end w (at_desk s) cs ≡ at_desk (room_behind w s cs)
  desk_left cs = is_desk w (session_end w (at_desk s) cs) (match_at_end w (at_desk s) cs refl)

  -- The first line is answered by its call's answer, and the others by those behind it.
  first_for : (u n : ℕ) (x : Entry) (cs : List CubeCall) → line_for u n x (answers_to w s (call_in x ++ cs)) ≡ line_for u n x (answers_to w s (call_in x))
  first_for u n (Call c) cs = refl
  first_for u n _ cs = refl

  first_whole : (e : Ends) (p : CubePosition) (n : ℕ) (x : Entry) (cs : List CubeCall)
      → whole_line p n x (answers_to w s (call_in x ++ cs)) (ended_to e w s (call_in x ++ cs)) ≡ whole_line p n x (answers_to w s (call_in x)) (ended_to e w s (call_in x))
  first_whole Omitted p n (Call c) cs = refl
  first_whole Shown p n (Call c) cs = refl
  first_whole e p n _ cs = refl

  first_opened : (x : Entry) (cs : List CubeCall) → opened_by x (answers_to w s (call_in x ++ cs)) ≡ opened_by x (answers_to w s (call_in x))
  first_opened (Call c) cs = refl
  first_opened _ cs = refl

  first_collected : (os : List OpenedOrder) (x : Entry) (cs : List CubeCall) → collected_by os x (answers_to w s (call_in x ++ cs)) ≡ collected_by os x (answers_to w s (call_in x))
  first_collected os (Call c) cs = refl
  first_collected os _ cs = refl

  others_ended : (e : Ends) (x : Entry) (cs : List CubeCall)
      → answers_behind x (ended_to e w s (call_in x ++ cs)) ≡ ended_at e (session_moments w (session_end w (at_desk s) (call_in x)) cs)
  others_ended Omitted (Call c) cs = refl
  others_ended Shown (Call c) cs = refl
  others_ended e _ cs = refl

  first_market : (p : CubePosition) (x : Entry) (cs : List CubeCall) → market_behind p x (answers_to w s (call_in x ++ cs)) ≡ market_behind p x (answers_to w s (call_in x))
  first_market p (Call c) cs = refl
  first_market p _ cs = refl

  others : (x : Entry) (cs : List CubeCall) → answers_behind x (answers_to w s (call_in x ++ cs)) ≡ session_answers w (session_end w (at_desk s) (call_in x)) cs
  others (Call c) cs = refl
  others _ cs = refl

  end_of : (x : Entry) (cs : List CubeCall) → session_end w (at_desk s) (call_in x ++ cs) ≡ session_end w (session_end w (at_desk s) (call_in x)) cs
  end_of (Call c) cs = refl
  end_of _ cs = refl

  abbrev behind : Line → CubeRoom
  behind l = room_behind w s (call_in l.entry)

  others_at : (l : Line) (cs : List CubeCall) → answers_behind l.entry (answers_to w s (call_in l.entry ++ cs)) ≡ answers_to w (behind l) cs
  others_at l cs = others l.entry cs ∙ ap (λ (t : SessionState CubePosition ChosenInterval). session_answers w t cs) (desk_left (call_in l.entry))

  pub room_on : (l : Line) (ls : List Line) → room_behind w (behind l) (calls_in ls) ≡ room_behind w s (calls_in (l ∷ ls))
  room_on l ls = sym (ap (λ (t : SessionState CubePosition ChosenInterval). t.room) (end_of l.entry (calls_in ls) ∙ ap (λ (t : SessionState CubePosition ChosenInterval). session_end w t (calls_in ls)) (desk_left (call_in l.entry))))

  pub text_on : (u : ℕ) (l : Line) (ls : List Line)
      → line_for u l.number l.entry (answers_to w s (call_in l.entry)) ++ text_for u ls (answers_to w (behind l) (calls_in ls)) ≡ text_for u (l ∷ ls) (answers_to w s (calls_in (l ∷ ls)))
  text_on u l ls =
      let all = answers_to w s (calls_in (l ∷ ls)) in
      sym (ap (λ x. x ++ text_for u ls (answers_behind l.entry all)) (first_for u l.number l.entry (calls_in ls))
      ∙ ap (λ answers. line_for u l.number l.entry (answers_to w s (call_in l.entry)) ++ text_for u ls answers) (others_at l (calls_in ls)))

  others_ended_at : (e : Ends) (l : Line) (cs : List CubeCall) → answers_behind l.entry (ended_to e w s (call_in l.entry ++ cs)) ≡ ended_to e w (behind l) cs
  others_ended_at e l cs = others_ended e l.entry cs ∙ ap (λ (t : SessionState CubePosition ChosenInterval). ended_at e (session_moments w t cs)) (desk_left (call_in l.entry))

  pub whole_on : (e : Ends) (p : CubePosition) (l : Line) (ls : List Line)
      → whole_line p l.number l.entry (answers_to w s (call_in l.entry)) (ended_to e w s (call_in l.entry))
      ++ whole_lines (market_behind p l.entry (answers_to w s (call_in l.entry))) ls (answers_to w (behind l) (calls_in ls)) (ended_to e w (behind l) (calls_in ls))
      ≡ whole_lines p (l ∷ ls) (answers_to w s (calls_in (l ∷ ls))) (ended_to e w s (calls_in (l ∷ ls)))
  whole_on e p l ls =
      let all = answers_to w s (calls_in (l ∷ ls)) in
      let ended = ended_to e w s (calls_in (l ∷ ls)) in
      let first = whole_line p l.number l.entry (answers_to w s (call_in l.entry)) (ended_to e w s (call_in l.entry)) in
      let market = market_behind p l.entry (answers_to w s (call_in l.entry)) in
      sym (ap (λ x. x ++ whole_lines (market_behind p l.entry all) ls (answers_behind l.entry all) (answers_behind l.entry ended)) (first_whole e p l.number l.entry (calls_in ls))
      ∙ ap (λ q. first ++ whole_lines q ls (answers_behind l.entry all) (answers_behind l.entry ended)) (first_market p l.entry (calls_in ls))
      ∙ ap (λ answers. first ++ whole_lines market ls answers (answers_behind l.entry ended)) (others_at l (calls_in ls))
      ∙ ap (λ es. first ++ whole_lines market ls (answers_to w (behind l) (calls_in ls)) es) (others_ended_at e l (calls_in ls)))

  pub orders_on : (os : List OpenedOrder) (l : Line) (ls : List Line)
      → orders_in (os ++ opened_by l.entry (answers_to w s (call_in l.entry))) ls (answers_to w (behind l) (calls_in ls)) ≡ orders_in os (l ∷ ls) (answers_to w s (calls_in (l ∷ ls)))
  orders_on os l ls =
      let all = answers_to w s (calls_in (l ∷ ls)) in
      sym (ap (λ opened. orders_in (os ++ opened) ls (answers_behind l.entry all)) (first_opened l.entry (calls_in ls))
      ∙ ap (orders_in (os ++ opened_by l.entry (answers_to w s (call_in l.entry))) ls) (others_at l (calls_in ls)))

  pub fills_on : (os : List OpenedOrder) (l : Line) (ls : List Line)
      → collected_by os l.entry (answers_to w s (call_in l.entry)) ++ fills_in (os ++ opened_by l.entry (answers_to w s (call_in l.entry))) ls (answers_to w (behind l) (calls_in ls))
      ≡ fills_in os (l ∷ ls) (answers_to w s (calls_in (l ∷ ls)))
  fills_on os l ls =
      let all = answers_to w s (calls_in (l ∷ ls)) in
      let first = collected_by os l.entry (answers_to w s (call_in l.entry)) in
      sym (ap (λ x. x ++ fills_in (os ++ opened_by l.entry all) ls (answers_behind l.entry all)) (first_collected os l.entry (calls_in ls))
      ∙ ap (λ opened. first ++ fills_in (os ++ opened) ls (answers_behind l.entry all)) (first_opened l.entry (calls_in ls))
      ∙ ap (λ answers. first ++ fills_in (os ++ opened_by l.entry (answers_to w s (call_in l.entry))) ls answers) (others_at l (calls_in ls)))

-- A line was carried out: the world of the first room and that of its own, the room before and after it, and the lines that
-- were to come before it and those that are left.
pub record LineMade : Type 0 where
  pub world : CubeWorld
  pub world_now : CubeWorld
  pub before : CubeRoom
  pub after : CubeRoom
  pub line : Line
  pub to_come : List Line
  pub left : List Line
  pub same_world : world_now ≡ world
  pub made : after ≡ room_behind world_now before (call_in line.entry)
  pub took : to_come ≡ line ∷ left

-- The lines that are left then come to what those to come before it came to.
module _ (m : LineMade) where
  room_is : m.after ≡ behind m.world m.before m.line
  room_is = m.made ∙ ap (λ x. room_behind x m.before (call_in m.line.entry)) m.same_world

  pub room_more : (z : CubeRoom) → room_behind m.world m.before (calls_in m.to_come) ≡ z → room_behind m.world m.after (calls_in m.left) ≡ z
  room_more z so_far =
      ap (λ r. room_behind m.world r (calls_in m.left)) room_is ∙ room_on m.world m.before m.line m.left
      ∙ ap (λ a. room_behind m.world m.before (calls_in a)) (sym m.took) ∙ so_far

  pub notes_more : {X : Type 0} (noted : CubeWorld → CubeRoom → Line → X → X) (x y z : X) → y ≡ noted m.world_now m.before m.line x
      → notes_after_all noted m.world m.before m.to_come x ≡ z → notes_after_all noted m.world m.after m.left y ≡ z
  notes_more noted x y z took_notes so_far =
      ap (notes_after_all noted m.world m.after m.left) (took_notes ∙ ap (λ u. noted u m.before m.line x) m.same_world)
      ∙ ap (λ r. notes_after_all noted m.world r m.left (noted m.world m.before m.line x)) room_is
      ∙ ap (λ a. notes_after_all noted m.world m.before a x) (sym m.took) ∙ so_far

-- Notes of a text have the text of all lines.
module _ (w : CubeWorld) where
  pub member_text : (s : CubeRoom) (ls : List Line) (x : MemberNotes) → (notes_after_all member_notes_after w s ls x).text ≡ x.text ++ text_for x.member ls (answers_to w s (calls_in ls))
  member_text s [] x = sym (append-nil x.text)
  member_text s (l ∷ ls) x =
      member_text (behind w s l) ls (member_notes_after w s l x)
      ∙ append_assoc x.text (line_for x.member l.number l.entry (answers_to w s (call_in l.entry))) (text_for x.member ls (answers_to w (behind w s l) (calls_in ls)))
      ∙ ap (λ b. x.text ++ b) (text_on w s x.member l ls)

  pub whole_text : (s : CubeRoom) (ls : List Line) (x : WholeNotes)
      → (notes_after_all whole_notes_after w s ls x).text ≡ x.text ++ whole_lines x.market ls (answers_to w s (calls_in ls)) (ended_to x.ends w s (calls_in ls))
  whole_text s [] x = sym (append-nil x.text)
  whole_text s (l ∷ ls) x =
      let answers = answers_to w s (call_in l.entry) in
      whole_text (behind w s l) ls (whole_notes_after w s l x)
      ∙ append_assoc x.text (whole_line x.market l.number l.entry answers (ended_to x.ends w s (call_in l.entry))) (whole_lines (market_behind x.market l.entry answers) ls (answers_to w (behind w s l) (calls_in ls)) (ended_to x.ends w (behind w s l) (calls_in ls)))
      ∙ ap (λ b. x.text ++ b) (whole_on w s x.ends x.market l ls)

  pub orders_of_notes : (s : CubeRoom) (ls : List Line) (x : FillNotes) → (notes_after_all fill_notes_after w s ls x).orders ≡ orders_in x.orders ls (answers_to w s (calls_in ls))
  orders_of_notes s [] x = refl
  orders_of_notes s (l ∷ ls) x = orders_of_notes (behind w s l) ls (fill_notes_after w s l x) ∙ orders_on w s x.orders l ls

  pub fills_of_notes : (s : CubeRoom) (ls : List Line) (x : FillNotes) → (notes_after_all fill_notes_after w s ls x).fills ≡ x.fills ++ fills_in x.orders ls (answers_to w s (calls_in ls))
  fills_of_notes s [] x = sym (append-nil x.fills)
  fills_of_notes s (l ∷ ls) x =
      let answers = answers_to w s (call_in l.entry) in
      fills_of_notes (behind w s l) ls (fill_notes_after w s l x)
      ∙ append_assoc x.fills (collected_by x.orders l.entry answers) (fills_in (x.orders ++ opened_by l.entry answers) ls (answers_to w (behind w s l) (calls_in ls)))
      ∙ ap (λ b. x.fills ++ b) (fills_on w s x.orders l ls)

-- From the room of these terms on, the whole promise holds of calls at a desk, and on if it is closed behind them.
abbrev pub carried_out : (terms : RoomTerms) (calls : List CubeCall) → ModelKeepsThePromise (world_in terms) → CarriedOut terms calls
carried_out terms calls promise =
    let w = world_in terms in
    let first = at_first (start_in terms) in
    let answers = session_answers w first calls in
    let room = (session_end w first calls).room in
    let carried = calls_carried terms calls answers room in
    let modelled : Modelled w carried = record { answers = refl; room = refl; claims = sym (match_at_end w first calls refl) } in
    record {
      answers = answers;
      room = room;
      promise = promise carried modelled;
      at_end = told_at_close w room;
      told_at_end = refl;
      closed_room = after_close w room;
      when_closed = promise _ (closed_modelled w carried (told_at_close w room) (after_close w room) refl modelled (desk_closed w room));
    }
