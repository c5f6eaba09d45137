-- Every row that a collecting is answered is listed, since for each claim that a desk holds the order is noted: an opening adds
-- both, and a collecting hands in a claim.
use Rattle.std.proofs.Common.{◌≡◌, ◌++◌, ◌∙◌, ◌⊎◌, inl, inr, ap, sym, subst, refl, ℕ, Bool, true, false, cond, ◌&&◌, ◌||◌, eqb, List, [], ◌∷◌, find, map, is_some, Option, Some, None}
use Rattle.std.proofs.lemmas.Bool.{and_parts}
use Rattle.std.proofs.lemmas.Grind.{flat_map-append}
use Rattle.std.proofs.lemmas.List.{append-nil, map-append, reverse-append}
use Rattle.std.specs.List.{flat_map}
use Rattle.allocation.specs.declared.fill.FillRow.{FillRow}
use Rattle.allocation.specs.declared.order.PairedOrder.{PairedOrder}
use Rattle.day.specs.Calls.{call_in, calls_in}
use Rattle.day.specs.CarriedOut.{CubeRoom, CubeWorld, answers_to, room_behind}
use Rattle.day.specs.Fills.{FillValue, answer_rows, collected_by, fills_at_end, fills_closed, fills_collected, fills_in, fills_of, opened_by, order_of, order_opened, orders_in, rows_told}
use Rattle.day.specs.Lines.{CubeCall, Line, Entry, Call}
use Rattle.day.specs.declared.fills.OpenedOrder.{OpenedOrder}
use Rattle.day.proofs.LinesMade.{desk_left, fills_on, orders_on, room_on}
use Rattle.market.specs.Cube.{CubePosition, CubeFaultTold}
use Rattle.room.specs.declared.answers.ClaimNumbers.{ClaimNumbers}
use Rattle.room.specs.State.{EndedValues}
use Rattle.room.proofs.Tests.{true_false}
use Rattle.script.specs.declared.chosen.ChosenInterval.{ChosenInterval}
use Rattle.session.specs.declared.call.Call.TheVariants.{Open, Collect, Halt}
use Rattle.session.specs.Claims.{claim_to, claims_to, number_of_open}
use Rattle.session.specs.Closed.{ClosedTold, told_at_close, told_of_ended}
use Rattle.session.specs.Desk.{at_desk}
use Rattle.session.specs.History.{auction_in, is_collected, order_in}
use Rattle.session.specs.Purse.{claim_in, holds, is_made, purse_after, purse_left, same_claim, without_claim}
use Rattle.session.specs.Runs.{Answer, Opened, Collected, moment, step}
use Rattle.session.specs.SessionState.{SessionState, session_of, session_answers, session_after, session_answer}
use Rattle.session.proofs.Claims.{match_kept, same}
use Rattle.session.proofs.Ending.Shapes.{CollectedHere, collected_or_not, did}
use Rattle.session.proofs.Promises.{answers_behind}

abbrev row_of : FillValue → FillRow
row_of f = f.row

abbrev rows_of : List FillValue → List FillRow
rows_of fs = map row_of fs

-- For each of these claims the order is noted.
abbrev pub Noted : List OpenedOrder → List ClaimNumbers → Type 0
Noted os purse = (c : ClaimNumbers) → holds c purse ≡ true → is_some (order_of os c.auction) ≡ true

-- One order more.
order_behind : (os : List OpenedOrder) (o : OpenedOrder) (n : ℕ) → order_of (os ++ o ∷ []) n ≡ cond (eqb o.auction n) (Some o) (order_of os n)
order_behind os o n = ap (find (λ (x : OpenedOrder). eqb x.auction n)) (reverse-append os (o ∷ []))

either_order : (b : Bool) (o : OpenedOrder) (x : Option OpenedOrder) → is_some x ≡ true → is_some (cond b (Some o) x) ≡ true
either_order true o x h = refl
either_order false o x h = h

noted_before : (os : List OpenedOrder) (o : OpenedOrder) (n : ℕ) → is_some (order_of os n) ≡ true → is_some (order_of (os ++ o ∷ []) n) ≡ true
noted_before os o n h = ap is_some (order_behind os o n) ∙ either_order (eqb o.auction n) o (order_of os n) h

noted_now : (os : List OpenedOrder) (o : OpenedOrder) (n : ℕ) → eqb o.auction n ≡ true → is_some (order_of (os ++ o ∷ []) n) ≡ true
noted_now os o n h = ap is_some (order_behind os o n) ∙ ap (λ (b : Bool). is_some (cond b (Some o) (order_of os n))) h

-- What a purse holds with a claim more, and with one less.
or_first : (b d : Bool) → b || d ≡ true → (b ≡ true) ⊎ (d ≡ true)
or_first true d h = inl refl
or_first false d h = inr h

or_kept : (b d e : Bool) → (d ≡ true → e ≡ true) → b || d ≡ true → b || e ≡ true
or_kept true d e k h = refl
or_kept false d e k h = k h

or_second : (b d : Bool) → d ≡ true → b || d ≡ true
or_second true d h = refl
or_second false d h = h

or_none : (b : Bool) → b || false ≡ b
or_none true = refl
or_none false = refl

or_behind : (b d e : Bool) → b || (d || e) ≡ (b || d) || e
or_behind true d e = refl
or_behind false d e = refl

holds_more : (c k : ClaimNumbers) (purse : List ClaimNumbers) → holds c (purse ++ k ∷ []) ≡ holds c purse || same_claim k c
holds_more c k [] = or_none (same_claim k c)
holds_more c k (x ∷ xs) = ap (λ (b : Bool). same_claim x c || b) (holds_more c k xs) ∙ or_behind (same_claim x c) (holds c xs) (same_claim k c)

without_by : (b : Bool) (c x : ClaimNumbers) (xs ys : List ClaimNumbers) → (holds c ys ≡ true → holds c xs ≡ true) → holds c (cond b xs (x ∷ ys)) ≡ true → holds c (x ∷ xs) ≡ true
without_by true c x xs ys k h = or_second (same_claim x c) (holds c xs) h
without_by false c x xs ys k h = or_kept (same_claim x c) (holds c ys) (holds c xs) k h

held_without : (c k : ClaimNumbers) (purse : List ClaimNumbers) → holds c (without_claim k purse) ≡ true → holds c purse ≡ true
held_without c k [] h = h
held_without c k (x ∷ xs) h = without_by (same_claim x k) c x xs (without_claim k xs) (held_without c k xs) h

held_left : (b : Bool) (c k : ClaimNumbers) (purse : List ClaimNumbers) → holds c (cond b (without_claim k purse) purse) ≡ true → holds c purse ≡ true
held_left true c k purse h = held_without c k purse h
held_left false c k purse h = h

-- A call keeps it so.
noted_either : (os : List OpenedOrder) (o : OpenedOrder) (room : ℕ) (c : ClaimNumbers) (purse : List ClaimNumbers) → Noted os purse
    → (holds c purse ≡ true) ⊎ (same_claim (claim_to room o.auction) c ≡ true) → is_some (order_of (os ++ o ∷ []) c.auction) ≡ true
noted_either os o room c purse noted (inl h) = noted_before os o c.auction (noted c h)
noted_either os o room c purse noted (inr h) = noted_now os o c.auction (and_parts (eqb room c.room) (eqb o.auction c.auction) h).1

same_orders : (os : List OpenedOrder) (purse : List ClaimNumbers) → Noted os purse → Noted (os ++ []) purse
same_orders os purse noted = subst (λ (xs : List OpenedOrder). Noted xs purse) (sym (append-nil os)) noted

after_opening : (a : Answer CubeFaultTold) (os : List OpenedOrder) (x : PairedOrder) (purse : List ClaimNumbers) → Noted os purse
    → Noted (os ++ order_opened (Some x) (Some a)) (purse ++ claim_in a)
after_opening (Opened k) os x purse noted = λ c h.
    noted_either os (record { auction = k.auction; side = x.side; size = x.size }) k.room c purse noted (or_first (holds c purse) (same_claim k c) (sym (holds_more c k purse) ∙ h))
after_opening _ os x purse noted = same_orders os (purse ++ []) (subst (Noted os) (sym (append-nil purse)) noted)

noted_after : (c : CubeCall) (a : Answer CubeFaultTold) (os : List OpenedOrder) (purse : List ClaimNumbers) → Noted os purse
    → Noted (os ++ order_opened (order_in c) (Some a)) (purse_after c a purse)
noted_after (Open x) a os purse noted = after_opening a os x.order purse noted
noted_after (Collect k n) a os purse noted = same_orders os (purse_left a k purse) (λ c h. noted c (held_left (is_collected a) c k purse h))
noted_after _ a os purse noted = same_orders os purse noted

-- The rows of an auction of which the order is noted are all of them.
rows_back : (o : OpenedOrder) (n cause : ℕ) (rows : List FillRow) → rows_of (fills_of (Some o) n cause rows) ≡ rows
rows_back o n cause [] = refl
rows_back o n cause (r ∷ rows) = ap (λ (l : List FillRow). r ∷ l) (rows_back o n cause rows)

rows_found : (x : Option OpenedOrder) (n cause : ℕ) (rows : List FillRow) → is_some x ≡ true → rows_of (fills_of x n cause rows) ≡ rows
rows_found None n cause rows h = true_false (sym h)
rows_found (Some o) n cause rows h = rows_back o n cause rows

none_collected : (n : Option ℕ) (os : List OpenedOrder) (a : Answer CubeFaultTold) → is_collected a ≡ false → rows_of (fills_collected os n (Some a)) ≡ answer_rows (Some a)
none_collected None os (Collected k rows) h = true_false h
none_collected None os _ h = refl
none_collected (Some n) os (Collected k rows) h = true_false h
none_collected (Some n) os _ h = refl

no_answer : (n : Option ℕ) (os : List OpenedOrder) → rows_of (fills_collected os n None) ≡ []
no_answer None os = refl
no_answer (Some n) os = refl

none_opened : (x : Option PairedOrder) → order_opened x None ≡ []
none_opened None = refl
none_opened (Some x) = refl

module _ (w : CubeWorld) (s : CubeRoom) (os : List OpenedOrder) (noted : Noted os (claims_to s)) where
  -- A call that is made at a desk,
  collected_rows : (c : CubeCall) → is_made c (claims_to s) ≡ true → CollectedHere w (moment w s c)
      → rows_of (fills_collected os (auction_in c) (Some (step w s c).1)) ≡ answer_rows (Some (step w s c).1)
  collected_rows c made d =
      ap (λ (x : CubeCall). rows_of (fills_collected os (auction_in x) (Some (step w s c).1))) d.call_is
      ∙ ap (λ (a : Answer CubeFaultTold). rows_of (fills_collected os (Some d.claim.auction) (Some a))) d.answer_is
      ∙ rows_found (order_of os d.claim.auction) d.claim.auction _ _ (noted d.claim (sym (ap (λ (x : CubeCall). is_made x (claims_to s)) d.call_is) ∙ made))
      ∙ sym (ap (λ (a : Answer CubeFaultTold). answer_rows (Some a)) d.answer_is)

  made_rows : (c : CubeCall) → is_made c (claims_to s) ≡ true → CollectedHere w (moment w s c) ⊎ (is_collected (step w s c).1 ≡ false)
      → rows_of (fills_collected os (auction_in c) (Some (step w s c).1)) ≡ answer_rows (Some (step w s c).1)
  made_rows c made (inl d) = collected_rows c made d
  made_rows c made (inr none) = none_collected (auction_in c) os (step w s c).1 none

  rows_by : (b : Bool) (c : CubeCall) → is_made c (claims_to s) ≡ b
      → rows_of (fills_collected os (auction_in c) (cond b (Some (step w s c).1) None)) ≡ answer_rows (cond b (Some (step w s c).1) None)
  rows_by true c made = made_rows c made (collected_or_not w (moment w s c) (did w s c))
  rows_by false c made = no_answer (auction_in c) os

  noted_by : (b : Bool) (c : CubeCall) → Noted (os ++ order_opened (order_in c) (cond b (Some (step w s c).1) None))
      (cond b (session_of (step w s c).0 (purse_after c (step w s c).1 (claims_to s))) (at_desk s)).purse
  noted_by true c = noted_after c (step w s c).1 os (claims_to s) noted
  noted_by false c = subst (λ (xs : List OpenedOrder). Noted (os ++ xs) (claims_to s)) (sym (none_opened (order_in c))) (same_orders os (claims_to s) noted)

  -- and a line.
  line_rows : (x : Entry) → rows_of (collected_by os x (answers_to w s (call_in x))) ≡ flat_map answer_rows (answers_to w s (call_in x))
  line_rows (Call c) = rows_by (is_made c (claims_to s)) c refl ∙ sym (append-nil (answer_rows (session_answer w (at_desk s) c)))
  line_rows _ = refl

  line_noted : (x : Entry) → Noted (os ++ opened_by x (answers_to w s (call_in x))) (claims_to (room_behind w s (call_in x)))
  line_noted (Call c) = subst (Noted (os ++ order_opened (order_in c) (session_answer w (at_desk s) c))) (match_kept w (at_desk s) c refl) (noted_by (is_made c (claims_to s)) c)
  line_noted _ = same_orders os (claims_to s) noted

-- All lines.
module _ (w : CubeWorld) where
  answers_on : (s : CubeRoom) (l : Line) (ls : List Line)
      → answers_to w s (calls_in (l ∷ ls)) ≡ answers_to w s (call_in l.entry) ++ answers_to w (room_behind w s (call_in l.entry)) (calls_in ls)
  answers_on s l ls =
      answers_behind w (at_desk s) (call_in l.entry) (calls_in ls)
      ∙ ap (λ (t : SessionState CubePosition ChosenInterval). answers_to w s (call_in l.entry) ++ session_answers w t (calls_in ls)) (desk_left w s (call_in l.entry))

  lines_rows : (s : CubeRoom) (os : List OpenedOrder) (ls : List Line) → Noted os (claims_to s)
      → rows_of (fills_in os ls (answers_to w s (calls_in ls))) ≡ flat_map answer_rows (answers_to w s (calls_in ls))
  lines_rows s os [] noted = refl
  lines_rows s os (l ∷ ls) noted =
      let here = answers_to w s (call_in l.entry) in
      let next = room_behind w s (call_in l.entry) in
      let orders = os ++ opened_by l.entry here in
      let first = collected_by os l.entry here in
      let rest = fills_in orders ls (answers_to w next (calls_in ls)) in
      ap rows_of (sym (fills_on w s os l ls))
      ∙ map-append row_of first rest
      ∙ ap (λ (x : List FillRow). x ++ rows_of rest) (line_rows w s os noted l.entry)
      ∙ ap (λ (x : List FillRow). flat_map answer_rows here ++ x) (lines_rows next orders ls (line_noted w s os noted l.entry))
      ∙ sym (flat_map-append answer_rows here (answers_to w next (calls_in ls)))
      ∙ sym (ap (flat_map answer_rows) (answers_on s l ls))

  lines_noted : (s : CubeRoom) (os : List OpenedOrder) (ls : List Line) → Noted os (claims_to s)
      → Noted (orders_in os ls (answers_to w s (calls_in ls))) (claims_to (room_behind w s (calls_in ls)))
  lines_noted s os [] noted = noted
  lines_noted s os (l ∷ ls) noted =
      let next = room_behind w s (call_in l.entry) in
      let orders = os ++ opened_by l.entry (answers_to w s (call_in l.entry)) in
      subst (λ (r : CubeRoom). Noted (orders_in os (l ∷ ls) (answers_to w s (calls_in (l ∷ ls)))) (claims_to r)) (room_on w s l ls)
      (subst (λ (xs : List OpenedOrder). Noted xs (claims_to (room_behind w next (calls_in ls)))) (orders_on w s os l ls) (lines_noted next orders ls (line_noted w s os noted l.entry)))

  -- And those of the auctions that are told at the end, for which the desk holds claims.
  held_here : (n : ℕ) (x : ℕ) (purse : List ClaimNumbers) → holds (claim_to n x) (claim_to n x ∷ purse) ≡ true
  held_here n x purse = ap (λ (b : Bool). (b && eqb x x) || holds (claim_to n x) purse) (same n) ∙ ap (λ (b : Bool). b || holds (claim_to n x) purse) (same x)

  closed_rows : (n : ℕ) (es : List EndedValues) (rest : List ℕ) (os : List OpenedOrder) → Noted os (map (claim_to n) (map (λ (e : EndedValues). e.number) es ++ rest))
      → rows_of (fills_at_end os (map (told_of_ended w n) es)) ≡ flat_map (λ (t : ClosedTold). t.rows) (map (told_of_ended w n) es)
  closed_rows n [] rest os noted = refl
  closed_rows n (x ∷ xs) rest os noted =
      let t = told_of_ended w n x in
      let others = map (told_of_ended w n) xs in
      let purse = map (claim_to n) (map (λ (e : EndedValues). e.number) xs ++ rest) in
      map-append row_of (fills_closed os t) (fills_at_end os others)
      ∙ ap (λ (l : List FillRow). l ++ rows_of (fills_at_end os others)) (rows_found (order_of os x.number) x.number t.collection.cause t.rows (noted (claim_to n x.number) (held_here n x.number purse)))
      ∙ ap (λ (l : List FillRow). t.rows ++ l) (closed_rows n xs rest os (λ c h. noted c (or_second (same_claim (claim_to n x.number) c) (holds c purse) h)))

  rows_at_close : (s : CubeRoom) (os : List OpenedOrder) → Noted os (claims_to s)
      → rows_of (fills_at_end os (told_at_close w s)) ≡ flat_map (λ (t : ClosedTold). t.rows) (told_at_close w s)
  rows_at_close s os noted =
      let v = (session_after w (at_desk s) (Halt 0)).room in
      closed_rows v.number v.waiting (number_of_open v.current) os (subst (Noted os) (match_kept w (at_desk s) (Halt 0) refl) noted)

  pub no_row_left_out : (s : CubeRoom) (ls : List Line) → claims_to s ≡ []
      → rows_of (fills_in [] ls (answers_to w s (calls_in ls)) ++ fills_at_end (orders_in [] ls (answers_to w s (calls_in ls))) (told_at_close w (room_behind w s (calls_in ls))))
      ≡ rows_told (answers_to w s (calls_in ls)) (told_at_close w (room_behind w s (calls_in ls)))
  no_row_left_out s ls none =
      let answers = answers_to w s (calls_in ls) in
      let last = room_behind w s (calls_in ls) in
      let fills = fills_in [] ls answers in
      let at_end = fills_at_end (orders_in [] ls answers) (told_at_close w last) in
      let noted : Noted [] (claims_to s) = λ c h. true_false (sym h ∙ ap (holds c) none) in
      map-append row_of fills at_end
      ∙ ap (λ (l : List FillRow). l ++ rows_of at_end) (lines_rows s [] ls noted)
      ∙ ap (λ (l : List FillRow). flat_map answer_rows answers ++ l) (rows_at_close last (orders_in [] ls answers) (lines_noted s [] ls noted))
