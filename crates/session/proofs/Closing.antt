-- Closing a desk. Where no auction is open, the first of the claims to a room's auctions collects the auction that has waited
-- longest, and the others are the claims to the rest.
use Rattle.std.specs.Result.{result_map_both}
use Rattle.std.proofs.Common.{Err, IsOk, ◌≡◌, ℕ, ◌≤◌, Bool, true, false, cond, not, eqb, List, [], ◌∷◌, ◌++◌, map, length, get_or, Some, None, Ok, Option, Result, sym, refl, ap, ◌∙◌, arith, Vec, vec_items, vec_len, take, drop}
use Rattle.std.proofs.lemmas.Bool.Decides.{nat_tests}
use Rattle.std.proofs.lemmas.List.{length-map}
use Rattle.std.proofs.Math.Seq.{take-append_seam}
use Rattle.std.specs.List.{remove}
use Rattle.room.specs.declared.answers.ClaimNumbers.{ClaimNumbers}
use Rattle.room.specs.Collecting.{CollectionTold, collectable, collect_call, collect_rows, fill_rows, waiting_now, written_rows}
use Rattle.room.specs.Refusals.{RefusalTold, refuse, unless, outcome}
use Rattle.room.specs.State.{EndedValues, RoomState, is_number, waiting_auction, without_number, with_waiting}
use Rattle.room.specs.World.{World}
use Rattle.room.proofs.Tests.{true_false}
use Rattle.session.specs.Claims.{claim_to, claims_to, number_of_open}
use Rattle.session.specs.Closed.{first_of}
use Rattle.session.specs.SessionState.{answers_there}

-- the first and the rest of a list
pub first_is : {X : Type 0} (x y : X) (xs ys : List X) → x ∷ xs ≡ y ∷ ys → (x ≡ y) × (xs ≡ ys)
first_is x y xs ys h = (cc, cc)

none_first : {X Y : Type 0} (x : X) (xs : List X) → x ∷ xs ≡ [] → Y
none_first x xs h = cc

module _ {P T F Q : Type 0} (w : World P T F Q) (s : RoomState P Q) (c : ClaimNumbers) (cs : List ClaimNumbers) where
  pub record FirstCollected : Type 0 where
    pub auction : EndedValues
    pub rest : List EndedValues
    pub waiting_is : s.waiting ≡ auction ∷ rest
    pub claim_is : c ≡ claim_to s.number auction.number
    pub state_is : (collect_call w s c 129).0 ≡ with_waiting rest s
    pub answer_is : (collect_call w s c 129).1 ≡ Ok (record { count = length (fill_rows w auction); cause = auction.cause })
    pub rows_are : collect_rows w s c 129 ≡ fill_rows w auction
    pub claims_left : cs ≡ claims_to (with_waiting rest s)

  same : (n : ℕ) → eqb n n ≡ true
  same n = grind (arith, nat_tests)

  -- what a collecting finds, by the claim's room, the open auction and those that wait
  abbrev found : Bool → Bool → Option EndedValues → Result EndedValues ℕ
  found here opened o = unless (refuse (not here) 42 (refuse opened 41 None)) (waiting_now o)

  abbrev done : Result EndedValues ℕ → RoomState P Q × Result CollectionTold (RefusalTold F)
  done y = outcome y s (λ e. with_waiting (without_number c.auction s.waiting) s) (λ e. record { count = length (fill_rows w e); cause = e.cause })

  claims_are : (es : List EndedValues) → s.current ≡ None → s.waiting ≡ es → claims_to s ≡ map (claim_to s.number) (map (λ (e : EndedValues). e.number) es ++ [])
  claims_are es n e =
      ap (λ o. map (claim_to s.number) (map (λ (e : EndedValues). e.number) s.waiting ++ number_of_open o)) n
      ∙ ap (λ l. map (claim_to s.number) (map (λ (e : EndedValues). e.number) l ++ [])) e

  pub first_collected : (es : List EndedValues) → s.current ≡ None → s.waiting ≡ es → c ∷ cs ≡ claims_to s → FirstCollected
  first_collected [] n e h = none_first c cs (h ∙ claims_are [] n e)
  first_collected (x ∷ xs) n e h =
      let both = first_is c (claim_to s.number x.number) cs (map (claim_to s.number) (map (λ (e : EndedValues). e.number) xs ++ [])) (h ∙ claims_are (x ∷ xs) n e) in
      let room = ap (λ (k : ClaimNumbers). eqb k.room s.number) both.0 ∙ same s.number in
      let opened = ap (is_number c.auction) n in
      let first = ap (λ (k : ClaimNumbers). eqb x.number k.auction) both.0 ∙ same x.number in
      let waits : waiting_auction c.auction s.waiting ≡ Some x = ap (waiting_auction c.auction) e ∙ ap (λ (b : Bool). cond b (Some x) (waiting_auction c.auction xs)) first in
      let others : without_number c.auction s.waiting ≡ xs = ap (without_number c.auction) e ∙ ap (λ (b : Bool). cond b xs (x ∷ without_number c.auction xs)) first in
      let y : collectable s c 129 ≡ Ok x =
      ap (λ (b : Bool). found b (is_number c.auction s.current) (waiting_auction c.auction s.waiting)) room
      ∙ ap (λ (b : Bool). found true b (waiting_auction c.auction s.waiting)) opened ∙ ap (found true false) waits in
      record {
        auction = x;
        rest = xs;
        waiting_is = e;
        claim_is = both.0;
        state_is = ap (λ r. (done r).0) y ∙ ap (λ l. with_waiting l s) others;
        answer_is = ap (λ r. (done r).1) y;
        rows_are = ap (written_rows w) y;
        claims_left = both.1 ∙ sym (ap (λ o. map (claim_to s.number) (map (λ (e : EndedValues). e.number) xs ++ number_of_open o)) n);
      }

-- what is told of a result is accepted if the result is
pub ok_as_told : {X Y E F : Type 0} (f : X → Y) (g : E → F) (r : Result X E) → IsOk (result_map_both f g r) → IsOk r
ok_as_told f g (Ok x) h = h
ok_as_told f g (Err e) h = h

-- rows that are written over the head of a list are at its head
pub head_written : {X : Type 0} (fills rows list written : List X) → written ≡ rows ++ drop (length rows) list → rows ≡ fills → take (length fills) written ≡ fills
head_written fills rows list written h e = ap (take (length fills)) (h ∙ ap (λ l. l ++ drop (length l) list) e) ∙ take-append_seam fills (drop (length fills) list)

-- taking the first out of a list
pub first_taken : {X Y : Type 0} (f : X → Y) (xs : List X) (x : X) → (length xs ≡ 0 → ⊥) → x ≡ get_or xs 0 x → f x ∷ map f (remove xs 0) ≡ map f xs
first_taken f [] x h e = absurd (h refl)
first_taken f (y ∷ ys) x h e = ap (λ z. f z ∷ map f ys) e

pub some_there : {X Z : Type 0} (v : Vec X Z) (empty : Bool) → empty ≡ eqb (vec_len v) 0 → empty ≡ false → length (vec_items v) ≡ 0 → ⊥
some_there v empty e f h = true_false (sym (ap (λ n. eqb n 0) (v.ok.0 ∙ h)) ∙ sym e ∙ f)

-- Where two wait at most, both are told, and none is left.
both_told : {X : Type 0} (f : EndedValues → X) (es : List EndedValues) → length es ≤ 2 → answers_there (first_of (map f es) ∷ (first_of (map f (drop 1 es)) ∷ [])) ≡ map f es
both_told f [] h = refl
both_told f (a ∷ []) h = refl
both_told f (a ∷ (b ∷ [])) h = refl
both_told f (a ∷ (b ∷ (c ∷ es))) h = absurd (omega arith)

pub two_told : {X : Type 0} (f : EndedValues → X) (es : List EndedValues) (x y : Option X) → length es ≤ 2 → x ≡ first_of (map f es) → y ≡ first_of (map f (drop 1 es)) → answers_there (x ∷ (y ∷ [])) ≡ map f es
two_told f es x y few h k = ap (λ z. answers_there (z ∷ (y ∷ []))) h ∙ ap (λ z. answers_there (first_of (map f es) ∷ (z ∷ []))) k ∙ both_told f es few

none_after_two : (es : List EndedValues) → length es ≤ 2 → drop 1 (drop 1 es) ≡ []
none_after_two [] h = refl
none_after_two (a ∷ []) h = refl
none_after_two (a ∷ (b ∷ [])) h = refl
none_after_two (a ∷ (b ∷ (c ∷ es))) h = absurd (omega arith)

-- a room that two were collected in
pub emptied : {P Q : Type 0} (s t u : RoomState P Q) → length s.waiting ≤ 2 → t ≡ with_waiting (drop 1 s.waiting) s → u ≡ with_waiting (drop 1 t.waiting) t → u ≡ with_waiting [] s
emptied {P} {Q} s t u few h k = k ∙ ap (λ (v : RoomState P Q). with_waiting (drop 1 v.waiting) v) h ∙ ap (λ l. with_waiting l s) (none_after_two s.waiting few)

-- A room that holds no open auction and none that waits: no claim is left.
pub none_left : {P Q : Type 0} (s : RoomState P Q) → s.current ≡ None → s.waiting ≡ [] → claims_to s ≡ []
none_left s n e = ap (λ o. map (claim_to s.number) (map (λ (e : EndedValues). e.number) s.waiting ++ number_of_open o)) n ∙ ap (λ l. map (claim_to s.number) (map (λ (e : EndedValues). e.number) l ++ [])) e

pub none_of_none : {X Y Z : Type 0} (f : X → Y) (v : Vec X Z) → map f (vec_items v) ≡ [] → vec_len v ≡ 0
none_of_none f v h = v.ok.0 ∙ sym (length-map (vec_items v) f) ∙ ap length h
