-- Where the claims held are those to the auctions that the room holds, every call leaves it so. So it is at the end of a
-- session that begins with no claim.
use Rattle.std.proofs.Common.{◌≡◌, ◌⊎◌, inl, inr, ℕ, ◌+◌, Bool, true, false, cond, ◌&&◌, ◌||◌, eqb, List, [], ◌∷◌, ◌++◌, map, Some, None, Option, sym, refl, ap, ◌∙◌, max, arith}
use mathlib.Core.List.{map-append}
use Rattle.std.proofs.Common.{append-nil}
use Rattle.std.proofs.lemmas.Bool.Decides.{nat_tests}
use Rattle.std.proofs.lemmas.Bool.{and_parts, eqb-true}
use Rattle.room.specs.declared.answers.ClaimNumbers.{ClaimNumbers}
use Rattle.room.specs.Clock.{due}
use Rattle.room.specs.State.{OpenValues, EndedValues, RoomState, at_time, after_end, waiting_after_end, waiting_auction, without_number, with_waiting, new_room}
use Rattle.room.specs.World.{World}
use Rattle.room.proofs.Tests.{none_some, true_false}
use Rattle.session.specs.declared.call.Call.{Call}
use Rattle.session.specs.declared.call.Call.TheVariants.{Open, Collect}
use Rattle.session.specs.History.{opened_number, is_collected}
use Rattle.session.specs.Runs.{Answer, Opened, Moment, after_clock_step, given_time, input_refusal, moment, step}
use Rattle.session.specs.SessionState.{SessionState, session_of, session_after, session_end}
use Rattle.session.specs.Purse.{is_made, claim_in, purse_left, purse_after, same_claim, holds, without_claim}
use Rattle.session.specs.Claims.{number_of_open, auction_numbers, claim_to, claims_to}
use Rattle.session.proofs.Ending.Shapes.{Did, OpenedHere, CollectedHere, opened_or_not, collected_or_not, did}
use Rattle.session.proofs.Ending.Moves.{CallMoves, did_moves}
use Rattle.std.specs.Str.{byte}

abbrev numbers_of : List EndedValues → List ℕ
numbers_of es = map (λ (e : EndedValues). e.number) es

-- an auction that ends is held as before, behind those that wait
closed_auctions : (c : ℕ) (o : Option OpenValues) (es : List EndedValues) → numbers_of (waiting_after_end c o es) ≡ numbers_of es ++ number_of_open o
closed_auctions c None es = sym (append-nil (numbers_of es))
closed_auctions c (Some a) es = map-append (λ (e : EndedValues). e.number) es (record { number = a.number; values = a.values; cause = c } ∷ [])

module _ {P Q : Type 0} where
  -- a room of the same number that holds the same auctions
  record SameHeld (s v : RoomState P Q) : Type 0 where
    pub same_auctions : auction_numbers v ≡ auction_numbers s
    pub same_number : v.number ≡ s.number

  same_moves : CallMoves SameHeld
  same_moves = record {
    of_open = record {
      stays = λ s. record { same_auctions = refl; same_number = refl };
      both = λ s u v h k. record { same_auctions = k.same_auctions ∙ h.same_auctions; same_number = k.same_number ∙ h.same_number };
      ends = λ c s. record { same_auctions = append-nil (numbers_of (waiting_after_end c s.current s.waiting)) ∙ closed_auctions c s.current s.waiting; same_number = refl };
      goes_on = λ s a b e k. record {
        same_auctions = ap (λ n. numbers_of s.waiting ++ n ∷ []) k.same_number ∙ ap (λ o. numbers_of s.waiting ++ number_of_open o) (sym e);
        same_number = refl;
      };
    };
    halted_so = λ b s. record { same_auctions = refl; same_number = refl };
    moved = λ p s. record { same_auctions = refl; same_number = refl };
  }

  due_held : (b : Bool) (s : RoomState P Q) → SameHeld s (cond b (after_end (byte "T") s) s)
  due_held true s = same_moves.of_open.ends (byte "T") s
  due_held false s = same_moves.of_open.stays s

  clock_held : (k : Option ℕ) (t : Option ℕ) (s : RoomState P Q) → SameHeld s (after_clock_step k t s)
  clock_held (Some e) t s = same_moves.of_open.stays s
  clock_held None None s = same_moves.of_open.stays s
  clock_held None (Some t) s =
      let held = due_held (due (max s.time t) s.current) (at_time (max s.time t) s) in
      record { same_auctions = held.same_auctions; same_number = held.same_number }

  claims_kept : (s v : RoomState P Q) → SameHeld s v → claims_to v ≡ claims_to s
  claims_kept s v h = ap (λ n. map (claim_to n) (auction_numbers v)) h.same_number ∙ ap (map (claim_to s.number)) h.same_auctions

-- a call that neither opens nor collects leaves the purse
quiet_purse : {T F : Type 0} (c : Call T) (a : Answer F) (purse : List ClaimNumbers) → opened_number a ≡ None → is_collected a ≡ false → purse_after c a purse ≡ purse
quiet_purse (Open x) (Opened k) purse h g = none_some k.auction (sym h)
quiet_purse (Open x) _ purse h g = append-nil purse
quiet_purse (Collect c n) a purse h g = ap (λ (b : Bool). cond b (without_claim c purse) purse) g
quiet_purse _ a purse h g = refl

-- claims of a room's number are without the claim of an auction as the room is without the auction
pub same : (n : ℕ) → eqb n n ≡ true
same n = grind (arith, nat_tests)

same_room : (n x a : ℕ) → same_claim (claim_to n x) (claim_to n a) ≡ eqb x a
same_room n x a = ap (λ (b : Bool). b && eqb x a) (same n)

module _ (n : ℕ) where
  room_at : (b : Bool) (c : ClaimNumbers) (x : ℕ) (xs : List ℕ) → same_claim (claim_to n x) c ≡ b → b || holds c (map (claim_to n) xs) ≡ true
      → (holds c (map (claim_to n) xs) ≡ true → c.room ≡ n) → c.room ≡ n
  room_at true c x xs k h again = sym (eqb-true n c.room (and_parts (eqb n c.room) (eqb x c.auction) k).0)
  room_at false c x xs k h again = again h

  held_room : (c : ClaimNumbers) (xs : List ℕ) → holds c (map (claim_to n) xs) ≡ true → c.room ≡ n
  held_room c [] h = true_false (sym h)
  held_room c (x ∷ xs) h = room_at (same_claim (claim_to n x) c) c x xs refl h (held_room c xs)

  without_at : (b : Bool) (a : ℕ) (x : EndedValues) (xs : List EndedValues) (rest : List ℕ) (e : EndedValues) → eqb x.number a ≡ b → cond b (Some x) (waiting_auction a xs) ≡ Some e
      → (waiting_auction a xs ≡ Some e → without_claim (claim_to n a) (map (claim_to n) (numbers_of xs ++ rest)) ≡ map (claim_to n) (numbers_of (without_number a xs) ++ rest))
      → cond b (map (claim_to n) (numbers_of xs ++ rest)) (claim_to n x.number ∷ without_claim (claim_to n a) (map (claim_to n) (numbers_of xs ++ rest)))
      ≡ map (claim_to n) (numbers_of (cond b xs (x ∷ without_number a xs)) ++ rest)
  without_at true a x xs rest e k h again = refl
  without_at false a x xs rest e k h again = ap (λ l. claim_to n x.number ∷ l) (again h)

  without_waiting : (a : ℕ) (es : List EndedValues) (rest : List ℕ) (e : EndedValues) → waiting_auction a es ≡ Some e
      → without_claim (claim_to n a) (map (claim_to n) (numbers_of es ++ rest)) ≡ map (claim_to n) (numbers_of (without_number a es) ++ rest)
  without_waiting a [] rest e h = none_some e h
  without_waiting a (x ∷ xs) rest e h =
      ap (λ (b : Bool). cond b (map (claim_to n) (numbers_of xs ++ rest)) (claim_to n x.number ∷ without_claim (claim_to n a) (map (claim_to n) (numbers_of xs ++ rest)))) (same_room n x.number a)
      ∙ without_at (eqb x.number a) a x xs rest e refl h (without_waiting a xs rest e)

module _ {P T F Q : Type 0} (w : World P T F Q) where
  -- the claims held are those to the auctions that the room holds
  abbrev pub ClaimsMatch : SessionState P Q → Type 0
  ClaimsMatch s = s.purse ≡ claims_to s.room

  module _ (s : RoomState P Q) (c : Call T) (purse : List ClaimNumbers) (match : purse ≡ claims_to s) where
    abbrev m : Moment P T F Q
    m = moment w s c

    at_clock : claims_to m.stepped ≡ claims_to s
    at_clock = claims_kept s m.stepped (clock_held (input_refusal c) (given_time c) s)

    quiet_match : SameHeld m.stepped m.after → opened_number m.answer ≡ None → is_collected m.answer ≡ false → purse_after c m.answer purse ≡ claims_to m.after
    quiet_match h o k = quiet_purse c m.answer purse o k ∙ match ∙ sym at_clock ∙ sym (claims_kept m.stepped m.after h)

    opened_match : OpenedHere w m → purse_after c m.answer purse ≡ claims_to m.after
    opened_match d =
        let new = m.stepped.opened + 1 in
        let claim = claim_to m.stepped.number new in
        let all = ap (λ l. map (claim_to m.stepped.number) (l ++ new ∷ [])) (closed_auctions (byte "A") m.stepped.current m.stepped.waiting) ∙ map-append (claim_to m.stepped.number) (auction_numbers m.stepped) (new ∷ []) in
        ap (λ x. purse_after x m.answer purse) d.call_is ∙ ap (λ (a : Answer F). purse ++ claim_in a) d.answer_is ∙ ap (λ l. l ++ claim ∷ []) (match ∙ sym at_clock)
        ∙ sym (ap claims_to d.after_is ∙ all)

    collected_match : is_made c purse ≡ true → CollectedHere w m → purse_after c m.answer purse ≡ claims_to m.after
    collected_match made d =
        let held : holds d.claim (claims_to s) ≡ true = sym (ap (holds d.claim) match) ∙ sym (ap (λ x. is_made x purse) d.call_is) ∙ made in
        let its_room = held_room s.number d.claim (auction_numbers s) held in
        let its_number : d.claim ≡ claim_to s.number d.claim.auction = ap (λ r. claim_to r d.claim.auction) its_room in
        let here = d.no_clock_step in
        let waited : waiting_auction d.claim.auction s.waiting ≡ Some d.auction = sym (ap (λ (v : RoomState P Q). waiting_auction d.claim.auction v.waiting) here) ∙ d.waited in
        ap (λ x. purse_after x m.answer purse) d.call_is ∙ ap (λ (a : Answer F). purse_left a d.claim purse) d.answer_is ∙ ap (without_claim d.claim) match ∙ ap (λ x. without_claim x (claims_to s)) its_number
        ∙ without_waiting s.number d.claim.auction s.waiting (number_of_open s.current) d.auction waited
        ∙ sym (ap claims_to (d.after_is ∙ ap (λ (v : RoomState P Q). with_waiting (without_number d.claim.auction v.waiting) v) here))

    match_by : Did w m → is_made c purse ≡ true → OpenedHere w m ⊎ (opened_number m.answer ≡ None) → CollectedHere w m ⊎ (is_collected m.answer ≡ false) → purse_after c m.answer purse ≡ claims_to m.after
    match_by did made (inl d) k = opened_match d
    match_by did made (inr none) (inl d) = collected_match made d
    match_by did made (inr none) (inr kept) =
        quiet_match
        (did_moves w m SameHeld same_moves (λ d. none_some _ (sym none ∙ ap (λ (a : Answer F). opened_number a) d.answer_is))
        (λ d. true_false (sym (ap (λ (a : Answer F). is_collected a) d.answer_is) ∙ kept)) did)
        none kept

    match_after : is_made c purse ≡ true → Did w m → purse_after c m.answer purse ≡ claims_to m.after
    match_after made did = match_by did made (opened_or_not w m did) (collected_or_not w m did)

  after_by : (b : Bool) (s : SessionState P Q) (c : Call T) → is_made c s.purse ≡ b → ClaimsMatch s
      → ClaimsMatch (cond b (session_of (step w s.room c).0 (purse_after c (step w s.room c).1 s.purse)) s)
  after_by true s c k h = match_after s.room c s.purse h k (did w s.room c)
  after_by false s c k h = h

  pub match_kept : (s : SessionState P Q) (c : Call T) → ClaimsMatch s → ClaimsMatch (session_after w s c)
  match_kept s c h = after_by (is_made c s.purse) s c refl h

  pub match_at_end : (s : SessionState P Q) (cs : List (Call T)) → ClaimsMatch s → ClaimsMatch (session_end w s cs)
  match_at_end s [] h = h
  match_at_end s (c ∷ cs) h = match_at_end (session_after w s c) cs (match_kept s c h)

  pub match_new : (n : ℕ) (p : P) (q : Q) (purse : List ClaimNumbers) → purse ≡ [] → ClaimsMatch (session_of (new_room n p q) purse)
  match_new n p q purse h = h
