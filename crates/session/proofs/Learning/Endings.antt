-- What a member knows of a room goes on by itself when an auction ends and when the clock steps; and whether an auction
-- ends at a call is settled after the clock step. A lemma that ends in -follows says that what is known after the room's
-- function of that name is computed from what was known before.
use Rattle.std.proofs.Common.{◌≡◌, ℕ, max, Bool, true, false, cond, not, ◌&&◌, eqb, List, [], ◌∷◌, Some, None, Option, sym, refl, ap, ◌∙◌}
use Rattle.std.proofs.lemmas.Bool.{eq-eqb}
use Rattle.std.proofs.lemmas.List.{map-append}
use Rattle.std.specs.Option.{option_map}
use Rattle.allocation.specs.declared.response.Response.{Response}
use Rattle.allocation.specs.Auction.{with_stood}
use Rattle.room.specs.Clock.{due, after_clock}
use Rattle.room.specs.State.{OpenValues, EndedValues, RoomState, is_number, waiting_after_end, at_time, with_current, after_end}
use Rattle.session.specs.Learning.{ends_of, ends_here}
use Rattle.session.specs.Runs.{Moment}
use Rattle.session.proofs.Learning.Known.{Known, KnownAuction, known, known_auction, own_rows, own_count, numbers, closed_known, due_known, ended_known, settled, clocked_known, with_auction_known}
use Rattle.std.specs.Str.{byte}

-- The open auction is open no longer.
abbrev pub ends_in : Option OpenValues → Option OpenValues → Bool
ends_in None after = false
ends_in (Some a) after = eqb a.number a.number && not (is_number a.number after)

pub gone_ends : (a : OpenValues) → ends_in (Some a) None ≡ true
gone_ends a = ap (λ b. b && true) (eq-eqb a.number a.number refl)

pub kept_ends_not : (a b : OpenValues) → b.number ≡ a.number → ends_in (Some a) (Some b) ≡ false
kept_ends_not a b h =
    ap (λ n. eqb a.number a.number && not (eqb n a.number)) h
    ∙ ap (λ c. c && not c) (eq-eqb a.number a.number refl)

module _ {P T F Q : Type 0} where
  ends_of_is : (m : Moment P T F Q) (o : Option OpenValues) → m.before.current ≡ o → ends_of o m ≡ ends_in o m.after.current
  ends_of_is m None h = refl
  ends_of_is m (Some a) h = ap (λ o. is_number a.number o && not (is_number a.number m.after.current)) h

  -- An auction ends at a call where the one that was open before is not open after it.
  pub ends_here_is : (m : Moment P T F Q) → ends_here m ≡ ends_in m.before.current m.after.current
  ends_here_is m = ends_of_is m m.before.current refl

pub closed_follows : (u : ℕ) (c : ℕ) (o : Option OpenValues) (es : List EndedValues) → numbers (waiting_after_end c o es) ≡ closed_known (option_map (known_auction u) o) (numbers es)
closed_follows u c None es = refl
closed_follows u c (Some a) es = map-append (λ (e : EndedValues). e.number) es (record { number = a.number; values = a.values; cause = c } ∷ [])

due_follows : (u t : ℕ) (o : Option OpenValues) → due_known t (option_map (known_auction u) o) ≡ due t o
due_follows u t None = refl
due_follows u t (Some a) = refl

-- What a member knows of the open auction changes only by its own rows and its own count.
pub auction_rows : (u : ℕ) (a : OpenValues) (xs : List Response) (arrivals : ℕ) (used : List ℕ) (ys : List Response) (n : Option ℕ)
    → own_rows u xs ≡ ys → own_count u used ≡ n
    → known_auction u (record { number = a.number; deadline = a.deadline; values = with_stood a.values xs; arrivals = arrivals; used = used })
    ≡ record {
      number = a.number;
      deadline = a.deadline;
      side = a.values.order.side;
      size = a.values.order.size;
      floor = a.values.floor;
      initiating = a.values.initiating;
      mine = ys;
      count = n;
    }
auction_rows u a xs arrivals used ys n h k =
    let with_rows : List Response → Option ℕ → KnownAuction =
    λ zs m. record {
      number = a.number;
      deadline = a.deadline;
      side = a.values.order.side;
      size = a.values.order.size;
      floor = a.values.floor;
      initiating = a.values.initiating;
      mine = zs;
      count = m;
    } in
    ap (λ zs. with_rows zs (own_count u used)) h ∙ ap (λ m. with_rows ys m) k

module _ {P Q : Type 0} (u : ℕ) where
  -- An auction ends.
  pub ended_follows : (c : ℕ) (s : RoomState P Q) → known u (after_end c s) ≡ ended_known (known u s)
  ended_follows c s =
      ap (λ ns. record {
        number = s.number;
        time = s.time;
        halted = s.halted;
        position = s.position;
        source = s.source;
        auction = None;
        waiting = ns;
        opened = s.opened;
      }) (closed_follows u c s.current s.waiting)

  pub settled_follows : (c : ℕ) (b : Bool) (s : RoomState P Q) → known u (cond b (after_end c s) s) ≡ settled b (known u s)
  settled_follows c true s = ended_follows c s
  settled_follows c false s = refl

  -- The clock steps.
  pub clocked_follows : (s : RoomState P Q) (t : ℕ) → known u (after_clock s t) ≡ clocked_known (known u s) t
  clocked_follows s t =
      let y = at_time (max s.time t) s in
      settled_follows (byte "T") (due y.time y.current) y
      ∙ ap (λ b. settled b (known u y)) (sym (due_follows u y.time y.current))

  -- The open auction has become another of which the member knows the same.
  pub with_current_same : (s : RoomState P Q) (a b : OpenValues) → s.current ≡ Some a → known_auction u b ≡ known_auction u a → known u (with_current b s) ≡ known u s
  with_current_same s a b e h =
      ap (λ o. with_auction_known o (known u s)) (ap Some h ∙ ap (option_map (known_auction u)) (sym e))

  -- Where the clock step has ended the auction, it does not matter what is said of a further end.
  module _ (goes : Bool → Known P Q → Known P Q) (over : (b : Bool) (k : Known P Q) → goes b (ended_known k) ≡ goes false (ended_known k)) where
    after_step : (b : Bool) (y z : RoomState P Q)
        → known u z ≡ goes (ends_in (cond b (after_end (byte "T") y) y).current z.current) (known u (cond b (after_end (byte "T") y) y))
        → known u z ≡ goes (ends_in y.current z.current) (known u (cond b (after_end (byte "T") y) y))
    after_step true y z h =
        let e = ends_in y.current z.current in
        h ∙ ap (goes false) (ended_follows (byte "T") y) ∙ sym (over e (known u y)) ∙ sym (ap (goes e) (ended_follows (byte "T") y))
    after_step false y z h = h

    pub ends_after_clock : (s : RoomState P Q) (t : ℕ) (z : RoomState P Q)
        → known u z ≡ goes (ends_in (after_clock s t).current z.current) (known u (after_clock s t))
        → known u z ≡ goes (ends_in s.current z.current) (known u (after_clock s t))
    ends_after_clock s t z h = let y = at_time (max s.time t) s in after_step (due y.time y.current) y z h
