-- One step of the walk: what the code measures is the level that the walk is at, and the step goes on behind it.
use Rattle.std.proofs.Common.{◌≡◌, ℕ, zero, suc, ◌+◌, ◌-◌, ◌*◌, ◌<◌, ◌≤◌, min, Bool, true, false, cond, ◌&&◌, ltb, leb, ◌⊎◌, List, [], ◌∷◌, ◌++◌, length, take, drop, ℤ, Some, None, Option, is_some, sym, refl, ap, ◌∙◌, subst, inl, inr, ⊎_elim, append_assoc, arith, length-append}
use Rattle.allocation.proofs.Mates.{same_price_self}
use lib.ListN.{length-map}
use lib.Signed.{lt_z}
use Rattle.std.proofs.lemmas.List.{length-take, length-take-le, drop-drop, append-nil, take-append-drop}
use Rattle.std.proofs.lemmas.Bool.{cond_both, ltb-true, ltb-false}
use Rattle.market.specs.declared.side.Side.{Side}
use Rattle.market.specs.Limits.{showable}
use Rattle.allocation.specs.declared.fill.FillRow.{FillRow}
use Rattle.allocation.specs.declared.order.ContraTerms.{ContraTerms}
use Rattle.allocation.specs.declared.response.Class.{Class}
use Rattle.allocation.specs.declared.response.Class.TheVariants.{Customer, Other}
use Rattle.allocation.specs.declared.response.Response.{Response}
use Rattle.allocation.specs.declared.split.Split.{Split}
use Rattle.allocation.specs.declared.walk.Walk.{Walk}
use Rattle.allocation.specs.FillLaws.{same_price, same_class}
use Rattle.allocation.specs.Fill.{split_at, class_rows, shared_rows, contra_row, contra_rows, level_rows}
use Rattle.allocation.specs.Levels.{Level}
use Rattle.allocation.specs.LevelSteps.{stands_at, leading, next_price, front_level}
use Rattle.allocation.specs.Share.{sizes, total, shares, deal, parts_total}
use Rattle.allocation.specs.Split.{total_taken}
use Rattle.allocation.proofs.ShareFacts.{length_dealt}
use Rattle.allocation.proofs.Writes.{mid_take, mid_drop}
use Rattle.allocation.specs.Walk.{behind_level, still_to_come, walk_rows, walk_level, walk_split, walk_on, walk_past, rows_past}

-- the contra's own price can be turned while it is still to come
still_showable : (coming : Option ℤ) (price : ℤ) → showable coming ≡ true → showable (still_to_come coming price) ≡ true
still_showable None price h = refl
still_showable (Some coming) price h = cond_both (same_price price coming) None (Some coming) (λ o. showable o ≡ true) (λ _. refl) (λ _. h)

-- how much there is to walk
abbrev pub to_go : Walk → List Response → ℕ
to_go w xs = (length xs - w.next) + cond (is_some w.contra_price) 1 0

-- a walk underway: some turns are enough for the rest, it has room, and what is written with what is to come is all
pub record Underway (side : Side) (t : ContraTerms) (xs : List Response) (old all : List FillRow) (w : Walk) (rows : List FillRow) : Type 0 where
  pub turns : ℕ
  pub enough : to_go w xs ≤ turns
  pub inside : w.next ≤ length xs
  pub few : w.progress.left + w.progress.so_far ≤ 100000
  pub room : w.row + (2 * (length xs - w.next) + cond (is_some w.contra_price) 1 0) ≤ 2 * length xs + 1
  pub shown : showable w.contra_price ≡ true
  pub so_written : take w.row rows ++ walk_rows turns side t w.contra_price (drop w.next xs) w.progress.left w.progress.so_far ≡ all
  pub untouched : drop w.row rows ≡ drop w.row old

-- a response stands at the front of its own price
leads : (c : Class) (x : Response) (xs : List Response) → same_class c x.class ≡ true → 0 < leading x.price c (x ∷ xs)
leads c x xs h =
    let here : stands_at x.price c x ≡ true = rw (h, same_price_self x.price) in
    let one : leading x.price c (x ∷ xs) ≡ suc (leading x.price c xs) = rw here in
    omega arith

some_taken : (n : ℕ) (x : Response) (xs : List Response) → 0 < n → 0 < length (take n (x ∷ xs))
some_taken n x xs h = simp length-take (omega arith)

some_stand_as : (c : Class) (x : Response) (xs : List Response) → x.class ≡ c → 0 < length (front_level x.price (x ∷ xs)).customers + length (front_level x.price (x ∷ xs)).others
some_stand_as Customer x xs e =
    let lead = leads Customer x xs (ap (same_class Customer) e) in
    let some = some_taken (leading x.price Customer (x ∷ xs)) x xs lead in
    omega arith
some_stand_as Other x xs e =
    let not_here : stands_at x.price Customer x ≡ false = ap (λ c. same_class Customer c && same_price x.price x.price) e in
    let none : leading x.price Customer (x ∷ xs) ≡ 0 = rw not_here in
    let lead = leads Other x xs (ap (same_class Other) e) in
    let some = some_taken (leading x.price Other (x ∷ xs)) x xs lead in
    let same : length (front_level x.price (x ∷ xs)).others ≡ length (take (leading x.price Other (x ∷ xs)) (x ∷ xs)) = ap (λ n. length (take (leading x.price Other (drop n (x ∷ xs))) (drop n (x ∷ xs)))) none in
    omega arith

some_stand : (x : Response) (xs : List Response) → 0 < length (front_level x.price (x ∷ xs)).customers + length (front_level x.price (x ∷ xs)).others
some_stand x xs = some_stand_as x.class x xs refl

-- each level takes some response, or is the contra's own, which was to come
pub moves_on : (coming : Option ℤ) (xs : List Response) (price : ℤ) → next_price coming xs ≡ Some price
    → (0 < length (front_level price xs).customers + length (front_level price xs).others) ⊎ ((coming ≡ Some price) × (still_to_come coming price ≡ None))
moves_on (Some coming) [] price h =
    let here : coming ≡ price = cc in
    inr (h, ap (still_to_come (Some coming)) (sym here) ∙ gone coming)
  where
    gone : (z : ℤ) → still_to_come (Some z) z ≡ None
    gone z = rw (same_price_self z) refl
moves_on None [] price h = absurd (none_is_some h)
  where
    none_is_some : ◌≡◌ {A = Option ℤ} None (Some price) → ⊥
    none_is_some e = let z : ◌≡◌ {A = ℕ} 0 1 = cc in omega arith
moves_on None (x ∷ xs) price h =
    let first : x.price ≡ price = cc in
    inl (subst (λ z. 0 < length (front_level z (x ∷ xs)).customers + length (front_level z (x ∷ xs)).others) first (some_stand x xs))
moves_on (Some coming) (x ∷ xs) price h = go (lt_z coming x.price) refl
  where
    gone : (z : ℤ) → still_to_come (Some z) z ≡ None
    gone z = rw (same_price_self z) refl

    go : (b : Bool) → lt_z coming x.price ≡ b → (0 < length (front_level price (x ∷ xs)).customers + length (front_level price (x ∷ xs)).others) ⊎ ((Some coming ≡ Some price) × (still_to_come (Some coming) price ≡ None))
    go true e =
        let at_own : next_price (Some coming) (x ∷ xs) ≡ Some coming = rw e in
        let here : coming ≡ price = let both : Some coming ≡ Some price = sym at_own ∙ h in cc in
        inr (ap Some here, ap (still_to_come (Some coming)) (sym here) ∙ gone coming)
    go false e =
        let at_first : next_price (Some coming) (x ∷ xs) ≡ Some x.price = rw e in
        let first : x.price ≡ price = let both : Some x.price ≡ Some price = sym at_first ∙ h in cc in
        inl (subst (λ z. 0 < length (front_level z (x ∷ xs)).customers + length (front_level z (x ∷ xs)).others) first (some_stand x xs))

-- as many rows as a level has responses, and one for the contra if it gets any
length_shared_rows : (side : Side) (k : ℕ) (xs : List Response) → length (shared_rows side k xs) ≡ length xs
length_shared_rows side k xs = length_class_rows side xs (shares k (sizes xs)) (length_shared k (sizes xs) ∙ length-map xs (λ (x : Response). x.size))
  where
    length_shared : (n : ℕ) (ss : List ℕ) → length (shares n ss) ≡ length ss
    length_shared n ss = cond_both (leb (total ss) n) ss (deal n (total ss) (n - parts_total n (total ss) ss) ss) (λ fs. length fs ≡ length ss) (λ _. refl) (λ _. length_dealt n (total ss) (n - parts_total n (total ss) ss) ss)

    length_class_rows : (s : Side) (ys : List Response) (fs : List ℕ) → length fs ≡ length ys → length (class_rows s ys fs) ≡ length ys
    length_class_rows s [] fs h = refl
    length_class_rows s (y ∷ ys) [] h = absurd (omega arith)
    length_class_rows s (y ∷ ys) (f ∷ fs) h = ap suc (length_class_rows s ys fs (omega arith))

length_contra_rows : (side : Side) (price : ℤ) (n : ℕ) → length (contra_rows side price n) ≡ min n 1
length_contra_rows side price n =
    cond_both (ltb 0 n) (contra_row side price n ∷ []) [] (λ rs. length rs ≡ min n 1) (λ e. let some = ltb-true 0 n e in omega arith) (λ e. let none = ltb-false 0 n e in omega arith)

pub length_level_rows : (side : Side) (l : Level) (s : Split) → length (level_rows side l s) ≡ length l.customers + (min s.contra 1 + length l.others)
length_level_rows side l s =
    let c = length_shared_rows side s.customers l.customers in
    let n = length_contra_rows side l.price s.contra in
    let o = length_shared_rows side s.others l.others in
    simp (length-append) (omega arith)

-- one turn less is left behind a level
walked_on : (f : ℕ) (side : Side) (t : ContraTerms) (coming : Option ℤ) (xs : List Response) (price : ℤ) (r m : ℕ) → 0 < f → next_price coming xs ≡ Some price
    → walk_rows f side t coming xs r m ≡ level_rows side (front_level price xs) (split_at t (front_level price xs) r m) ++ walk_rows (f - 1) side t (still_to_come coming price) (behind_level (front_level price xs) xs) (r - total_taken (split_at t (front_level price xs) r m)) (m + (split_at t (front_level price xs) r m).contra)
walked_on zero side t coming xs price r m p h = absurd (omega arith)
walked_on (suc f) side t coming xs price r m p h =
    let less : suc f - 1 ≡ f = omega arith in
    rw (h, less) refl

own_falls : (coming : Option ℤ) (price : ℤ) → cond (is_some (still_to_come coming price)) 1 0 ≤ cond (is_some coming) 1 0
own_falls None price = omega arith
own_falls (Some coming) price = cond_both (same_price price coming) None (Some coming) (λ o. cond (is_some o) 1 0 ≤ 1) (λ _. omega arith) (λ _. omega arith)

own_gone : (coming : Option ℤ) (price : ℤ) → coming ≡ Some price → still_to_come coming price ≡ None → cond (is_some (still_to_come coming price)) 1 0 < cond (is_some coming) 1 0
own_gone coming price e k = rw k (subst (λ o. 0 < cond (is_some o) 1 0) (sym e) (omega arith))

-- numbers of a step: n responses, of which k are taken from `next` on, and at most k + 1 rows are written
nearer : (n next k a rows p q : ℕ) → q ≤ p → (0 < k) ⊎ (q < p) → next + k ≤ n → rows ≤ k + 1 → a + (2 * (n - next) + p) ≤ 2 * n + 1
    → ((n - (next + k)) + q < (n - next) + p) × (a + rows + (2 * (n - (next + k)) + q) ≤ 2 * n + 1)
nearer n next k a rows p q h (inl some) i r room = (omega arith, omega arith)
nearer n next k a rows p q h (inr less) i r room = (omega arith, omega arith)

-- the walk after one level has less to go, and room
pub progress : (t : ContraTerms) (xs : List Response) (w v : Walk) (price : ℤ) → next_price w.contra_price (drop w.next xs) ≡ Some price → v ≡ walk_on w (walk_level price w xs) (walk_split t price w xs) → v.next ≤ length xs
    → w.row + (2 * (length xs - w.next) + cond (is_some w.contra_price) 1 0) ≤ 2 * length xs + 1
    → (to_go v xs < to_go w xs) × (v.row + (2 * (length xs - v.next) + cond (is_some v.contra_price) 1 0) ≤ 2 * length xs + 1)
progress t xs w v price next e inside room =
    let rest : List Response = drop w.next xs in
    let l : Level = walk_level price w xs in
    let k : ℕ = length l.customers + length l.others in
    let p : ℕ = cond (is_some w.contra_price) 1 0 in
    let q : ℕ = cond (is_some (still_to_come w.contra_price price)) 1 0 in
    let moved : (0 < k) ⊎ (q < p) = ⊎_elim (λ h. inl h) (λ h. inr (own_gone w.contra_price price h.0 h.1)) (moves_on w.contra_price rest price next) in
    let there : w.next + k ≤ length xs = subst (λ n. n ≤ length xs) (ap (λ (x : Walk). x.next) e) inside in
    let near = nearer (length xs) w.next k w.row (length l.customers + (min (walk_split t price w xs).contra 1 + length l.others)) p q (own_falls w.contra_price price) moved there (omega arith) room in
    subst (λ (x : Walk). (to_go x xs < to_go w xs) × (x.row + (2 * (length xs - x.next) + cond (is_some x.contra_price) 1 0) ≤ 2 * length xs + 1)) (sym e) near

-- a walk that has passed the level of a price: where it is, and the rows that are then written
pub record Passed (side : Side) (t : ContraTerms) (xs : List Response) (price : ℤ) (w v : Walk) (rows new : List FillRow) : Type 0 where
  pub next : next_price w.contra_price (drop w.next xs) ≡ Some price
  pub walk : v ≡ walk_past t price w xs
  pub inside : v.next ≤ length xs
  pub few : v.progress.left + v.progress.so_far ≤ 100000
  pub rows_are : new ≡ take w.row rows ++ (rows_past side t price w xs ++ drop v.row rows)

-- the walk after one level is underway, with that level's rows behind those before it
pub steps_on : (side : Side) (t : ContraTerms) (xs : List Response) (old all : List FillRow) (w v : Walk) (price : ℤ) (rows new : List FillRow)
    → Underway side t xs old all w rows → Passed side t xs price w v rows new → length xs ≤ 64 → 129 ≤ length rows → Underway side t xs old all v new
steps_on side t xs old all w v price rows new u passed short long =
    let next = passed.next in
    let e = passed.walk in
    let inside = passed.inside in
    let few = passed.few in
    let written = passed.rows_are in
    let l : Level = walk_level price w xs in
    let s : Split = walk_split t price w xs in
    let on : Walk = walk_on w l s in
    let lr : List FillRow = level_rows side l s in
    let n : ℕ = length l.customers + (min s.contra 1 + length l.others) in
    let ahead = progress t xs w v price next e inside u.room in
    let at_is : v.row ≡ w.row + n = ap (λ (x : Walk). x.row) e in
    let count : length lr ≡ n = length_level_rows side l s in
    let fits : w.row + n ≤ length rows = omega (arith, ahead.1) in
    let here : new ≡ take w.row rows ++ (lr ++ drop (w.row + n) rows) = written ∙ ap (λ k. take w.row rows ++ (lr ++ drop k rows)) at_is in
    let front : take v.row new ≡ take w.row rows ++ lr = ap (λ k. take k new) at_is ∙ ap (take (w.row + n)) here ∙ mid_take w.row n rows lr fits count in
    let back : drop v.row new ≡ drop (w.row + n) rows = ap (λ k. drop k new) at_is ∙ ap (drop (w.row + n)) here ∙ mid_drop w.row n rows lr fits count in
    let to_come : (x : Walk) → List FillRow = λ x. walk_rows (u.turns - 1) side t x.contra_price (drop x.next xs) x.progress.left x.progress.so_far in
    let some : 0 < u.turns = omega (arith, u.enough, ahead.0) in
    let next_rows : walk_rows u.turns side t w.contra_price (drop w.next xs) w.progress.left w.progress.so_far ≡ lr ++ to_come on =
    walked_on u.turns side t w.contra_price (drop w.next xs) price w.progress.left w.progress.so_far some next
    ∙ ap (λ ys. lr ++ walk_rows (u.turns - 1) side t on.contra_price ys on.progress.left on.progress.so_far) (drop-drop (length l.customers + length l.others) w.next xs) in
    record {
      turns = u.turns - 1;
      enough = omega (arith, u.enough, ahead.0);
      inside = inside;
      few = few;
      room = ahead.1;
      shown = subst (λ (x : Walk). showable x.contra_price ≡ true) (sym e) (still_showable w.contra_price price u.shown);
      so_written =
          ap (λ rs. rs ++ to_come v) front ∙ append_assoc (take w.row rows) lr (to_come v)
          ∙ ap (λ x. take w.row rows ++ (lr ++ to_come x)) e
          ∙ ap (λ rs. take w.row rows ++ rs) (sym next_rows)
          ∙ u.so_written;
      untouched = back ∙ sym (drop-drop n w.row rows) ∙ ap (drop n) u.untouched ∙ drop-drop n w.row old ∙ ap (λ k. drop k old) (sym at_is);
    }

-- at the end all is written
pub all_written : (side : Side) (t : ContraTerms) (xs : List Response) (old all : List FillRow) (w : Walk) (rows : List FillRow)
    → Underway side t xs old all w rows → next_price w.contra_price (drop w.next xs) ≡ None → w.row ≤ length rows
    → (rows ≡ all ++ drop w.row old) × (w.row ≡ length all)
all_written side t xs old all w rows u done fits =
    let front : take w.row rows ≡ all = sym (append-nil (take w.row rows)) ∙ ap (λ rs. take w.row rows ++ rs) (sym (stands_still u.turns done)) ∙ u.so_written in (
      sym (take-append-drop w.row rows) ∙ ap (λ rs. rs ++ drop w.row rows) front ∙ ap (λ rs. all ++ rs) u.untouched,
      sym (length-take-le w.row rows fits) ∙ ap length front,
    )
  where
    stands_still : (f : ℕ) → next_price w.contra_price (drop w.next xs) ≡ None → walk_rows f side t w.contra_price (drop w.next xs) w.progress.left w.progress.so_far ≡ []
    stands_still zero e = refl
    stands_still (suc f) e = rw e refl
