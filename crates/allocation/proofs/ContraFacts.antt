-- The laws of what the contra may take hold of what the definition gives: each level's rows have them, levels are told
-- apart by price, and what the contra got at earlier levels counts at later ones.
use Rattle.std.proofs.Common.{◌≡◌, ℕ, ◌+◌, ◌-◌, ◌<◌, ◌≤◌, true, false, ◌⊎◌, List, [], ◌∷◌, ◌++◌, ℤ, ◌≤ℤ◌, ◌<ℤ◌, sym, ap, ◌∙◌, subst, inl, inr, arith}
use borrow.Author.Differences.{ints}
use Rattle.std.specs.List.{AllByRecursion}
use Rattle.std.proofs.ByRecursion.{All-append, All-weaker}
use Rattle.std.proofs.lemmas.Bool.{cases_lt, not-true}
use Rattle.market.specs.declared.side.Side.{Side}
use Rattle.allocation.specs.declared.fill.FillRow.{FillRow}
use Rattle.allocation.specs.declared.order.ContraTerms.{ContraTerms}
use Rattle.allocation.specs.declared.order.GuaranteeKind.TheVariants.{SingleStop, AutoMatchLimit}
use Rattle.allocation.specs.declared.response.Response.{Response}
use Rattle.allocation.specs.ContraLaws.{of_contra, of_other, row_price, priced_at, priced_below, priced_up_to, fill_of, GuaranteeAllows, Matched, MatchedAll, TooFewToMatch, ContraLaws}
use Rattle.allocation.specs.FillLaws.{of_response, ContraRow}
use Rattle.allocation.specs.Fill.{split_at, fills}
use Rattle.allocation.specs.Levels.{Level, contra_level, flat}
use Rattle.allocation.specs.Share.{sizes, total}
use Rattle.allocation.specs.Split.{total_taken}
use Rattle.allocation.proofs.ClassRows.{rows_none}
use Rattle.allocation.proofs.ContraRows.{LevelParts, level_parts, CountsHere, CountsAbove, counts_here, counts_above}
use Rattle.allocation.proofs.ContraSplits.{NoneYet, ContraSplit, contra_split}
use Rattle.allocation.proofs.FillFacts.{Ends, reached, first, later, level_split, first_laws, later_stand, later_ends, fills_contras, fills_none, first_at, later_above}
use Rattle.allocation.proofs.LevelRows.{Stands}
use Rattle.allocation.proofs.LevelShape.{Holds, Ascending, Among}
use Rattle.allocation.proofs.RowLists.{all_both, all_always, all_left, all_right, all_pairs, pairs_append}

-- The laws for rows where the contra has m already from before.
module _ (side : Side) (t : ContraTerms) where
  abbrev Wanted : ℕ → List FillRow → FillRow → FillRow → Type 0
  Wanted m rows f g =
      of_contra f ≡ true → of_response g ≡ true → 0 < g.left → row_price side g ≤ℤ row_price side f
      → m + fill_of of_contra (priced_up_to side (row_price side f)) rows ≤ t.guaranteed

  abbrev Before : ℕ → List FillRow → FillRow → Type 0
  Before m rows f =
      of_other f ≡ true → 0 < f.filled → t.guarantee.price ≤ℤ row_price side f
      → (t.guaranteed ≤ m + fill_of of_contra (priced_up_to side (row_price side f)) rows) ⊎ MatchedAll side t.guarantee.kind t.initiating (row_price side f) rows

  abbrev Beside : ℕ → List FillRow → FillRow → Type 0
  Beside m rows f =
      of_contra f ≡ true → row_price side f <ℤ t.initiating
      → (m + fill_of of_contra (priced_below side (row_price side f)) rows < t.guaranteed)
      × ((fill_of of_contra (priced_at side (row_price side f)) rows ≤ fill_of of_response (priced_at side (row_price side f)) rows) ⊎ TooFewToMatch side (row_price side f) rows)

  abbrev Lacking : ℕ → List FillRow → FillRow → FillRow → Type 0
  Lacking m rows f g =
      of_response f ≡ true → t.guarantee.price ≤ℤ row_price side f → row_price side f <ℤ t.initiating → 0 < g.filled → row_price side f <ℤ row_price side g
      → (t.guaranteed ≤ m + fill_of of_contra (priced_below side (row_price side f)) rows) ⊎ Matched side (row_price side f) rows

  -- with none from before they are the laws
  none_wanted : (rows : List FillRow) → AllByRecursion (λ f. AllByRecursion (Wanted 0 rows f) rows) rows
      → AllByRecursion (λ (f : FillRow). AllByRecursion (λ (g : FillRow). of_contra f ≡ true → of_response g ≡ true → 0 < g.left → row_price side g ≤ℤ row_price side f
      → fill_of of_contra (priced_up_to side (row_price side f)) rows ≤ t.guaranteed) rows) rows
  none_wanted rows a =
      All-weaker (λ f. AllByRecursion (Wanted 0 rows f) rows) _
      (λ f b. All-weaker (Wanted 0 rows f) _ (λ g h k y some le. omega (arith, h k y some le)) rows b) rows a

  none_before : (rows : List FillRow) → AllByRecursion (Before 0 rows) rows
      → AllByRecursion (λ (f : FillRow). of_other f ≡ true → 0 < f.filled → t.guarantee.price ≤ℤ row_price side f
      → (t.guaranteed ≤ fill_of of_contra (priced_up_to side (row_price side f)) rows) ⊎ MatchedAll side t.guarantee.kind t.initiating (row_price side f) rows) rows
  none_before rows a = All-weaker (Before 0 rows) _ (λ f h k some le. elim (h k some le) [ inl has ↦ inl (omega arith) | inr all ↦ inr all ]) rows a

  none_beside : (rows : List FillRow) → AllByRecursion (Beside 0 rows) rows
      → AllByRecursion (λ (f : FillRow). of_contra f ≡ true → row_price side f <ℤ t.initiating → fill_of of_contra (priced_below side (row_price side f)) rows < t.guaranteed) rows
  none_beside rows a = All-weaker (Beside 0 rows) _ (λ f h k less. omega (arith, (h k less).0)) rows a

  none_above_match : (rows : List FillRow) → AllByRecursion (Beside 0 rows) rows
      → AllByRecursion (λ (f : FillRow). of_contra f ≡ true → row_price side f <ℤ t.initiating
      → (fill_of of_contra (priced_at side (row_price side f)) rows ≤ fill_of of_response (priced_at side (row_price side f)) rows) ⊎ TooFewToMatch side (row_price side f) rows) rows
  none_above_match rows a = All-weaker (Beside 0 rows) _ (λ f h k less. (h k less).1) rows a

  none_lacking : (rows : List FillRow) → AllByRecursion (λ f. AllByRecursion (Lacking 0 rows f) rows) rows
      → AllByRecursion (λ (f : FillRow). AllByRecursion (λ (g : FillRow). of_response f ≡ true → t.guarantee.price ≤ℤ row_price side f → row_price side f <ℤ t.initiating
      → 0 < g.filled → row_price side f <ℤ row_price side g
      → (t.guaranteed ≤ fill_of of_contra (priced_below side (row_price side f)) rows) ⊎ Matched side (row_price side f) rows) rows) rows
  none_lacking rows a =
      All-weaker (λ f. AllByRecursion (Lacking 0 rows f) rows) _
      (λ f b. All-weaker (Lacking 0 rows f) _ (λ g h y le less some on. elim (h y le less some on) [ inl has ↦ inl (omega arith) | inr as_many ↦ inr as_many ]) rows b) rows a

module _ (side : Side) (t : ContraTerms) (floor : ℤ) (low : floor ≤ℤ contra_level t.guarantee.kind t) (high : t.guarantee.price ≤ℤ t.initiating) where
  -- the contra's own price
  abbrev contra_price : ℤ
  contra_price = contra_level t.guarantee.kind t

  abbrev Standing : List Level → Type 0
  Standing ls = AllByRecursion (Stands floor t.initiating) (flat ls)

  level_contra : (l : Level) (r m : ℕ) → ContraSplit t.guarantee.kind t l.price r m (total (sizes l.customers)) (total (sizes l.others)) (split_at t l r m)
  level_contra l r m = contra_split t l.price r m (total (sizes l.customers)) (total (sizes l.others)) high

  first_parts : (l : Level) (ls : List Level) (r m : ℕ) → Holds l → Standing (l ∷ ls) → LevelParts l (split_at t l r m) (first side t floor low high l r m)
  first_parts l ls r m h st =
      let S : Response → Type 0 = Stands floor t.initiating in
      let laws = level_split side t floor low high l r m in
      level_parts side floor t.initiating l (split_at t l r m) h
      (all_left S l.customers (l.others ++ flat ls) st)
      (all_left S l.others (flat ls) (all_right S l.customers (l.others ++ flat ls) st))
      (omega (arith, laws.customers_are))
      laws.asked

  abbrev Allowed : FillRow → Type 0
  Allowed f = of_contra f ≡ true → GuaranteeAllows t.guarantee.kind t.guarantee.price (row_price side f)

  pub fills_allowed : (ls : List Level) (r m : ℕ) → AllByRecursion Holds ls → Standing ls → AllByRecursion Allowed (fills side t ls r m)
  fills_allowed [] r m holds st = tt
  fills_allowed (l ∷ ls) r m (h, holds) st =
      let A : List FillRow = first side t floor low high l r m in
      All-append Allowed A (later side t floor low high l ls r m)
      (all_both (λ f. row_price side f ≡ l.price) (λ f. of_contra f ≡ true → 0 < (split_at t l r m).contra) Allowed
      (λ f e some k. subst (λ (z : ℤ). GuaranteeAllows t.guarantee.kind t.guarantee.price z) (sym e) ((level_contra l r m).allowed (some k)))
      A (first_at side t floor low high l ls r m h st) (first_parts l ls r m h st).contra_some)
      (fills_allowed ls (r - total_taken (split_at t l r m)) (m + (split_at t l r m).contra) holds (later_stand side t floor low high l ls st))

  -- nothing trades beyond the contra's own price
  abbrev UpToOwn : FillRow → Type 0
  UpToOwn f = 0 < f.filled → row_price side f ≤ℤ contra_price

  pub fills_up_to_own : (ls : List Level) (r m : ℕ) → AllByRecursion Holds ls → Ascending ls → Standing ls → Ends contra_price r ls → AllByRecursion UpToOwn (fills side t ls r m)
  fills_up_to_own [] r m holds up st ends = tt
  fills_up_to_own (l ∷ ls) r m (h, holds) up st ends =
      let A : List FillRow = first side t floor low high l r m in
      All-append UpToOwn A (later side t floor low high l ls r m)
      (elim (reached contra_price r l ls ends up) [
        | inl none ↦ All-weaker (λ f. f.filled ≡ 0) UpToOwn (λ f e k. absurd (omega arith)) A
            (rows_none A (omega (arith, (first_laws side t floor low high l ls r m h st).filled_is, (level_split side t floor low high l r m).within)))
        | inr le ↦ All-weaker (λ f. row_price side f ≡ l.price) UpToOwn (λ f e _. subst (λ (z : ℤ). z ≤ℤ contra_price) (sym e) le) A (first_at side t floor low high l ls r m h st)
      ])
      (fills_up_to_own ls (r - total_taken (split_at t l r m)) (m + (split_at t l r m).contra) holds up.1 (later_stand side t floor low high l ls st) (later_ends side t floor low high l ls r m ends))

  pub beyond_stop : (rows : List FillRow) → AllByRecursion UpToOwn rows → t.guarantee.kind ≡ SingleStop → AllByRecursion (λ (f : FillRow). 0 < f.filled → row_price side f ≤ℤ t.guarantee.price) rows
  beyond_stop rows a e = subst (λ (z : ℤ). AllByRecursion (λ (f : FillRow). 0 < f.filled → row_price side f ≤ℤ z) rows) (ap (λ k. contra_level k t) e) a

  -- under a single stop the contra has nothing before its level, and nothing is left behind it
  still_none : (l : Level) (r m : ℕ) → NoneYet t.guarantee.kind r m → NoneYet t.guarantee.kind (r - total_taken (split_at t l r m)) (m + (split_at t l r m).contra)
  still_none l r m none e = elim (cases_lt 0 (split_at t l r m).contra) [
    | inl some ↦
        let here : l.price ≡ t.guarantee.price = subst (λ k. GuaranteeAllows k t.guarantee.price l.price) e ((level_contra l r m).allowed some) in
        let is : contra_price ≡ t.guarantee.price = ap (λ k. contra_level k t) e in
        inr (omega (arith, (level_split side t floor low high l r m).at_own (here ∙ sym is)))
    | inr nothing ↦ elim (none e) [ inl z ↦ inl (omega arith) | inr z ↦ inr (omega arith) ]
  ]

  -- One level before the later ones.
  module _ (l : Level) (ls : List Level) (r m : ℕ) (h : Holds l) (holds : AllByRecursion Holds ls) (up : Ascending (l ∷ ls)) (st : Standing (l ∷ ls)) where
    abbrev A : List FillRow
    A = first side t floor low high l r m

    abbrev B : List FillRow
    B = later side t floor low high l ls r m

    abbrev k : ℕ
    k = total_taken (split_at t l r m)

    -- the contra's contracts after the level
    abbrev now : ℕ
    now = m + (split_at t l r m).contra

    abbrev here : FillRow → Type 0
    here f = row_price side f ≡ l.price

    abbrev above : FillRow → Type 0
    above f = l.price <ℤ row_price side f

    at : AllByRecursion here A
    at = first_at side t floor low high l ls r m h st

    over : AllByRecursion above B
    over = later_above side t floor low high l ls r m holds up st

    parts : LevelParts l (split_at t l r m) A
    parts = first_parts l ls r m h st

    counted_here : (f : FillRow) → here f → CountsHere side l (split_at t l r m) A B parts at over (row_price side f)
    counted_here f e = counts_here side l (split_at t l r m) A B parts at over (row_price side f) e

    counted_above : (f : FillRow) → above f → CountsAbove side l (split_at t l r m) A B parts at over (row_price side f)
    counted_above f less = counts_above side l (split_at t l r m) A B parts at over (row_price side f) less

    -- with nothing left behind the level no later row trades
    nones : AllByRecursion (λ (f : FillRow). k ≡ r → f.filled ≡ 0) B
    nones = elim (cases_lt k r) [
      | inl less ↦ all_always (λ (f : FillRow). k ≡ r → f.filled ≡ 0) (λ f e. absurd (omega arith)) B
      | inr all ↦ All-weaker (λ (f : FillRow). f.filled ≡ 0) (λ (f : FillRow). k ≡ r → f.filled ≡ 0) (λ f e _. e) B
          (fills_none side t floor low high ls (r - k) now holds (later_stand side t floor low high l ls st) (omega arith))
    ]

    contras : AllByRecursion (λ (f : FillRow). of_contra f ≡ true → 0 < f.filled) B
    contras =
        All-weaker (λ (f : FillRow). of_response f ≡ false → ContraRow f) (λ (f : FillRow). of_contra f ≡ true → 0 < f.filled) (λ f c e. (c (not-true (of_response f) e)).some_filled) B
        (fills_contras side t floor low high ls (r - k) now holds (later_stand side t floor low high l ls st))

    wanted_step : Ends contra_price r (l ∷ ls) → NoneYet t.guarantee.kind r m → AllByRecursion (λ f. AllByRecursion (Wanted side t now B f) B) B → AllByRecursion (λ f. AllByRecursion (Wanted side t m (A ++ B) f) (A ++ B)) (A ++ B)
    wanted_step ends none ih =
        pairs_append W A B
        (all_pairs Some Lack W
        (λ f g a b c y some _. omega (arith, (counted_here f a.0).contra_up_to, (level_contra l r m).while_wanted none (a.1 c) (b.1 y some))) A A
        (all_both here (λ f. of_contra f ≡ true → 0 < (split_at t l r m).contra) Some (λ f a b. (a, b)) A at parts.contra_some)
        (all_both here _ Lack (λ f a b. (a, b)) A at parts.lack))
        (all_pairs here above W (λ f g a b _ _ _ le. absurd (grind (arith, ints))) A B at over)
        (all_pairs Trades (λ g. of_response g ≡ true → 0 < g.left → k ≡ r) W (λ f g a all c y some _. absurd (let z = a.0 (all y some) in omega (arith, a.1 c))) B A
        (all_both (λ f. k ≡ r → f.filled ≡ 0) (λ f. of_contra f ≡ true → 0 < f.filled) Trades (λ f a b. (a, b)) B nones contras)
        ((first_laws side t floor low high l ls r m h st).lack (reached contra_price r l ls ends up)))
        (all_both above (λ f. AllByRecursion (Wanted side t now B f) B) (λ f. AllByRecursion (W f) B)
        (λ f o a. All-weaker (Wanted side t now B f) (W f) (λ g w c y some le. omega (arith, (counted_above f o).contra_up_to, w c y some le)) B a) B over ih)
      where
        W : FillRow → FillRow → Type 0
        W = Wanted side t m (A ++ B)

        Some : FillRow → Type 0
        Some f = here f × (of_contra f ≡ true → 0 < (split_at t l r m).contra)

        Lack : FillRow → Type 0
        Lack g = here g × (of_response g ≡ true → 0 < g.left → ((split_at t l r m).customers < total (sizes l.customers)) ⊎ ((split_at t l r m).others < total (sizes l.others)))

        Trades : FillRow → Type 0
        Trades f = (k ≡ r → f.filled ≡ 0) × (of_contra f ≡ true → 0 < f.filled)

    before_step : AllByRecursion (Before side t now B) B → AllByRecursion (Before side t m (A ++ B)) (A ++ B)
    before_step ih =
        All-append (Before side t m (A ++ B)) A B
        (all_both here (λ f. of_other f ≡ true → 0 < f.filled → 0 < (split_at t l r m).others) (Before side t m (A ++ B))
        (λ f e others y some le.
        let n = counted_here f e in
        elim ((level_contra l r m).before_others (others y some) (subst (λ (z : ℤ). t.guarantee.price ≤ℤ z) e le)) [
          | inl has ↦ inl (omega (arith, n.contra_up_to))
          | inr all ↦ inr (record {
            by_limit = all.by_limit;
            before_initiating = subst (λ (z : ℤ). z <ℤ t.initiating) (sym e) all.before_initiating;
            as_many = n.contra_got ∙ all.as_many ∙ sym n.responses_got;
            all_filled = n.responses_got ∙ all.all_filled ∙ sym n.responses_asked;
          })
        ]) A at parts.others_some)
        (all_both above (Before side t now B) (Before side t m (A ++ B))
        (λ f o b y some le.
        let n = counted_above f o in
        elim (b y some le) [
          | inl has ↦ inl (omega (arith, n.contra_up_to))
          | inr all ↦ inr (record {
            by_limit = all.by_limit;
            before_initiating = all.before_initiating;
            as_many = n.contra_got ∙ all.as_many ∙ sym n.responses_got;
            all_filled = n.responses_got ∙ all.all_filled ∙ sym n.responses_asked;
          })
        ]) B over ih)

    beside_step : t.guarantee.kind ≡ AutoMatchLimit → AllByRecursion (Beside side t now B) B → AllByRecursion (Beside side t m (A ++ B)) (A ++ B)
    beside_step e ih =
        All-append (Beside side t m (A ++ B)) A B
        (all_both here (λ f. of_contra f ≡ true → 0 < (split_at t l r m).contra) (Beside side t m (A ++ B))
        (λ f a some c less.
        let n = counted_here f a in
        let s = (level_contra l r m).beside_others e (subst (λ (z : ℤ). z <ℤ t.initiating) a less) (some c) in (
          omega (arith, n.contra_below, s.0),
          elim s.1 [
            | inl most ↦ inl (omega (arith, n.contra_got, n.responses_got))
            | inr few ↦ inr (omega (arith, n.contra_got, n.others_got, n.others_asked, n.responses_asked))
          ],
        )) A at parts.contra_some)
        (all_both above (Beside side t now B) (Beside side t m (A ++ B))
        (λ f o b c less.
        let n = counted_above f o in
        let s = b c less in (
          omega (arith, n.contra_below, s.0),
          elim s.1 [
            | inl most ↦ inl (omega (arith, n.contra_got, n.responses_got))
            | inr few ↦ inr (omega (arith, n.contra_got, n.others_got, n.others_asked, n.responses_asked))
          ],
        )) B over ih)

    lacking_step : t.guarantee.kind ≡ AutoMatchLimit → AllByRecursion (λ f. AllByRecursion (Lacking side t now B f) B) B → AllByRecursion (λ f. AllByRecursion (Lacking side t m (A ++ B) f) (A ++ B)) (A ++ B)
    lacking_step e ih =
        pairs_append L A B
        (all_pairs here here L (λ f g a b _ _ _ _ on. absurd (grind (arith, ints))) A A at at)
        (all_pairs here (λ g. k ≡ r → g.filled ≡ 0) L
        (λ f g a none _ le less some _.
        let n = counted_here f a in
        elim ((level_contra l r m).while_lacking e (subst (λ (z : ℤ). t.guarantee.price ≤ℤ z) a le) (subst (λ (z : ℤ). z <ℤ t.initiating) a less)) [
          | inl has ↦ inl (omega (arith, n.contra_below))
          | inr (inl as_many) ↦ inr (n.contra_got ∙ as_many ∙ sym n.responses_got)
          | inr (inr all) ↦ absurd (omega (arith, none all))
        ]) A B at nones)
        (all_pairs above here L (λ f g a b _ _ _ _ on. absurd (grind (arith, ints))) B A over at)
        (all_both above (λ f. AllByRecursion (Lacking side t now B f) B) (λ f. AllByRecursion (L f) B)
        (λ f o a. All-weaker (Lacking side t now B f) (L f)
        (λ g w y le less some on.
        let n = counted_above f o in
        elim (w y le less some on) [
          | inl has ↦ inl (omega (arith, n.contra_below))
          | inr as_many ↦ inr (n.contra_got ∙ as_many ∙ sym n.responses_got)
        ]) B a) B over ih)
      where
        L : FillRow → FillRow → Type 0
        L = Lacking side t m (A ++ B)

  pub fills_wanted : (ls : List Level) (r m : ℕ) → AllByRecursion Holds ls → Ascending ls → Standing ls → Ends contra_price r ls → NoneYet t.guarantee.kind r m
      → AllByRecursion (λ f. AllByRecursion (Wanted side t m (fills side t ls r m) f) (fills side t ls r m)) (fills side t ls r m)
  fills_wanted [] r m holds up st ends none = tt
  fills_wanted (l ∷ ls) r m (h, holds) up st ends none =
      wanted_step l ls r m h holds up st ends none
      (fills_wanted ls (r - total_taken (split_at t l r m)) (m + (split_at t l r m).contra) holds up.1 (later_stand side t floor low high l ls st) (later_ends side t floor low high l ls r m ends) (still_none l r m none))

  pub fills_before : (ls : List Level) (r m : ℕ) → AllByRecursion Holds ls → Ascending ls → Standing ls → AllByRecursion (Before side t m (fills side t ls r m)) (fills side t ls r m)
  fills_before [] r m holds up st = tt
  fills_before (l ∷ ls) r m (h, holds) up st =
      before_step l ls r m h holds up st (fills_before ls (r - total_taken (split_at t l r m)) (m + (split_at t l r m).contra) holds up.1 (later_stand side t floor low high l ls st))

  pub fills_beside : t.guarantee.kind ≡ AutoMatchLimit → (ls : List Level) (r m : ℕ) → AllByRecursion Holds ls → Ascending ls → Standing ls → AllByRecursion (Beside side t m (fills side t ls r m)) (fills side t ls r m)
  fills_beside e [] r m holds up st = tt
  fills_beside e (l ∷ ls) r m (h, holds) up st =
      beside_step l ls r m h holds up st e (fills_beside e ls (r - total_taken (split_at t l r m)) (m + (split_at t l r m).contra) holds up.1 (later_stand side t floor low high l ls st))

  pub fills_lacking : t.guarantee.kind ≡ AutoMatchLimit → (ls : List Level) (r m : ℕ) → AllByRecursion Holds ls → Ascending ls → Standing ls
      → AllByRecursion (λ f. AllByRecursion (Lacking side t m (fills side t ls r m) f) (fills side t ls r m)) (fills side t ls r m)
  fills_lacking e [] r m holds up st = tt
  fills_lacking e (l ∷ ls) r m (h, holds) up st =
      lacking_step l ls r m h holds up st e (fills_lacking e ls (r - total_taken (split_at t l r m)) (m + (split_at t l r m).contra) holds up.1 (later_stand side t floor low high l ls st))

-- The contra takes no more and no less than it may.
pub fills_contra_lawful : (side : Side) (t : ContraTerms) (size : ℕ) (floor : ℤ) (ls : List Level)
    → AllByRecursion Holds ls → Ascending ls → Among (contra_level t.guarantee.kind t) ls
    → AllByRecursion (Stands floor t.initiating) (flat ls)
    → (floor ≤ℤ contra_level t.guarantee.kind t) → (t.guarantee.price ≤ℤ t.initiating)
    → ContraLaws side t.guarantee t.initiating t.guaranteed (fills side t ls size 0)
fills_contra_lawful side t size floor ls holds up among st low high = record {
  from_guarantee_on = fills_allowed side t floor low high ls size 0 holds st;
  nothing_beyond_stop = beyond_stop side t floor low high (fills side t ls size 0) (fills_up_to_own side t floor low high ls size 0 holds up st (inr among));
  no_more_while_wanted = none_wanted side t (fills side t ls size 0) (fills_wanted side t floor low high ls size 0 holds up st (inr among) (λ _. inl (omega arith)));
  share_before_others = none_before side t (fills side t ls size 0) (fills_before side t floor low high ls size 0 holds up st);
  only_while_lacking = λ e. none_beside side t (fills side t ls size 0) (fills_beside side t floor low high e ls size 0 holds up st);
  match_at_most = λ e. none_above_match side t (fills side t ls size 0) (fills_beside side t floor low high e ls size 0 holds up st);
  matches_while_lacking = λ e. none_lacking side t (fills side t ls size 0) (fills_lacking side t floor low high e ls size 0 holds up st);
}
