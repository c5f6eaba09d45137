-- What the contra's rows and those of responses come to at one level, and in the rows of a level with those of later
-- levels, counted by price.
use Rattle.std.proofs.Common.{◌≡◌, ℕ, ◌+◌, ◌<◌, ◌≤◌, Bool, true, false, cond, not, ◌&&◌, ◌⊎◌, List, [], ◌∷◌, ◌++◌, ℤ, ◌<ℤ◌, sym, refl, ap, ◌∙◌, subst, inl, inr, arith}
use borrow.Author.Differences.{ints}
use lib.Signed.{lt_z}
use Rattle.std.specs.List.{AllByRecursion}
use Rattle.std.proofs.ByRecursion.{All-append, All-weaker}
use Rattle.std.proofs.lemmas.Bool.{and_from, and_left, and_right, not_from_true, not_from_false, both_ways, cases_lt}
use Rattle.std.proofs.lemmas.List.{append-nil}
use Rattle.market.specs.declared.side.Side.{Side}
use Rattle.allocation.specs.declared.fill.FillRow.{FillRow}
use Rattle.allocation.specs.declared.response.Class.TheVariants.{Customer, Other}
use Rattle.allocation.specs.declared.response.Response.{Response}
use Rattle.allocation.specs.ContraLaws.{of_contra, of_other, row_price, priced_at, priced_below, priced_up_to, fill_of, demand_of}
use Rattle.allocation.specs.FillLaws.{of_response, those, filled_in, size_in, same_price, same_class, ContraRow}
use Rattle.allocation.specs.Fill.{shared_rows, contra_rows, level_rows}
use Rattle.allocation.specs.Levels.{Level}
use Rattle.allocation.specs.Share.{sizes, total}
use Rattle.allocation.specs.Split.{Split}
use Rattle.allocation.proofs.ClassRows.{ClassRows, class_laws}
use Rattle.allocation.proofs.LevelRows.{Stands, ContraRows, contra_laws}
use Rattle.allocation.proofs.LevelShape.{Holds}
use Rattle.allocation.proofs.Mates.{same_price_self}
use Rattle.allocation.proofs.RowLists.{kept_append, kept_all, kept_none, sum_append, all_both}

-- rows of a level with a split s
pub record LevelParts (l : Level) (s : Split) (rows : List FillRow) : Type 0 where
  -- the contra has a row where it got some
  pub contra_some : AllByRecursion (λ (f : FillRow). of_contra f ≡ true → 0 < s.contra) rows
  -- one of the others trades where they got some
  pub others_some : AllByRecursion (λ (f : FillRow). of_other f ≡ true → 0 < f.filled → 0 < s.others) rows
  -- a response has some left where its class lacks something
  pub lack : AllByRecursion (λ (g : FillRow). of_response g ≡ true → 0 < g.left → (s.customers < total (sizes l.customers)) ⊎ (s.others < total (sizes l.others))) rows
  pub contra_got : filled_in (those of_contra rows) ≡ s.contra
  pub responses_got : filled_in (those of_response rows) ≡ s.customers + s.others
  pub responses_asked : size_in (those of_response rows) ≡ total (sizes l.customers) + total (sizes l.others)
  pub others_got : filled_in (those of_other rows) ≡ s.others
  pub others_asked : size_in (those of_other rows) ≡ total (sizes l.others)

module _ (side : Side) (l : Level) (s : Split) (C K O : List FillRow)
    (cs : ClassRows side l.price Customer s.customers (total (sizes l.customers)) l.customers C)
    (ks : ContraRows side l.price s.contra K)
    (os : ClassRows side l.price Other s.others (total (sizes l.others)) l.others O) where
  -- what holds of the rows of each of the three holds of the level's
  all_three : (P : FillRow → Type 0) → AllByRecursion P C → AllByRecursion P K → AllByRecursion P O → AllByRecursion P (C ++ (K ++ O))
  all_three P a b c = All-append P C (K ++ O) a (All-append P K O b c)

  kept_three : (p : FillRow → Bool) (x y z : List FillRow) → those p C ≡ x → those p K ≡ y → those p O ≡ z → those p (C ++ (K ++ O)) ≡ x ++ (y ++ z)
  kept_three p x y z a b c = let one = kept_append p C (K ++ O) in let two = kept_append p K O in cc

  of_customers : (f : FillRow) → f.class ≡ Customer → of_other f ≡ false
  of_customers f c = and_right (of_response f) (same_class Other f.class) (ap (same_class Other) c)

  of_others : (f : FillRow) → of_response f ≡ true → f.class ≡ Other → of_other f ≡ true
  of_others f y c = and_from (of_response f) (same_class Other f.class) y (ap (same_class Other) c)

  of_none : (f : FillRow) → of_response f ≡ false → of_other f ≡ false
  of_none f n = and_left (of_response f) (same_class Other f.class) n

  kept_contra : those of_contra (C ++ (K ++ O)) ≡ K
  kept_contra =
      kept_three of_contra [] K []
      (kept_none of_contra C (All-weaker (λ f. of_response f ≡ true) (λ f. of_contra f ≡ false) (λ f y. not_from_true (of_response f) y) C cs.of_responses))
      (kept_all of_contra K (All-weaker (λ f. of_response f ≡ false) (λ f. of_contra f ≡ true) (λ f n. not_from_false (of_response f) n) K ks.of_none))
      (kept_none of_contra O (All-weaker (λ f. of_response f ≡ true) (λ f. of_contra f ≡ false) (λ f y. not_from_true (of_response f) y) O os.of_responses))
      ∙ append-nil K

  kept_responses : those of_response (C ++ (K ++ O)) ≡ C ++ O
  kept_responses = kept_three of_response C [] O (kept_all of_response C cs.of_responses) (kept_none of_response K ks.of_none) (kept_all of_response O os.of_responses)

  kept_others : those of_other (C ++ (K ++ O)) ≡ O
  kept_others =
      kept_three of_other [] [] O
      (kept_none of_other C (All-weaker (λ f. f.class ≡ Customer) (λ f. of_other f ≡ false) of_customers C cs.of_class))
      (kept_none of_other K (All-weaker (λ f. of_response f ≡ false) (λ f. of_other f ≡ false) of_none K ks.of_none))
      (kept_all of_other O (all_both (λ f. of_response f ≡ true) (λ f. f.class ≡ Other) (λ f. of_other f ≡ true) of_others O os.of_responses os.of_class))

  parts_contra_some : AllByRecursion (λ (f : FillRow). of_contra f ≡ true → 0 < s.contra) (C ++ (K ++ O))
  parts_contra_some =
      let P : FillRow → Type 0 = λ f. of_contra f ≡ true → 0 < s.contra in
      all_three P
      (All-weaker (λ f. of_response f ≡ true) P (λ f y n. absurd (both_ways (of_contra f) (not_from_true (of_response f) y) n)) C cs.of_responses)
      (all_both ContraRow (λ f. f.filled ≡ s.contra) P (λ f k e _. subst (λ (n : ℕ). 0 < n) e k.some_filled) K ks.are_contra ks.each_filled)
      (All-weaker (λ f. of_response f ≡ true) P (λ f y n. absurd (both_ways (of_contra f) (not_from_true (of_response f) y) n)) O os.of_responses)

  parts_others_some : AllByRecursion (λ (f : FillRow). of_other f ≡ true → 0 < f.filled → 0 < s.others) (C ++ (K ++ O))
  parts_others_some =
      let P : FillRow → Type 0 = λ f. of_other f ≡ true → 0 < f.filled → 0 < s.others in
      all_three P
      (All-weaker (λ f. f.class ≡ Customer) P (λ f c y _. absurd (both_ways (of_other f) (of_customers f c) y)) C cs.of_class)
      (All-weaker (λ f. of_response f ≡ false) P (λ f n y _. absurd (both_ways (of_other f) (of_none f n) y)) K ks.of_none)
      (elim (cases_lt 0 s.others) [
        | inl some ↦ All-weaker (λ f. f.class ≡ Other) P (λ f _ _ _. some) O os.of_class
        | inr none ↦ All-weaker (λ f. f.filled ≡ 0) P (λ f e _ k. absurd (omega arith)) O (os.nothing (omega arith))
      ])

  parts_lack : AllByRecursion (λ (g : FillRow). of_response g ≡ true → 0 < g.left → (s.customers < total (sizes l.customers)) ⊎ (s.others < total (sizes l.others))) (C ++ (K ++ O))
  parts_lack =
      let P : FillRow → Type 0 = λ g. of_response g ≡ true → 0 < g.left → (s.customers < total (sizes l.customers)) ⊎ (s.others < total (sizes l.others)) in
      all_three P
      (All-weaker (λ g. 0 < g.left → s.customers < total (sizes l.customers)) P (λ g h _ k. inl (h k)) C cs.lack)
      (All-weaker (λ g. of_response g ≡ false) P (λ g n y _. absurd (both_ways (of_response g) n y)) K ks.of_none)
      (All-weaker (λ g. 0 < g.left → s.others < total (sizes l.others)) P (λ g h _ k. inr (h k)) O os.lack)

  parts : LevelParts l s (C ++ (K ++ O))
  parts = record {
    contra_some = parts_contra_some;
    others_some = parts_others_some;
    lack = parts_lack;
    contra_got = ap filled_in kept_contra ∙ ks.filled_is;
    responses_got = ap filled_in kept_responses ∙ omega (arith, sum_append (λ (f : FillRow). f.filled) C O, cs.filled_is, os.filled_is);
    responses_asked = ap size_in kept_responses ∙ omega (arith, sum_append (λ (f : FillRow). f.filled + f.left) C O, cs.size_is, os.size_is);
    others_got = ap filled_in kept_others ∙ os.filled_is;
    others_asked = ap size_in kept_others ∙ os.size_is;
  }

pub level_parts : (side : Side) (floor initiating : ℤ) (l : Level) (s : Split) → Holds l → AllByRecursion (Stands floor initiating) l.customers → AllByRecursion (Stands floor initiating) l.others
    → s.customers ≤ total (sizes l.customers) → s.others ≤ total (sizes l.others) → LevelParts l s (level_rows side l s)
level_parts side floor initiating l s holds customers others most most_others =
    parts side l s (shared_rows side s.customers l.customers) (contra_rows side l.price s.contra) (shared_rows side s.others l.others)
    (class_laws side l.price Customer s.customers l.customers holds.customers_here (members l.customers customers) (some l.customers customers) most)
    (contra_laws side l.price s.contra)
    (class_laws side l.price Other s.others l.others holds.others_here (members l.others others) (some l.others others) most_others)
  where
    members : (xs : List Response) → AllByRecursion (Stands floor initiating) xs → AllByRecursion (λ (x : Response). 0 < x.member) xs
    members xs a = All-weaker (Stands floor initiating) (λ (x : Response). 0 < x.member) (λ x h. h.0) xs a

    some : (xs : List Response) → AllByRecursion (Stands floor initiating) xs → AllByRecursion (λ (x : Response). 0 < x.size) xs
    some xs a = All-weaker (Stands floor initiating) (λ (x : Response). 0 < x.size) (λ x h. h.1) xs a

-- a second test that all pass keeps what the first keeps, and one that none passes keeps nothing
module _ {X : Type 0} (who p : X → Bool) where
  kept_where : (xs : List X) → AllByRecursion (λ x. p x ≡ true) xs → those (λ x. who x && p x) xs ≡ those who xs
  kept_where [] a = refl
  kept_where (x ∷ xs) (e, a) =
      ap (λ b. cond (who x && b) (x ∷ those (λ y. who y && p y) xs) (those (λ y. who y && p y) xs)) e
      ∙ elim (who x) as (λ b. cond (b && true) (x ∷ those (λ y. who y && p y) xs) (those (λ y. who y && p y) xs) ≡ cond b (x ∷ those who xs) (those who xs)) [
        | true ↦ ap (λ (zs : List X). x ∷ zs) (kept_where xs a)
        | false ↦ kept_where xs a
      ]

  kept_nowhere : (xs : List X) → AllByRecursion (λ x. p x ≡ false) xs → those (λ x. who x && p x) xs ≡ []
  kept_nowhere xs a = kept_none (λ x. who x && p x) xs (All-weaker (λ x. p x ≡ false) (λ x. (who x && p x) ≡ false) (λ x e. and_right (who x) (p x) e) xs a)

  -- rows xs that pass it before rows ys that do not, rows xs that do not, and rows xs that do
  kept_first : (xs ys : List X) → AllByRecursion (λ x. p x ≡ true) xs → AllByRecursion (λ x. p x ≡ false) ys → those (λ x. who x && p x) (xs ++ ys) ≡ those who xs
  kept_first xs ys a b =
      kept_append (λ x. who x && p x) xs ys ∙ ap (λ (zs : List X). zs ++ those (λ x. who x && p x) ys) (kept_where xs a)
      ∙ ap (λ (zs : List X). those who xs ++ zs) (kept_nowhere ys b) ∙ append-nil (those who xs)

  kept_later : (xs ys : List X) → AllByRecursion (λ x. p x ≡ false) xs → those (λ x. who x && p x) (xs ++ ys) ≡ those (λ x. who x && p x) ys
  kept_later xs ys a = kept_append (λ x. who x && p x) xs ys ∙ ap (λ (zs : List X). zs ++ those (λ x. who x && p x) ys) (kept_nowhere xs a)

  kept_both : (xs ys : List X) → AllByRecursion (λ x. p x ≡ true) xs → those (λ x. who x && p x) (xs ++ ys) ≡ those who xs ++ those (λ x. who x && p x) ys
  kept_both xs ys a = kept_append (λ x. who x && p x) xs ys ∙ ap (λ (zs : List X). zs ++ those (λ x. who x && p x) ys) (kept_where xs a)

same_as : (z w : ℤ) → w ≡ z → same_price z w ≡ true
same_as z w e = subst (λ (x : ℤ). same_price z x ≡ true) (sym e) (same_price_self z)

not_below : (z w : ℤ) → z <ℤ w → same_price z w ≡ false
not_below z w h = and_left (not (lt_z z w)) (not (lt_z w z)) (not_from_true (lt_z z w) (grind (arith, ints)))

not_above : (z w : ℤ) → w <ℤ z → same_price z w ≡ false
not_above z w h = and_right (not (lt_z z w)) (not (lt_z w z)) (not_from_true (lt_z w z) (grind (arith, ints)))

within : (z w : ℤ) → (w ≡ z) ⊎ (w <ℤ z) → not (lt_z z w) ≡ true
within z w (inl e) = not_from_false (lt_z z w) (grind (arith, ints))
within z w (inr h) = not_from_false (lt_z z w) (grind (arith, ints))

-- Counts at a price z in rows A of a level's price and rows B of prices above.
module _ (side : Side) (l : Level) (s : Split) (A B : List FillRow) (h : LevelParts l s A)
    (at : AllByRecursion (λ (f : FillRow). row_price side f ≡ l.price) A) (over : AllByRecursion (λ (f : FillRow). l.price <ℤ row_price side f) B) where
  abbrev c : ℕ
  c = total (sizes l.customers)

  abbrev n : ℕ
  n = total (sizes l.others)

  -- those of the level's price are the level's
  pub record CountsHere (z : ℤ) : Type 0 where
    pub contra_got : fill_of of_contra (priced_at side z) (A ++ B) ≡ s.contra
    pub responses_got : fill_of of_response (priced_at side z) (A ++ B) ≡ s.customers + s.others
    pub responses_asked : demand_of of_response (priced_at side z) (A ++ B) ≡ c + n
    pub others_got : fill_of of_other (priced_at side z) (A ++ B) ≡ s.others
    pub others_asked : demand_of of_other (priced_at side z) (A ++ B) ≡ n
    pub contra_up_to : fill_of of_contra (priced_up_to side z) (A ++ B) ≡ s.contra
    pub contra_below : fill_of of_contra (priced_below side z) (A ++ B) ≡ 0

  -- those of a price above are the later rows'; below it and up to it the level's count too
  pub record CountsAbove (z : ℤ) : Type 0 where
    pub contra_got : fill_of of_contra (priced_at side z) (A ++ B) ≡ fill_of of_contra (priced_at side z) B
    pub responses_got : fill_of of_response (priced_at side z) (A ++ B) ≡ fill_of of_response (priced_at side z) B
    pub responses_asked : demand_of of_response (priced_at side z) (A ++ B) ≡ demand_of of_response (priced_at side z) B
    pub others_got : fill_of of_other (priced_at side z) (A ++ B) ≡ fill_of of_other (priced_at side z) B
    pub others_asked : demand_of of_other (priced_at side z) (A ++ B) ≡ demand_of of_other (priced_at side z) B
    pub contra_up_to : fill_of of_contra (priced_up_to side z) (A ++ B) ≡ s.contra + fill_of of_contra (priced_up_to side z) B
    pub contra_below : fill_of of_contra (priced_below side z) (A ++ B) ≡ s.contra + fill_of of_contra (priced_below side z) B

  kept_here : (who : FillRow → Bool) (z : ℤ) → z ≡ l.price → those (λ f. who f && priced_at side z f) (A ++ B) ≡ those who A
  kept_here who z e =
      kept_first who (priced_at side z) A B
      (All-weaker (λ f. row_price side f ≡ l.price) (λ f. priced_at side z f ≡ true) (λ f k. same_as z (row_price side f) (k ∙ sym e)) A at)
      (All-weaker (λ f. l.price <ℤ row_price side f) (λ f. priced_at side z f ≡ false) (λ f k. not_below z (row_price side f) (subst (λ (x : ℤ). x <ℤ row_price side f) (sym e) k)) B over)

  kept_above : (who : FillRow → Bool) (z : ℤ) → l.price <ℤ z → those (λ f. who f && priced_at side z f) (A ++ B) ≡ those (λ f. who f && priced_at side z f) B
  kept_above who z less =
      kept_later who (priced_at side z) A B
      (All-weaker (λ f. row_price side f ≡ l.price) (λ f. priced_at side z f ≡ false) (λ f k. not_above z (row_price side f) (subst (λ (x : ℤ). x <ℤ z) (sym k) less)) A at)

  -- a count of the level's rows and one of later rows
  both_counts : (xs ys zs : List FillRow) (k : ℕ) → zs ≡ xs ++ ys → filled_in xs ≡ k → filled_in zs ≡ k + filled_in ys
  both_counts xs ys zs k e is = ap filled_in e ∙ omega (arith, sum_append (λ (f : FillRow). f.filled) xs ys)

  pub counts_here : (z : ℤ) → z ≡ l.price → CountsHere z
  counts_here z e = record {
    contra_got = ap filled_in (kept_here of_contra z e) ∙ h.contra_got;
    responses_got = ap filled_in (kept_here of_response z e) ∙ h.responses_got;
    responses_asked = ap size_in (kept_here of_response z e) ∙ h.responses_asked;
    others_got = ap filled_in (kept_here of_other z e) ∙ h.others_got;
    others_asked = ap size_in (kept_here of_other z e) ∙ h.others_asked;
    contra_up_to =
        ap filled_in (kept_first of_contra (priced_up_to side z) A B
        (All-weaker (λ f. row_price side f ≡ l.price) (λ f. priced_up_to side z f ≡ true) (λ f k. within z (row_price side f) (inl (k ∙ sym e))) A at)
        (All-weaker (λ f. l.price <ℤ row_price side f) (λ f. priced_up_to side z f ≡ false) (λ f k. not_from_true (lt_z z (row_price side f)) (grind (arith, ints))) B over))
        ∙ h.contra_got;
    contra_below =
        ap filled_in (kept_later of_contra (priced_below side z) A B (All-weaker (λ f. row_price side f ≡ l.price) (λ f. priced_below side z f ≡ false) (λ f k. grind (arith, ints)) A at)
        ∙ kept_nowhere of_contra (priced_below side z) B (All-weaker (λ f. l.price <ℤ row_price side f) (λ f. priced_below side z f ≡ false) (λ f k. grind (arith, ints)) B over));
  }

  pub counts_above : (z : ℤ) → l.price <ℤ z → CountsAbove z
  counts_above z less = record {
    contra_got = ap filled_in (kept_above of_contra z less);
    responses_got = ap filled_in (kept_above of_response z less);
    responses_asked = ap size_in (kept_above of_response z less);
    others_got = ap filled_in (kept_above of_other z less);
    others_asked = ap size_in (kept_above of_other z less);
    contra_up_to =
        both_counts (those of_contra A) (those (λ f. of_contra f && priced_up_to side z f) B) (those (λ f. of_contra f && priced_up_to side z f) (A ++ B)) s.contra
        (kept_both of_contra (priced_up_to side z) A B
        (All-weaker (λ f. row_price side f ≡ l.price) (λ f. priced_up_to side z f ≡ true) (λ f k. within z (row_price side f) (inr (subst (λ (x : ℤ). x <ℤ z) (sym k) less))) A at))
        h.contra_got;
    contra_below =
        both_counts (those of_contra A) (those (λ f. of_contra f && priced_below side z f) B) (those (λ f. of_contra f && priced_below side z f) (A ++ B)) s.contra
        (kept_both of_contra (priced_below side z) A B
        (All-weaker (λ f. row_price side f ≡ l.price) (λ f. priced_below side z f ≡ true) (λ f k. grind (arith, ints)) A at))
        h.contra_got;
  }
