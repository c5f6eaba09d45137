-- What the contra gets of the split at one level, beside customers and others.
use Rattle.std.proofs.Common.{◌≡◌, ℕ, ◌+◌, ◌-◌, ◌<◌, ◌≤◌, min, cond, leb, ◌⊎◌, ℤ, ◌≤ℤ◌, ◌<ℤ◌, refl, inl, inr, arith}
use borrow.Author.Differences.{ints}
use lib.Signed.{lt_z}
use Rattle.std.proofs.lemmas.Bool.{cond_both, leb-true, leb-false}
use Rattle.allocation.specs.declared.order.ContraTerms.{ContraTerms}
use Rattle.allocation.specs.declared.order.GuaranteeKind.{GuaranteeKind}
use Rattle.allocation.specs.declared.order.GuaranteeKind.TheVariants.{SingleStop, AutoMatchLimit}
use Rattle.allocation.specs.ContraLaws.{GuaranteeAllows}
use Rattle.allocation.specs.Split.{Split, others_share, whole_match, clean_up, nothing_trades, stop_rest, match_between, match_rest, rest_by, with_customers, split, total_taken}

-- Under a single stop the contra has got nothing yet, or nothing is left.
abbrev pub NoneYet : GuaranteeKind → ℕ → ℕ → Type 0
NoneYet kind r m = kind ≡ SingleStop → (m ≡ 0) ⊎ (r ≡ 0)

-- The contra got as many as both classes, which asked for c and n and got all of it.
pub record Matches (kind : GuaranteeKind) (t : ContraTerms) (price : ℤ) (c n : ℕ) (s : Split) : Type 0 where
  pub by_limit : kind ≡ AutoMatchLimit
  pub before_initiating : price <ℤ t.initiating
  pub as_many : s.contra ≡ s.customers + s.others
  pub all_filled : s.customers + s.others ≡ c + n

-- A split s of r contracts, where the contra has m so far, customers ask for c and others for n.
pub record ContraSplit (kind : GuaranteeKind) (t : ContraTerms) (price : ℤ) (r m c n : ℕ) (s : Split) : Type 0 where
  -- it trades where its guarantee allows it
  pub allowed : 0 < s.contra → GuaranteeAllows kind t.guarantee.price price
  -- while somebody lacks something, it comes to no more than the guaranteed share
  pub while_wanted : NoneYet kind r m → 0 < s.contra → (s.customers < c) ⊎ (s.others < n) → m + s.contra ≤ t.guaranteed
  -- from the guarantee on the others trade once it has the guaranteed share, or where it matches
  pub before_others : 0 < s.others → t.guarantee.price ≤ℤ price → (t.guaranteed ≤ m + s.contra) ⊎ Matches kind t price c n s
  -- before the initiating price it trades while it lacks some of the share, for a match or where too little is left for one
  pub beside_others : kind ≡ AutoMatchLimit → price <ℤ t.initiating → 0 < s.contra → (m < t.guaranteed) × ((s.contra ≤ s.customers + s.others) ⊎ (s.contra + s.others < n + (c + n)))
  -- and while it lacks some, it matches, or all is taken
  pub while_lacking : kind ≡ AutoMatchLimit → t.guarantee.price ≤ℤ price → price <ℤ t.initiating → (t.guaranteed ≤ m) ⊎ ((s.contra ≡ s.customers + s.others) ⊎ (total_taken s ≡ r))

no_limit : SingleStop ≡ AutoMatchLimit → ⊥
no_limit e = let z : ◌≡◌ {A = ℕ} 0 1 = cc in omega arith

-- others share: below the guarantee, or where the contra has its share
share_contra : (kind : GuaranteeKind) (t : ContraTerms) (price : ℤ) (r m c n : ℕ) → (price <ℤ t.guarantee.price) ⊎ (t.guaranteed ≤ m)
    → ContraSplit kind t price r m c n (with_customers (min r c) (others_share (r - min r c) n))
share_contra kind t price r m c n h = record {
  allowed = λ k. absurd (omega arith);
  while_wanted = λ _ k _. absurd (omega arith);
  before_others = λ _ le. elim h [ inl less ↦ absurd (grind (arith, ints)) | inr has ↦ inl (omega arith) ];
  beside_others = λ _ _ k. absurd (omega arith);
  while_lacking = λ _ le _. elim h [ inl less ↦ absurd (grind (arith, ints)) | inr has ↦ inl has ];
}

nothing_contra : (t : ContraTerms) (price : ℤ) (r m c n : ℕ) → ContraSplit SingleStop t price r m c n (with_customers (min r c) nothing_trades)
nothing_contra t price r m c n = record {
  allowed = λ k. absurd (omega arith);
  while_wanted = λ _ k _. absurd (omega arith);
  before_others = λ k _. absurd (omega arith);
  beside_others = λ _ _ k. absurd (omega arith);
  while_lacking = λ e _ _. absurd (no_limit e);
}

matched_contra : (t : ContraTerms) (price : ℤ) (r m c n : ℕ) → t.guarantee.price ≤ℤ price → price <ℤ t.initiating → m < t.guaranteed → n + (c + n) ≤ r - min r c
    → ContraSplit AutoMatchLimit t price r m c n (with_customers (min r c) (whole_match (c + n) n))
matched_contra t price r m c n le less lacks enough = record {
  allowed = λ _. le;
  while_wanted = λ _ _ lack. elim lack [ inl k ↦ absurd (omega arith) | inr k ↦ absurd (omega arith) ];
  before_others = λ _ _. inr (record { by_limit = refl; before_initiating = less; as_many = omega arith; all_filled = omega arith });
  beside_others = λ _ _ _. (lacks, inl (omega arith));
  while_lacking = λ _ _ _. inr (inl (omega arith));
}

-- the clean-up with a part g, which is what the contra lacks of its share
clean_contra : (kind : GuaranteeKind) (t : ContraTerms) (price : ℤ) (r g m c n : ℕ) → GuaranteeAllows kind t.guarantee.price price
    → (NoneYet kind r m → (r ≡ 0) ⊎ (g ≡ t.guaranteed - m)) → t.guaranteed ≤ m + g
    → (kind ≡ AutoMatchLimit → price <ℤ t.initiating → (m < t.guaranteed) × (r - min r c < n + (c + n)))
    → ContraSplit kind t price r m c n (with_customers (min r c) (clean_up (r - min r c) g n))
clean_contra kind t price r g m c n allowed part least short = record {
  allowed = λ _. allowed;
  while_wanted = λ none some lack. elim lack [ inl k ↦ absurd (omega arith) | inr k ↦ elim (part none) [ inl e ↦ absurd (omega arith) | inr e ↦ omega arith ] ];
  before_others = λ some _. inl (omega arith);
  beside_others = λ e less _. let few = short e less in (few.0, inr (omega (arith, few.1)));
  while_lacking = λ _ _ _. inr (inr (omega arith));
}

stop_contra : (t : ContraTerms) (price : ℤ) (r m c n : ℕ) → ContraSplit SingleStop t price r m c n (with_customers (min r c) (stop_rest t price (r - min r c) n))
stop_contra t price r m c n =
    let contra_price : ℤ = t.guarantee.price in
    let q : ℕ = r - min r c in
    cond_both (lt_z price contra_price) (others_share q n) (cond (lt_z contra_price price) nothing_trades (clean_up q t.guaranteed n)) (λ x. ContraSplit SingleStop t price r m c n (with_customers (min r c) x))
    (λ e. share_contra SingleStop t price r m c n (inl (grind (arith, ints))))
    (λ e. cond_both (lt_z contra_price price) nothing_trades (clean_up q t.guaranteed n) (λ x. ContraSplit SingleStop t price r m c n (with_customers (min r c) x))
    (λ k. nothing_contra t price r m c n)
    (λ k. clean_contra SingleStop t price r t.guaranteed m c n (grind (arith, ints))
    (λ none. elim (none refl) [ inl z ↦ inr (omega arith) | inr z ↦ inl z ]) (omega arith) (λ a _. absurd (no_limit a))))

between_contra : (t : ContraTerms) (price : ℤ) (r m c n : ℕ) → t.guarantee.price ≤ℤ price → price <ℤ t.initiating
    → ContraSplit AutoMatchLimit t price r m c n (with_customers (min r c) (match_between t (r - min r c) m c n))
between_contra t price r m c n le less =
    let q : ℕ = r - min r c in
    let both : ℕ = n + (c + n) in
    cond_both (leb t.guaranteed m) (others_share q n) (cond (leb both q) (whole_match (c + n) n) (clean_up q (t.guaranteed - m) n)) (λ x. ContraSplit AutoMatchLimit t price r m c n (with_customers (min r c) x))
    (λ e. share_contra AutoMatchLimit t price r m c n (inr (leb-true t.guaranteed m e)))
    (λ e. let lacks : m < t.guaranteed = leb-false t.guaranteed m e in
    cond_both (leb both q) (whole_match (c + n) n) (clean_up q (t.guaranteed - m) n) (λ x. ContraSplit AutoMatchLimit t price r m c n (with_customers (min r c) x))
    (λ k. matched_contra t price r m c n le less lacks (leb-true both q k))
    (λ k. clean_contra AutoMatchLimit t price r (t.guaranteed - m) m c n le (λ _. inr refl) (omega arith) (λ _ _. (lacks, leb-false both q k))))

match_contra : (t : ContraTerms) (price : ℤ) (r m c n : ℕ) → t.guarantee.price ≤ℤ t.initiating
    → ContraSplit AutoMatchLimit t price r m c n (with_customers (min r c) (match_rest t price (r - min r c) m c n))
match_contra t price r m c n high =
    let q : ℕ = r - min r c in
    cond_both (lt_z price t.guarantee.price) (others_share q n) (cond (lt_z price t.initiating) (match_between t q m c n) (clean_up q (t.guaranteed - m) n)) (λ x. ContraSplit AutoMatchLimit t price r m c n (with_customers (min r c) x))
    (λ e. share_contra AutoMatchLimit t price r m c n (inl (grind (arith, ints))))
    (λ e. cond_both (lt_z price t.initiating) (match_between t q m c n) (clean_up q (t.guaranteed - m) n) (λ x. ContraSplit AutoMatchLimit t price r m c n (with_customers (min r c) x))
    (λ k. between_contra t price r m c n (grind (arith, ints)) (grind (arith, ints)))
    (λ k. clean_contra AutoMatchLimit t price r (t.guaranteed - m) m c n (grind (arith, ints)) (λ _. inr refl) (omega arith) (λ _ less. absurd (grind (arith, ints)))))

contra_by : (kind : GuaranteeKind) (t : ContraTerms) (price : ℤ) (r m c n : ℕ) → t.guarantee.price ≤ℤ t.initiating
    → ContraSplit kind t price r m c n (with_customers (min r c) (rest_by kind t price (r - min r c) m c n))
contra_by SingleStop t price r m c n high = stop_contra t price r m c n
contra_by AutoMatchLimit t price r m c n high = match_contra t price r m c n high

pub contra_split : (t : ContraTerms) (price : ℤ) (r m c n : ℕ) → t.guarantee.price ≤ℤ t.initiating → ContraSplit t.guarantee.kind t price r m c n (split t price r m c n)
contra_split t price r m c n high = contra_by t.guarantee.kind t price r m c n high
