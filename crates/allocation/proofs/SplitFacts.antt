-- What a split at one level comes to: customers first, no more than is left, and where somebody who asked lacks
-- something, or at the contra's own price, all that is left.
use Rattle.std.proofs.Common.{◌≡◌, ℕ, ◌+◌, ◌-◌, ◌<◌, ◌≤◌, min, cond, leb, ◌⊎◌, ℤ, ◌≤ℤ◌, ◌<ℤ◌, refl, inl, inr, arith}
use borrow.Author.Differences.{ints}
use lib.Signed.{lt_z}
use Rattle.std.proofs.lemmas.Bool.{cond_both, leb-true, leb-false}
use Rattle.allocation.specs.declared.order.ContraTerms.{ContraTerms}
use Rattle.allocation.specs.declared.order.GuaranteeKind.{GuaranteeKind}
use Rattle.allocation.specs.declared.order.GuaranteeKind.TheVariants.{SingleStop, AutoMatchLimit}
use Rattle.allocation.specs.Levels.{contra_level}
use Rattle.allocation.specs.Split.{Split, Rest, others_share, whole_match, clean_up, nothing_trades, stop_rest, match_between, match_rest, rest_by, split, total_taken}

-- A level is up to the contra's own price, or nothing is left there.
abbrev pub Reached : ℤ → ℤ → ℕ → Type 0
Reached contra_price price r = (r ≡ 0) ⊎ (price ≤ℤ contra_price)

-- What the contra and the others get of the r contracts that customers leave; c and n are the sizes.
record RestLaws (contra_price price : ℤ) (r c n : ℕ) (q : Rest) : Type 0 where
  within : q.contra + q.others ≤ r
  asked : q.others ≤ n
  all_gone : Reached contra_price price r → q.others < n → q.contra + q.others ≡ r
  at_own : price ≡ contra_price → q.contra + q.others ≡ r
  contra_where : Reached contra_price price r → 0 < q.contra → (price ≡ contra_price) ⊎ (0 < c + n)

share_laws : (contra_price price : ℤ) (r c n : ℕ) → price <ℤ contra_price → RestLaws contra_price price r c n (others_share r n)
share_laws contra_price price r c n h = record {
  within = omega arith;
  asked = omega arith;
  all_gone = λ _ k. omega arith;
  at_own = λ e. absurd (grind (arith, ints));
  contra_where = λ _ k. absurd (omega arith);
}

matched_laws : (contra_price price : ℤ) (r c n : ℕ) → price <ℤ contra_price → n + (c + n) ≤ r → RestLaws contra_price price r c n (whole_match (c + n) n)
matched_laws contra_price price r c n h k = record {
  within = omega arith;
  asked = omega arith;
  all_gone = λ _ k. absurd (omega arith);
  at_own = λ e. absurd (grind (arith, ints));
  contra_where = λ _ k. inr k;
}

clean_up_laws : (contra_price price : ℤ) (r g c n : ℕ) → ((Reached contra_price price r → 0 < r → (price ≡ contra_price) ⊎ (0 < c + n))) → RestLaws contra_price price r c n (clean_up r g n)
clean_up_laws contra_price price r g c n h = record {
  within = omega arith;
  asked = omega arith;
  all_gone = λ _ k. omega arith;
  at_own = λ _. omega arith;
  contra_where = λ reached k. h reached (omega arith);
}

nothing_laws : (contra_price price : ℤ) (r c n : ℕ) → contra_price <ℤ price → RestLaws contra_price price r c n nothing_trades
nothing_laws contra_price price r c n h = record {
  within = omega arith;
  asked = omega arith;
  all_gone = λ reached k. elim reached [ inl e ↦ omega arith | inr le ↦ absurd (grind (arith, ints)) ];
  at_own = λ e. absurd (grind (arith, ints));
  contra_where = λ _ k. absurd (omega arith);
}

stop_laws : (t : ContraTerms) (price : ℤ) (r c n : ℕ) → RestLaws t.guarantee.price price r c n (stop_rest t price r n)
stop_laws t price r c n =
    let contra_price : ℤ = t.guarantee.price in
    cond_both (lt_z price contra_price) (others_share r n) (cond (lt_z contra_price price) nothing_trades (clean_up r t.guaranteed n)) (RestLaws contra_price price r c n)
    (λ e. share_laws contra_price price r c n (grind (arith, ints)))
    (λ e. cond_both (lt_z contra_price price) nothing_trades (clean_up r t.guaranteed n) (RestLaws contra_price price r c n)
    (λ k. nothing_laws contra_price price r c n (grind (arith, ints)))
    (λ k. clean_up_laws contra_price price r t.guaranteed c n (λ _ _. inl (grind (arith, ints)))))

between_laws : (t : ContraTerms) (price : ℤ) (r m c n : ℕ) → price <ℤ t.initiating → RestLaws t.initiating price r c n (match_between t r m c n)
between_laws t price r m c n h =
    let contra_price : ℤ = t.initiating in
    let both : ℕ = n + (c + n) in
    cond_both (leb t.guaranteed m) (others_share r n) (cond (leb both r) (whole_match (c + n) n) (clean_up r (t.guaranteed - m) n)) (RestLaws contra_price price r c n)
    (λ e. share_laws contra_price price r c n h)
    (λ e. cond_both (leb both r) (whole_match (c + n) n) (clean_up r (t.guaranteed - m) n) (RestLaws contra_price price r c n)
    (λ k. matched_laws contra_price price r c n h (leb-true both r k))
    (λ k. clean_up_laws contra_price price r (t.guaranteed - m) c n (λ _ _. inr (omega (arith, leb-false both r k)))))

match_laws : (t : ContraTerms) (price : ℤ) (r m c n : ℕ) → t.guarantee.price ≤ℤ t.initiating → RestLaws t.initiating price r c n (match_rest t price r m c n)
match_laws t price r m c n h =
    let contra_price : ℤ = t.initiating in
    let g : ℕ = t.guaranteed - m in
    cond_both (lt_z price t.guarantee.price) (others_share r n) (cond (lt_z price contra_price) (match_between t r m c n) (clean_up r g n)) (RestLaws contra_price price r c n)
    (λ e. share_laws contra_price price r c n (grind (arith, ints)))
    (λ e. cond_both (lt_z price contra_price) (match_between t r m c n) (clean_up r g n) (RestLaws contra_price price r c n)
    (λ k. between_laws t price r m c n (grind (arith, ints)))
    (λ k. clean_up_laws contra_price price r g c n (λ reached some. elim reached [ inl none ↦ absurd (omega arith) | inr le ↦ inl (grind (arith, ints)) ])))

rest_laws : (kind : GuaranteeKind) (t : ContraTerms) (price : ℤ) (r m c n : ℕ) → t.guarantee.price ≤ℤ t.initiating → RestLaws (contra_level kind t) price r c n (rest_by kind t price r m c n)
rest_laws SingleStop t price r m c n h = stop_laws t price r c n
rest_laws AutoMatchLimit t price r m c n h = match_laws t price r m c n h

-- A split s of r contracts, where customers ask for c and others for n.
pub record SplitLaws (contra_price price : ℤ) (r c n : ℕ) (s : Split) : Type 0 where
  pub customers_are : s.customers ≡ min r c
  pub asked : s.others ≤ n
  pub within : total_taken s ≤ r
  -- while a customer lacks something, only customers trade, and nothing is left
  pub customers_lack : s.customers < c → (s.contra ≡ 0) × (s.others ≡ 0) × (total_taken s ≡ r)
  -- where the others lack something, nothing is left
  pub others_lack : Reached contra_price price r → s.others < n → total_taken s ≡ r
  -- nothing is left after the contra's own price
  pub at_own : price ≡ contra_price → total_taken s ≡ r
  -- the contra trades at its own price, or where a response stands
  pub contra_where : Reached contra_price price r → 0 < s.contra → (price ≡ contra_price) ⊎ (0 < c + n)

pub split_laws : (t : ContraTerms) (price : ℤ) (r m c n : ℕ) → t.guarantee.price ≤ℤ t.initiating → SplitLaws (contra_level t.guarantee.kind t) price r c n (split t price r m c n)
split_laws t price r m c n h =
    let contra_price : ℤ = contra_level t.guarantee.kind t in
    let left : ℕ = r - min r c in
    let fewer : Reached contra_price price r → Reached contra_price price left = λ reached. elim reached [ inl e ↦ inl (omega arith) | inr le ↦ inr le ] in
    let rest = rest_laws t.guarantee.kind t price left m c n h in
    let q : Rest = rest_by t.guarantee.kind t price left m c n in
    let most : q.contra + q.others ≤ left = rest.within in
    record {
      customers_are = refl;
      asked = rest.asked;
      within = omega arith;
      customers_lack = λ k. (omega arith, omega arith, omega arith);
      others_lack = λ reached k. omega (arith, rest.all_gone (fewer reached) k);
      at_own = λ e. omega (arith, rest.at_own e);
      contra_where = λ reached k. rest.contra_where (fewer reached) k;
    }
