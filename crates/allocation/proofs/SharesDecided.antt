-- What the laws say of the shares at one price, as numbers, and that only one split has them.
use Rattle.std.proofs.Common.{◌≡◌, ℕ, ◌+◌, ◌-◌, ◌<◌, ◌≤◌, min, cond, leb, ◌⊎◌, ℤ, ◌≤ℤ◌, ◌<ℤ◌, refl, inl, inr, arith}
use borrow.Author.Differences.{ints}
use lib.Signed.{lt_z}
use Rattle.std.proofs.lemmas.Bool.{cond_both, leb-true, leb-false, cases_lt}
use Rattle.allocation.specs.declared.order.ContraTerms.{ContraTerms}
use Rattle.allocation.specs.declared.order.GuaranteeKind.{GuaranteeKind}
use Rattle.allocation.specs.declared.order.GuaranteeKind.TheVariants.{SingleStop, AutoMatchLimit}
use Rattle.allocation.specs.ContraLaws.{GuaranteeAllows}
use Rattle.allocation.specs.Levels.{contra_level}
use Rattle.allocation.specs.Split.{Rest, others_share, whole_match, clean_up, nothing_trades, stop_rest, match_between, match_rest, rest_by, split}

-- Of r contracts customers, contra and others get k, x and o at a price, and y is what trades beyond it. The contra has m
-- from better prices; customers and others ask for c and n.
pub record Facts (kind : GuaranteeKind) (t : ContraTerms) (z : ℤ) (r m c n k x o y : ℕ) : Type 0 where
  pub in_all : k + x + o + y ≡ r
  pub customers_most : k ≤ c
  pub others_most : o ≤ n
  pub lack : (k < c) ⊎ (o < n) → y ≡ 0
  pub customers_lack : k < c → (x ≡ 0) × (o ≡ 0)
  pub allowed : 0 < x → GuaranteeAllows kind t.guarantee.price z
  pub none_before_stop : kind ≡ SingleStop → z ≤ℤ t.guarantee.price → m ≡ 0
  pub none_beyond : contra_level kind t ≤ℤ z → y ≡ 0
  pub wanted : 0 < x → o < n → m + x ≤ t.guaranteed
  pub before : 0 < o → t.guarantee.price ≤ℤ z → (t.guaranteed ≤ m + x) ⊎ ((kind ≡ AutoMatchLimit) × (z <ℤ t.initiating) × (x ≡ k + o) × (k + o ≡ c + n))
  pub while_lacking : kind ≡ AutoMatchLimit → 0 < x → z <ℤ t.initiating → m < t.guaranteed
  pub at_most : kind ≡ AutoMatchLimit → 0 < x → z <ℤ t.initiating → (x ≤ k + o) ⊎ (x + o < n + (c + n))
  pub matches : kind ≡ AutoMatchLimit → 0 < c + n → t.guarantee.price ≤ℤ z → z <ℤ t.initiating → 0 < y → (t.guaranteed ≤ m) ⊎ (x ≡ k + o)

-- What the contra and the others get is this.
abbrev Same : ℕ → ℕ → Rest → Type 0
Same x o q = (x ≡ q.contra) × (o ≡ q.others)

-- the contra gets nothing, and the others share
shared : (r k x o y c n : ℕ) → k + x + o + y ≡ r → k ≤ c → o ≤ n → ((k < c) ⊎ (o < n) → y ≡ 0) → (k < c → (x ≡ 0) × (o ≡ 0)) → x ≡ 0 → Same x o (others_share (r - min r c) n)
shared r k x o y c n all km om lack first none = elim (cases_lt k c) [
  | inl few ↦ let e = lack (inl few) in let z = first few in (none, omega (arith, z.1))
  | inr full ↦ elim (cases_lt o n) [
    | inl less ↦ let e = lack (inr less) in (none, omega arith)
    | inr most ↦ (none, omega arith)
  ]
]

-- all that is left goes: the contra first to its part g, and after the others
cleaned : (r k x o y c n g : ℕ) → k + x + o + y ≡ r → k ≤ c → o ≤ n → (k < c → (x ≡ 0) × (o ≡ 0)) → y ≡ 0 → (0 < x → o < n → x ≤ g) → (0 < o → g ≤ x) → Same x o (clean_up (r - min r c) g n)
cleaned r k x o y c n g all km om first none most least = elim (cases_lt k c) [
  | inl few ↦ let z = first few in (omega (arith, z.0, z.1), omega (arith, z.0, z.1))
  | inr full ↦ elim (cases_lt o n) [
    | inl less ↦ elim (cases_lt 0 x) [
      | inl some ↦ let a = most some less in elim (cases_lt 0 o) [ inl trades ↦ let b = least trades in (omega arith, omega arith) | inr idle ↦ (omega arith, omega arith) ]
      | inr idle ↦ elim (cases_lt 0 o) [ inl trades ↦ let b = least trades in (omega arith, omega arith) | inr still ↦ (omega arith, omega arith) ]
    ]
    | inr filled ↦ elim (cases_lt 0 o) [ inl trades ↦ let b = least trades in (omega arith, omega arith) | inr still ↦ (omega arith, omega arith) ]
  ]
]

module _ (t : ContraTerms) (z : ℤ) (r m c n k x o y : ℕ) where
  stop_decided : Facts SingleStop t z r m c n k x o y → z ≤ℤ t.guarantee.price → Same x o (stop_rest t z (r - min r c) n)
  stop_decided h under =
      let contra_price : ℤ = t.guarantee.price in
      let q : ℕ = r - min r c in
      cond_both (lt_z z contra_price) (others_share q n) (cond (lt_z contra_price z) nothing_trades (clean_up q t.guaranteed n)) (Same x o)
      (λ e. shared r k x o y c n h.in_all h.customers_most h.others_most h.lack h.customers_lack
      (elim (cases_lt 0 x) [ inl some ↦ absurd (let a : z ≡ contra_price = h.allowed some in grind (arith, ints)) | inr idle ↦ omega arith ]))
      (λ e. cond_both (lt_z contra_price z) nothing_trades (clean_up q t.guaranteed n) (Same x o)
      (λ f. absurd (grind (arith, ints)))
      (λ f. let le : contra_price ≤ℤ z = grind (arith, ints) in
      cleaned r k x o y c n t.guaranteed h.in_all h.customers_most h.others_most h.customers_lack (h.none_beyond le)
      (λ some less. omega (arith, h.wanted some less))
      (λ trades. let none = h.none_before_stop refl under in elim (h.before trades le) [ inl has ↦ omega arith | inr all ↦ absurd (differ all.0) ])))
    where
      differ : SingleStop ≡ AutoMatchLimit → ⊥
      differ e = let w : ◌≡◌ {A = ℕ} 0 1 = cc in omega arith

  -- enough is left for a match
  match_decided : Facts AutoMatchLimit t z r m c n k x o y → t.guarantee.price ≤ℤ z → z <ℤ t.initiating → m < t.guaranteed → n + (c + n) ≤ r - min r c → Same x o (whole_match (c + n) n)
  match_decided h from less lacks enough = elim (cases_lt k c) [
    | inl few ↦ absurd (let e = h.lack (inl few) in let w = h.customers_lack few in omega (arith, h.in_all, w.0, w.1))
    | inr full ↦ elim (cases_lt o n) [
      | inl some ↦ absurd (let e = h.lack (inr some) in elim (h.at_most refl (omega (arith, h.in_all, h.customers_most)) less) [ inl a ↦ omega (arith, h.in_all, h.customers_most) | inr a ↦ omega (arith, h.in_all, h.customers_most) ])
      | inr all ↦ (omega (arith, contra_is full all), omega (arith, h.others_most))
    ]
  ]
    where
      contra_is : c ≤ k → n ≤ o → x ≡ c + n
      contra_is full all = elim (cases_lt 0 x) [
        | inl some ↦ elim (h.at_most refl some less) [
          | inl a ↦ elim (cases_lt 0 y) [
            | inl on ↦ elim (cases_lt 0 (c + n)) [
              | inl asked ↦ elim (h.matches refl asked from less on) [ inl has ↦ absurd (omega arith) | inr e ↦ omega (arith, h.customers_most, h.others_most) ]
              | inr nobody ↦ omega (arith, h.customers_most, h.others_most)
            ]
            | inr end ↦ omega (arith, h.in_all, h.customers_most, h.others_most)
          ]
          | inr a ↦ elim (cases_lt 0 y) [
            | inl on ↦ elim (cases_lt 0 (c + n)) [
              | inl asked ↦ elim (h.matches refl asked from less on) [ inl has ↦ absurd (omega arith) | inr e ↦ omega (arith, h.customers_most, h.others_most) ]
              | inr nobody ↦ absurd (omega arith)
            ]
            | inr end ↦ absurd (omega (arith, h.in_all, h.customers_most, h.others_most))
          ]
        ]
        | inr idle ↦ elim (cases_lt 0 (c + n)) [
          | inl asked ↦ elim (cases_lt 0 y) [
            | inl on ↦ elim (h.matches refl asked from less on) [ inl has ↦ absurd (omega arith) | inr e ↦ omega (arith, h.customers_most, h.others_most) ]
            | inr end ↦ omega (arith, h.in_all, h.customers_most, h.others_most)
          ]
          | inr nobody ↦ omega arith
        ]
      ]

  -- too little is left for one: all of it goes
  short_decided : Facts AutoMatchLimit t z r m c n k x o y → t.guarantee.price ≤ℤ z → z <ℤ t.initiating → m < t.guaranteed → r - min r c < n + (c + n) → Same x o (clean_up (r - min r c) (t.guaranteed - m) n)
  short_decided h from less lacks short =
      cleaned r k x o y c n (t.guaranteed - m) h.in_all h.customers_most h.others_most h.customers_lack none
      (λ some few. omega (arith, h.wanted some few))
      (λ trades. elim (h.before trades from) [ inl has ↦ omega arith | inr all ↦ absurd (omega (arith, all.2, all.3, h.in_all, h.customers_most, h.others_most)) ])
    where
      none : y ≡ 0
      none = elim (cases_lt 0 y) [
        | inl on ↦ elim (cases_lt k c) [
          | inl few ↦ h.lack (inl few)
          | inr full ↦ elim (cases_lt o n) [
            | inl some ↦ h.lack (inr some)
            | inr all ↦ elim (h.matches refl (omega arith) from less on) [ inl has ↦ absurd (omega arith) | inr e ↦ absurd (omega (arith, h.in_all, h.customers_most, h.others_most)) ]
          ]
        ]
        | inr end ↦ omega arith
      ]

  between_decided : Facts AutoMatchLimit t z r m c n k x o y → t.guarantee.price ≤ℤ z → z <ℤ t.initiating → Same x o (match_between t (r - min r c) m c n)
  between_decided h from less =
      let q : ℕ = r - min r c in
      let both : ℕ = n + (c + n) in
      cond_both (leb t.guaranteed m) (others_share q n) (cond (leb both q) (whole_match (c + n) n) (clean_up q (t.guaranteed - m) n)) (Same x o)
      (λ e. let has : t.guaranteed ≤ m = leb-true t.guaranteed m e in
      shared r k x o y c n h.in_all h.customers_most h.others_most h.lack h.customers_lack
      (elim (cases_lt 0 x) [ inl some ↦ absurd (omega (arith, h.while_lacking refl some less)) | inr idle ↦ omega arith ]))
      (λ e. let lacks : m < t.guaranteed = leb-false t.guaranteed m e in
      cond_both (leb both q) (whole_match (c + n) n) (clean_up q (t.guaranteed - m) n) (Same x o)
      (λ f. match_decided h from less lacks (leb-true both q f))
      (λ f. short_decided h from less lacks (leb-false both q f)))

  limit_decided : Facts AutoMatchLimit t z r m c n k x o y → t.guarantee.price ≤ℤ t.initiating → Same x o (match_rest t z (r - min r c) m c n)
  limit_decided h high =
      let q : ℕ = r - min r c in
      cond_both (lt_z z t.guarantee.price) (others_share q n) (cond (lt_z z t.initiating) (match_between t q m c n) (clean_up q (t.guaranteed - m) n)) (Same x o)
      (λ e. shared r k x o y c n h.in_all h.customers_most h.others_most h.lack h.customers_lack
      (elim (cases_lt 0 x) [ inl some ↦ absurd (let a : t.guarantee.price ≤ℤ z = h.allowed some in grind (arith, ints)) | inr idle ↦ omega arith ]))
      (λ e. let from : t.guarantee.price ≤ℤ z = grind (arith, ints) in
      cond_both (lt_z z t.initiating) (match_between t q m c n) (clean_up q (t.guaranteed - m) n) (Same x o)
      (λ f. between_decided h from (grind (arith, ints)))
      (λ f. let le : t.initiating ≤ℤ z = grind (arith, ints) in
      cleaned r k x o y c n (t.guaranteed - m) h.in_all h.customers_most h.others_most h.customers_lack (h.none_beyond le)
      (λ some few. omega (arith, h.wanted some few))
      (λ trades. elim (h.before trades from) [ inl has ↦ omega arith | inr all ↦ absurd (let less : z <ℤ t.initiating = all.1 in grind (arith, ints)) ])))

  rest_decided : (kind : GuaranteeKind) → Facts kind t z r m c n k x o y → z ≤ℤ contra_level kind t → t.guarantee.price ≤ℤ t.initiating → Same x o (rest_by kind t z (r - min r c) m c n)
  rest_decided SingleStop h under high = stop_decided h under
  rest_decided AutoMatchLimit h under high = limit_decided h high

  -- up to the contra's own price the shares are those of the split
  pub shares_decided : Facts t.guarantee.kind t z r m c n k x o y → z ≤ℤ contra_level t.guarantee.kind t → t.guarantee.price ≤ℤ t.initiating
      → (k ≡ (split t z r m c n).customers) × (x ≡ (split t z r m c n).contra) × (o ≡ (split t z r m c n).others)
  shares_decided h under high =
      let rest = rest_decided t.guarantee.kind h under high in (
        elim (cases_lt k c) [
          | inl few ↦ let e = h.lack (inl few) in let w = h.customers_lack few in omega (arith, h.in_all, w.0, w.1)
          | inr full ↦ omega (arith, h.in_all, h.customers_most)
        ],
        rest.0,
        rest.1,
      )
