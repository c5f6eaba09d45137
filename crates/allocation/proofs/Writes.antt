-- A run in the middle of a list that is written.
use Rattle.std.proofs.Common.{◌≡◌, ℕ, ◌+◌, ◌-◌, ◌≤◌, List, ◌++◌, length, take, drop, pos, sym, ap, ◌∙◌, arith}
use borrow.Rule.Slice.PartMut.{put_mid}
use Rattle.std.proofs.lemmas.List.{drop-drop}
use Rattle.std.proofs.lemmas.Slice.{take-put_mid, drop-put_mid}
use Rattle.allocation.specs.declared.response.Class.TheVariants.{Customer}
use Rattle.allocation.specs.declared.response.Kind.TheVariants.{Sealed}
use Rattle.allocation.specs.declared.response.Response.{Response}

-- what a read past the end would give
abbrev pub no_response : Response
no_response = record { member = 0; own_number = 0; kind = Sealed; class = Customer; size = 0; price = pos 0; arrival = 0 }

module _ {Y : Type 0} where
  -- a run in the middle is written, and what lies before and past it stays
  pub mid_written : (a n : ℕ) (xs ys : List Y) → put_mid a ((a + n) - a) xs ys ≡ take a xs ++ (ys ++ drop (a + n) xs)
  mid_written a n xs ys =
      let past : a + ((a + n) - a) ≡ a + n = omega arith in
      ap (λ r. take a xs ++ (ys ++ r)) (drop-drop ((a + n) - a) a xs ∙ ap (λ k. drop k xs) past)

  pub mid_take : (a n : ℕ) (xs ys : List Y) → a + n ≤ length xs → length ys ≡ n → take (a + n) (take a xs ++ (ys ++ drop (a + n) xs)) ≡ take a xs ++ ys
  mid_take a n xs ys h k = ap (take (a + n)) (sym (mid_written a n xs ys)) ∙ take-put_mid a ((a + n) - a) xs ys (a + n) (omega arith) (omega arith)

  pub mid_drop : (a n : ℕ) (xs ys : List Y) → a + n ≤ length xs → length ys ≡ n → drop (a + n) (take a xs ++ (ys ++ drop (a + n) xs)) ≡ drop (a + n) xs
  mid_drop a n xs ys h k = ap (drop (a + n)) (sym (mid_written a n xs ys)) ∙ drop-put_mid a ((a + n) - a) xs ys (a + n) (omega arith) (omega arith) (omega arith)
