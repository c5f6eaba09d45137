-- The rows of one class at one price: they tell of its responses, share k contracts by size, and leave some only where
-- k is below the total size.
use Rattle.std.proofs.Common.{◌≡◌, ℕ, ◌+◌, ◌-◌, ◌*◌, ◌/◌, ◌<◌, ◌≤◌, min, true, ◌⊎◌, List, [], ◌∷◌, map, ℤ, sym, refl, ap, ◌∙◌, subst, inl, inr, arith}
use Rattle.std.specs.List.{AllZip, AllByRecursion}
use Rattle.std.proofs.ByRecursion.{All-map}
use Rattle.std.proofs.lemmas.Bool.{lt-ltb, cases_lt}
use Rattle.market.specs.declared.side.Side.{Side}
use Rattle.market.specs.Side.{turned_price}
use Rattle.allocation.specs.declared.fill.FillRow.{FillRow}
use Rattle.allocation.specs.declared.response.Class.{Class}
use Rattle.allocation.specs.declared.response.Response.{Response}
use Rattle.allocation.specs.FillLaws.{Listing, stood_response, listing_of, row_listing, of_response, filled_in, size_in, ProRata}
use Rattle.allocation.specs.Fill.{fill_row, class_rows, shared_rows}
use Rattle.allocation.specs.Share.{sizes, total, shares}
use Rattle.allocation.proofs.LevelShape.{At}
use Rattle.allocation.proofs.ShareFacts.{Fair, fair_shared, each_same}

-- what a response that stands has to be listed with
abbrev pub listed : Side → Response → Listing
listed side x = listing_of (stood_response side x)

-- what holds of each response with its share holds of each row
rows_all : (side : Side) (P : FillRow → Type 0) (Q : Response → Type 0) (R : ℕ → ℕ → Type 0) → ((x : Response) (f : ℕ) → Q x → R x.size f → P (fill_row side x f)) → (xs : List Response) (fs : List ℕ) → AllByRecursion Q xs → AllZip R (sizes xs) fs → AllByRecursion P (class_rows side xs fs)
rows_all side P Q R g [] fs a e = tt
rows_all side P Q R g (x ∷ xs) [] a e = tt
rows_all side P Q R g (x ∷ xs) (f ∷ fs) (q, a) (r, e) = (g x f q r, rows_all side P Q R g xs fs a e)

rows_listed : (side : Side) (xs : List Response) (fs : List ℕ) → AllZip (λ s f. f ≤ s) (sizes xs) fs → map row_listing (class_rows side xs fs) ≡ map (listed side) xs
rows_listed side [] fs e = refl
rows_listed side (x ∷ xs) [] e = absurd e
rows_listed side (x ∷ xs) (f ∷ fs) (le, e) =
    let size : f + (x.size - f) ≡ x.size = omega arith in
    ap (λ (n : ℕ). record { member = x.member; own_number = x.own_number; price = turned_price side x.price; class = x.class; kind = x.kind; size = n } ∷ map row_listing (class_rows side xs fs)) size
    ∙ ap (λ (ts : List Listing). listed side x ∷ ts) (rows_listed side xs fs e)

rows_filled : (side : Side) (xs : List Response) (fs : List ℕ) → AllZip (λ s f. f ≤ s) (sizes xs) fs → filled_in (class_rows side xs fs) ≡ total fs
rows_filled side [] [] e = refl
rows_filled side [] (f ∷ fs) e = absurd e
rows_filled side (x ∷ xs) [] e = absurd e
rows_filled side (x ∷ xs) (f ∷ fs) (le, e) = ap (λ n. f + n) (rows_filled side xs fs e)

rows_size : (side : Side) (xs : List Response) (fs : List ℕ) → AllZip (λ s f. f ≤ s) (sizes xs) fs → size_in (class_rows side xs fs) ≡ total (sizes xs)
rows_size side [] fs e = refl
rows_size side (x ∷ xs) [] e = absurd e
rows_size side (x ∷ xs) (f ∷ fs) (le, e) = omega (arith, rows_size side xs fs e)

-- a row of none is of no contracts
pub rows_none : (rows : List FillRow) → filled_in rows ≡ 0 → AllByRecursion (λ (f : FillRow). f.filled ≡ 0) rows
rows_none [] e = tt
rows_none (f ∷ fs) e = (omega arith, rows_none fs (omega arith))

each_both : (R S : ℕ → ℕ → Type 0) (ss fs : List ℕ) → AllZip R ss fs → AllZip S ss fs → AllZip (λ s f. R s f × S s f) ss fs
each_both R S [] [] a b = tt
each_both R S [] (f ∷ fs) a b = absurd a
each_both R S (s ∷ ss) [] a b = absurd a
each_both R S (s ∷ ss) (f ∷ fs) (p, a) (q, b) = ((p, q), each_both R S ss fs a b)

-- rows of responses of class c at a price, which share k contracts and ask for n
pub record ClassRows (side : Side) (price : ℤ) (c : Class) (k n : ℕ) (xs : List Response) (rows : List FillRow) : Type 0 where
  pub at_price : AllByRecursion (λ (f : FillRow). f.price ≡ turned_price side price) rows
  pub of_class : AllByRecursion (λ (f : FillRow). f.class ≡ c) rows
  pub of_responses : AllByRecursion (λ (f : FillRow). of_response f ≡ true) rows
  pub listed_are : map row_listing rows ≡ map (listed side) xs
  pub filled_is : filled_in rows ≡ k
  pub size_is : size_in rows ≡ n
  pub near : AllByRecursion (ProRata k n) rows
  pub lack : AllByRecursion (λ (f : FillRow). 0 < f.left → k < n) rows
  pub nothing : k ≡ 0 → AllByRecursion (λ (f : FillRow). f.filled ≡ 0) rows

pub class_laws : (side : Side) (price : ℤ) (c : Class) (k : ℕ) (xs : List Response) → AllByRecursion (At price c) xs → AllByRecursion (λ (x : Response). 0 < x.member) xs → AllByRecursion (λ (x : Response). 0 < x.size) xs → k ≤ total (sizes xs) → ClassRows side price c k (total (sizes xs)) xs (shared_rows side k xs)
class_laws side price c k xs here members some le = record {
  at_price = rows_all side (λ f. f.price ≡ turned_price side price) (At price c) over (λ x f q _. ap (turned_price side) q.0) xs fs here each;
  of_class = rows_all side (λ f. f.class ≡ c) (At price c) over (λ x f q _. q.1) xs fs here each;
  of_responses = rows_all side (λ f. of_response f ≡ true) (λ x. 0 < x.member) over (λ x f q _. lt-ltb 0 x.member q) xs fs members each;
  listed_are = rows_listed side xs fs each;
  filled_is = filled;
  size_is = rows_size side xs fs each;
  near = rows_all side (ProRata k n) (λ x. 0 < x.size) both near_row xs fs some nears;
  lack = elim (cases_lt k n) [
    | inl less ↦ rows_all side (λ f. 0 < f.left → k < n) (λ x. 0 < x.size) over (λ x f _ _ _. less) xs fs some each
    | inr all ↦ rows_all side (λ f. 0 < f.left → k < n) (λ x. 0 < x.size) (λ s f. f ≡ s) (λ x f _ e h. absurd (omega arith)) xs fs some (subst (λ (gs : List ℕ). AllZip (λ s f. f ≡ s) (sizes xs) gs) (sym (fair.full all)) (each_same (λ s f. f ≡ s) (λ _. refl) (sizes xs)))
  ];
  nothing = λ e. rows_none (class_rows side xs fs) (filled ∙ e);
}
  where
    n : ℕ
    n = total (sizes xs)

    fs : List ℕ
    fs = shares k (sizes xs)

    over : ℕ → ℕ → Type 0
    over s f = f ≤ s

    fair : Fair k (sizes xs) (shares k (sizes xs))
    fair = fair_shared k (sizes xs) (All-map (λ s. 0 < s) (λ (x : Response). x.size) xs some)

    each : AllZip (λ s f. f ≤ s) (sizes xs) (shares k (sizes xs))
    each = fair.none_over

    filled : filled_in (class_rows side xs (shares k (sizes xs))) ≡ k
    filled = rows_filled side xs (shares k (sizes xs)) each ∙ fair.in_all ∙ omega arith

    both : ℕ → ℕ → Type 0
    both s f = (f ≤ s) × ((f ≡ k * s / n) ⊎ (f ≡ k * s / n + 1))

    nears : AllZip both (sizes xs) fs
    nears =
        let all : min k n ≡ k = omega arith in
        each_both over (λ s f. (f ≡ k * s / n) ⊎ (f ≡ k * s / n + 1)) (sizes xs) fs each
        (subst (λ m. AllZip (λ s f. (f ≡ m * s / n) ⊎ (f ≡ m * s / n + 1)) (sizes xs) fs) all fair.near)

    near_row : (x : Response) (f : ℕ) → 0 < x.size → both x.size f → ProRata k n (fill_row side x f)
    near_row x f _ h =
        let size : x.size ≡ f + (x.size - f) = omega arith in
        subst (λ m. (f ≡ k * m / n) ⊎ (f ≡ k * m / n + 1)) size h.1
