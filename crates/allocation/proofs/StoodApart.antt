-- Responses of which no two have a member and own number, or an arrival, in common: as they stand in the table, as they stood, and as
-- they are listed.
use Rattle.std.proofs.Common.{◌≡◌, ℕ, ◌+◌, ◌≤◌, Bool, true, false, cond, not, ◌&&◌, eqb, List, [], ◌∷◌, map, sym, refl, ap, ◌∙◌, arith}
use Rattle.std.proofs.lemmas.Bool.Decides.{nat_tests}
use Rattle.std.specs.List.{AllByRecursion}
use Rattle.std.proofs.ByRecursion.{All-weaker, All-map}
use Rattle.market.specs.declared.side.Side.{Side}
use Rattle.allocation.specs.declared.response.Response.{Response}
use Rattle.allocation.specs.AuctionInvariant.{own_free, owns_apart, arrival_free, arrivals_apart}
use Rattle.allocation.specs.FillLaws.{StoodResponse, Listing, stood_response}
use Rattle.allocation.specs.Ranking.{AllInOrder, key_of}
use Rattle.allocation.specs.RowLaws.{stood_key}
use Rattle.allocation.specs.Share.{total}
use Rattle.allocation.specs.Table.{is_of}
use Rattle.allocation.proofs.AuctionKept.{both_left, both_right}
use Rattle.allocation.proofs.InOrder.{any_two, in_order_map}

-- no two arrived together
abbrev pub NotWith : Response → Response → Type 0
NotWith x y = x.arrival ≡ y.arrival → ⊥

-- nor have the same member and own number
abbrev pub NotOf : Response → Response → Type 0
NotOf x y = x.member ≡ y.member → x.own_number ≡ y.own_number → ⊥

apart_each : (x : Response) (xs : List Response) → arrival_free x.arrival xs ≡ true → AllByRecursion (NotWith x) xs
apart_each x [] h = tt
apart_each x (y ∷ ys) h =
    let here = both_left (not (eqb x.arrival y.arrival)) (arrival_free x.arrival ys) h in
    ((λ e. let z : ◌≡◌ {A = ℕ} 0 1 = grind (arith, nat_tests) in omega arith), apart_each x ys (both_right (not (eqb x.arrival y.arrival)) (arrival_free x.arrival ys) h))

-- arrivals that a test finds apart are apart
pub are_apart : (xs : List Response) → arrivals_apart xs ≡ true → AllInOrder NotWith xs
are_apart [] h = tt
are_apart (x ∷ xs) h = (apart_each x xs (both_left (arrival_free x.arrival xs) (arrivals_apart xs) h), are_apart xs (both_right (arrival_free x.arrival xs) (arrivals_apart xs) h))

own_each : (x : Response) (xs : List Response) → own_free x.member x.own_number xs ≡ true → AllByRecursion (NotOf x) xs
own_each x [] h = tt
own_each x (y ∷ ys) h =
    let here = both_left (not (is_of x.member x.own_number y)) (own_free x.member x.own_number ys) h in
    ((λ m o. let z : ◌≡◌ {A = ℕ} 0 1 = grind (arith, nat_tests) in omega arith), own_each x ys (both_right (not (is_of x.member x.own_number y)) (own_free x.member x.own_number ys) h))

-- and so are own numbers
pub owns_are_apart : (xs : List Response) → owns_apart xs ≡ true → AllInOrder NotOf xs
owns_are_apart [] h = tt
owns_are_apart (x ∷ xs) h = (own_each x xs (both_left (own_free x.member x.own_number xs) (owns_apart xs) h), owns_are_apart xs (both_right (own_free x.member x.own_number xs) (owns_apart xs) h))

-- all that stood under the member and own number of x is x
abbrev pub StoodOnce : List StoodResponse → Response → Type 0
StoodOnce stood x = AllByRecursion (λ (t : StoodResponse). t.member ≡ x.member → t.own_number ≡ x.own_number → stood_key t ≡ key_of x) stood

pub all_stood_once : (side : Side) (xs : List Response) → AllInOrder NotOf xs → AllByRecursion (StoodOnce (map (stood_response side) xs)) xs
all_stood_once side xs o =
    All-weaker (λ x. AllByRecursion (Once x) xs) (StoodOnce (map (stood_response side) xs)) (λ x a. All-map (λ (t : StoodResponse). t.member ≡ x.member → t.own_number ≡ x.own_number → stood_key t ≡ key_of x) (stood_response side) xs a) xs
    (any_two NotOf Once (λ x _ _. refl) (λ x y differ. ((λ m n. absurd (differ (sym m) (sym n))), (λ m n. absurd (differ m n)))) xs o)
  where
    Once : Response → Response → Type 0
    Once x y = y.member ≡ x.member → y.own_number ≡ x.own_number → key_of y ≡ key_of x

-- responses that stood and differ in both
pub record Apart (stood : List StoodResponse) : Type 0 where
  pub arrivals : AllInOrder (λ (t u : StoodResponse). t.arrival ≡ u.arrival → ⊥) stood
  pub owns : AllInOrder (λ (t u : StoodResponse). t.member ≡ u.member → t.own_number ≡ u.own_number → ⊥) stood

pub stood_apart : (side : Side) (xs : List Response) → arrivals_apart xs ≡ true → owns_apart xs ≡ true → Apart (map (stood_response side) xs)
stood_apart side xs a o = record {
  arrivals = in_order_map (stood_response side) (λ (t u : StoodResponse). t.arrival ≡ u.arrival → ⊥) xs (are_apart xs a);
  owns = in_order_map (stood_response side) (λ (t u : StoodResponse). t.member ≡ u.member → t.own_number ≡ u.own_number → ⊥) xs (owns_are_apart xs o);
}

-- no two are listed under one member and own number
abbrev pub ListedApart : Listing → Listing → Type 0
ListedApart k l = k.member ≡ l.member → k.own_number ≡ l.own_number → ⊥

-- how many are listed under them
abbrev pub counts : ℕ → ℕ → Listing → ℕ
counts member own_number l = cond (eqb l.member member && eqb l.own_number own_number) 1 0

none_listed : (member own_number : ℕ) (ls : List Listing) → AllByRecursion (λ (l : Listing). member ≡ l.member → own_number ≡ l.own_number → ⊥) ls → total (map (counts member own_number) ls) ≡ 0
none_listed member own_number [] a = refl
none_listed member own_number (l ∷ ls) (differ, a) = go (eqb l.member member && eqb l.own_number own_number) refl (none_listed member own_number ls a)
  where
    go : (b : Bool) → (eqb l.member member && eqb l.own_number own_number) ≡ b → total (map (counts member own_number) ls) ≡ 0 → cond b 1 0 + total (map (counts member own_number) ls) ≡ 0
    go true e h =
        let m = both_left (eqb l.member member) (eqb l.own_number own_number) e in
        let o = both_right (eqb l.member member) (eqb l.own_number own_number) e in
        absurd (differ (grind (arith, nat_tests)) (grind (arith, nat_tests)))
    go false e h = omega arith

-- at most one, where no two are
pub one_listed : (member own_number : ℕ) (ls : List Listing) → AllInOrder ListedApart ls → total (map (counts member own_number) ls) ≤ 1
one_listed member own_number [] a = omega arith
one_listed member own_number (l ∷ ls) (first, a) = go (eqb l.member member && eqb l.own_number own_number) refl (one_listed member own_number ls a)
  where
    go : (b : Bool) → (eqb l.member member && eqb l.own_number own_number) ≡ b → total (map (counts member own_number) ls) ≤ 1 → cond b 1 0 + total (map (counts member own_number) ls) ≤ 1
    go true e h =
        let m : l.member ≡ member = (let t = both_left (eqb l.member member) (eqb l.own_number own_number) e in grind (arith, nat_tests)) in
        let o : l.own_number ≡ own_number = (let t = both_right (eqb l.member member) (eqb l.own_number own_number) e in grind (arith, nat_tests)) in
        omega (arith, none_listed member own_number ls (All-weaker (ListedApart l) (λ (k : Listing). member ≡ k.member → own_number ≡ k.own_number → ⊥) (λ k differ p q. differ (m ∙ p) (o ∙ q)) ls first))
    go false e h = omega arith

counted_once : (l : Listing) → counts l.member l.own_number l ≡ 1
counted_once l = let m : eqb l.member l.member ≡ true = grind (arith, nat_tests) in let o : eqb l.own_number l.own_number ≡ true = grind (arith, nat_tests) in rw (m, o)

counted_below : (member own_number : ℕ) (ls : List Listing) → total (map (counts member own_number) ls) ≡ 0 → AllByRecursion (λ (l : Listing). member ≡ l.member → own_number ≡ l.own_number → ⊥) ls
counted_below member own_number [] h = tt
counted_below member own_number (l ∷ ls) h = (
  (λ m o. let one = counted_once l in let same : counts member own_number l ≡ counts l.member l.own_number l = ap (λ (i : ℕ). counts i own_number l) m ∙ ap (λ (i : ℕ). counts l.member i l) o in omega arith),
  counted_below member own_number ls (omega arith),
)

-- and no two, where it is at most one
pub listed_apart : (ls : List Listing) → ((member own_number : ℕ) → total (map (counts member own_number) ls) ≤ 1) → AllInOrder ListedApart ls
listed_apart [] h = tt
listed_apart (l ∷ ls) h = (
  counted_below l.member l.own_number ls (let one = counted_once l in let most = h l.member l.own_number in omega arith),
  listed_apart ls (λ member own_number. let most = h member own_number in omega arith),
)
