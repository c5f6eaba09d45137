-- Which rows are of one class at one price, and what a turned price turned once more is.
use Rattle.std.proofs.Common.{◌≡◌, true, false, not, ◌&&◌, List, ℤ, ◌<ℤ◌, sym, refl, subst, arith}
use borrow.Author.Differences.{ints}
use lib.Signed.{lt_z}
use Rattle.std.proofs.lemmas.Bool.{and_from, and_left, and_right, not_from_true, not_from_false}
use Rattle.market.specs.declared.side.Side.{Side}
use Rattle.market.specs.declared.side.Side.TheVariants.{Buy, Sell}
use Rattle.market.specs.Side.{turned_price}
use Rattle.allocation.specs.declared.fill.FillRow.{FillRow}
use Rattle.allocation.specs.declared.response.Class.{Class}
use Rattle.allocation.specs.declared.response.Class.TheVariants.{Customer, Other}
use Rattle.allocation.specs.FillLaws.{of_response, filled_in, size_in, same_price, same_class, classmate, classmates, ProRata}

pub turned_twice : (side : Side) (z : ℤ) → turned_price side (turned_price side z) ≡ z
turned_twice Buy z = refl
turned_twice Sell z = grind (arith, ints)

pub same_class_self : (c : Class) → same_class c c ≡ true
same_class_self Customer = refl
same_class_self Other = refl

pub same_price_self : (a : ℤ) → same_price a a ≡ true
same_price_self a = let no : lt_z a a ≡ false = grind (arith, ints) in and_from (not (lt_z a a)) (not (lt_z a a)) (not_from_false (lt_z a a) no) (not_from_false (lt_z a a) no)

price_above : (side : Side) (a b : ℤ) → turned_price side a <ℤ turned_price side b → same_price a b ≡ false
price_above Buy a b h = and_left (not (lt_z a b)) (not (lt_z b a)) (not_from_true (lt_z a b) (grind (arith, ints)))
price_above Sell a b h = and_right (not (lt_z a b)) (not (lt_z b a)) (not_from_true (lt_z b a) (grind (arith, ints)))

price_below : (side : Side) (a b : ℤ) → turned_price side b <ℤ turned_price side a → same_price a b ≡ false
price_below Buy a b h = and_right (not (lt_z a b)) (not (lt_z b a)) (not_from_true (lt_z b a) (grind (arith, ints)))
price_below Sell a b h = and_left (not (lt_z a b)) (not (lt_z b a)) (not_from_true (lt_z a b) (grind (arith, ints)))

pub mate_same : (f g : FillRow) → of_response g ≡ true → f.class ≡ g.class → f.price ≡ g.price → classmate f g ≡ true
mate_same f g r c p =
    and_from (of_response g) (same_class f.class g.class && same_price f.price g.price) r
    (and_from (same_class f.class g.class) (same_price f.price g.price)
    (subst (λ (x : Class). same_class f.class x ≡ true) c (same_class_self f.class))
    (subst (λ (x : ℤ). same_price f.price x ≡ true) p (same_price_self f.price)))

pub mate_contra : (f g : FillRow) → of_response g ≡ false → classmate f g ≡ false
mate_contra f g r = and_left (of_response g) (same_class f.class g.class && same_price f.price g.price) r

pub mate_class : (f g : FillRow) → same_class f.class g.class ≡ false → classmate f g ≡ false
mate_class f g e =
    and_right (of_response g) (same_class f.class g.class && same_price f.price g.price)
    (and_left (same_class f.class g.class) (same_price f.price g.price) e)

mate_price : (f g : FillRow) → same_price f.price g.price ≡ false → classmate f g ≡ false
mate_price f g e =
    and_right (of_response g) (same_class f.class g.class && same_price f.price g.price)
    (and_right (same_class f.class g.class) (same_price f.price g.price) e)

pub mate_above : (side : Side) (f g : FillRow) → turned_price side f.price <ℤ turned_price side g.price → classmate f g ≡ false
mate_above side f g h = mate_price f g (price_above side f.price g.price h)

pub mate_below : (side : Side) (f g : FillRow) → turned_price side g.price <ℤ turned_price side f.price → classmate f g ≡ false
mate_below side f g h = mate_price f g (price_below side f.price g.price h)

-- the same classmates, the same part
pub near_mates : (f : FillRow) (rows mates : List FillRow) → classmates f rows ≡ mates → ProRata (filled_in mates) (size_in mates) f → ProRata (filled_in (classmates f rows)) (size_in (classmates f rows)) f
near_mates f rows mates e h = subst (λ (gs : List FillRow). ProRata (filled_in gs) (size_in gs) f) (sym e) h
