-- Lemmas that Better-of keeps the laws of a market where its halves keep them.
use Rattle.std.proofs.Common.{◌≡◌, is_ok, Ok, Err, Result, refl, sym, ap, ◌∙◌}
use Rattle.market.specs.declared.better_of.Half.TheVariants.{Left, Right}
use Rattle.market.specs.BetterOf.{half_told, better_of_meaning}
use Rattle.market.specs.Market.{Meaning, RefusedLeaves, Apart, told_by}

-- naming the half of a fault leaves whether there is one
pub same_ok : {E F : Type 0} (f : E → F) (r : Result (Unit {0}) E) → is_ok (told_by f r) ≡ is_ok r
same_ok f (Ok u) = refl
same_ok f (Err e) = refl

-- a refused tick leaves the half that it is for by that market's own law, and the other since nothing
-- reaches it
pub refused_halves_stay : {P Q S T E F : Type 0} (m : Meaning P S E) (n : Meaning Q T F)
    → RefusedLeaves m → RefusedLeaves n → RefusedLeaves (better_of_meaning m n)
refused_halves_stay m n left right p (Left s) h =
    ap (λ x. (x, p.1)) (left p.0 s (sym (same_ok Left (m.answer p.0 s)) ∙ h))
refused_halves_stay m n left right p (Right t) h =
    ap (λ x. (p.0, x)) (right p.1 t (sym (same_ok Right (n.answer p.1 t)) ∙ h))

-- what is told of a half's fault tells the half, and the fault as far as that half tells it
pub halves_apart : {D E F G : Type 0} (f : D → F) (g : E → G) → Apart f → Apart g → Apart (half_told f g)
halves_apart f g a b (Left x) (Left y) h = ap Left (a x y cc)
halves_apart f g a b (Left x) (Right y) h = cc
halves_apart f g a b (Right x) (Left y) h = cc
halves_apart f g a b (Right x) (Right y) h = ap Right (b x y cc)
