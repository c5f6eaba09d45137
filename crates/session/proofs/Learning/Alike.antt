-- Every list of calls is alike to itself, and of two alike lists it does not matter which comes first.
use Rattle.std.proofs.Common.{◌≡◌, inl, inr, ℕ, Bool, [], ◌∷◌, sym, refl, subst}
use Rattle.session.specs.declared.call.Call.{Call}
use Rattle.session.specs.declared.call.Call.TheVariants.{Open, Respond, Change}
use Rattle.session.specs.Learning.{HiddenOrEqual, hidden_from, price_inside, size_inside, class_inside, Alike, AlikeToItself, AlikeBothWays}

pub one_to_itself : {T : Type 0} (u : ℕ) (c : Call T) → Alike u c c
one_to_itself u (Open x) = record { time = refl; member = refl; side = refl; size = refl; limit = refl; guarantee_price = inr refl }
one_to_itself u (Respond x) = record { time = refl; member = refl; own_number = refl; side = refl; kind = refl; price = inr refl; size = inr refl; class = inr refl }
one_to_itself u (Change x) = record { time = refl; member = refl; own_number = refl; price = inr refl; size = inr refl }
one_to_itself u c = refl

pub alike_to_itself : {T : Type 0} → AlikeToItself T
alike_to_itself u [] = tt
alike_to_itself u (c ∷ cs) = (one_to_itself u c, alike_to_itself u cs)

either_way : {X : Type 0} (hidden : X → Bool) (x y : X) → HiddenOrEqual hidden x y → HiddenOrEqual hidden y x
either_way hidden x y (inl h) = inl (h.1, h.0)
either_way hidden x y (inr e) = inr (sym e)

-- A term of the same sender.
sent_either_way : {X : Type 0} (u m n : ℕ) (in_limits : X → Bool) (x y : X) → m ≡ n
    → HiddenOrEqual (hidden_from u m in_limits) x y → HiddenOrEqual (hidden_from u n in_limits) y x
sent_either_way u m n in_limits x y e h =
    subst (λ k. HiddenOrEqual (hidden_from u k in_limits) y x) e (either_way (hidden_from u m in_limits) x y h)

one_both_ways : {T : Type 0} (u : ℕ) (c d : Call T) → Alike u c d → Alike u d c
one_both_ways u (Open x) (Open y) a = record {
  time = sym a.time;
  member = sym a.member;
  side = sym a.side;
  size = sym a.size;
  limit = sym a.limit;
  guarantee_price = either_way price_inside x.order.guarantee.price y.order.guarantee.price a.guarantee_price;
}
one_both_ways u (Respond x) (Respond y) a = record {
  time = sym a.time;
  member = sym a.member;
  own_number = sym a.own_number;
  side = sym a.side;
  kind = sym a.kind;
  price = sent_either_way u x.member y.member price_inside x.price y.price a.member a.price;
  size = sent_either_way u x.member y.member size_inside x.size y.size a.member a.size;
  class = sent_either_way u x.member y.member class_inside x.class y.class a.member a.class;
}
one_both_ways u (Change x) (Change y) a = record {
  time = sym a.time;
  member = sym a.member;
  own_number = sym a.own_number;
  price = sent_either_way u x.member y.member price_inside x.price y.price a.member a.price;
  size = sent_either_way u x.member y.member size_inside x.size y.size a.member a.size;
}
one_both_ways u c d a = subst (λ e. Alike u e c) a (one_to_itself u c)

pub alike_both_ways : {T : Type 0} → AlikeBothWays T
alike_both_ways u [] [] a = a
alike_both_ways u [] (d ∷ ds) a = a
alike_both_ways u (c ∷ cs) [] a = a
alike_both_ways u (c ∷ cs) (d ∷ ds) a = (one_both_ways u c d a.0, alike_both_ways u cs ds a.1)
