-- What a market means, and the terms that every market keeps.
use Rattle.std.specs.Prelude.{◌≡◌, true, false, is_ok, None, Result}
use Rattle.std.specs.Result.{result_map_both}
use Rattle.market.specs.declared.quote.Quote.{Quote}
use Rattle.market.specs.Limits.{showable}

-- A market of positions P, ticks T and faults that are told as F: what a position shows, how it answers a
-- tick, and which position follows. All three follow from the position, and the last two from the tick as
-- well, and from nothing else.
pub record Meaning (P T F : Type 0) : Type 0 where
  pub shows : P → Quote
  pub answer : P → T → Result (Unit {0}) F
  pub next : P → T → P

-- An answer as it is told: what `f` tells of its fault or refusal stands in its place.
abbrev pub told_by : {X E F : Type 0} → (E → F) → Result X E → Result X F
told_by f = result_map_both (λ x. x) f

-- No price on either side.
abbrev pub nothing_shown : Quote
nothing_shown = record { bid = None; offer = None }

-- Each price shown is at most 50,000,000 cents either way.
abbrev pub Bounded : Quote → Type 0
Bounded q = (showable q.bid ≡ true) × (showable q.offer ≡ true)

-- A refused tick leaves the position.
abbrev pub RefusedLeaves : {P T F : Type 0} → Meaning P T F → Type 0
RefusedLeaves {P} {T} m = (p : P) (t : T) → is_ok (m.answer p t) ≡ false → m.next p t ≡ p

-- Of two values of which the same is told, nothing tells them apart: they are the same.
abbrev pub Apart : {E F : Type 0} → (E → F) → Type 0
Apart {E} f = (d e : E) → f d ≡ f e → d ≡ e
