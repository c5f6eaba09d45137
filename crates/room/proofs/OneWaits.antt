-- An auction that is opened while none waits leaves one that waits at most.
use Rattle.std.proofs.Common.{◌≡◌, ℕ, ◌≤◌, false, List, [], ◌∷◌, length, Some, None, Option, arith}
use Rattle.room.specs.Openings.{any_waits}
use Rattle.room.specs.State.{OpenValues, EndedValues, waiting_after_end}
use Rattle.room.proofs.Tests.{true_false}

pub one_waits : (cause : ℕ) (opened : Option OpenValues) (waiting : List EndedValues) → any_waits waiting ≡ false → length (waiting_after_end cause opened waiting) ≤ 1
one_waits cause None [] h = omega arith
one_waits cause (Some a) [] h = omega arith
one_waits cause opened (e ∷ es) h = true_false h
