-- The letters of the causes for which an auction ends.
use Rattle.std.specs.Prelude.{ℕ}
use Rattle.std.specs.Str.{byte}
use Rattle.allocation.specs.declared.cause.EndCause.{EndCause}
use Rattle.allocation.specs.declared.cause.EndCause.TheVariants.{NextAuction, FloorAboveInitiating, FloorAboveResponse, FloorAboveStop, PlainBelowFloor, ContraBelowGuarantee, Halt, Deadline}

-- A another opening was accepted, B floor above the initiating price, C floor above a standing response, D floor above
-- a single stop, E a plain response priced below the floor, F contra price below the guarantee, H halt, T deadline
-- reached; as the codes of the letters.
abbrev pub cause_letter : EndCause → ℕ
cause_letter NextAuction = byte "A"
cause_letter FloorAboveInitiating = byte "B"
cause_letter FloorAboveResponse = byte "C"
cause_letter FloorAboveStop = byte "D"
cause_letter PlainBelowFloor = byte "E"
cause_letter ContraBelowGuarantee = byte "F"
cause_letter Halt = byte "H"
cause_letter Deadline = byte "T"
