-- None waits before the opening, so only the auction that it ends can wait afterwards.
use Rattle.std.proofs.Common.{length, ap, arith}
use Rattle.std.specs.Option.{option_map}
use Rattle.std.specs.Str.{byte}
use Rattle.room.specs.Rooms.{open_values, waiting_values}
use Rattle.room.specs.State.{RoomState}
use Rattle.room.proofs.OneWaits.{one_waits}
use Rattle.room.proofs.Room.begin.Goals as goal

pub invariant_of-self-clause-two : goal.invariant_of-self-clause-two
invariant_of-self-clause-two g c =
    let before = c.args.self.now in
    let waits = ap (λ (z : RoomState g.M.Market.Position g.S.IntervalSource.Position). length z.waiting) c.end.ensures.state in
    let one = one_waits (byte "A") (option_map open_values before.current) (waiting_values before.waiting) c.requires.none in
    omega arith
