-- Looking: what everybody may know. It carries no time and changes nothing.
use Rattle.std.specs.Prelude.{length}
use Rattle.std.specs.Option.{option_map}
use Rattle.market.specs.Side.{turned_price}
use Rattle.room.specs.declared.answers.AuctionView.{AuctionView}
use Rattle.room.specs.declared.answers.View.{View}
use Rattle.room.specs.State.{OpenValues, RoomState}

-- The open auction's number, side, size and initiating price, not turned.
abbrev pub auction_view : OpenValues → AuctionView
auction_view a =
    record {
      number = a.number;
      side = a.values.order.side;
      size = a.values.order.size;
      initiating = turned_price a.values.order.side a.values.initiating;
    }

-- The room's time, whether it is halted, how many auctions wait, and the open auction, if any.
abbrev pub look_call : {P Q : Type 0} → RoomState P Q → View
look_call s =
    record { time = s.time; halted = s.halted; waiting = length s.waiting; auction = option_map auction_view s.current }
