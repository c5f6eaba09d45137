-- What was checked, as it was handed in: the same numbers, without their limits.
use Rattle.allocation.specs.declared.order.PairedOrder.{PairedOrder}
use Rattle.allocation.specs.declared.response.ResponseId.{ResponseId}
use Rattle.room.specs.declared.checked.CheckedChange.{CheckedChange}
use Rattle.room.specs.declared.checked.CheckedId.{CheckedId}
use Rattle.room.specs.declared.checked.CheckedOpening.{CheckedOpening}
use Rattle.room.specs.declared.checked.CheckedOrder.{CheckedOrder}
use Rattle.room.specs.declared.checked.CheckedResponse.{CheckedResponse}
use Rattle.room.specs.declared.checked.CheckedWithdrawal.{CheckedWithdrawal}
use Rattle.room.specs.declared.requests.ChangeRequest.{ChangeRequest}
use Rattle.room.specs.declared.requests.OpeningRequest.{OpeningRequest}
use Rattle.room.specs.declared.requests.ResponseRequest.{ResponseRequest}
use Rattle.room.specs.declared.requests.WithdrawRequest.{WithdrawRequest}

-- An order with its guarantee.
abbrev pub paired_order : CheckedOrder → PairedOrder
paired_order o =
    record {
      side = o.side;
      size = o.size.contracts;
      limit = o.limit.cents;
      guarantee = record { kind = o.guarantee.kind; price = o.guarantee.price.cents };
    }

-- An opening.
abbrev pub opening_request : CheckedOpening → OpeningRequest
opening_request x = record { time = x.time.milliseconds; member = x.member.number; order = paired_order x.order }

-- Which response of which member.
abbrev pub response_id : CheckedId → ResponseId
response_id x = record { member = x.member.number; own_number = x.own_number.number }

-- A response.
abbrev pub response_request : CheckedResponse → ResponseRequest
response_request x =
    record {
      time = x.time.milliseconds;
      member = x.of.member.number;
      own_number = x.of.own_number.number;
      side = x.side;
      kind = x.kind;
      class = x.class;
      size = x.size.contracts;
      price = x.price.cents;
    }

-- A change.
abbrev pub change_request : CheckedChange → ChangeRequest
change_request x =
    record {
      time = x.time.milliseconds;
      member = x.of.member.number;
      own_number = x.of.own_number.number;
      size = x.size.contracts;
      price = x.price.cents;
    }

-- A withdrawal.
abbrev pub withdrawal_request : CheckedWithdrawal → WithdrawRequest
withdrawal_request x = record { time = x.time.milliseconds; member = x.of.member.number; own_number = x.of.own_number.number }
