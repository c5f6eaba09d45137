-- The checks of what is handed in, in their order; the first that fails is told, and then nothing changes,
-- not even the clock.
use Rattle.std.specs.Prelude.{ℕ, Bool, not, ℤ, Some, None, Option, nat_lt}
use Rattle.market.specs.Limits.{in_limits}
use Rattle.allocation.specs.AuctionInvariant.{from_to}
use Rattle.room.specs.declared.requests.OpeningRequest.{OpeningRequest}
use Rattle.room.specs.declared.requests.ResponseRequest.{ResponseRequest}
use Rattle.room.specs.declared.requests.ChangeRequest.{ChangeRequest}
use Rattle.room.specs.declared.requests.WithdrawRequest.{WithdrawRequest}
use Rattle.room.specs.Refusals.{refuse}

-- Prices that are handed in are −40,000,000 to 40,000,000.
abbrev pub price_ok : ℤ → Bool
price_ok z = in_limits (Some z)

-- Sizes are 1 to 100,000 contracts.
abbrev pub size_ok : ℕ → Bool
size_ok = from_to 1 100000

-- 1: times are 0 to 4,000,000,000,000 milliseconds.
abbrev pub time_checked : ℕ → Option ℕ → Option ℕ
time_checked t = refuse (nat_lt 4000000000000 t) 1

-- 2: a price outside its limits.
abbrev pub price_checked : ℤ → Option ℕ → Option ℕ
price_checked z = refuse (not (price_ok z)) 2

-- 3: a size outside its limits.
abbrev pub size_checked : ℕ → Option ℕ → Option ℕ
size_checked n = refuse (not (size_ok n)) 3

-- 4: members are 1 to 16.
abbrev pub member_checked : ℕ → Option ℕ → Option ℕ
member_checked m = refuse (not (from_to 1 16 m)) 4

-- 5: own numbers are 1 to 4.
abbrev pub own_checked : ℕ → Option ℕ → Option ℕ
own_checked o = refuse (not (from_to 1 4 o)) 5

-- An opening: time, limit price, guarantee's price, size, member.
abbrev pub open_checks : OpeningRequest → Option ℕ
open_checks o =
    time_checked o.time
    (price_checked o.order.limit
    (price_checked o.order.guarantee.price
    (size_checked o.order.size
    (member_checked o.member None))))

-- A response: time, price, size, member, own number.
abbrev pub respond_checks : ResponseRequest → Option ℕ
respond_checks x =
    time_checked x.time (price_checked x.price (size_checked x.size (member_checked x.member (own_checked x.own_number None))))

-- A change: the same.
abbrev pub change_checks : ChangeRequest → Option ℕ
change_checks x =
    time_checked x.time (price_checked x.price (size_checked x.size (member_checked x.member (own_checked x.own_number None))))

-- A withdrawal: time, member, own number.
abbrev pub withdraw_checks : WithdrawRequest → Option ℕ
withdraw_checks x = time_checked x.time (member_checked x.member (own_checked x.own_number None))

-- A tick, a halt, a resume and a clock call: the time.
abbrev pub time_checks : ℕ → Option ℕ
time_checks t = time_checked t None

-- 6: a collecting hands in a list of at least 129 rows.
abbrev pub collect_checks : ℕ → Option ℕ
collect_checks rows = refuse (nat_lt rows 129) 6 None
