-- Which statements there are in code, in the script of a room: their numbers are such as the words of their types hold, and a
-- collecting is one of that room.
use Rattle.market.specs.Cube.{CubeTick}
use Rattle.std.specs.Prelude.{◌≡◌, ℕ, ◌<◌, ◌^◌, ℤ, Option, Some, None, FitsSigned}
use Rattle.std.specs.Int.{w64}
use Rattle.market.specs.declared.better_of.Half.TheVariants.{Left, Right}
use Rattle.script.specs.declared.statement.IntervalTerms.{IntervalTerms}
use Rattle.script.specs.declared.statement.IntervalTerms.TheVariants.{Fixed, Drawn}
use Rattle.script.specs.declared.statement.Setting.TheVariants as setting
use Rattle.script.specs.declared.statement.Setting.{Setting}
use Rattle.script.specs.declared.statement.Statement.{Statement}
use Rattle.script.specs.declared.statement.Statement.TheVariants as statement
use Rattle.session.specs.declared.call.Call.{Call}
use Rattle.session.specs.declared.call.Call.TheVariants as call

-- A price is in 64 bits with a sign.
abbrev pub PriceFits : ℤ → Type 0
PriceFits z = FitsSigned w64 z

abbrev pub BookPriceFits : Option ℤ → Type 0
BookPriceFits None = Unit {0}
BookPriceFits (Some z) = PriceFits z

abbrev pub IntervalFits : IntervalTerms → Type 0
IntervalFits (Fixed milliseconds) = milliseconds < 2 ^ 32
IntervalFits (Drawn seed) = seed < 2 ^ 32

abbrev pub SettingFits : Setting → Type 0
SettingFits (setting.Room number) = number < 2 ^ 32
SettingFits (setting.Leg x) = x.ratio < 2 ^ 8
SettingFits (setting.Ranking r) = Unit {0}
SettingFits (setting.Interval x) = IntervalFits x

abbrev pub TickFits : CubeTick → Type 0
TickFits (Left q) = BookPriceFits q.bid × BookPriceFits q.offer
TickFits (Right t) = (t.leg < 2 ^ 32) × PriceFits t.quote.bid × PriceFits t.quote.offer

abbrev pub CallFits : ℕ → Call CubeTick → Type 0
CallFits room (call.Open x) = (x.time < 2 ^ 64) × (x.member < 2 ^ 8) × (x.order.size < 2 ^ 32) × PriceFits x.order.limit × PriceFits x.order.guarantee.price
CallFits room (call.Respond x) = (x.time < 2 ^ 64) × (x.member < 2 ^ 8) × (x.own_number < 2 ^ 8) × (x.size < 2 ^ 32) × PriceFits x.price
CallFits room (call.Change x) = (x.time < 2 ^ 64) × (x.member < 2 ^ 8) × (x.own_number < 2 ^ 8) × (x.size < 2 ^ 32) × PriceFits x.price
CallFits room (call.Withdraw x) = (x.time < 2 ^ 64) × (x.member < 2 ^ 8) × (x.own_number < 2 ^ 8)
CallFits room (call.Tick time tick) = (time < 2 ^ 64) × TickFits tick
CallFits room (call.Halt time) = time < 2 ^ 64
CallFits room (call.Resume time) = time < 2 ^ 64
CallFits room (call.Clock time) = time < 2 ^ 64
CallFits room call.Look = Unit {0}
CallFits room (call.Collect c rows) = (c.room ≡ room) × (c.auction < 2 ^ 32) × (rows < 2 ^ 64)

abbrev pub StatementFits : ℕ → Statement → Type 0
StatementFits room (statement.Setting s) = SettingFits s
StatementFits room (statement.Call c) = CallFits room c
StatementFits room (statement.Range q) = PriceFits q.limit
