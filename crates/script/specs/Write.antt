-- The text of each statement: its words, with a blank between two.
use Rattle.std.specs.Prelude.{ℕ, ℤ, List, [], ◌∷◌, ◌++◌, codes, Option, Some, None}
use Rattle.std.specs.Fmt.{decimal, signed_decimal}
use Rattle.allocation.specs.Response.{class_name}
use Rattle.allocation.specs.declared.order.GuaranteeKind.{GuaranteeKind}
use Rattle.allocation.specs.declared.order.GuaranteeKind.TheVariants.{SingleStop, AutoMatchLimit}
use Rattle.market.specs.declared.better_of.Half.TheVariants.{Left, Right}
use Rattle.market.specs.Cube.{CubeTick}
use Rattle.market.specs.Side.{side_name}
use Rattle.room.specs.declared.requests.OpeningRequest.{OpeningRequest}
use Rattle.room.specs.declared.requests.ResponseRequest.{ResponseRequest}
use Rattle.script.specs.Readers.{Word}
use Rattle.script.specs.Answer.{kind_text}
use Rattle.script.specs.declared.chosen.ChosenRanking.{ChosenRanking}
use Rattle.script.specs.declared.chosen.ChosenRanking.TheVariants.{Arrival, Size}
use Rattle.script.specs.declared.statement.IntervalTerms.{IntervalTerms}
use Rattle.script.specs.declared.statement.IntervalTerms.TheVariants.{Fixed, Drawn}
use Rattle.script.specs.declared.statement.Setting.TheVariants as setting
use Rattle.script.specs.declared.statement.Setting.{Setting}
use Rattle.script.specs.declared.statement.Statement.{Statement}
use Rattle.script.specs.declared.statement.Statement.TheVariants as statement
use Rattle.session.specs.declared.call.Call.{Call}
use Rattle.session.specs.declared.call.Call.TheVariants as call

-- Words with a blank between two.
abbrev pub with_blanks : List Word → List ℕ
with_blanks [] = []
with_blanks (w ∷ []) = w
with_blanks (w ∷ v ∷ ws) = w ++ (32 ∷ with_blanks (v ∷ ws))

abbrev pub ranking_name : ChosenRanking → Word
ranking_name Arrival = codes "arrival"
ranking_name Size = codes "size"

abbrev pub guarantee_name : GuaranteeKind → Word
guarantee_name SingleStop = codes "stop"
guarantee_name AutoMatchLimit = codes "match"

abbrev pub book_price_word : Option ℤ → Word
book_price_word None = codes "none"
book_price_word (Some z) = signed_decimal z

abbrev pub interval_words : IntervalTerms → List Word
interval_words (Fixed milliseconds) = codes "fixed" ∷ decimal milliseconds ∷ []
interval_words (Drawn seed) = codes "drawn" ∷ decimal seed ∷ []

abbrev pub setting_words : Setting → List Word
setting_words (setting.Room number) = codes "room" ∷ decimal number ∷ []
setting_words (setting.Leg x) = codes "leg" ∷ side_name x.side ∷ decimal x.ratio ∷ []
setting_words (setting.Ranking r) = codes "ranking" ∷ ranking_name r ∷ []
setting_words (setting.Interval x) = codes "interval" ∷ interval_words x

abbrev pub tick_words : CubeTick → List Word
tick_words (Left q) = codes "book" ∷ book_price_word q.bid ∷ book_price_word q.offer ∷ []
tick_words (Right t) = codes "leg" ∷ decimal t.leg ∷ signed_decimal t.quote.bid ∷ signed_decimal t.quote.offer ∷ []

-- What stands behind `open`.
abbrev pub opening_words : OpeningRequest → List Word
opening_words x = decimal x.time ∷ decimal x.member ∷ side_name x.order.side ∷ decimal x.order.size ∷ codes "@" ∷ signed_decimal x.order.limit ∷ guarantee_name x.order.guarantee.kind ∷ signed_decimal x.order.guarantee.price ∷ []

-- What stands behind `respond`.
abbrev pub response_words : ResponseRequest → List Word
response_words x = decimal x.time ∷ decimal x.member ∷ decimal x.own_number ∷ side_name x.side ∷ kind_text x.kind ∷ class_name x.class ∷ decimal x.size ∷ codes "@" ∷ signed_decimal x.price ∷ []

-- A collecting names its auction alone, since a script has one room.
abbrev pub call_words : Call CubeTick → List Word
call_words (call.Open x) = codes "open" ∷ opening_words x
call_words (call.Respond x) = codes "respond" ∷ response_words x
call_words (call.Change x) = codes "change" ∷ decimal x.time ∷ decimal x.member ∷ decimal x.own_number ∷ decimal x.size ∷ codes "@" ∷ signed_decimal x.price ∷ []
call_words (call.Withdraw x) = codes "withdraw" ∷ decimal x.time ∷ decimal x.member ∷ decimal x.own_number ∷ []
call_words (call.Tick time tick) = codes "tick" ∷ decimal time ∷ tick_words tick
call_words (call.Halt time) = codes "halt" ∷ decimal time ∷ []
call_words (call.Resume time) = codes "resume" ∷ decimal time ∷ []
call_words (call.Clock time) = codes "clock" ∷ decimal time ∷ []
call_words call.Look = codes "look" ∷ []
call_words (call.Collect c rows) = codes "collect" ∷ decimal c.auction ∷ decimal rows ∷ []

abbrev pub statement_words : Statement → List Word
statement_words (statement.Setting s) = setting_words s
statement_words (statement.Call c) = call_words c
statement_words (statement.Range q) = codes "range" ∷ side_name q.side ∷ signed_decimal q.limit ∷ []

abbrev pub statement_text : Statement → List ℕ
statement_text s = with_blanks (statement_words s)
