-- Each statement's words are read as the statement.
use Rattle.std.proofs.Common.{◌≡◌, ℕ, ◌<◌, ◌^◌, true, List, [], ◌∷◌, ℤ, Ok, Some, None, refl, sym, ap, drop, ◌∙◌, arith}
use Rattle.std.specs.Prelude.{Result, Option}
use Rattle.std.specs.Fmt.{decimal, signed_decimal}
use Rattle.std.specs.List.{list_all}
use Rattle.allocation.specs.Response.{class_name}
use Rattle.allocation.specs.declared.order.GuaranteeKind.{GuaranteeKind}
use Rattle.allocation.specs.declared.order.GuaranteeKind.TheVariants.{SingleStop, AutoMatchLimit}
use Rattle.allocation.specs.declared.response.Class.{Class}
use Rattle.allocation.specs.declared.response.Class.TheVariants.{Customer, Other}
use Rattle.allocation.specs.declared.response.Kind.{Kind}
use Rattle.allocation.specs.declared.response.Kind.TheVariants.{Sealed, Plain}
use Rattle.market.specs.Cube.{CubeTick}
use Rattle.market.specs.Side.{side_name}
use Rattle.market.specs.declared.better_of.Half.TheVariants.{Left, Right}
use Rattle.market.specs.declared.leg.LegTick.{LegTick}
use Rattle.market.specs.declared.quote.Quote.{Quote}
use Rattle.market.specs.declared.side.Side.{Side}
use Rattle.market.specs.declared.side.Side.TheVariants.{Buy, Sell}
use Rattle.script.proofs.NumbersAgain.{plain_decimal, plain_signed, number_again, exact_again, price_again, price_in-signed, signed_is_not_none}
use Rattle.script.proofs.Spaced.{plain, and_true, line_words-with_blanks}
use Rattle.script.specs.declared.chosen.ChosenRanking.{ChosenRanking}
use Rattle.script.specs.declared.chosen.ChosenRanking.TheVariants.{Arrival, Size}
use Rattle.script.specs.declared.misread.Expected.{Expected}
use Rattle.script.specs.declared.misread.Expected.TheVariants as expected
use Rattle.script.specs.declared.misread.Misread.{Misread}
use Rattle.script.specs.declared.read.named.HalfName.TheVariants as half
use Rattle.script.specs.declared.read.named.SourceName.TheVariants as source
use Rattle.script.specs.declared.read.named.SourceName.{SourceName}
use Rattle.script.specs.declared.statement.IntervalTerms.{IntervalTerms}
use Rattle.script.specs.declared.statement.IntervalTerms.TheVariants.{Fixed, Drawn}
use Rattle.script.specs.declared.statement.Setting.TheVariants as setting
use Rattle.script.specs.declared.statement.Statement.{Statement}
use Rattle.script.specs.declared.statement.Statement.TheVariants as statement
use Rattle.room.specs.declared.answers.ClaimNumbers.{ClaimNumbers}
use Rattle.room.specs.declared.requests.OpeningRequest.{OpeningRequest}
use Rattle.room.specs.declared.requests.ResponseRequest.{ResponseRequest}
use Rattle.room.specs.declared.requests.ChangeRequest.{ChangeRequest}
use Rattle.room.specs.declared.requests.WithdrawRequest.{WithdrawRequest}
use Rattle.market.specs.declared.leg.LegTerms.{LegTerms}
use Rattle.script.specs.declared.statement.RangeQuestion.{RangeQuestion}
use Rattle.session.specs.declared.call.Call.TheVariants as call
use Rattle.script.specs.Grammar.{room, leg, ranking, interval, interval_of, tick, tick_of, open_auction, respond, change, withdraw, halt, resume, clock, collect, range, statement_after, whole, statement_of, statement_in}
use Rattle.script.specs.Fits.{StatementFits, CallFits, TickFits, BookPriceFits, IntervalFits, PriceFits}
use Rattle.script.specs.Parts.{side_named, ranking_named, guarantee_named, kind_named, class_named, book_price_named}
use Rattle.script.specs.Readers.{Word, go_on, one_of}
use Rattle.script.specs.Answer.{kind_text}
use Rattle.script.specs.Write.{ranking_name, guarantee_name, book_price_word, interval_words, tick_words, opening_words, response_words, call_words, statement_words, statement_text}

-- One step is read, and the next goes on.
then : {X Y : Type 0} {read : Result (X × List Word) Misread} {y : Result (Y × List Word) Misread} (next : X → List Word → Result (Y × List Word) Misread) (x : X) (rest : List Word)
    → read ≡ Ok (x, rest) → next x rest ≡ y → go_on read next ≡ y
then next x rest h k = rw h k

side_again : (s : Side) (ws : List Word) → one_of side_named expected.Side (side_name s ∷ ws) ≡ Ok (s, ws)
side_again Buy ws = refl
side_again Sell ws = refl

kind_again : (s : Kind) (ws : List Word) → one_of kind_named expected.Kind (kind_text s ∷ ws) ≡ Ok (s, ws)
kind_again Sealed ws = refl
kind_again Plain ws = refl

class_again : (s : Class) (ws : List Word) → one_of class_named expected.Class (class_name s ∷ ws) ≡ Ok (s, ws)
class_again Customer ws = refl
class_again Other ws = refl

guarantee_again : (s : GuaranteeKind) (ws : List Word) → one_of guarantee_named expected.Guarantee (guarantee_name s ∷ ws) ≡ Ok (s, ws)
guarantee_again SingleStop ws = refl
guarantee_again AutoMatchLimit ws = refl

ranking_again : (s : ChosenRanking) (ws : List Word) → one_of ranking_named expected.Ranking (ranking_name s ∷ ws) ≡ Ok (s, ws)
ranking_again Arrival ws = refl
ranking_again Size ws = refl

opening_again : (n : ℕ) (x : OpeningRequest) → CallFits n (call.Open x) → open_auction (opening_words x) ≡ Ok (statement.Call (call.Open x), [])
unfolding open_auction
opening_again n x (time, member, size, limit, price) =
    then _ x.time _ (number_again 64 x.time expected.Time _ time time)
    (then _ x.member _ (number_again 8 x.member expected.Member _ member (omega arith))
    (then _ x.order.side _ (side_again x.order.side _)
    (then _ x.order.size _ (number_again 32 x.order.size expected.Size _ size (omega arith))
    (then _ x.order.limit _ (price_again x.order.limit expected.Limit _ limit)
    (then _ x.order.guarantee.kind _ (guarantee_again x.order.guarantee.kind _)
    (then _ x.order.guarantee.price _ (price_again x.order.guarantee.price expected.Price _ price) refl))))))

response_again : (n : ℕ) (x : ResponseRequest) → CallFits n (call.Respond x) → respond (response_words x) ≡ Ok (statement.Call (call.Respond x), [])
unfolding respond
response_again n x (time, member, own_number, size, price) =
    then _ x.time _ (number_again 64 x.time expected.Time _ time time)
    (then _ x.member _ (number_again 8 x.member expected.Member _ member (omega arith))
    (then _ x.own_number _ (number_again 8 x.own_number expected.OwnNumber _ own_number (omega arith))
    (then _ x.side _ (side_again x.side _)
    (then _ x.kind _ (kind_again x.kind _)
    (then _ x.class _ (class_again x.class _)
    (then _ x.size _ (number_again 32 x.size expected.Size _ size (omega arith))
    (then _ x.price _ (price_again x.price expected.Price _ price) refl)))))))

change_again : (n : ℕ) (x : ChangeRequest) → CallFits n (call.Change x) → change (drop 1 (call_words (call.Change x))) ≡ Ok (statement.Call (call.Change x), [])
unfolding change
change_again n x (time, member, own_number, size, price) =
    then _ x.time _ (number_again 64 x.time expected.Time _ time time)
    (then _ x.member _ (number_again 8 x.member expected.Member _ member (omega arith))
    (then _ x.own_number _ (number_again 8 x.own_number expected.OwnNumber _ own_number (omega arith))
    (then _ x.size _ (number_again 32 x.size expected.Size _ size (omega arith))
    (then _ x.price _ (price_again x.price expected.Price _ price) refl))))

withdrawal_again : (n : ℕ) (x : WithdrawRequest) → CallFits n (call.Withdraw x) → withdraw (drop 1 (call_words (call.Withdraw x))) ≡ Ok (statement.Call (call.Withdraw x), [])
unfolding withdraw
withdrawal_again n x (time, member, own_number) =
    then _ x.time _ (number_again 64 x.time expected.Time _ time time)
    (then _ x.member _ (number_again 8 x.member expected.Member _ member (omega arith))
    (then _ x.own_number _ (number_again 8 x.own_number expected.OwnNumber _ own_number (omega arith)) refl))

book_price_again : (z : Option ℤ) (what : Expected) (ws : List Word) → BookPriceFits z → one_of book_price_named what (book_price_word z ∷ ws) ≡ Ok (z, ws)
book_price_again None what ws h = refl
book_price_again (Some z) what ws h = rw (signed_is_not_none z h, price_in-signed z h) refl

book_tick_again : (q : Quote) → TickFits (Left q) → tick_of half.Book (book_price_word q.bid ∷ book_price_word q.offer ∷ []) ≡ Ok (Left q, [])
book_tick_again q (bid, offer) =
    then _ q.bid _ (book_price_again q.bid expected.BookBid _ bid)
    (then _ q.offer _ (book_price_again q.offer expected.BookOffer _ offer) refl)

leg_tick_again : (x : LegTick) → TickFits (Right x) → tick_of half.Leg (decimal x.leg ∷ signed_decimal x.quote.bid ∷ signed_decimal x.quote.offer ∷ []) ≡ Ok (Right x, [])
leg_tick_again x (number, bid, offer) =
    then _ x.leg _ (number_again 32 x.leg expected.Leg _ number (omega arith))
    (then _ x.quote.bid _ (price_again x.quote.bid expected.Bid _ bid)
    (then _ x.quote.offer _ (price_again x.quote.offer expected.Offer _ offer) refl))

tick_again : (n : ℕ) (time : ℕ) (x : CubeTick) → CallFits n (call.Tick time x) → tick (drop 1 (call_words (call.Tick time x))) ≡ Ok (statement.Call (call.Tick time x), [])
unfolding tick
tick_again n time (Left q) (t, held) = then _ time _ (number_again 64 time expected.Time _ t t) (then _ (Left q) _ (book_tick_again q held) refl)
tick_again n time (Right x) (t, held) = then _ time _ (number_again 64 time expected.Time _ t t) (then _ (Right x) _ (leg_tick_again x held) refl)

halt_again : (time : ℕ) → time < 2 ^ 64 → halt (decimal time ∷ []) ≡ Ok (statement.Call (call.Halt time), [])
unfolding halt
halt_again time h = then _ time _ (number_again 64 time expected.Time _ h h) refl

resume_again : (time : ℕ) → time < 2 ^ 64 → resume (decimal time ∷ []) ≡ Ok (statement.Call (call.Resume time), [])
unfolding resume
resume_again time h = then _ time _ (number_again 64 time expected.Time _ h h) refl

clock_again : (time : ℕ) → time < 2 ^ 64 → clock (decimal time ∷ []) ≡ Ok (statement.Call (call.Clock time), [])
unfolding clock
clock_again time h = then _ time _ (number_again 64 time expected.Time _ h h) refl

collecting_again : (n : ℕ) (c : ClaimNumbers) (rows : ℕ) → CallFits n (call.Collect c rows) → collect n (decimal c.auction ∷ decimal rows ∷ []) ≡ Ok (statement.Call (call.Collect c rows), [])
unfolding collect
collecting_again n c rows (same, a, r) =
    then _ c.auction _ (number_again 32 c.auction expected.Auction _ a (omega arith))
    (then _ rows _ (number_again 64 rows expected.Rows _ r r) (ap (λ room. Ok (statement.Call (call.Collect (record { room = room; auction = c.auction }) rows), [])) (sym same)))

room_again : (number : ℕ) → number < 2 ^ 32 → room (decimal number ∷ []) ≡ Ok (statement.Setting (setting.Room number), [])
unfolding room
room_again number h = then _ number _ (exact_again number expected.RoomNumber _ h) refl

leg_again : (x : LegTerms) → x.ratio < 2 ^ 8 → leg (side_name x.side ∷ decimal x.ratio ∷ []) ≡ Ok (statement.Setting (setting.Leg x), [])
unfolding leg
leg_again x h =
    then _ x.side _ (side_again x.side _)
    (then _ x.ratio _ (number_again 8 x.ratio expected.Ratio _ h (omega arith)) refl)

ranking_told_again : (r : ChosenRanking) → ranking (ranking_name r ∷ []) ≡ Ok (statement.Setting (setting.Ranking r), [])
unfolding ranking
ranking_told_again r = then _ r _ (ranking_again r _) refl

-- The word that names a kind of interval.
abbrev source_of : IntervalTerms → SourceName
source_of (Fixed n) = source.Fixed
source_of (Drawn n) = source.Drawn

interval_of_again : (x : IntervalTerms) → IntervalFits x → interval_of (source_of x) (drop 1 (interval_words x)) ≡ Ok (x, [])
interval_of_again (Fixed n) h = then _ n _ (number_again 32 n expected.Milliseconds _ h (omega arith)) refl
interval_of_again (Drawn n) h = then _ n _ (exact_again n expected.Seed _ h) refl

interval_again : (x : IntervalTerms) → IntervalFits x → interval (interval_words x) ≡ Ok (statement.Setting (setting.Interval x), [])
unfolding interval
interval_again (Fixed n) h = then _ (Fixed n) _ (interval_of_again (Fixed n) h) refl
interval_again (Drawn n) h = then _ (Drawn n) _ (interval_of_again (Drawn n) h) refl

range_again : (q : RangeQuestion) → PriceFits q.limit → range (side_name q.side ∷ signed_decimal q.limit ∷ []) ≡ Ok (statement.Range q, [])
unfolding range
range_again q h =
    then _ q.side _ (side_again q.side _)
    (then _ q.limit _ (price_again q.limit expected.Limit _ h) refl)

-- The words of a statement say it.
pub words_again : (number : ℕ) (s : Statement) → StatementFits number s → statement_of number (statement_words s) ≡ Ok (Some s)
unfolding statement_after
words_again number (statement.Setting (setting.Room n)) h = ap whole (room_again n h)
words_again number (statement.Setting (setting.Leg x)) h = ap whole (leg_again x h)
words_again number (statement.Setting (setting.Ranking r)) h = ap whole (ranking_told_again r)
words_again number (statement.Setting (setting.Interval x)) h = ap whole (interval_again x h)
words_again number (statement.Call (call.Open x)) h = ap whole (opening_again number x h)
words_again number (statement.Call (call.Respond x)) h = ap whole (response_again number x h)
words_again number (statement.Call (call.Change x)) h = ap whole (change_again number x h)
words_again number (statement.Call (call.Withdraw x)) h = ap whole (withdrawal_again number x h)
words_again number (statement.Call (call.Tick time x)) h = ap whole (tick_again number time x h)
words_again number (statement.Call (call.Halt time)) h = ap whole (halt_again time h)
words_again number (statement.Call (call.Resume time)) h = ap whole (resume_again time h)
words_again number (statement.Call (call.Clock time)) h = ap whole (clock_again time h)
words_again number (statement.Call call.Look) h = refl
words_again number (statement.Call (call.Collect c rows)) h = ap whole (collecting_again number c rows h)
words_again number (statement.Range q) h = ap whole (range_again q h)

-- The words of a statement are plain.
plain_book_price : (z : Option ℤ) → BookPriceFits z → plain (book_price_word z) ≡ true
plain_book_price None h = refl
plain_book_price (Some z) h = plain_signed z h

plain_side : (s : Side) → plain (side_name s) ≡ true
plain_side Buy = refl
plain_side Sell = refl

plain_kind : (s : Kind) → plain (kind_text s) ≡ true
plain_kind Sealed = refl
plain_kind Plain = refl

plain_class : (s : Class) → plain (class_name s) ≡ true
plain_class Customer = refl
plain_class Other = refl

plain_guarantee : (s : GuaranteeKind) → plain (guarantee_name s) ≡ true
plain_guarantee SingleStop = refl
plain_guarantee AutoMatchLimit = refl

plain_ranking : (s : ChosenRanking) → plain (ranking_name s) ≡ true
plain_ranking Arrival = refl
plain_ranking Size = refl

plain_interval : (x : IntervalTerms) → IntervalFits x → list_all plain (interval_words x) ≡ true
plain_interval (Fixed n) h = and_true refl (and_true (plain_decimal n (omega arith)) refl)
plain_interval (Drawn n) h = and_true refl (and_true (plain_decimal n (omega arith)) refl)

plain_tick : (x : CubeTick) → TickFits x → list_all plain (tick_words x) ≡ true
plain_tick (Left q) (bid, offer) = and_true refl (and_true (plain_book_price q.bid bid) (and_true (plain_book_price q.offer offer) refl))
plain_tick (Right x) (number, bid, offer) =
    and_true refl (and_true (plain_decimal x.leg (omega arith)) (and_true (plain_signed x.quote.bid bid) (and_true (plain_signed x.quote.offer offer) refl)))

plain_words : (number : ℕ) (s : Statement) → StatementFits number s → list_all plain (statement_words s) ≡ true
plain_words number (statement.Setting (setting.Room n)) h = and_true refl (and_true (plain_decimal n (omega arith)) refl)
plain_words number (statement.Setting (setting.Leg x)) h = and_true refl (and_true (plain_side x.side) (and_true (plain_decimal x.ratio (omega arith)) refl))
plain_words number (statement.Setting (setting.Ranking r)) h = and_true refl (and_true (plain_ranking r) refl)
plain_words number (statement.Setting (setting.Interval x)) h = and_true refl (plain_interval x h)
plain_words number (statement.Call (call.Open x)) (time, member, size, limit, price) =
    and_true refl (and_true (plain_decimal x.time time) (and_true (plain_decimal x.member (omega arith)) (and_true (plain_side x.order.side) (and_true (plain_decimal x.order.size (omega arith))
    (and_true refl (and_true (plain_signed x.order.limit limit) (and_true (plain_guarantee x.order.guarantee.kind) (and_true (plain_signed x.order.guarantee.price price) refl))))))))
plain_words number (statement.Call (call.Respond x)) (time, member, own_number, size, price) =
    and_true refl (and_true (plain_decimal x.time time) (and_true (plain_decimal x.member (omega arith)) (and_true (plain_decimal x.own_number (omega arith)) (and_true (plain_side x.side)
    (and_true (plain_kind x.kind) (and_true (plain_class x.class) (and_true (plain_decimal x.size (omega arith)) (and_true refl (and_true (plain_signed x.price price) refl)))))))))
plain_words number (statement.Call (call.Change x)) (time, member, own_number, size, price) =
    and_true refl (and_true (plain_decimal x.time time) (and_true (plain_decimal x.member (omega arith)) (and_true (plain_decimal x.own_number (omega arith))
    (and_true (plain_decimal x.size (omega arith)) (and_true refl (and_true (plain_signed x.price price) refl))))))
plain_words number (statement.Call (call.Withdraw x)) (time, member, own_number) =
    and_true refl (and_true (plain_decimal x.time time) (and_true (plain_decimal x.member (omega arith)) (and_true (plain_decimal x.own_number (omega arith)) refl)))
plain_words number (statement.Call (call.Tick time x)) (t, held) = and_true refl (and_true (plain_decimal time t) (plain_tick x held))
plain_words number (statement.Call (call.Halt time)) h = and_true refl (and_true (plain_decimal time h) refl)
plain_words number (statement.Call (call.Resume time)) h = and_true refl (and_true (plain_decimal time h) refl)
plain_words number (statement.Call (call.Clock time)) h = and_true refl (and_true (plain_decimal time h) refl)
plain_words number (statement.Call call.Look) h = refl
plain_words number (statement.Call (call.Collect c rows)) (same, a, r) = and_true refl (and_true (plain_decimal c.auction (omega arith)) (and_true (plain_decimal rows r) refl))
plain_words number (statement.Range q) h = and_true refl (and_true (plain_side q.side) (and_true (plain_signed q.limit h) refl))

-- The text of a statement is read as the statement.
pub statement_again : (number : ℕ) (s : Statement) → StatementFits number s → statement_in number (statement_text s) ≡ Ok (Some s)
statement_again number s h = ap (statement_of number) (line_words-with_blanks (statement_words s) (plain_words number s h)) ∙ words_again number s h
