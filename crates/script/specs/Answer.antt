-- The text of each answer, as the transcript has it behind the line's number.
use Rattle.std.specs.Prelude.{ℕ, ℤ, List, [], ◌∷◌, ◌++◌, codes, cond, ◌==◌, Option, Some, None}
use Rattle.std.specs.Fmt.{decimal, signed_decimal}
use Rattle.std.specs.List.{flat_map}
use Rattle.allocation.specs.Response.{class_name}
use Rattle.allocation.specs.declared.fill.FillRow.{FillRow}
use Rattle.allocation.specs.declared.response.Kind.{Kind}
use Rattle.allocation.specs.declared.response.Kind.TheVariants.{Sealed, Plain}
use Rattle.market.specs.declared.better_of.Half.TheVariants.{Left, Right}
use Rattle.market.specs.Side.{side_name}
use Rattle.room.specs.declared.answers.AuctionView.{AuctionView}
use Rattle.room.specs.declared.answers.StoredTerms.{StoredTerms}
use Rattle.room.specs.declared.answers.View.{View}
use Rattle.room.specs.Collecting.{CollectionTold}
use Rattle.room.specs.Refusals.{RefusalTold}
use Rattle.script.specs.declared.transcript.range.RangeTold.{RangeTold}
use Rattle.market.specs.Cube.{CubeFaultTold}
use Rattle.script.specs.Told.{AnswerTold}
use Rattle.session.specs.Runs.{Opened, Stored, Accepted, Looked, Collected, Refused}

abbrev pub kind_text : Kind → List ℕ
kind_text Sealed = codes "sealed"
kind_text Plain = codes "plain"

-- 30 @ 300
abbrev pub stored_text : StoredTerms → List ℕ
stored_text s = decimal s.size ++ codes " @ " ++ signed_decimal s.price

-- member 2 own 1 customer sealed, or contra, whose rows have the member 0
abbrev pub party_text : FillRow → List ℕ
party_text r = cond (r.member == 0) (codes "contra")
    (codes "member " ++ decimal r.member ++ codes " own " ++ decimal r.own_number ++ codes " " ++ class_name r.class ++ codes " " ++ kind_text r.kind)

-- 300 member 2 own 1 customer sealed filled 30 left 0
abbrev pub row_text : FillRow → List ℕ
row_text r = signed_decimal r.price ++ codes " " ++ party_text r ++ codes " filled " ++ decimal r.filled ++ codes " left " ++ decimal r.left

-- Each row on a line of its own, two blanks in front.
abbrev pub rows_text : List FillRow → List ℕ
rows_text rows = flat_map (λ r. codes "\n  " ++ row_text r) rows

-- auction 1 buy 100 @ 304, or no auction
abbrev pub auction_text : Option AuctionView → List ℕ
auction_text None = codes "no auction"
auction_text (Some a) = codes "auction " ++ decimal a.number ++ codes " " ++ side_name a.side ++ codes " " ++ decimal a.size ++ codes " @ " ++ signed_decimal a.initiating

-- time 10003 running waiting 0 auction 1 buy 100 @ 304
abbrev pub view_text : View → List ℕ
view_text v = codes "time " ++ decimal v.time ++ codes " " ++ cond v.halted (codes "halted") (codes "running") ++ codes " waiting " ++ decimal v.waiting ++ codes " " ++ auction_text v.auction

-- leg cause 3 place 2: which half of the market refused, the cause and the place
abbrev pub fault_text : CubeFaultTold → List ℕ
fault_text (Left e) = codes "book cause " ++ decimal e.cause ++ codes " place " ++ decimal e.place
fault_text (Right e) = codes "leg cause " ++ decimal e.cause ++ codes " place " ++ decimal e.place

-- What a refusal has behind its number: the market's fault, if it holds one.
abbrev pub fault_behind : Option CubeFaultTold → List ℕ
fault_behind None = []
fault_behind (Some e) = codes " " ++ fault_text e

-- 15, or 31 leg cause 3 place 2
abbrev pub refusal_text : RefusalTold CubeFaultTold → List ℕ
refusal_text e = decimal e.number ++ fault_behind e.fault

-- 4 cause T
abbrev pub collection_text : CollectionTold → List ℕ
collection_text c = decimal c.count ++ codes " cause " ++ c.cause ∷ []

-- collected 4 cause T, and the rows
abbrev pub collected_text : CollectionTold → List FillRow → List ℕ
collected_text c rows = codes "collected " ++ collection_text c ++ rows_text rows

abbrev pub answer_text : AnswerTold → List ℕ
answer_text None = codes "no claim"
answer_text (Some (Opened c)) = codes "opened " ++ decimal c.auction
answer_text (Some (Stored s)) = codes "stored " ++ stored_text s
answer_text (Some Accepted) = codes "accepted"
answer_text (Some (Looked v)) = view_text v
answer_text (Some (Collected c rows)) = collected_text c rows
answer_text (Some (Refused e)) = codes "refused " ++ refusal_text e

-- 294 to 304
abbrev pub span_text : ℤ → ℤ → List ℕ
span_text lower higher = signed_decimal lower ++ codes " to " ++ signed_decimal higher

-- range 294 to 304 initiating 304
abbrev pub range_text : RangeTold → List ℕ
range_text r = codes "range " ++ (span_text r.lowest r.highest ++ (codes " initiating " ++ signed_decimal r.initiating))
