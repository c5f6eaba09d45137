-- The fills of all collectings of a script, as values: each row, with its auction, its order and why it ended.
use Rattle.std.specs.Prelude.{◌≡◌, ℕ, List, [], ◌∷◌, ◌++◌, find, map, reverse, Option, Some, None, ◌==◌}
use Rattle.std.specs.List.{flat_map}
use Rattle.std.specs.Option.{option_map}
use Rattle.std.specs.Str.Lines.{lines}
use Rattle.allocation.specs.Cause.{cause_letter}
use Rattle.allocation.specs.declared.fill.FillRow.{FillRow}
use Rattle.allocation.specs.declared.order.PairedOrder.{PairedOrder}
use Rattle.day.specs.Calls.{call_in, calls_in}
use Rattle.day.specs.CarriedOut.{CarriedOut, CubeRoom, CubeWorld, answers_to}
use Rattle.day.specs.Lines.{Line, Entry, Call, script_lines, settings_behind_lines, room_of}
use Rattle.day.specs.Member.{answers_behind}
use Rattle.day.specs.declared.fills.Fill.{Fill}
use Rattle.day.specs.declared.fills.OpenedOrder.{OpenedOrder}
use Rattle.market.specs.declared.side.Side.{Side}
use Rattle.script.specs.declared.setup.room_terms.RoomTerms.{RoomTerms}
use Rattle.script.specs.Setup.{no_settings, room_in, room_values}
use Rattle.script.specs.Told.{AnswerTold}
use Rattle.session.specs.Closed.{ClosedTold}
use Rattle.session.specs.History.{auction_in, order_in}
use Rattle.session.specs.Runs.{Opened, Collected}

-- A row of a fill list, with its auction, the side and size of the order, and the letter of the cause.
pub record FillValue : Type 0 where
  pub auction : ℕ
  pub side : Side
  pub size : ℕ
  pub cause : ℕ
  pub row : FillRow

abbrev pub fill_value : Fill → FillValue
fill_value f = record { auction = f.auction; side = f.side; size = f.size; cause = cause_letter f.cause; row = f.row }

-- The order of an opening that was accepted, with the auction's number that it was told.
abbrev pub order_opened : Option PairedOrder → AnswerTold → List OpenedOrder
order_opened (Some x) (Some (Opened c)) = record { auction = c.auction; side = x.side; size = x.size } ∷ []
order_opened x a = []

-- The order of the last opening that was told this auction's number.
abbrev pub order_of : List OpenedOrder → ℕ → Option OpenedOrder
order_of os n = find (λ (o : OpenedOrder). o.auction == n) (reverse os)

-- The rows of an auction that was collected.
abbrev pub fills_of : Option OpenedOrder → ℕ → ℕ → List FillRow → List FillValue
fills_of None n cause rows = []
fills_of (Some o) n cause rows = map (λ r. record { auction = n; side = o.side; size = o.size; cause = cause; row = r }) rows

abbrev pub fills_collected : List OpenedOrder → Option ℕ → AnswerTold → List FillValue
fills_collected os (Some n) (Some (Collected k rows)) = fills_of (order_of os n) n k.cause rows
fills_collected os n a = []

-- A line, which is answered by the first of the answers if it is a call: the order that it opens, and the fills of a collecting.
abbrev pub opened_by : Entry → List AnswerTold → List OpenedOrder
opened_by (Call c) (a ∷ answers) = order_opened (order_in c) a
opened_by _ answers = []

abbrev pub collected_by : List OpenedOrder → Entry → List AnswerTold → List FillValue
collected_by os (Call c) (a ∷ answers) = fills_collected os (auction_in c) a
collected_by os _ answers = []

-- All lines, behind these orders: the orders that were opened, and the fills.
abbrev pub orders_in : List OpenedOrder → List Line → List AnswerTold → List OpenedOrder
orders_in os [] answers = os
orders_in os (l ∷ ls) answers = orders_in (os ++ opened_by l.entry answers) ls (answers_behind l.entry answers)

abbrev pub fills_in : List OpenedOrder → List Line → List AnswerTold → List FillValue
fills_in os [] answers = []
fills_in os (l ∷ ls) answers =
    collected_by os l.entry answers ++ fills_in (os ++ opened_by l.entry answers) ls (answers_behind l.entry answers)

-- Those of the auctions that the room still held at the end of the script.
abbrev pub fills_closed : List OpenedOrder → ClosedTold → List FillValue
fills_closed os t = fills_of (order_of os t.claim.auction) t.claim.auction t.collection.cause t.rows

abbrev pub fills_at_end : List OpenedOrder → List ClosedTold → List FillValue
fills_at_end os ts = flat_map (fills_closed os) ts

-- What is noted so far, and then with a line that is carried out in this room.
pub record FillNotes : Type 0 where
  pub orders : List OpenedOrder
  pub fills : List FillValue

abbrev pub fill_notes_after : CubeWorld → CubeRoom → Line → FillNotes → FillNotes
fill_notes_after w s l x = record {
  orders = x.orders ++ opened_by l.entry (answers_to w s (call_in l.entry));
  fills = x.fills ++ collected_by x.orders l.entry (answers_to w s (call_in l.entry));
}

-- All rows that collectings were answered, and all that are told at the end.
abbrev pub answer_rows : AnswerTold → List FillRow
answer_rows (Some (Collected k rows)) = rows
answer_rows _ = []

abbrev pub rows_told : List AnswerTold → List ClosedTold → List FillRow
rows_told answers ts = flat_map answer_rows answers ++ flat_map (λ (t : ClosedTold). t.rows) ts

-- The fills are those of these lines, whose calls were carried out in the room of these terms, and those at the end; and no row
-- is left out.
pub record FillsOf (terms : RoomTerms) (ls : List Line) (fills : List FillValue) : Type 0 where
  pub carried_out : CarriedOut terms (calls_in ls)
  pub listed : fills ≡ fills_in [] ls carried_out.answers ++ fills_at_end (orders_in [] ls carried_out.answers) carried_out.at_end
  pub none_left_out : map (λ (f : FillValue). f.row) fills ≡ rows_told carried_out.answers carried_out.at_end

abbrev pub FillsIn : Option RoomTerms → List Line → List FillValue → Type 0
FillsIn None ls fills = fills ≡ []
FillsIn (Some terms) ls fills = FillsOf terms ls fills

-- The fills of a whole script.
pub record ScriptFills (script : List ℕ) (fills : List FillValue) : Type 0 where
  pub room : Option RoomTerms
  pub made : option_map room_values room ≡ room_of (room_in (settings_behind_lines no_settings 1 (lines script)))
  pub listed : FillsIn room (script_lines script) fills
