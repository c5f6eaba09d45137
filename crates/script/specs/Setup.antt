-- Setting up: what a script has set so far, what a setting is answered, and what the room is made of at the first call.
use Rattle.std.specs.Prelude.{ℕ, Bool, true, false, cond, List, [], ◌∷◌, ◌++◌, length, nat_lt, is_ok, unwrap_or, Option, Some, None, Result, Ok, Err}
use Rattle.std.specs.Option.{option_map}
use Rattle.std.specs.Result.{result_map_both}
use Rattle.market.specs.declared.leg.Leg.{Leg}
use Rattle.market.specs.declared.leg.LegTerms.{LegTerms}
use Rattle.market.specs.declared.refusal.SetupRefusal.{SetupRefusal}
use Rattle.market.specs.Leg.{new_leg}
use Rattle.market.specs.Legs.{legs_of, add_answer}
use Rattle.market.specs.Refusal.{setup_number}
use Rattle.script.specs.Chosen.{interval_terms, interval_made}
use Rattle.script.specs.declared.chosen.ChosenRanking.{ChosenRanking}
use Rattle.script.specs.declared.setup.room_terms.RoomTerms.{RoomTerms}
use Rattle.script.specs.declared.setup.Setup.{Setup}
use Rattle.script.specs.declared.setup.wanting.NoRoom.{NoRoom}
use Rattle.script.specs.declared.setup.wanting.NoRoom.TheVariants.{Needs, SeeLine}
use Rattle.script.specs.declared.setup.wanting.Wanting.{Wanting}
use Rattle.script.specs.declared.setup.wanting.Wanting.TheVariants as wanting
use Rattle.script.specs.declared.setup.legs.FirstLeg.{FirstLeg}
use Rattle.script.specs.declared.setup.legs.LegsSoFar.{LegsSoFar}
use Rattle.script.specs.declared.setup.legs.LegsSoFar.TheVariants.{Nothing, One, Strategy}
use Rattle.script.specs.declared.statement.IntervalTerms.{IntervalTerms}
use Rattle.script.specs.declared.statement.Setting.{Setting}
use Rattle.script.specs.declared.statement.Setting.TheVariants as setting
use Rattle.script.specs.SettingRefusal.{FailureTold, Refused, AfterFirstCall}

-- The legs that were set so far, in their order.
abbrev pub legs_so_far : LegsSoFar → List Leg
legs_so_far Nothing = []
legs_so_far (One leg) = new_leg leg.terms ∷ []
legs_so_far (Strategy legs) = legs_of legs

-- One leg more behind them: refusal 9 for its ratio, then 10 for a fifth leg.
abbrev pub legs_with : List Leg → LegTerms → Result (List Leg) ℕ
legs_with ls x = result_map_both (λ _. ls ++ new_leg x ∷ []) (λ e. e) (add_answer ls x)

-- The legs, or the refusal's number.
abbrev pub legs_result : Result LegsSoFar SetupRefusal → Result (List Leg) ℕ
legs_result = result_map_both legs_so_far setup_number

-- A first leg: refusal 9 for its ratio.
abbrev pub first_made : LegTerms → Result LegTerms ℕ
first_made x = result_map_both (λ _. x) (λ e. e) (add_answer [] x)

-- The first leg, or the refusal's number.
abbrev pub first_result : Result FirstLeg SetupRefusal → Result LegTerms ℕ
first_result = result_map_both (λ leg. leg.terms) setup_number

-- Two legs and more are a strategy.
abbrev pub strategy_in : List Leg → Option (List Leg)
strategy_in ls = cond (nat_lt (length ls) 2) None (Some ls)

-- What is set so far, and whether the room is made.
pub record Settings : Type 0 where
  pub number : Option ℕ
  pub legs : List Leg
  pub ranking : Option ChosenRanking
  pub interval : Option IntervalTerms
  pub made : Bool
  -- The first line, since the last setting that was taken, that found no room.
  pub without_room : Option ℕ

abbrev pub settings_of : Setup → Settings
settings_of s = record { number = s.number; legs = legs_so_far s.legs; ranking = s.ranking; interval = option_map interval_terms s.interval; made = s.made; without_room = s.without_room }

abbrev pub no_settings : Settings
no_settings = record { number = None; legs = []; ranking = None; interval = None; made = false; without_room = None }

-- What is set with one setting more, or the number of the refusal. A number, a ranking or an interval takes the place of the
-- one before; a leg stands behind the others.
abbrev pub settings_with : Settings → Setting → Result Settings ℕ
settings_with t (setting.Room n) = Ok (record t { number = Some n })
settings_with t (setting.Leg x) = result_map_both (λ ls. record t { legs = ls }) (λ e. e) (legs_with t.legs x)
settings_with t (setting.Ranking r) = Ok (record t { ranking = Some r })
settings_with t (setting.Interval x) = result_map_both (λ i. record t { interval = Some i }) (λ e. e) (interval_made x)

-- A setting is not taken when the room is made.
abbrev pub setting_answer : Settings → Setting → Result (Unit {0}) FailureTold
setting_answer t s = cond t.made (Err AfterFirstCall) (result_map_both (λ _. tt) Refused (settings_with t s))

-- A setting that is not taken leaves what was set.
abbrev pub settings_after : Settings → Setting → Settings
settings_after t s = cond t.made t (taken (settings_with t s))
  where
    taken : Result Settings ℕ → Settings
    taken (Ok u) = record u { without_room = None }
    taken (Err e) = t

-- The number of the script's room: 0 where none is set yet, for then no call is made.
abbrev pub room_number : Settings → ℕ
room_number t = unwrap_or t.number 0

-- What a room is made of.
pub record RoomValues : Type 0 where
  pub number : ℕ
  pub legs : List Leg
  pub ranking : ChosenRanking
  pub interval : IntervalTerms

abbrev pub room_values : RoomTerms → RoomValues
room_values r = record { number = r.number; legs = legs_of r.legs; ranking = r.ranking; interval = interval_terms r.source }

-- What is there, or else that it is wanting.
abbrev pub needs : {X Y : Type 0} → Option X → Wanting → (X → Result Y Wanting) → Result Y Wanting
needs (Some x) w next = next x
needs None w next = Err w

-- The room of what is set: the first thing that it is wanting, of number, two legs, ranking and interval.
abbrev pub room_in : Settings → Result RoomValues Wanting
room_in t =
    needs t.number wanting.Number (λ number.
    needs (strategy_in t.legs) wanting.Legs (λ legs.
    needs t.ranking wanting.Ranking (λ ranking.
    needs t.interval wanting.Interval (λ interval.
    Ok (record { number = number; legs = legs; ranking = ranking; interval = interval })))))

-- The room that was made, or what is wanting.
abbrev pub room_result : Result RoomTerms Wanting → Result RoomValues Wanting
room_result = result_map_both room_values (λ e. e)

-- What a line is told that needs the room: nothing if there is one; else what it is wanting, and where an earlier line was
-- told that since the last setting that was taken, the number of that line.
abbrev pub answer_by : Result RoomValues Wanting → Option ℕ → Result (Unit {0}) NoRoom
answer_by (Ok room) first = Ok tt
answer_by (Err e) None = Err (Needs e)
answer_by (Err e) (Some first) = Err (SeeLine first)

abbrev pub room_answer : Settings → Result (Unit {0}) NoRoom
room_answer t = answer_by (room_in t) t.without_room

-- The first of two lines, of which the earlier may not be there.
abbrev pub first_line : Option ℕ → ℕ → Option ℕ
first_line None line = Some line
first_line (Some first) line = Some first

-- What is set behind a line that needs the room: at the first for which nothing is wanting it is made.
abbrev pub settings_after_call : Settings → ℕ → Settings
settings_after_call t line =
    cond (is_ok (room_in t)) (record t { made = true }) (record t { without_room = first_line t.without_room line })
