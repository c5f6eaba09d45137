-- A ranking and an interval source that are chosen while the program runs mean what the chosen one means.
use Rattle.std.specs.Prelude.{ℕ, Bool, Result, Ok}
use Rattle.std.specs.Result.{result_map_both}
use Rattle.allocation.specs.declared.response.Key.{Key}
use Rattle.allocation.specs.Ranking.{earlier, larger}
use Rattle.interval.specs.declared.refusal.IntervalRefusal.{IntervalRefusal}
use Rattle.interval.specs.Fixed.{new_fixed}
use Rattle.interval.specs.Refusal.{interval_refusal_number}
use Rattle.interval.specs.Source.{SourceMeaning}
use Rattle.interval.specs.Stepping.{next_seed, next_length}
use Rattle.script.specs.declared.statement.IntervalTerms.{IntervalTerms}
use Rattle.script.specs.declared.statement.IntervalTerms.TheVariants as terms
use Rattle.script.specs.declared.chosen.ChosenInterval.{ChosenInterval}
use Rattle.script.specs.declared.chosen.ChosenInterval.TheVariants.{Fixed, Drawn}
use Rattle.script.specs.declared.chosen.ChosenRanking.{ChosenRanking}
use Rattle.script.specs.declared.chosen.ChosenRanking.TheVariants.{Arrival, Size}

-- Which of two responses is ahead.
abbrev pub chosen_ahead : ChosenRanking → Key → Key → Bool
chosen_ahead Arrival = earlier
chosen_ahead Size = larger

-- What a draw answers: the fixed length, or what follows from the seed.
abbrev pub chosen_draws : ChosenInterval → ℕ
chosen_draws (Fixed s) = s.length
chosen_draws (Drawn s) = next_length s.seed

-- A draw leaves a fixed interval as it is, and steps a seed.
abbrev pub chosen_next : ChosenInterval → ChosenInterval
chosen_next (Fixed s) = Fixed s
chosen_next (Drawn s) = Drawn (record { seed = next_seed s.seed })

abbrev pub chosen_meaning : SourceMeaning ChosenInterval
chosen_meaning = record { draws = chosen_draws; next = chosen_next }

-- The terms of an interval source.
abbrev pub interval_terms : ChosenInterval → IntervalTerms
interval_terms (Fixed s) = terms.Fixed s.length
interval_terms (Drawn s) = terms.Drawn s.seed

-- An interval source of these terms: refusal 8 for a fixed length outside 100 to 1,000.
abbrev pub interval_made : IntervalTerms → Result IntervalTerms ℕ
interval_made (terms.Fixed n) = result_map_both terms.Fixed (λ e. e) (new_fixed n)
interval_made (terms.Drawn n) = Ok (terms.Drawn n)

-- The terms of a source that was made, or the refusal's number.
abbrev pub interval_result : Result ChosenInterval IntervalRefusal → Result IntervalTerms ℕ
interval_result = result_map_both interval_terms interval_refusal_number
