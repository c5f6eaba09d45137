-- The refusals of settings, told by their numbers: those of interval sources and of legs.
use Rattle.std.specs.Prelude.{ℕ}
use Rattle.interval.specs.Refusal.{interval_refusal_number}
use Rattle.market.specs.Refusal.{setup_number}
use Rattle.script.specs.declared.setup.refusal.SettingFailure.{SettingFailure}
use Rattle.script.specs.declared.setup.refusal.SettingFailure.TheVariants as failure
use Rattle.script.specs.declared.setup.refusal.SettingRefusal.{SettingRefusal}
use Rattle.script.specs.declared.setup.refusal.SettingRefusal.TheVariants.{Interval, Legs}

-- 8 a fixed interval outside 100 to 1,000 milliseconds, 9 a ratio outside 1 to 9, 10 a fifth leg.
abbrev pub setting_refusal_number : SettingRefusal → ℕ
setting_refusal_number (Interval e) = interval_refusal_number e
setting_refusal_number (Legs e) = setup_number e

-- Why a setting is not taken, as it is told: it is refused, by the refusal's number, or it comes after the first call.
pub data FailureTold : Type 0 where
  Refused : ℕ → FailureTold
  AfterFirstCall : FailureTold

abbrev pub failure_told : SettingFailure → FailureTold
failure_told (failure.Refused e) = Refused (setting_refusal_number e)
failure_told failure.AfterFirstCall = AfterFirstCall
