-- Lemmas that faults of which the same is told are the same.
use Rattle.std.specs.Prelude.{◌==◌}
use Rattle.std.proofs.Common.{◌≡◌, ℕ, cond, ap, ◌∙◌, refl, sym}
use Rattle.market.specs.declared.fault.Cause.{Cause}
use Rattle.market.specs.declared.fault.Cause.TheVariants.{NoSuchLeg, BeyondLimit, BidNotBelowOffer}
use Rattle.market.specs.declared.fault.Fault.{Fault}
use Rattle.market.specs.Fault.{FaultTold, cause_number, fault_told}
use Rattle.market.specs.Market.{Apart}

-- the cause of a number
abbrev cause_of : ℕ → Cause
cause_of n = cond (n == 1) NoSuchLeg (cond (n == 2) BeyondLimit BidNotBelowOffer)

cause_again : (c : Cause) → cause_of (cause_number c) ≡ c
cause_again NoSuchLeg = refl
cause_again BeyondLimit = refl
cause_again BidNotBelowOffer = refl

-- the fault of which this is told
abbrev fault_of : FaultTold → Fault
fault_of t = record { cause = cause_of t.cause; place = t.place }

fault_again : (f : Fault) → fault_of (fault_told f) ≡ f
fault_again f = ap (λ c. the_fault c f.place) (cause_again f.cause)
  where
    the_fault : Cause → ℕ → Fault
    the_fault c p = record { cause = c; place = p }

pub faults_apart : Apart fault_told
faults_apart d e h = sym (fault_again d) ∙ ap fault_of h ∙ fault_again e
