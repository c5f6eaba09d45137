-- The kinds of guarantee, by name.
use Rattle.std.specs.Prelude.{ℕ, List, codes}
use Rattle.allocation.specs.declared.order.GuaranteeKind.{GuaranteeKind}
use Rattle.allocation.specs.declared.order.GuaranteeKind.TheVariants.{SingleStop, AutoMatchLimit}

-- The name of a kind.
abbrev pub kind_name : GuaranteeKind → List ℕ
kind_name SingleStop = codes "single stop"
kind_name AutoMatchLimit = codes "auto-match limit"
