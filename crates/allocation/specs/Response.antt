-- The classes of responses, by number.
use Rattle.std.specs.Prelude.{ℕ, List, codes}
use Rattle.allocation.specs.declared.response.Class.{Class}
use Rattle.allocation.specs.declared.response.Class.TheVariants.{Customer, Other}

-- 0 customer, 1 other; the contra's rows have 1.
abbrev pub class_number : Class → ℕ
class_number Customer = 0
class_number Other = 1

-- The name of a class.
abbrev pub class_name : Class → List ℕ
class_name Customer = codes "customer"
class_name Other = codes "other"
