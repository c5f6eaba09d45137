-- The words that are one of a few, and what each stands for.
use Rattle.std.specs.Prelude.{ℕ, ℤ, List, codes, if◌then◌else◌, Option, Some, None}
use Rattle.std.specs.Option.{option_map}
use Rattle.std.specs.Str.{bytes_eq}
use Rattle.allocation.specs.declared.order.GuaranteeKind.{GuaranteeKind}
use Rattle.allocation.specs.declared.order.GuaranteeKind.TheVariants.{SingleStop, AutoMatchLimit}
use Rattle.allocation.specs.declared.response.Class.{Class}
use Rattle.allocation.specs.declared.response.Class.TheVariants.{Customer, Other}
use Rattle.allocation.specs.declared.response.Kind.{Kind}
use Rattle.allocation.specs.declared.response.Kind.TheVariants.{Sealed, Plain}
use Rattle.market.specs.declared.side.Side.{Side}
use Rattle.market.specs.declared.side.Side.TheVariants.{Buy, Sell}
use Rattle.script.specs.Number.{price_in}
use Rattle.script.specs.Readers.{Word}
use Rattle.script.specs.declared.chosen.ChosenRanking.{ChosenRanking}
use Rattle.script.specs.declared.chosen.ChosenRanking.TheVariants.{Arrival, Size}
use Rattle.script.specs.declared.read.named.HalfName.{HalfName}
use Rattle.script.specs.declared.read.named.HalfName.TheVariants.{Book, Leg}
use Rattle.script.specs.declared.read.named.SourceName.{SourceName}
use Rattle.script.specs.declared.read.named.SourceName.TheVariants.{Fixed, Drawn}

-- Either of two words.
abbrev pub either : {X : Type 0} → List ℕ → X → List ℕ → X → Word → Option X
either a x b y w = if bytes_eq w a then Some x else (if bytes_eq w b then Some y else None)

abbrev pub side_named : Word → Option Side
side_named = either (codes "buy") Buy (codes "sell") Sell

abbrev pub ranking_named : Word → Option ChosenRanking
ranking_named = either (codes "arrival") Arrival (codes "size") Size

abbrev pub source_named : Word → Option SourceName
source_named = either (codes "fixed") Fixed (codes "drawn") Drawn

abbrev pub half_named : Word → Option HalfName
half_named = either (codes "leg") Leg (codes "book") Book

abbrev pub guarantee_named : Word → Option GuaranteeKind
guarantee_named = either (codes "stop") SingleStop (codes "match") AutoMatchLimit

abbrev pub kind_named : Word → Option Kind
kind_named = either (codes "sealed") Sealed (codes "plain") Plain

abbrev pub class_named : Word → Option Class
class_named = either (codes "customer") Customer (codes "other") Other

-- The sign between a size and a price.
abbrev pub at_named : Word → Option (Unit {0})
at_named w = if bytes_eq w (codes "@") then Some tt else None

-- A price of the book, which may be none.
abbrev pub book_price_named : Word → Option (Option ℤ)
book_price_named w = if bytes_eq w (codes "none") then Some None else option_map Some (price_in w)
