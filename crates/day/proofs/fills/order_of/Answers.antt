-- What is found from the end, and copied, is the last order of this auction.
use Rattle.std.proofs.Common.{◌∙◌, eqb, rules, tests}
use Rattle.std.proofs.lemmas.Iterator.Adapters.{YieldsList-from_rev_slice}
use Rattle.std.proofs.lemmas.Iterator.Search.{find_from_yields_List}
use Rattle.day.specs.declared.fills.OpenedOrder.{OpenedOrder}
use Rattle.day.proofs.fills.order_of.Goals as goal

pub returns : goal.returns
returns c =
    c.copied.ensures
    ∙ find_from_yields_List (λ (o : OpenedOrder). eqb o.auction c.args.auction) _ _ c.find.result c.find.ensures.ran (YieldsList-from_rev_slice c.args.orders.now cc) (λ x b q k. search (rules, tests))
