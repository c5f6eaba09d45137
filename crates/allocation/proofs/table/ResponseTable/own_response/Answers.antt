-- What is found, and copied, is the first response that stands of this member with this own number.
use Rattle.std.proofs.Common.{◌∙◌, rules, tests}
use Rattle.std.proofs.lemmas.Iterator.{YieldsList-from_slice}
use Rattle.std.proofs.lemmas.Iterator.Search.{find_from_yields_List}
use Rattle.allocation.specs.Table.{standing, is_of}
use Rattle.allocation.proofs.Indexes.{own_is}
use Rattle.allocation.proofs.table.ResponseTable.own_response.Goals as goal

pub returns : goal.returns
returns c =
    let test = is_of c.args.of.member c.args.of.own_number in
    c.copied.ensures
    ∙ find_from_yields_List test _ _ c.find.result c.find.ensures.ran (YieldsList-from_slice (standing c.args.self.now) cc) (λ x b q k. search (rules, tests))
    ∙ own_is c.args.of.member c.args.of.own_number (standing c.args.self.now)
