-- The position that is found is the index, in the definitions, of the response of this member with this own number; there is
-- one, since that response stands.
use Rattle.std.proofs.Common.{◌≡◌, is_some, ap, sym, ◌∙◌, rules, tests}
use Rattle.std.proofs.lemmas.Iterator.{YieldsList-from_slice}
use Rattle.std.proofs.lemmas.Iterator.Search.{position_from_yields_List}
use Rattle.allocation.specs.Table.{standing, is_of, index_of}
use Rattle.allocation.proofs.Indexes.{position_is}
use Rattle.allocation.proofs.OwnResponses.{index_stands}
use Rattle.allocation.proofs.table.ResponseTable.index_of.Goals as goal

pub unwrap-requires : goal.unwrap-requires
unwrap-requires c =
    let xs = standing c.args.self.now in
    let test = is_of c.args.of.member c.args.of.own_number in
    let found : c.position.result ≡ index_of c.args.of.member c.args.of.own_number xs =
    position_from_yields_List test _ _ c.position.result c.position.ensures.ran (YieldsList-from_slice xs cc) (λ x b q k. search (rules, tests))
    ∙ position_is c.args.of.member c.args.of.own_number xs in
    ap is_some found ∙ index_stands c.args.of.member c.args.of.own_number xs ∙ c.requires

pub returns-clause-value : goal.returns-clause-value
returns-clause-value c =
    let xs = standing c.args.self.now in
    let test = is_of c.args.of.member c.args.of.own_number in
    let found : c.position.result ≡ index_of c.args.of.member c.args.of.own_number xs =
    position_from_yields_List test _ _ c.position.result c.position.ensures.ran (YieldsList-from_slice xs cc) (λ x b q k. search (rules, tests))
    ∙ position_is c.args.of.member c.args.of.own_number xs in
    sym found ∙ c.unwrap.ensures
