-- There were no fewer lists than before, so that those past that number are the ones that were added.
use Rattle.std.proofs.Common.{arith}
use Rattle.session.proofs.Session.reserve_for_all.Goals as goal

pub returns-in_default-clause-lists_back : goal.returns-in_default-clause-lists_back
returns-in_default-clause-lists_back g c = let before = c.len-before.ensures in let more = c.reserve.ensures.no_fewer_lists in let left = c.truncate.ensures in omega arith
