-- The count of the front that stands there is the length of the run that the definitions name.
use Rattle.std.proofs.Common.{◌≡◌, cond, List, [], ◌∷◌, ℤ, sym, refl, ap, ◌∙◌, arith, rules}
use Rattle.std.specs.List.{prefix_len}
use Rattle.allocation.specs.declared.response.Class.{Class}
use Rattle.allocation.specs.declared.response.Response.{Response}
use Rattle.std.proofs.lemmas.Iterator.{YieldsList-from_slice}
use Rattle.std.proofs.lemmas.Iterator.Consumers.{YieldsList-at, count_from_yields_List}
use Rattle.std.proofs.lemmas.Iterator.Search.{YieldsList-from_take_while}
use Rattle.std.proofs.lemmas.List.Folds.{length-prefix_len}
use borrow.Author.Tests.{tests}
use Rattle.allocation.specs.LevelSteps.{leading, stands_at}
use Rattle.allocation.proofs.levels.run_length.Goals as goal

-- a run at the front is the longest front that stands there
leading_is : (price : ℤ) (class : Class) (xs : List Response) → leading price class xs ≡ prefix_len (stands_at price class) xs
leading_is price class [] = refl
leading_is price class (x ∷ xs) =
    let rest = leading_is price class xs in
    ap (λ n. cond (stands_at price class x) n 0) (omega arith)

pub returns-clause-value : goal.returns-clause-value
returns-clause-value c =
    let xs = c.args.responses.now in
    let p = c.args.at.now in
    count_from_yields_List c.take_while.result c.count.result c.count.ensures.ran (YieldsList-from_take_while _ (stands_at p.price p.class) (YieldsList-at c.take_while.ensures.source (YieldsList-from_slice xs cc)) c.take_while.ensures.closure c.take_while.ensures.done (λ x b q k. search (rules, tests)))
    ∙ length-prefix_len (stands_at p.price p.class) xs ∙ sym (leading_is p.price p.class xs)
