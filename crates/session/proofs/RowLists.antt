-- How many lists of rows calls want: one more call wants its own.
use Rattle.std.proofs.Common.{◌≡◌, ℕ, ◌+◌, ◌<◌, ◌≤◌, List, [], ◌∷◌, ◌++◌, length, get_or, take, ap, ◌∙◌, arith}
use Rattle.std.proofs.lemmas.List.{take_more}
use Rattle.session.specs.declared.call.Call.{Call}
use Rattle.session.specs.declared.call.Call.TheVariants.{Collect}
use Rattle.session.specs.Lists.{lists_for, lists_for_all}

lists_push : {T : Type 0} (cs : List (Call T)) (c : Call T) → lists_for_all (cs ++ c ∷ []) ≡ lists_for_all cs + lists_for c
lists_push [] c = omega arith
lists_push (x ∷ xs) c = let rest = lists_push xs c in omega arith

pub lists_more : {T : Type 0} (cs : List (Call T)) (i : ℕ) (d : Call T) → i < length cs → lists_for_all (take (i + 1) cs) ≡ lists_for_all (take i cs) + lists_for (get_or cs i d)
lists_more cs i d l = ap lists_for_all (take_more cs i d l) ∙ lists_push (take i cs) (get_or cs i d)

-- A call wants one list at most.
pub one_at_most : {T : Type 0} (c : Call T) → lists_for c ≤ 1
one_at_most (Collect c n) = omega arith
one_at_most _ = omega arith
