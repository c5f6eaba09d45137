-- What is taken is the first claim of these numbers; the others stay, and with it back at its index the purse is as it was.
-- Where none is found the purse holds none of these numbers.
use Rattle.std.proofs.Common.{◌≤◌, length, map, ap, ◌∙◌, sym, subst, vec_items}
use Rattle.std.specs.List.{insert}
use Rattle.std.specs.Option.{option_map}
use Rattle.std.proofs.lemmas.List.Quantifiers.{position-Some}
use Rattle.room.specs.Rooms.{claim_numbers}
use Rattle.session.specs.Purse.{PurseValue, taken_numbers, same_claim}
use Rattle.session.proofs.Purses.{taken, none_taken, put_back}
use Rattle.session.proofs.purse.Purse.take.Goals as goal

pub returns-in_err-index-clause-claim : goal.returns-in_err-index-clause-claim
returns-in_err-index-clause-claim c =
    let purse = ap (λ (p : PurseValue). p.numbers) c.self.view_is in
    ap (option_map taken_numbers) c.from_residual.ensures ∙ (none_taken claim_numbers c.args.numbers.now (vec_items c.self.inside.claims) _ purse (rw (← c.deref.ensures.value) c.in_err-index.ensures)).0

pub returns-in_err-index-clause-others : goal.returns-in_err-index-clause-others
returns-in_err-index-clause-others c =
    let purse = ap (λ (p : PurseValue). p.numbers) c.self.view_is in
    (none_taken claim_numbers c.args.numbers.now (vec_items c.self.inside.claims) _ purse (rw (← c.deref.ensures.value) c.in_err-index.ensures)).1

pub returns-clause-claim : goal.returns-clause-claim
returns-clause-claim c =
    let purse = ap (λ (p : PurseValue). p.numbers) c.self.view_is in
    (taken claim_numbers c.args.numbers.now (vec_items c.self.inside.claims) _ c.in_ok-index.index c.remove.result purse (rw (← c.deref.ensures.value) c.in_ok-index.ensures) c.remove.ensures.value).0

pub returns-clause-others : goal.returns-clause-others
returns-clause-others c =
    let purse = ap (λ (p : PurseValue). p.numbers) c.self.view_is in
    ap (map claim_numbers) c.remove.ensures.items ∙ (taken claim_numbers c.args.numbers.now (vec_items c.self.inside.claims) _ c.in_ok-index.index c.remove.result purse (rw (← c.deref.ensures.value) c.in_ok-index.ensures) c.remove.ensures.value).1

pub returns-clause-index : goal.returns-clause-index
returns-clause-index c =
    let purse = ap (λ (p : PurseValue). p.numbers) c.self.view_is in
    let all = vec_items c.self.inside.claims in
    let at = position-Some (λ claim. same_claim (claim_numbers claim) c.args.numbers.now) all c.in_ok-index.index c.remove.result (rw (← c.deref.ensures.value) (sym c.in_ok-index.ensures)) in
    let back = put_back claim_numbers all c.in_ok-index.index c.remove.result at.0 c.remove.ensures.value in
    (subst (λ l. c.in_ok-index.index ≤ length (map claim_numbers l)) (sym c.remove.ensures.items) back.0, ap (λ l. insert l c.in_ok-index.index (claim_numbers c.remove.result)) (ap (map claim_numbers) c.remove.ensures.items) ∙ back.1 ∙ purse)
