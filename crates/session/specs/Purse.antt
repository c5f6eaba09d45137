-- A purse of claims: which it holds, by their numbers, and what calls make of it. Openings add the claims that they are
-- answered; a collecting hands in the claim of its numbers.
use Rattle.std.specs.Prelude.{ℕ, List, Bool, true, false, cond, ◌&&◌, ◌||◌, [], ◌∷◌, ◌++◌, ◌==◌}
use Rattle.room.specs.declared.answers.ClaimNumbers.{ClaimNumbers}
use Rattle.room.specs.Rooms.{claim_numbers}
use Rattle.session.specs.declared.purse.TakenClaim.{TakenClaim}
use Rattle.session.specs.declared.call.Call.{Call}
use Rattle.session.specs.declared.call.Call.TheVariants.{Open, Collect}
use Rattle.session.specs.History.{is_collected}
use Rattle.session.specs.Runs.{Answer, Opened}

-- The numbers of the claims that it holds, and for how many more it has memory.
pub record PurseValue : Type 0 where
  pub numbers : List ClaimNumbers
  pub free : ℕ

-- The numbers of a claim that was taken out.
abbrev pub taken_numbers : TakenClaim → ClaimNumbers
taken_numbers t = claim_numbers t.claim

-- Two claims have the same numbers.
abbrev pub same_claim : ClaimNumbers → ClaimNumbers → Bool
same_claim a b = a.room == b.room && a.auction == b.auction

-- A claim of these numbers is held.
abbrev pub holds : ClaimNumbers → List ClaimNumbers → Bool
holds c [] = false
holds c (x ∷ xs) = same_claim x c || holds c xs

-- The purse without the first claim of these numbers.
abbrev pub without_claim : ClaimNumbers → List ClaimNumbers → List ClaimNumbers
without_claim c [] = []
without_claim c (x ∷ xs) = cond (same_claim x c) xs (x ∷ without_claim c xs)

-- The claim that an accepted opening is answered.
abbrev pub claim_in : {F : Type 0} → Answer F → List ClaimNumbers
claim_in (Opened c) = c ∷ []
claim_in _ = []

-- What a collecting leaves of a purse: an accepted one spends the claim, and a refused one hands it back.
abbrev pub purse_left : {F : Type 0} → Answer F → ClaimNumbers → List ClaimNumbers → List ClaimNumbers
purse_left a c purse = cond (is_collected a) (without_claim c purse) purse

-- The purse after a call: an opening adds the claim that it is answered, behind the others.
abbrev pub purse_after : {T F : Type 0} → Call T → Answer F → List ClaimNumbers → List ClaimNumbers
purse_after (Open x) a purse = purse ++ claim_in a
purse_after (Collect c n) a purse = purse_left a c purse
purse_after _ a purse = purse

-- The call is made: a collecting only if its claim is held.
abbrev pub is_made : {T : Type 0} → Call T → List ClaimNumbers → Bool
is_made (Collect c n) purse = holds c purse
is_made _ purse = true
