-- Scripts that are alike to a member have the same text for it. What a member reads is written of what it is shown at each
-- call; and what it is shown is the same by the law of what a member may learn.
use Rattle.std.proofs.Common.{◌≡◌, ◌++◌, ◌∙◌, ap, sym, subst, refl, ℕ, Bool, true, false, cond, List, [], ◌∷◌, map, ◌==◌, is_some, Option, Some, None}
use Rattle.std.specs.Option.{option_map}
use Rattle.day.specs.Alike.{EntriesAlike, LinesAlike, ScriptAlikeToItself, MemberReadsTheSame}
use Rattle.day.specs.Calls.{call_in, calls_in}
use Rattle.day.specs.CarriedOut.{world_in, start_in}
use Rattle.day.specs.Member.{transcript_line, answered_line, line_for, answers_behind, text_for}
use Rattle.day.specs.Lines.{CubeCall, Line, Entry, Call}
use Rattle.market.specs.Cube.{CubeTick, CubePosition, CubeFaultTold}
use Rattle.room.specs.World.{World}
use Rattle.script.specs.declared.chosen.ChosenInterval.{ChosenInterval}
use Rattle.session.specs.declared.call.Call.TheVariants as call
use Rattle.script.specs.Answer.{answer_text}
use Rattle.script.specs.Told.{AnswerTold}
use Rattle.session.specs.Learning.{AllAlike}
use Rattle.session.specs.Runs.{Answer, Moment, Accepted}
use Rattle.session.specs.Promises.{at_first}
use Rattle.session.specs.SessionLearning.{seen_if_made}
use Rattle.session.specs.SessionState.{SessionState, session_after, session_moment, session_moments}
use Rattle.session.proofs.Learning.Alike.{one_to_itself}

-- The first and the others of a list, and what no list with a first is.
abbrev head : List AnswerTold → AnswerTold
head [] = None
head (x ∷ xs) = x

abbrev tail : List AnswerTold → List AnswerTold
tail [] = []
tail (x ∷ xs) = xs

abbrev Empty : List AnswerTold → Type 0
Empty [] = Unit {0}
Empty (x ∷ xs) = ⊥

-- The line of what is shown, if anything is.
abbrev seen_line : ℕ → AnswerTold → List ℕ
seen_line n None = []
seen_line n (Some a) = transcript_line n (answer_text (Some a))

abbrev any_answer : Answer CubeFaultTold
any_answer = Accepted

module _ (w : World CubePosition CubeTick CubeFaultTold ChosenInterval) where
  abbrev AMoment : Type 0
  AMoment = Moment CubePosition CubeTick CubeFaultTold ChosenInterval

  abbrev answer_of : Option AMoment → AnswerTold
  answer_of = option_map (λ (m : AMoment). m.answer)

  -- Where a call is made, its line is that of what is shown.
  cond_line : (b : Bool) (n : ℕ) (a : AnswerTold) (x : Answer CubeFaultTold)
      → a ≡ Some x
      → cond (is_some (cond b (Some any_answer) None)) (transcript_line n (answer_text a)) [] ≡ seen_line n (cond b (Some x) None)
  cond_line true n a x same = ap (λ y. transcript_line n (answer_text y)) same
  cond_line false n a x same = refl

  unseen : (b : Bool) (u n : ℕ) (m : AMoment) → seen_if_made u (Some m) ≡ None → [] ≡ seen_line n (seen_if_made u (cond b (Some m) None))
  unseen true u n m none = ap (seen_line n) (sym none)
  unseen false u n m none = refl

  one_line : (u n : ℕ) (s : SessionState CubePosition ChosenInterval) (c : CubeCall) (a : AnswerTold)
      → a ≡ answer_of (session_moment w s c)
      → answered_line u n c a ≡ seen_line n (seen_if_made u (session_moment w s c))
  one_line u n s (call.Respond x) a same = cond_line (x.member == u) n a _ same
  one_line u n s (call.Change x) a same = cond_line (x.member == u) n a _ same
  one_line u n s (call.Withdraw x) a same = cond_line (x.member == u) n a _ same
  one_line u n s call.Look a same = ap (λ y. transcript_line n (answer_text y)) same
  one_line u n s (call.Collect claim rows) a same = unseen _ u n _ refl
  one_line u n s _ a same = refl

  -- The text of these lines, of what is shown at each call.
  abbrev seen_behind : Entry → List AnswerTold → List AnswerTold
  seen_behind (Call c) (x ∷ xs) = xs
  seen_behind _ xs = xs

  abbrev seen_at : ℕ → Entry → List AnswerTold → List ℕ
  seen_at n (Call c) (x ∷ xs) = seen_line n x
  seen_at n _ xs = []

  abbrev seen_text : List Line → List AnswerTold → List ℕ
  seen_text [] xs = []
  seen_text (l ∷ ls) xs = seen_at l.number l.entry xs ++ seen_text ls (seen_behind l.entry xs)

  abbrev moments : SessionState CubePosition ChosenInterval → List Line → List (Option AMoment)
  moments s ls = session_moments w s (calls_in ls)

  -- What is to be shown of all lines, from any session on.
  abbrev AsSeen : ℕ → List Line → Type 0
  AsSeen u ls =
      (s : SessionState CubePosition ChosenInterval) (answers : List AnswerTold)
      → answers ≡ map answer_of (moments s ls)
      → text_for u ls answers ≡ seen_text ls (map (seen_if_made u) (moments s ls))

  one_more : (u n : ℕ) (ls : List Line) (x : Entry) → AsSeen u ls
      → (s : SessionState CubePosition ChosenInterval) (answers : List AnswerTold)
      → answers ≡ map answer_of (session_moments w s (call_in x ++ calls_in ls))
      → line_for u n x answers ++ text_for u ls (answers_behind x answers)
      ≡ seen_at n x (map (seen_if_made u) (session_moments w s (call_in x ++ calls_in ls)))
      ++ seen_text ls (seen_behind x (map (seen_if_made u) (session_moments w s (call_in x ++ calls_in ls))))
  one_more u n ls (Call c) rest s [] same = absurd (subst Empty same tt)
  one_more u n ls (Call c) rest s (a ∷ answers) same =
      ap (λ x. x ++ text_for u ls answers) (one_line u n s c a (ap head same))
      ∙ ap (λ x. seen_line n (seen_if_made u (session_moment w s c)) ++ x) (rest (session_after w s c) answers (ap tail same))
  one_more u n ls _ rest s answers same = rest s answers same

  all_lines : (u : ℕ) (ls : List Line) → AsSeen u ls
  all_lines u [] s answers same = refl
  all_lines u (l ∷ ls) s answers same = one_more u l.number ls l.entry (all_lines u ls) s answers same

  -- Alike lines have the same text of what is shown.
  one_alike : (u n : ℕ) (x y : Entry) (xs : List AnswerTold) → EntriesAlike u x y
      → (seen_at n x xs ≡ seen_at n y xs) × (seen_behind x xs ≡ seen_behind y xs)
  one_alike u n (Call c) (Call d) [] alike = (refl, refl)
  one_alike u n (Call c) (Call d) (x ∷ xs) alike = (refl, refl)
  one_alike u n (Call c) _ xs alike = absurd alike
  one_alike u n _ (Call d) xs alike = absurd alike
  one_alike u n _ _ xs alike = (refl, refl)

  same_text : (u : ℕ) (ls ms : List Line) (xs : List AnswerTold) → LinesAlike u ls ms
      → seen_text ls xs ≡ seen_text ms xs
  same_text u [] [] xs alike = refl
  same_text u [] (m ∷ ms) xs alike = absurd alike
  same_text u (l ∷ ls) [] xs alike = absurd alike
  same_text u (l ∷ ls) (m ∷ ms) xs alike =
      let one = one_alike u l.number l.entry m.entry xs alike.1 in
      ap (λ x. x ++ seen_text ls (seen_behind l.entry xs)) (one.0 ∙ ap (λ n. seen_at n m.entry xs) alike.0)
      ∙ ap (λ ys. seen_at m.number m.entry xs ++ seen_text ls ys) one.1
      ∙ ap (λ x. seen_at m.number m.entry xs ++ x) (same_text u ls ms (seen_behind m.entry xs) alike.2)

-- The calls of alike lines are alike.
calls_with : (u : ℕ) (x y : Entry) (cs ds : List CubeCall) → EntriesAlike u x y → AllAlike u cs ds
    → AllAlike u (call_in x ++ cs) (call_in y ++ ds)
calls_with u (Call c) (Call d) cs ds alike rest = (alike, rest)
calls_with u (Call c) _ cs ds alike rest = absurd alike
calls_with u _ (Call d) cs ds alike rest = absurd alike
calls_with u _ _ cs ds alike rest = rest

calls_alike : (u : ℕ) (ls ms : List Line) → LinesAlike u ls ms → AllAlike u (calls_in ls) (calls_in ms)
calls_alike u [] [] alike = tt
calls_alike u [] (m ∷ ms) alike = absurd alike
calls_alike u (l ∷ ls) [] alike = absurd alike
calls_alike u (l ∷ ls) (m ∷ ms) alike =
    calls_with u l.entry m.entry (calls_in ls) (calls_in ms) alike.1 (calls_alike u ls ms alike.2)

-- Every script is alike to itself, as its calls are.
entry_alike_to_itself : (u : ℕ) (x : Entry) → EntriesAlike u x x
entry_alike_to_itself u (Call c) = one_to_itself u c
entry_alike_to_itself u _ = tt

pub script_alike_to_itself : ScriptAlikeToItself
script_alike_to_itself u [] = tt
script_alike_to_itself u (l ∷ ls) = (refl, entry_alike_to_itself u l.entry, script_alike_to_itself u ls)

pub reads_the_same : MemberReadsTheSame
reads_the_same u terms ls ms text other one two alike opens ends =
    let w = world_in terms in
    let first = at_first (start_in terms) in
    let laws = one.carried_out.promise.session_laws in
    let others = two.carried_out.promise.session_laws in
    let seen = laws.learning u (calls_in ms) (calls_alike u ls ms alike) opens ends in
    one.written
    ∙ all_lines w u ls first one.carried_out.answers (one.carried_out.promise.answers ∙ laws.answers)
    ∙ ap (seen_text w ls) seen.shown
    ∙ same_text w u ls ms (map (seen_if_made u) (moments w first ms)) alike
    ∙ sym (all_lines w u ms first two.carried_out.answers (two.carried_out.promise.answers ∙ others.answers))
    ∙ sym two.written
