-- How many auctions wait: as many as there are numbers, from one up to the last that was given, whose auction waits.
use Rattle.std.proofs.Common.{◌≡◌, ℕ, zero, suc, ◌+◌, ◌≤◌, Bool, true, false, cond, eqb, List, [], ◌∷◌, length, is_some, Some, None, sym, refl, ap, ◌∙◌, arith}
use Rattle.std.proofs.lemmas.Bool.{eq-eqb}
use Rattle.std.proofs.lemmas.Bool.Decides.{nat_tests}
use Rattle.room.specs.State.{EndedValues, waiting_auction, without_number}
use Rattle.room.specs.World.{World}
use Rattle.session.specs.History.{Exchange, waits_then, waiting_up_to}
use Rattle.session.proofs.Choices.{cond_some_none}
use Rattle.session.proofs.Ending.Waiting.{Once, once_of_none}

-- how many numbers from 1 to n pass a test
abbrev pub how_many : (ℕ → Bool) → ℕ → ℕ
how_many f zero = 0
how_many f (suc n) = cond (f (suc n)) 1 0 + how_many f n

same_many : (f g : ℕ → Bool) (n : ℕ) → ((k : ℕ) → k ≤ n → f k ≡ g k) → how_many f n ≡ how_many g n
same_many f g zero h = refl
same_many f g (suc n) h =
    ap (λ (b : Bool). cond b 1 0 + how_many f n) (h (suc n) (omega arith)) ∙ ap (λ i. cond (g (suc n)) 1 0 + i) (same_many f g n (λ k l. h k (omega arith)))

none_many : (n : ℕ) → how_many (λ k. false) n ≡ 0
none_many zero = refl
none_many (suc n) = let rest = none_many n in omega arith

-- one number more passes
module _ (f g : ℕ → Bool) (k : ℕ) (here : f k ≡ true) (before : g k ≡ false) (elsewhere : (i : ℕ) → eqb k i ≡ false → f i ≡ g i) (least : 1 ≤ k) where
  one_more_at : (b : Bool) (n : ℕ) → eqb k (suc n) ≡ b → (k ≤ n → how_many f n ≡ how_many g n + 1) → k ≤ suc n → how_many f (suc n) ≡ how_many g (suc n) + 1
  one_more_at true n e again h =
      let is : suc n ≡ k = grind (arith, nat_tests) in
      let now : f (suc n) ≡ true = ap f is ∙ here in
      let then : g (suc n) ≡ false = ap g is ∙ before in
      let below = same_many f g n (λ i l. elsewhere i (let apart : eqb k i ≡ false = grind (arith, nat_tests) in apart)) in
      let now_one = ap (λ (b : Bool). cond b 1 0 + how_many f n) now in
      let then_none = ap (λ (b : Bool). cond b 1 0 + how_many g n) then in
      omega arith
  one_more_at false n e again h =
      let same = ap (λ (b : Bool). cond b 1 0 + how_many f n) (elsewhere (suc n) e) in
      let less : k ≤ n = grind (arith, nat_tests) in
      let more = again less in
      omega arith

  one_more : (n : ℕ) → k ≤ n → how_many f n ≡ how_many g n + 1
  one_more zero h = absurd (omega arith)
  one_more (suc n) h = one_more_at (eqb k (suc n)) n refl (one_more n) h

-- an auction of this number waits
abbrev pub is_there : List EndedValues → ℕ → Bool
is_there es k = is_some (waiting_auction k es)

once_behind_at : (b : Bool) (n : ℕ) (e : EndedValues) (es : List EndedValues) → eqb e.number n ≡ b → waiting_auction n (cond b es (e ∷ without_number n es)) ≡ None → Once n es
once_behind_at true n e es h o = once_of_none n es o
once_behind_at false n e es h o = (cond_some_none (eqb e.number n) e (waiting_auction n (without_number n es)) o).1

once_behind : (n : ℕ) (e : EndedValues) (es : List EndedValues) → Once n (e ∷ es) → Once n es
once_behind n e es o = once_behind_at (eqb e.number n) n e es refl o

-- the first is not among the others
first_apart : (e : EndedValues) (es : List EndedValues) → Once e.number (e ∷ es) → waiting_auction e.number es ≡ None
first_apart e es o = sym (ap (λ (b : Bool). waiting_auction e.number (cond b es (e ∷ without_number e.number es))) (eq-eqb e.number e.number refl)) ∙ o

there_behind : (b : Bool) (n : ℕ) (e : EndedValues) (es : List EndedValues) → eqb e.number n ≡ b → is_there es n ≡ true → is_there (e ∷ es) n ≡ true
there_behind true n e es h k = ap (λ (b : Bool). is_some (cond b (Some e) (waiting_auction n es))) h
there_behind false n e es h k = ap (λ (b : Bool). is_some (cond b (Some e) (waiting_auction n es))) h ∙ k

pub as_many_wait : (n : ℕ) (es : List EndedValues) → ((k : ℕ) → Once k es) → ((k : ℕ) → is_there es k ≡ true → (1 ≤ k) × (k ≤ n)) → how_many (is_there es) n ≡ length es
as_many_wait n [] once within = none_many n
as_many_wait n (e ∷ es) once within =
    let here : is_there (e ∷ es) e.number ≡ true = ap (λ (b : Bool). is_some (cond b (Some e) (waiting_auction e.number es))) (eq-eqb e.number e.number refl) in
    let inside = within e.number here in
    let more = one_more (is_there (e ∷ es)) (is_there es) e.number here (ap is_some (first_apart e es (once e.number))) (λ i h. ap (λ (b : Bool). is_some (cond b (Some e) (waiting_auction i es))) h) inside.0 n inside.1 in
    let rest = as_many_wait n es (λ k. once_behind k e es (once k)) (λ k h. within k (there_behind (eqb e.number k) k e es refl h)) in
    omega arith

module _ {P T F Q : Type 0} (w : World P T F Q) (p : P) (q : Q) where
  waiting_count : (n : ℕ) (past : List (Exchange T F)) → waiting_up_to w p q n past ≡ how_many (λ k. waits_then w p q k past) n
  waiting_count zero past = refl
  waiting_count (suc n) past = ap (λ i. cond (waits_then w p q (suc n) past) 1 0 + i) (waiting_count n past)

  -- where the auctions that wait are those that the history says wait, each once
  pub waiting_counted : (n : ℕ) (past : List (Exchange T F)) (es : List EndedValues) → ((k : ℕ) → is_some (waiting_auction k es) ≡ waits_then w p q k past) → ((k : ℕ) → Once k es)
      → ((k : ℕ) → is_some (waiting_auction k es) ≡ true → (1 ≤ k) × (k ≤ n)) → length es ≡ waiting_up_to w p q n past
  waiting_counted n past es same once within =
      sym (as_many_wait n es once within) ∙ same_many (is_there es) (λ k. waits_then w p q k past) n (λ k h. same k) ∙ sym (waiting_count n past)
