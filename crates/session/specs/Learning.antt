-- What a member may learn from looks and from the answers to its own responses, changes and withdrawals, given where
-- openings are accepted and where auctions end: nothing of a guarantee, and nothing of the price, the size and the class
-- in other members' responses and changes. A term outside its limits is not hidden, since the input checks tell of it.
use Rattle.std.specs.Prelude.{◌≡◌, ◌⊎◌, ℕ, Bool, true, false, not, cond, ◌&&◌, List, [], ◌∷◌, map, ℤ, is_some, Some, None, Option, ◌==◌}
use Rattle.allocation.specs.declared.response.Class.{Class}
use Rattle.room.specs.declared.requests.ChangeRequest.{ChangeRequest}
use Rattle.room.specs.declared.requests.OpeningRequest.{OpeningRequest}
use Rattle.room.specs.declared.requests.ResponseRequest.{ResponseRequest}
use Rattle.room.specs.State.{OpenValues}
use Rattle.room.specs.World.{World}
use Rattle.session.specs.declared.call.Call.{Call}
use Rattle.session.specs.declared.call.Call.TheVariants.{Open, Respond, Change, Withdraw, Look}
use Rattle.session.specs.History.{opened_number}
use Rattle.session.specs.Inputs.{beyond_prices, beyond_sizes}
use Rattle.session.specs.Moments.{ends_at}
use Rattle.session.specs.Runs.{Answer, Moment, run}

-- A term that is hidden on both sides, or equal.
abbrev pub HiddenOrEqual : {X : Type 0} → (X → Bool) → X → X → Type 0
HiddenOrEqual hidden x y = ((hidden x ≡ true) × (hidden y ≡ true)) ⊎ (x ≡ y)

-- A term of a response or change is hidden from a member u that is not its sender, where the term is inside its limits.
abbrev pub hidden_from : {X : Type 0} → ℕ → ℕ → (X → Bool) → X → Bool
hidden_from u sender in_limits x = not (sender == u) && in_limits x

-- A term is inside its limits where no input check refuses it; every class is.
abbrev pub price_inside : ℤ → Bool
price_inside z = not (beyond_prices z)

abbrev pub size_inside : ℕ → Bool
size_inside n = not (beyond_sizes n)

abbrev pub class_inside : Class → Bool
class_inside c = true

-- Two openings that are equal but for the guarantee, whoever opens: its kind is hidden, and its price where it is inside the
-- limits.
pub record OpeningsAlike (x y : OpeningRequest) : Type 0 where
  pub time : x.time ≡ y.time
  pub member : x.member ≡ y.member
  pub side : x.order.side ≡ y.order.side
  pub size : x.order.size ≡ y.order.size
  pub limit : x.order.limit ≡ y.order.limit
  pub guarantee_price : HiddenOrEqual price_inside x.order.guarantee.price y.order.guarantee.price

-- Two responses that are equal but for those of price, size and class that are hidden from a member.
pub record ResponsesAlike (u : ℕ) (x y : ResponseRequest) : Type 0 where
  pub time : x.time ≡ y.time
  pub member : x.member ≡ y.member
  pub own_number : x.own_number ≡ y.own_number
  pub side : x.side ≡ y.side
  pub kind : x.kind ≡ y.kind
  pub price : HiddenOrEqual (hidden_from u x.member price_inside) x.price y.price
  pub size : HiddenOrEqual (hidden_from u x.member size_inside) x.size y.size
  pub class : HiddenOrEqual (hidden_from u x.member class_inside) x.class y.class

-- Two changes that are equal but for those of price and size that are hidden from a member.
pub record ChangesAlike (u : ℕ) (x y : ChangeRequest) : Type 0 where
  pub time : x.time ≡ y.time
  pub member : x.member ≡ y.member
  pub own_number : x.own_number ≡ y.own_number
  pub price : HiddenOrEqual (hidden_from u x.member price_inside) x.price y.price
  pub size : HiddenOrEqual (hidden_from u x.member size_inside) x.size y.size

-- Two calls that are alike to a member. Of calls of other kinds nothing is hidden: those are alike that are equal.
abbrev pub Alike : {T : Type 0} → ℕ → Call T → Call T → Type 0
Alike u (Open x) (Open y) = OpeningsAlike x y
Alike u (Respond x) (Respond y) = ResponsesAlike u x y
Alike u (Change x) (Change y) = ChangesAlike u x y
Alike u c d = c ≡ d

-- Two lists of calls of equal length that are alike call by call.
abbrev pub AllAlike : {T : Type 0} → ℕ → List (Call T) → List (Call T) → Type 0
AllAlike u [] [] = Unit {0}
AllAlike u [] (d ∷ ds) = ⊥
AllAlike u (c ∷ cs) [] = ⊥
AllAlike u (c ∷ cs) (d ∷ ds) = Alike u c d × AllAlike u cs ds

-- Every list of calls is alike to itself to each member, whatever in it is outside its limits; and of two lists it does not
-- matter which comes first.
abbrev pub AlikeToItself : Type 0 → Type 0
AlikeToItself T = (u : ℕ) (cs : List (Call T)) → AllAlike u cs cs

abbrev pub AlikeBothWays : Type 0 → Type 0
AlikeBothWays T = (u : ℕ) (cs ds : List (Call T)) → AllAlike u cs ds → AllAlike u ds cs

-- What a member is shown of a call's answer: of a look all, and of its own responses, changes and withdrawals all. Claims,
-- the answers to ticks, and what a collecting writes are not compared.
abbrev pub shown_of : {T F : Type 0} → ℕ → Call T → Answer F → Option (Answer F)
shown_of u (Respond x) a = cond (x.member == u) (Some a) None
shown_of u (Change x) a = cond (x.member == u) (Some a) None
shown_of u (Withdraw x) a = cond (x.member == u) (Some a) None
shown_of u Look a = Some a
shown_of u _ a = None

module _ {P T F Q : Type 0} where
  abbrev pub seen_by : ℕ → Moment P T F Q → Option (Answer F)
  seen_by u m = shown_of u m.call m.answer

  -- An opening is accepted here.
  abbrev pub opens_here : Moment P T F Q → Bool
  opens_here m = is_some (opened_number m.answer)

  abbrev pub ends_of : Option OpenValues → Moment P T F Q → Bool
  ends_of None m = false
  ends_of (Some a) m = ends_at a.number m

  -- An auction ends here.
  abbrev pub ends_here : Moment P T F Q → Bool
  ends_here m = ends_of m.before.current m

-- Two runs on rooms made alike, of calls that are alike to a member, in which openings are accepted and auctions end at the
-- same places: the member is shown the same at every call.
abbrev pub MemberSeesTheSame : {P T F Q : Type 0} → World P T F Q → Type 0
MemberSeesTheSame {P} {T} {F} {Q} w =
    (number : ℕ) (p : P) (q : Q) (u : ℕ) (cs ds : List (Call T)) → AllAlike u cs ds
    → map opens_here (run w number p q cs) ≡ map opens_here (run w number p q ds)
    → map ends_here (run w number p q cs) ≡ map ends_here (run w number p q ds)
    → map (seen_by u) (run w number p q cs) ≡ map (seen_by u) (run w number p q ds)
