-- What follows of a request that passes its input checks.
use Rattle.std.proofs.Common.{◌≡◌, ℕ, true, leb, ℤ, None, arith}
use Rattle.std.proofs.lemmas.Bool.Decides.{nat_tests}
use Rattle.allocation.specs.AuctionInvariant.{from_to}
use Rattle.room.specs.declared.requests.ChangeRequest.{ChangeRequest}
use Rattle.room.specs.declared.requests.OpeningRequest.{OpeningRequest}
use Rattle.room.specs.declared.requests.ResponseRequest.{ResponseRequest}
use Rattle.room.specs.Checks.{open_checks, respond_checks, change_checks, time_checked, price_checked, size_checked, member_checked, own_checked}

pub opening_sized : (x : OpeningRequest) → open_checks x ≡ None → leb 1 x.order.size ≡ true
opening_sized x h = grind (arith, nat_tests)

-- size, member and own number inside their limits
pub record TermsInside (size member own_number : ℕ) : Type 0 where
  pub sized : leb 1 size ≡ true
  pub member_inside : from_to 1 16 member ≡ true
  pub own_inside : from_to 1 4 own_number ≡ true

terms_inside : (time : ℕ) (price : ℤ) (size member own_number : ℕ) → time_checked time (price_checked price (size_checked size (member_checked member (own_checked own_number None)))) ≡ None → TermsInside size member own_number
terms_inside time price size member own_number h = record { sized = grind (arith, nat_tests); member_inside = grind (arith, nat_tests); own_inside = grind (arith, nat_tests) }

pub response_inside : (x : ResponseRequest) → respond_checks x ≡ None → TermsInside x.size x.member x.own_number
response_inside x h = terms_inside x.time x.price x.size x.member x.own_number h

pub change_inside : (x : ChangeRequest) → change_checks x ≡ None → TermsInside x.size x.member x.own_number
change_inside x h = terms_inside x.time x.price x.size x.member x.own_number h
