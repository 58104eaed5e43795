-- What the steps of an offer say of one another.
use Rattle.std.proofs.Common.{ℕ, Bool, true, false, ◌≡◌, refl, if◌then◌else◌, is_some}
use Rattle.svc_offer.specs.declared.offering.Offering.{Offering}
use Rattle.svc_offer.specs.declared.offering.Offering.TheVariants.{Nothing, Connecting, Sending, Over}
use Rattle.svc_offer.specs.OfferState.{is_offering, is_connecting, is_sending, is_asking, is_going, over_since, tells_next}

-- a moment that stays
pub since-kept : (over : Bool) (before t at : ℕ) → over ≡ true → before ≡ at → (if over then before else t) ≡ at
since-kept true before t at h e = e
since-kept false before t at h e = cc

-- a moment that is the first one
pub since-here : (over : Bool) (before t at : ℕ) → over ≡ false → t ≡ at → (if over then before else t) ≡ at
since-here true before t at h e = cc
since-here false before t at h e = e

pub not-going : (x : Offering) → is_offering x ≡ false → is_going x ≡ false
not-going Nothing h = refl
not-going _ h = cc

pub not-over : (x : Offering) → is_offering x ≡ false → is_some (over_since x) ≡ false
not-over Nothing h = refl
not-over _ h = cc

pub going-offers : (x : Offering) → is_going x ≡ true → is_offering x ≡ true
going-offers Nothing h = cc
going-offers _ h = refl

pub going-on : (x : Offering) → is_going x ≡ true → is_some (over_since x) ≡ false
going-on (Over at) h = cc
going-on _ h = refl

pub next-going : (x : Offering) → tells_next x ≡ true → is_going x ≡ true
next-going Nothing h = cc
next-going (Over at) h = cc
next-going _ h = refl

pub next-rests : (x : Offering) → tells_next x ≡ true → is_asking x ≡ false
next-rests Connecting h = cc
next-rests Sending h = cc
next-rests _ h = refl

pub asking-goes : (x : Offering) → is_asking x ≡ true → is_going x ≡ true
asking-goes Connecting h = refl
asking-goes Sending h = refl
asking-goes _ h = cc

pub connecting-asks : (x : Offering) → is_connecting x ≡ true → (is_asking x ≡ true) × (is_sending x ≡ false)
connecting-asks Connecting h = (refl, refl)
connecting-asks _ h = cc

pub sending-asks : (x : Offering) → is_sending x ≡ true → (is_asking x ≡ true) × (is_connecting x ≡ false)
sending-asks Sending h = (refl, refl)
sending-asks _ h = cc
