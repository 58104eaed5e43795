-- What polling a service keeps.
use Rattle.std.proofs.Common.{ℕ, List, ◌≡◌, map, slice_index_or, slice_set}
use Rattle.std.proofs.Math.Seq.{map-set_same}
use Rattle.svc_hello.specs.declared.hosted.Hosted.{Hosted}
use Rattle.svc_hello.specs.Handed.{handed_over}

-- a service that was polled keeps its number and its name, so the services that were handed over are the same
pub polled : (services : List Hosted) (place : ℕ) (after none : Hosted) → after.number ≡ (slice_index_or services place none).number
    → after.service.name ≡ (slice_index_or services place none).service.name → map handed_over (slice_set services place after) ≡ map handed_over services
polled services place after none number name = map-set_same handed_over services place after none kept
  where
    kept : handed_over after ≡ handed_over (slice_index_or services place none)
    kept = cc
