-- The bytes that a stream is to take.
use Rattle.std.specs.Prelude.{◌≡◌, ◌≢◌, ℕ, List, []}
use Rattle.svc_sockets.specs.declared.streams.Flushed.{Flushed}
use Rattle.svc_sockets.specs.declared.streams.Flushed.TheVariants as flushed

-- what is left after a call: nothing, or some; after a failure whatever it is
abbrev pub IsLeft : Flushed → List ℕ → Type 0
IsLeft flushed.Nothing left = left ≡ []
IsLeft flushed.Some left = left ≢ []
IsLeft flushed.Failed left = Unit {0}
