-- The cause of each refusal.
use Rattle.std.specs.Prelude.{◌≡◌, length}
use Rattle.svc_record.specs.declared.event.Event.{Event}
use Rattle.svc_shared.specs.declared.book.Refusal.{Refusal}
use Rattle.svc_shared.specs.declared.book.Refusal.TheVariants.{Full, Stray, NoMemory}
use Rattle.svc_shared.specs.BookData.{BookData}
use Rattle.svc_shared.specs.Journals.{FitsAfter}

-- the book has as many posts as it may have; or the event doesn't fit after its posts
abbrev pub IsDue : BookData → Event → Refusal → Type 0
IsDue book event Full = length book.posts ≡ book.limit
IsDue book event (Stray seen) = (seen ≡ length book.posts) × (FitsAfter book book.posts event → ⊥)
IsDue book event NoMemory = Unit {0}
