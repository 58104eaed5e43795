-- Numbers that are put in order one by one.
use Rattle.std.specs.Prelude.{ℕ, List, [], ◌∷◌, map, filter}
use Rattle.svc_base.specs.NumberSets.{put_number}
use Rattle.svc_record.specs.Record.{Record}
use Rattle.svc_record.specs.Descriptors.{Descriptor}
use Rattle.svc_record.specs.Connections.{arrived_numbers}
use Rattle.svc_judge.specs.Facts.{is_unclosed}
use Rattle.svc_judge.specs.Endings.{is_uncut}

-- numbers in order with these, of which the last is put first
abbrev pub put_onto : List ℕ → List ℕ → List ℕ
put_onto [] numbers = numbers
put_onto (n ∷ more) numbers = put_number n (put_onto more numbers)

-- the connections that arrived in these entries and are live at the end of the whole record, the newest first
abbrev pub live_in : Record → Record → List ℕ
live_in whole q = filter (is_uncut whole) (arrived_numbers q)

-- the numbers of the descriptors among these that are live at the end of the whole record
abbrev pub unclosed_in : Record → List Descriptor → List ℕ
unclosed_in whole ds = map (λ (d : Descriptor). d.number) (filter (is_unclosed whole) ds)
