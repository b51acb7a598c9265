-- What the answer to a call for a listing says of the file, and how an error is shown.
use Rattle.std.specs.Prelude.{ℕ, List, [], Some, None, Ok, Err, codes, vec_items, Option, Result}
use Rattle.model.specs.declared.Cell.{Cell}
use Rattle.model.specs.declared.Event.{Event}
use Rattle.record.specs.declared.fault.ByteRefusal.{ByteRefusal}
use Rattle.record.specs.Faults.{refusal_text}
use Rattle.listing.specs.declared.error.ListError.{ListError}
use Rattle.listing.specs.declared.error.ListError.TheVariants.{Refused, OutOfMemory}
use Rattle.listing.specs.declared.file.Listing.{Listing}

-- P holds of what the answer tells: the job number, the events and what stopped them; or no job number, no event and
-- why. Where memory ran out it tells nothing
abbrev pub Tells : (Option ℕ → List (Event Cell) → Option ByteRefusal → Type 0) → Result Listing ListError → Type 0
Tells P (Ok l) = P (Some l.job) (vec_items l.events) l.refusal
Tells P (Err (Refused r)) = P None [] (Some r)
Tells P (Err (OutOfMemory e)) = Unit {0}

-- the text of an error
abbrev pub error_text : ListError → List ℕ
error_text (Refused r) = refusal_text r
error_text (OutOfMemory e) = codes "out of memory"
