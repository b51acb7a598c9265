use Rattle.std.proofs.Common.{◌≡◌, ◌+◌, ◌++◌, length, vec_items}
use Rattle.std.specs.List.{AllByRecursion}
use Rattle.record.specs.Events.{Writable}
use Rattle.record.specs.Readers.{left_of}
use Rattle.listing.specs.Files.{events_form}
use Rattle.listing.proofs.file.read_events.Given as goal

-- what stands between the start and the reader is the form of the events that were read
abbrev pub invariant-loop-event : goal.invariant-loop-event
invariant-loop-event l = record {
  fit : AllByRecursion Writable (vec_items l.events);
  cut : left_of l.initial.reader ≡ events_form (vec_items l.events) ++ left_of l.reader;
  place : l.reader.place ≡ l.initial.reader.place + length (events_form (vec_items l.events));
}

abbrev pub decreases-loop-event : goal.decreases-loop-event
decreases-loop-event l = length (left_of l.reader)
