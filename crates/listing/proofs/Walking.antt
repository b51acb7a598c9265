-- Events read one after another: what stands between the start and the reader is the form of those read.
use Rattle.std.proofs.Common.{◌≡◌, ◌+◌, ◌<◌, List, [], ◌∷◌, ◌++◌, length, Some, Ok, Option, ap, arith, length-append}
use Rattle.std.specs.List.{AllByRecursion}
use Rattle.std.proofs.lemmas.List.{flat_map_more, append_assoc}
use Rattle.std.proofs.ByRecursion.{All-push}
use Rattle.model.specs.declared.Cell.{Cell}
use Rattle.model.specs.declared.Event.{Event}
use Rattle.record.specs.declared.reader.Reader.{Reader}
use Rattle.record.specs.Events.{event_form, Writable}
use Rattle.record.specs.Readers.{left_of, Passed, EventCall}
use Rattle.listing.specs.Files.{events_form}

-- a reader that went from r over the events es
pub record Walked (r : Reader) (es : List (Event Cell)) (s : Reader) : Type 0 where
  pub fit : AllByRecursion Writable es
  pub cut : left_of r ≡ events_form es ++ left_of s
  pub place : s.place ≡ r.place + length (events_form es)

-- one event more
pub walked_more : (r s t : Reader) (es : List (Event Cell)) (e : Event Cell) → Walked r es s → Writable e → Passed s (event_form e) t → Walked r (es ++ e ∷ []) t
walked_more r s t es e w h p =
    let pushed : events_form es ++ event_form e ≡ events_form (es ++ e ∷ []) = flat_map_more event_form [] es e in
    record {
      fit = All-push Writable es e w.fit h;
      cut = rw (w.cut, p.0, ← pushed, append_assoc);
      place = omega (arith, p, w.place, simp length-append at (ap length pushed));
    }

-- an event's form is not empty, so less is left after it
pub less_left : (s t : Reader) (e : Event Cell) → Passed s (event_form e) t → length (left_of t) < length (left_of s)
less_left s t e p = omega (arith, simp length-append at (ap length p.0))

-- a call that answers an event has read it
pub next_event : (s t : Reader) (o : Option (Event Cell)) (e : Event Cell) → o ≡ Some e → EventCall s (Ok o) t → Writable e × Passed s (event_form e) t
next_event s t o e is h = rw is at h
