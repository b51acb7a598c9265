-- A past by the two readers that stand before it and behind it: an event that is read next joins it.
use Rattle.std.proofs.Common.{◌≡◌, ◌+◌, List, [], ◌∷◌, ◌++◌, length, reverse, Option, ap, ◌∙◌, arith, length-append}
use Rattle.std.proofs.lemmas.List.{append_assoc, append-nil}
use Rattle.std.proofs.lemmas.Grind.{reverse_onto, flat_map-append}
use Rattle.std.specs.List.{AllByRecursion}
use Rattle.model.specs.declared.Cell.{Cell}
use Rattle.model.specs.declared.Event.{Event}
use Rattle.model.specs.declared.Race.{Race}
use Rattle.model.specs.Past.{Past}
use Rattle.model.specs.Mailboxes.{mailbox_cells}
use Rattle.model.specs.Rules.{Limits}
use Rattle.model.specs.Laws.{Outcome}
use Rattle.record.specs.declared.reader.Reader.{Reader}
use Rattle.record.specs.Events.{event_form, Writable}
use Rattle.record.specs.Readers.{left_of, Passed}
use Rattle.checker.specs.Checks.{past_form}
use Rattle.checker.specs.Feeding.{Takes}

-- r stands before the events h, and s behind them
pub record Between (r s : Reader) (h : Past Cell) : Type 0 where
  pub each_fits : AllByRecursion Writable (reverse h)
  pub cut : left_of r ≡ past_form h ++ left_of s
  pub place : s.place ≡ r.place + length (past_form h)

-- the latest event stands last
form_more : (h : Past Cell) (e : Event Cell) → past_form (e ∷ h) ≡ past_form h ++ event_form e
form_more h e = rw (reverse_onto h e [], flat_map-append event_form (reverse h) (e ∷ []), append-nil)

fits_more : (es : List (Event Cell)) (e : Event Cell) → AllByRecursion Writable es → Writable e → AllByRecursion Writable (es ++ (e ∷ []))
fits_more [] e f w = (w, tt)
fits_more (d ∷ es) e f w = (f.0, fits_more es e f.1 w)

pub one_more : (r s t : Reader) (h : Past Cell) (e : Event Cell)
    → Between r s h → Writable e → Passed s (event_form e) t → Between r t (e ∷ h)
one_more r s t h e b w p = record {
  each_fits = rw (reverse_onto h e []) (fits_more (reverse h) e b.each_fits w);
  cut = rw (form_more h e, append_assoc) (b.cut ∙ ap (λ bs. past_form h ++ bs) p.0);
  place = rw (form_more h e, length-append) (omega (arith, b.place, p.1));
}

-- with what comes of it, it is what a run takes
pub takes : {l : Limits} {r s : Reader} {h : Past Cell} {m : Option (Race Cell)}
    → Between r s h → Outcome mailbox_cells l h m → Takes l (left_of r) h m (left_of s)
takes b q = record { each_fits = b.each_fits; cut = b.cut; outcome = q }
