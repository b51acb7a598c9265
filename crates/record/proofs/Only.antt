-- What is read is read in one way: the answer is the only one that fits.
use Rattle.std.proofs.Common.{◌≡◌, ℕ, List, Ok, Err, Result, sym, ◌∙◌, Bor}
use Rattle.model.specs.declared.Cell.{Cell}
use Rattle.model.specs.declared.Event.{Event}
use Rattle.record.specs.declared.fault.ByteFault.{ByteFault}
use Rattle.record.specs.Numbers.{NumberRead, NumberRefused}
use Rattle.record.specs.Heading.{HeadingRead, HeadingRefused}
use Rattle.record.specs.Events.{EventRead, EventRefused}
use Rattle.record.specs.Laws.{NumbersApart}
use Rattle.record.specs.Examples.{NumberExamples}
use Rattle.record.specs.Answers.{Answer, OnlyAnswer, RestAnswer, OnlyRest}
use Rattle.record.proofs.OneNumber.{numbers_apart, number_not_refused, number_one_fault}
use Rattle.record.proofs.OneEvent.{events_apart, event_not_refused, event_one_fault}
use Rattle.record.proofs.OneHeading.{heading_back, heading_not_refused, heading_one_fault}
use Rattle.record.proofs.ByExample.{number_examples}

-- a reading that gives at most one value, refuses for at most one reason, and never does both
module _ {V : Type 0} (Read : List ℕ → V → List ℕ → Type 0) (Refused : List ℕ → ByteFault → Type 0) (once : (bs : List ℕ) (v w : V) (r s : List ℕ) → Read bs v r → Read bs w s → (v ≡ w) × (r ≡ s)) (apart : (bs : List ℕ) (v : V) (r : List ℕ) (f : ByteFault) → Read bs v r → Refused bs f → ⊥) (one : (bs : List ℕ) (f g : ByteFault) → Refused bs f → Refused bs g → f ≡ g) where
  only : (bs : List ℕ) (r : Result (V × Bor (List ℕ)) ByteFault) → Answer Read Refused bs r → OnlyAnswer Read Refused bs r
  only bs (Ok p) h = (λ v rest k. once bs p.0 v p.1.now rest h k, λ f k. apart bs p.0 p.1.now f h k)
  only bs (Err g) h = (λ v rest k. apart bs v rest g k h, λ f k. one bs g f h k)

pub number_only : (bs : List ℕ) (r : Result (ℕ × Bor (List ℕ)) ByteFault) → Answer NumberRead NumberRefused bs r → OnlyAnswer NumberRead NumberRefused bs r
number_only = only NumberRead NumberRefused (λ bs m n r s p q. numbers_apart m n r s p.0 q.0 (sym p.1 ∙ q.1)) number_not_refused number_one_fault

pub event_only : (bs : List ℕ) (r : Result (Event Cell × Bor (List ℕ)) ByteFault) → Answer EventRead EventRefused bs r → OnlyAnswer EventRead EventRefused bs r
event_only = only EventRead EventRefused (λ bs d e r s p q. events_apart d e r s p.0 q.0 (sym p.1 ∙ q.1)) event_not_refused event_one_fault

pub heading_only : (bs : List ℕ) (r : Result (Bor (List ℕ)) ByteFault) → RestAnswer HeadingRead HeadingRefused bs r → OnlyRest HeadingRead HeadingRefused bs r
heading_only bs (Ok p) h = (λ rest k. heading_back bs p.now rest h k, λ f k. heading_not_refused bs p.now f h k)
heading_only bs (Err g) h = (λ rest k. heading_not_refused bs rest g k h, λ f k. heading_one_fault bs g f h k)

-- all that is promised of a call that reads a number follows from its first clause
abbrev pub NumberClauses : List ℕ → Result (ℕ × Bor (List ℕ)) ByteFault → Type 0
NumberClauses bs r = record { answered : Answer NumberRead NumberRefused bs r; only : OnlyAnswer NumberRead NumberRefused bs r; apart : NumbersApart; examples : NumberExamples }

pub number_clauses : (bs : List ℕ) (r : Result (ℕ × Bor (List ℕ)) ByteFault) → Answer NumberRead NumberRefused bs r → NumberClauses bs r
number_clauses bs r a = record { answered = a; only = number_only bs r a; apart = numbers_apart; examples = number_examples }

-- a number is read, and the rest lies anywhere in memory
pub read_clauses : (bs : List ℕ) (n : ℕ) (rest : List ℕ) → NumberRead bs n rest → NumberClauses bs (Ok (n, record { ref_ptr = (0, 0); now = rest }))
read_clauses bs n rest h = number_clauses bs (Ok (n, record { ref_ptr = (0, 0); now = rest })) h
