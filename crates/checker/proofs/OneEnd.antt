-- A check ends at one place and in one way: no event is taken where it ends, and what ends it there is refused for one reason.
use Rattle.std.proofs.Common.{◌≡◌, ℕ, List, [], ◌∷◌, ◌++◌, length, Some, None, Option, sym, refl, ap, ◌∙◌, arith}
use Rattle.model.specs.declared.Cell.{Cell}
use Rattle.model.specs.declared.Event.{Event}
use Rattle.model.specs.declared.Race.{Race}
use Rattle.model.specs.Past.{Past}
use Rattle.model.specs.Mailboxes.{mailbox_cells}
use Rattle.model.specs.Rules.{Limits, judge, taken}
use Rattle.model.specs.Laws.{Clean, Outcome}
use Rattle.record.specs.Events.{EventRead}
use Rattle.record.proofs.OneEvent.{events_apart, event_not_refused, event_one_fault}
use Rattle.run.specs.declared.token.Withdrawn.{Withdrawn as Token}
use Rattle.run.specs.Faults.{number_of}
use Rattle.checker.specs.declared.fault.FileFault.{FileFault}
use Rattle.checker.specs.declared.fault.FileFault.TheVariants.{Bytes, Run}
use Rattle.checker.specs.declared.fault.FileRefusal.{FileRefusal}
use Rattle.checker.specs.declared.report.Report.{Report}
use Rattle.checker.specs.declared.report.Report.TheVariants.{Sealed, Withdrawn, Unopened}
use Rattle.checker.specs.Checks.{RefusedBy, Ends}
use Rattle.checker.proofs.OneFault.{same_fault}

-- the same bytes begin with the same event
same_event : (bs : List ℕ) (d e : Event Cell) (r s : List ℕ) → EventRead bs d r → EventRead bs e s → d ≡ e
same_event bs d e r s p q = (events_apart d e r s p.0 q.0 (sym p.1 ∙ q.1)).0

-- what a refusal and a withdrawal are told by
same_refusal : (f g : FileRefusal) → f.fault ≡ g.fault → f.byte ≡ g.byte → f ≡ g
same_refusal f g p q = λ i. record { fault = p i; byte = q i }

same_job : (v w : Token) → v.job ≡ w.job → v ≡ w
same_job v w p = λ i. record { job = p i }

module _ (l : Limits) where
  -- at most one race comes of a past
  pub one_race : (h : Past Cell) (m n : Option (Race Cell)) → Outcome mailbox_cells l h m → Outcome mailbox_cells l h n → m ≡ n
  one_race h None None p q = refl
  one_race [] None (Some r) p q = absurd q
  one_race [] (Some r) n p q = absurd p
  one_race (e ∷ h) None (Some r) p q = cc (p.0, q.0)
  one_race (e ∷ h) (Some r) None p q = cc (p.0, q.0)
  one_race (e ∷ h) (Some r) (Some s) p q = cc (p.0, q.0)

  -- an event of a past was taken, and all before it is clean
  pub taken_at : (later h : Past Cell) (e : Event Cell) (m : Option (Race Cell)) → Outcome mailbox_cells l (later ++ (e ∷ h)) m
      → ((n : Option (Race Cell)) × (judge mailbox_cells l h e ≡ taken n)) × Clean mailbox_cells l h
  taken_at [] h e None q = ((None, q.0), q.1)
  taken_at [] h e (Some r) q = ((Some r, q.0), q.1)
  taken_at (d ∷ later) h e None q = taken_at later h e None q.1
  taken_at (d ∷ later) h e (Some r) q = taken_at later h e None q.1

  -- an event that is taken after h begins the bytes
  module _ (h : Past Cell) (rest : List ℕ) (e : Event Cell) (more : List ℕ) (read : EventRead rest e more)
      (n : Option (Race Cell)) (took : judge mailbox_cells l h e ≡ taken n) where
    none_refused : (f : FileFault) → RefusedBy l h rest f → ⊥
    none_refused (Bytes f) p = event_not_refused rest e more f read p.1
    none_refused (Run f) (d, left, there, p) = let same : d ≡ e = same_event rest d e left more there read in cc

    pub no_end : (job at : ℕ) (report : Report) → Ends l job h None rest at report → ⊥
    no_end job at (Sealed v) p = cc (read.1, p.0)
    no_end job at (Withdrawn w f) p = none_refused f.fault p.2
    no_end job at (Unopened f) p = p

  module _ (h : Past Cell) (rest : List ℕ) where
    -- bytes are refused for one reason, and by the rules by one number
    one_fault : (f g : FileFault) → RefusedBy l h rest f → RefusedBy l h rest g → f ≡ g
    one_fault (Bytes f) (Bytes g) p q = ap Bytes (event_one_fault rest f g p.1 q.1)
    one_fault (Bytes f) (Run g) p q = absurd (event_not_refused rest q.0 q.1 f q.2 p.1)
    one_fault (Run f) (Bytes g) p q = absurd (event_not_refused rest p.0 p.1 g p.2 q.1)
    one_fault (Run f) (Run g) (d, left, there, p) (e, more, here, q) =
        let same : d ≡ e = same_event rest d e left more there here in
        let number : number_of f ≡ number_of g = cc in
        ap Run (same_fault f g number)

    -- bytes that are refused are there
    some_left : (f : FileFault) → RefusedBy l h rest f → rest ≡ [] → ⊥
    some_left (Bytes f) p none = omega (arith, ap length none)
    some_left (Run f) (e, more, read, p) none = cc (read.1, none)

    -- an end is sealed or withdrawn, and only one of these
    pub one_end : (job at : ℕ) (m : Option (Race Cell)) (a b : Report) → Ends l job h m rest at a → Ends l job h m rest at b → a ≡ b
    one_end job at None (Sealed v) (Sealed w) p q = ap Sealed (p.1 ∙ sym q.1)
    one_end job at None (Sealed v) (Withdrawn w f) p q = absurd (some_left f.fault q.2 p.0)
    one_end job at None (Withdrawn w f) (Sealed v) p q = absurd (some_left f.fault p.2 q.0)
    one_end job at None (Withdrawn v f) (Withdrawn w g) p q =
        let token : v ≡ w = same_job v w (p.0 ∙ sym q.0) in
        let refusal : f ≡ g = same_refusal f g (one_fault f.fault g.fault p.2 q.2) (p.1 ∙ sym q.1) in
        λ i. Withdrawn (token i) (refusal i)
    one_end job at (Some r) (Sealed v) (Sealed w) p q = ap Sealed (p ∙ sym q)
    one_end job at m (Unopened f) b p q = absurd p
    one_end job at (Some r) (Withdrawn w f) b p q = absurd p
    one_end job at m a b p q = absurd q
