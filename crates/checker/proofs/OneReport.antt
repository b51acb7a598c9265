-- One report fits a file: of two ways to cut it neither goes on where the other ends.
use Rattle.std.proofs.Common.{◌≡◌, ℕ, List, [], ◌∷◌, ◌++◌, length, reverse, None, sym, refl, ap, ◌∙◌, subst, ◌⊎◌, inl, inr}
use Rattle.std.specs.List.{AllByRecursion}
use Rattle.std.proofs.lemmas.Bool.{cases_lt}
use Rattle.std.proofs.lemmas.Grind.{reverse_onto}
use Rattle.std.proofs.lemmas.List.{append_assoc, reverse-append, reverse-reverse}
use Rattle.model.specs.declared.Cell.{Cell}
use Rattle.model.specs.declared.Event.{Event}
use Rattle.model.specs.Past.{Past}
use Rattle.model.specs.Mailboxes.{mailbox_cells}
use Rattle.model.specs.Rules.{Limits}
use Rattle.model.specs.Laws.{Outcome}
use Rattle.record.specs.declared.fault.ByteRefusal.{ByteRefusal}
use Rattle.record.specs.Numbers.{number_form}
use Rattle.record.specs.Events.{Writable, EventRead}
use Rattle.record.proofs.OneNumber.{numbers_apart}
use Rattle.record.proofs.OneEvent.{events_apart}
use Rattle.record.proofs.OneHeading.{heading_back}
use Rattle.listing.specs.Files.{events_form, NoJob}
use Rattle.listing.proofs.OneListing.{no_job_once, job_or_none}
use Rattle.checker.specs.declared.fault.FileRefusal.{FileRefusal}
use Rattle.checker.specs.declared.report.Report.{Report}
use Rattle.checker.specs.declared.report.Report.TheVariants.{Unopened}
use Rattle.checker.specs.Checks.{past_form, Opened, Means, Shut, Checked, OnlyReport}
use Rattle.checker.proofs.OneEnd.{one_race, taken_at, no_end, one_end}

-- after the events es come `more`, and then what follows ds
record GoesOn (es ds : List (Event Cell)) (r s : List ℕ) : Type 0 where
  more : List (Event Cell)
  longer : ds ≡ es ++ more
  fits : AllByRecursion Writable more
  follows : r ≡ events_form more ++ s

-- of two lists of events that the same bytes hold, one goes on where the other ends
one_goes_on : (es ds : List (Event Cell)) (r s : List ℕ) → AllByRecursion Writable es → AllByRecursion Writable ds
    → events_form es ++ r ≡ events_form ds ++ s → GoesOn es ds r s ⊎ GoesOn ds es s r
one_goes_on [] ds r s h k q = inl (record { more = ds; longer = refl; fits = k; follows = q })
one_goes_on (e ∷ es) [] r s h k q = inr (record { more = e ∷ es; longer = refl; fits = h; follows = sym q })
one_goes_on (e ∷ es) (d ∷ ds) r s h k q =
    let first = events_apart e d (events_form es ++ r) (events_form ds ++ s) h.0 k.0 (simp append_assoc at q) in
    elim (one_goes_on es ds r s h.1 k.1 first.1) [
      | inl w ↦ inl (record { more = w.more; longer = λ i. sym first.0 i ∷ w.longer i; fits = w.fits; follows = w.follows })
      | inr w ↦ inr (record { more = w.more; longer = λ i. first.0 i ∷ w.longer i; fits = w.fits; follows = w.follows })
    ]

-- a past whose events go on after those of another is that one, with more on top
turned : (h g : Past Cell) (more : List (Event Cell)) → reverse g ≡ reverse h ++ more → g ≡ reverse more ++ h
turned h g more e = sym (reverse-reverse g) ∙ ap reverse e ∙ reverse-append (reverse h) more ∙ ap (reverse more ++◌) (reverse-reverse h)

turned_back : (h : Past Cell) (e : Event Cell) (more : List (Event Cell)) → reverse (e ∷ more) ++ h ≡ reverse more ++ (e ∷ h)
turned_back h e more = ap (◌++ h) (reverse_onto more e []) ∙ append_assoc (reverse more) (e ∷ []) h

module _ (l : Limits) (bs : List ℕ) where
  -- where one check ends no event is taken
  no_more : (a b : Report) (o : Opened l bs a) (p : Opened l bs b) (more : List (Event Cell)) → AllByRecursion Writable more
      → p.taken ≡ reverse more ++ o.taken → o.rest ≡ events_form more ++ p.rest → (o.taken ≡ p.taken) × (o.rest ≡ p.rest)
  no_more a b o p [] fits e f = (sym e, f)
  no_more a b o p (d ∷ more) fits e f =
      let left : List ℕ = events_form more ++ p.rest in
      let read : EventRead o.rest d left = (fits.0, rw append_assoc at f) in
      let longer : p.taken ≡ reverse more ++ (d ∷ o.taken) = e ∙ turned_back o.taken d more in
      let took = taken_at l (reverse more) o.taken d p.race (subst (λ h. Outcome mailbox_cells l h p.race) longer p.outcome) in
      let none : o.race ≡ None = one_race l o.taken o.race None o.outcome took.1 in
      absurd (no_end l o.taken o.rest d left read took.0.0 took.0.1 o.job _ a (rw none at o.ends))

  module _ (a b : Report) (o : Opened l bs a) (p : Opened l bs b) where
    -- both end after the same events
    one_cut : past_form o.taken ++ o.rest ≡ past_form p.taken ++ p.rest → (o.taken ≡ p.taken) × (o.rest ≡ p.rest)
    one_cut e = elim (one_goes_on (reverse o.taken) (reverse p.taken) o.rest p.rest o.each_fits p.each_fits e) [
      | inl w ↦ no_more a b o p w.more w.fits (turned o.taken p.taken w.more w.longer) w.follows
      | inr w ↦ (let q = no_more b a p o w.more w.fits (turned p.taken o.taken w.more w.longer) w.follows in (sym q.0, sym q.1))
    ]

    -- and so with the same report
    one_opened : a ≡ b
    one_opened =
        let mine : List ℕ = past_form o.taken ++ o.rest in
        let others : List ℕ = past_form p.taken ++ p.rest in
        let behind = heading_back bs (number_form o.job ++ mine) (number_form p.job ++ others) o.cut p.cut in
        let same = numbers_apart o.job p.job mine others o.job_fits p.job_fits behind in
        let cut = one_cut same.1 in
        let race : o.race ≡ p.race = one_race l o.taken o.race p.race o.outcome (rw cut.0 p.outcome) in
        one_end l o.taken o.rest o.job _ o.race a b o.ends (rw (same.0, cut.0, race, cut.1) p.ends)

  -- a file with a job number has no reason to be shut
  opened_or_shut : (a : Report) (f : ByteRefusal) → Opened l bs a → NoJob bs f → ⊥
  opened_or_shut a f o why = job_or_none bs f o.job (past_form o.taken ++ o.rest) why o.job_fits o.cut

  -- what is said of a file that is not too long
  abbrev Fitting : Report → Type 0
  Fitting r = ((o : Opened l bs r) × Means l bs r o) ⊎ ((f : FileRefusal) × (r ≡ Unopened f) × Shut bs f)

  one_fits : (a b : Report) → Fitting a → Fitting b → b ≡ a
  one_fits a b (inl (o, m)) (inl (p, n)) = one_opened b a p o
  one_fits a b (inl (o, m)) (inr (g, e, (s, t, why))) = absurd (opened_or_shut a s o why)
  one_fits a b (inr (f, e, (r, t, why))) (inl (p, n)) = absurd (opened_or_shut b r p why)
  one_fits a b (inr (f, e, (r, t, why))) (inr (g, k, (s, u, how))) = let same = no_job_once bs r s why how in cc

  pub only : (report : Report) → Checked l bs report → OnlyReport l bs report
  only a c b d = elim (cases_lt 65536 (length bs)) [
    | inl long ↦ d.long long ∙ sym (c.long long)
    | inr short ↦ one_fits a b (c.read short) (d.read short)
  ]

  -- all that is promised of a report follows from its first clause
  abbrev pub Clauses : Report → Type 0
  Clauses report = record { checked : Checked l bs report; only : OnlyReport l bs report }

  pub clauses : (report : Report) → Checked l bs report → Clauses report
  clauses report c = record { checked = c; only = only report c }
