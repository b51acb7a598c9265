-- A file is listed in one way: each of its parts is, and no event begins where its events stop.
use Rattle.std.proofs.Common.{◌≡◌, ℕ, ◌+◌, ◌^◌, ◌<◌, List, [], ◌∷◌, ◌++◌, length, Some, None, Ok, Err, Option, Result, vec_items, sym, refl, ap, ◌∙◌, inl, inr, arith}
use Rattle.std.specs.List.{AllByRecursion}
use Rattle.std.proofs.lemmas.List.{append_assoc, append-nil}
use Rattle.model.specs.declared.Cell.{Cell}
use Rattle.model.specs.declared.Event.{Event}
use Rattle.record.specs.declared.fault.ByteRefusal.{ByteRefusal}
use Rattle.record.specs.Numbers.{number_form}
use Rattle.record.specs.Heading.{heading}
use Rattle.record.specs.Events.{Writable, EventRead, EventRefused}
use Rattle.record.proofs.OneNumber.{numbers_apart, number_not_refused, number_one_fault}
use Rattle.record.proofs.OneEvent.{events_apart, event_not_refused, event_one_fault}
use Rattle.record.proofs.OneHeading.{heading_back, heading_not_refused, heading_one_fault}
use Rattle.listing.specs.declared.error.ListError.{ListError}
use Rattle.listing.specs.declared.error.ListError.TheVariants.{Refused, OutOfMemory}
use Rattle.listing.specs.declared.file.Listing.{Listing}
use Rattle.listing.specs.Listings.{Tells}
use Rattle.listing.specs.Files.{events_form, EventsRead, NoJob, Listed, OnlyListing, ReadsBack, WritesBack}

-- what follows the events, at place `at`: nothing, or what f refuses
abbrev Ends : ℕ → List ℕ → Option ByteRefusal → Type 0
Ends at rest None = rest ≡ []
Ends at rest (Some f) = (0 < length rest) × (f.place ≡ at) × EventRefused rest f.fault

-- the events and what follows them, whether or not a fault stopped them
record Parted (from : ℕ) (bs : List ℕ) (es : List (Event Cell)) (f : Option ByteRefusal) : Type 0 where
  rest : List ℕ
  all : AllByRecursion Writable es
  cut : bs ≡ events_form es ++ rest
  ends : Ends (from + length (events_form es)) rest f

parted : (from : ℕ) (bs : List ℕ) (es : List (Event Cell)) (f : Option ByteRefusal) → EventsRead from bs es f → Parted from bs es f
parted from bs es None (h, e) = record { rest = []; all = h; cut = rw append-nil e; ends = refl }
parted from bs es (Some f) (h, s) = record { rest = s.rest; all = h; cut = s.cut; ends = (s.some, s.place, s.why) }

-- no event begins bs
abbrev NoEvent : List ℕ → Type 0
NoEvent bs = (e : Event Cell) (more : List ℕ) → EventRead bs e more → ⊥

none_left : (at : ℕ) (rest : List ℕ) (f : Option ByteRefusal) → Ends at rest f → NoEvent rest
none_left at rest None h e more r = cc r.1
none_left at rest (Some f) h e more r = event_not_refused rest e more f.fault r h.2

-- a refusal is its fault and its place
same_refusal : (f g : ByteRefusal) → f.fault ≡ g.fault → f.place ≡ g.place → f ≡ g
same_refusal f g p q = λ i. record { fault = p i; place = q i }

one_end : (at : ℕ) (rest : List ℕ) (f g : Option ByteRefusal) → Ends at rest f → Ends at rest g → f ≡ g
one_end at rest None None h k = refl
one_end at rest None (Some g) h k = absurd (omega (arith, ap length h))
one_end at rest (Some f) None h k = absurd (omega (arith, ap length k))
one_end at rest (Some f) (Some g) h k = ap Some (same_refusal f g (event_one_fault rest f.fault g.fault h.2 k.2) (h.1 ∙ sym k.1))

-- no events stand where none begins
no_first : (d : Event Cell) (ds : List (Event Cell)) (r s : List ℕ) → AllByRecursion Writable (d ∷ ds) → NoEvent r → r ≡ events_form (d ∷ ds) ++ s → ⊥
no_first d ds r s h n e = n d (events_form ds ++ s) (h.0, rw append_assoc at e)

-- the same bytes hold the same events, if no further event follows either
events_once : (es ds : List (Event Cell)) (r s : List ℕ) → AllByRecursion Writable es → AllByRecursion Writable ds → NoEvent r → NoEvent s → events_form es ++ r ≡ events_form ds ++ s → (es ≡ ds) × (r ≡ s)
events_once [] [] r s h k m n q = (refl, q)
events_once [] (d ∷ ds) r s h k m n q = absurd (no_first d ds r s k m q)
events_once (e ∷ es) [] r s h k m n q = absurd (no_first e es s r h n (sym q))
events_once (e ∷ es) (d ∷ ds) r s h k m n q =
    let first = events_apart e d (events_form es ++ r) (events_form ds ++ s) h.0 k.0 (simp append_assoc at q) in
    let after = events_once es ds r s h.1 k.1 m n first.1 in
    (cc, after.1)

pub only_events : (from : ℕ) (bs : List ℕ) (es es' : List (Event Cell)) (f f' : Option ByteRefusal) → EventsRead from bs es f → EventsRead from bs es' f' → (es ≡ es') × (f ≡ f')
only_events from bs es es' f f' p q =
    let u = parted from bs es f p in
    let v = parted from bs es' f' q in
    let place : List (Event Cell) → ℕ = λ ds. from + length (events_form ds) in
    let once = events_once es es' u.rest v.rest u.all v.all (none_left (place es) u.rest f u.ends) (none_left (place es') v.rest f' v.ends) (sym u.cut ∙ v.cut) in
    (once.0, one_end (place es) u.rest f f' u.ends (rw (once.1, once.0) v.ends))

pub no_job_once : (bs : List ℕ) (f g : ByteRefusal) → NoJob bs f → NoJob bs g → f ≡ g
no_job_once bs f g (inl h) (inl k) = same_refusal f g (heading_one_fault bs f.fault g.fault h.1 k.1) (h.0 ∙ sym k.0)
no_job_once bs f g (inl h) (inr k) = absurd (heading_not_refused bs k.0 f.fault k.1 h.1)
no_job_once bs f g (inr h) (inl k) = absurd (heading_not_refused bs h.0 g.fault h.1 k.1)
no_job_once bs f g (inr h) (inr k) =
    same_refusal f g (number_one_fault h.0 f.fault g.fault h.3 (rw (heading_back bs h.0 k.0 h.1 k.1) k.3)) (h.2 ∙ sym k.2)

-- a file with no job number does not begin with one
pub job_or_none : (bs : List ℕ) (f : ByteRefusal) (job : ℕ) (rest : List ℕ) → NoJob bs f → job < 2 ^ 63 → bs ≡ heading ++ (number_form job ++ rest) → ⊥
job_or_none bs f job rest (inl h) l e = heading_not_refused bs (number_form job ++ rest) f.fault e h.1
job_or_none bs f job rest (inr h) l e = number_not_refused h.0 job rest f.fault (l, heading_back bs h.0 (number_form job ++ rest) h.1 e) h.3

-- the same bytes hold the same job, and the same follows it
jobs_once : (bs : List ℕ) (m n : ℕ) (r s : List ℕ) → m < 2 ^ 63 → n < 2 ^ 63 → bs ≡ heading ++ (number_form m ++ r) → bs ≡ heading ++ (number_form n ++ s) → (m ≡ n) × (r ≡ s)
jobs_once bs m n r s h k p q = numbers_apart m n r s h k (heading_back bs (number_form m ++ r) (number_form n ++ s) p q)

pub only_listing : (bs : List ℕ) (job : Option ℕ) (es : List (Event Cell)) (f : Option ByteRefusal) → Listed bs job es f → OnlyListing bs job es f
only_listing bs None es None h job' es' f' k = absurd h
only_listing bs None es (Some f) h None es' None k = absurd k
only_listing bs None es (Some f) h None es' (Some f') k = (refl, h.0 ∙ sym k.0, ap Some (no_job_once bs f f' h.1 k.1))
only_listing bs None es (Some f) h (Some n) es' f' k = absurd (job_or_none bs f n k.1.0 h.1 k.0 k.1.1)
only_listing bs (Some n) es f h None es' None k = absurd k
only_listing bs (Some n) es f h None es' (Some f') k = absurd (job_or_none bs f' n h.1.0 k.1 h.0 h.1.1)
only_listing bs (Some m) es f h (Some n) es' f' k =
    let one = jobs_once bs m n h.1.0 k.1.0 h.0 k.0 h.1.1 k.1.1 in
    let all = only_events (4 + length (number_form m)) h.1.0 es es' f f' h.1.2 (rw (one.0, one.1) k.1.2) in
    (ap Some one.0, all.0, all.1)

pub reads_back : (bs : List ℕ) (job : Option ℕ) (es : List (Event Cell)) (f : Option ByteRefusal) → Listed bs job es f → ReadsBack bs job es f
reads_back bs job es f h n ds fits e = only_listing bs job es f h (Some n) ds None (fits.0, (events_form ds, e, (fits.1, refl)))

pub writes_back : (bs : List ℕ) (job : Option ℕ) (es : List (Event Cell)) (f : Option ByteRefusal) → Listed bs job es f → WritesBack bs job es f
writes_back bs job es f h n p q =
    let k = rw (p, q) at h in
    ((k.0, k.1.2.0), rw (← k.1.2.1) k.1.1)

-- what follows of each listing follows of an answer
told_more : (P Q : Option ℕ → List (Event Cell) → Option ByteRefusal → Type 0) → ((job : Option ℕ) (es : List (Event Cell)) (f : Option ByteRefusal) → P job es f → Q job es f) → (r : Result Listing ListError) → Tells P r → Tells Q r
told_more P Q on (Ok l) h = on (Some l.job) (vec_items l.events) l.refusal h
told_more P Q on (Err (Refused f)) h = on None [] (Some f) h
told_more P Q on (Err (OutOfMemory e)) h = tt

pub only_told : (bs : List ℕ) (r : Result Listing ListError) → Tells (Listed bs) r → Tells (OnlyListing bs) r
only_told bs = told_more (Listed bs) (OnlyListing bs) (only_listing bs)

pub read_back_told : (bs : List ℕ) (r : Result Listing ListError) → Tells (Listed bs) r → Tells (ReadsBack bs) r
read_back_told bs = told_more (Listed bs) (ReadsBack bs) (reads_back bs)
