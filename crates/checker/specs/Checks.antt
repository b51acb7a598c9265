-- The report of a file.
use Rattle.std.specs.Prelude.{◌≡◌, ℕ, ◌+◌, ◌^◌, ◌<◌, ◌≤◌, ◌⊎◌, List, [], ◌++◌, length, reverse, Option, Some, None, Result, Ok, Err}
use Rattle.std.specs.List.{AllByRecursion}
use Rattle.model.specs.declared.Cell.{Cell}
use Rattle.model.specs.declared.Event.{Event}
use Rattle.model.specs.declared.Race.{Race}
use Rattle.model.specs.Past.{Past}
use Rattle.model.specs.Mailboxes.{mailbox_cells}
use Rattle.model.specs.Rules.{Limits, judge, refused}
use Rattle.model.specs.Laws.{Outcome}
use Rattle.record.specs.declared.fault.ByteFault.TheVariants.{NoRoom}
use Rattle.record.specs.declared.fault.ByteRefusal.{ByteRefusal}
use Rattle.record.specs.declared.reader.Reader.{Reader}
use Rattle.record.specs.Numbers.{number_form, NumberRefused}
use Rattle.record.specs.Heading.{heading, HeadingRefused}
use Rattle.record.specs.Events.{EventRead, EventRefused, Writable}
use Rattle.record.specs.Readers.{left_of, Passed, Stayed}
use Rattle.listing.specs.Files.{events_form, NoJob}
use Rattle.run.specs.Faults.{number_of}
use Rattle.run.specs.Laws.{CleanSettled, RacedLatest, RacedBeside, CleanAnyOrder, FirstNamed}
use Rattle.checker.specs.declared.fault.FileFault.{FileFault}
use Rattle.checker.specs.declared.fault.FileFault.TheVariants.{Bytes, Run}
use Rattle.checker.specs.declared.fault.FileRefusal.{FileRefusal}
use Rattle.checker.specs.declared.report.Report.{Report}
use Rattle.checker.specs.declared.report.Report.TheVariants.{Sealed, Withdrawn, Unopened}
use Rattle.checker.specs.Faults.{refusal_of}

-- what a run may hold that a file is checked by: 4,000 records are room for 1,001 steps
abbrev pub check_limits : Limits
check_limits = record { events = 65535; steps = 1001; cells = 512; names = 256 }

-- the events of a past, as they stand in a file
abbrev pub past_form : Past Cell → List ℕ
past_form h = events_form (reverse h)

-- no job number is read
abbrev pub Shut : List ℕ → FileRefusal → Type 0
Shut bs f = (r : ByteRefusal) × (f ≡ refusal_of r) × NoJob bs r

module _ (l : Limits) where
  -- what is refused where `rest` begins, if a run has taken h: bytes that are no event, or an event that the rules refuse
  abbrev pub RefusedBy : Past Cell → List ℕ → FileFault → Type 0
  RefusedBy h rest (Bytes f) = (0 < length rest) × EventRefused rest f
  RefusedBy h rest (Run f) = (e : Event Cell) × (more : List ℕ) × EventRead rest e more × (judge mailbox_cells l h e ≡ refused (number_of f))

  -- how the check ends that has read a job number and the events h, which are all taken; the last of them makes the race, if there
  -- is one; `rest` is what follows them, and begins at the byte `at`
  abbrev pub Ends : ℕ → Past Cell → Option (Race Cell) → List ℕ → ℕ → Report → Type 0
  Ends job h None rest at (Sealed v) = (rest ≡ []) × (v ≡ record { job = job; race = None; events = length h })
  Ends job h (Some r) rest at (Sealed v) = v ≡ record { job = job; race = Some r; events = length h }
  Ends job h None rest at (Withdrawn w f) = (w.job ≡ job) × (f.byte ≡ at) × RefusedBy h rest f.fault
  Ends job h (Some r) rest at (Withdrawn w f) = ⊥
  Ends job h o rest at (Unopened f) = ⊥

  -- a file with a job number: the events that are taken, and the race that the last of them makes, if it does
  pub record Opened (bs : List ℕ) (report : Report) : Type 0 where
    pub job : ℕ
    pub taken : Past Cell
    pub race : Option (Race Cell)
    pub rest : List ℕ
    pub job_fits : job < 2 ^ 63
    pub each_fits : AllByRecursion Writable (reverse taken)
    pub cut : bs ≡ heading ++ (number_form job ++ (past_form taken ++ rest))
    pub outcome : Outcome mailbox_cells l taken race
    pub ends : Ends job taken race rest (4 + (length (number_form job) + length (past_form taken))) report

  -- what a run says of the events that it has taken, whatever order the scheduler takes them in
  pub record Means (bs : List ℕ) (report : Report) (o : Opened bs report) : Type 0 where
    pub clean_settled : CleanSettled o.taken o.race
    pub raced_latest : RacedLatest (record { job = o.job; limits = l }) o.taken o.race
    pub raced_beside : RacedBeside o.taken o.race
    pub clean_any_order : CleanAnyOrder (record { job = o.job; limits = l }) o.taken o.race
    pub first_named : FirstNamed o.taken o.race

  -- the report of a file; of one that is too long nothing is read
  pub record Checked (bs : List ℕ) (report : Report) : Type 0 where
    pub long : 65536 < length bs → report ≡ Unopened (record { fault = Bytes NoRoom; byte = 65536 })
    pub read : length bs ≤ 65536
        → ((o : Opened bs report) × Means bs report o) ⊎ ((f : FileRefusal) × (report ≡ Unopened f) × Shut bs f)

  -- no other report fits the file
  abbrev pub OnlyReport : List ℕ → Report → Type 0
  OnlyReport bs report = (other : Report) → Checked bs other → other ≡ report

-- a reader reads the heading and the job number; or it stays at the heading, or behind it at the number, which is refused
abbrev pub JobRead : Reader → Result ℕ ByteRefusal → Reader → Type 0
JobRead r (Ok job) s = (job < 2 ^ 63) × Passed r (heading ++ number_form job) s
JobRead r (Err f) s =
    (Stayed r f s × HeadingRefused (left_of r) f.fault)
    ⊎ ((mid : Reader) × Passed r heading mid × Stayed mid f s × NumberRefused (left_of mid) f.fault)
