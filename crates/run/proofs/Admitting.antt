-- What is said to an event is said by the tests of all events, or else by its kind, once the keeper's number of its task is found.
use Rattle.std.proofs.Common.{◌≡◌, ℕ, Bool, true, false, cond, not, Option, Some, None, Result, Ok, Err, nat_le, refl, ap, sym, ◌∙◌}
use Rattle.model.specs.declared.Cell.{Cell}
use Rattle.model.specs.declared.Event.{Event}
use Rattle.model.specs.declared.Event.TheVariants.{Spawn, End, Open, Close, Read, Write}
use Rattle.model.specs.declared.Race.{Race}
use Rattle.model.specs.Lists.{some_or}
use Rattle.model.specs.Past.{actor}
use Rattle.model.specs.Mailboxes.{mailbox_cells}
use Rattle.model.specs.Rules.{Answer, taken, refused, numbers_fit}
use Rattle.model.specs.Parts.{Parts, judged, judged_kind, stepped, counted, moved_parts, task_number}
use Rattle.run.specs.declared.fault.RunFault.{RunFault}
use Rattle.run.specs.declared.fault.RunFault.TheVariants.{Full, TooLarge, UnknownTask}
use Rattle.run.specs.Faults.{number_of}
use Rattle.run.specs.Parting.{admitted, acted, taken_by}

-- what is said by a number that is found, or by the fault of a test
abbrev pub said : Result ℕ RunFault → (ℕ → Answer Cell) → Answer Cell
said (Ok n) by = by n
said (Err f) by = refused (number_of f)

tests_say : (a b : Bool) (o : Option ℕ) (by : ℕ → Answer Cell)
    → cond a (refused 10) (cond b (refused 6) (some_or by (refused 7) o)) ≡ said (cond a (Err Full) (cond b (Err TooLarge) (some_or Ok (Err UnknownTask) o))) by
tests_say true b o by = refl
tests_say false true o by = refl
tests_say false false (Some n) by = refl
tests_say false false None by = refl

found : (a b : Bool) (o : Option ℕ) (n : ℕ) → cond a (Err Full) (cond b (Err TooLarge) (some_or Ok (Err UnknownTask) o)) ≡ Ok n → o ≡ Some n
found true b o n p = cc
found false true o n p = cc
found false false (Some m) n p = cc
found false false None n p = cc

-- what an event makes of the parts counts it
moved_counted : (p : Parts Cell) (n : ℕ) (e : Event Cell)
    → counted (record (moved_parts mailbox_cells p n e) { count = p.count }) ≡ moved_parts mailbox_cells p n e
moved_counted p n (Spawn t u) = refl
moved_counted p n (End t) = refl
moved_counted p n (Open t) = refl
moved_counted p n (Close t) = refl
moved_counted p n (Read t c) = refl
moved_counted p n (Write t c) = refl

module _ (events : ℕ) (p : Parts Cell) (e : Event Cell) where
  judged_said : judged mailbox_cells events p e ≡ said (admitted events p e) (λ n. judged_kind p n e)
  judged_said = tests_say (nat_le events p.count) (not (numbers_fit mailbox_cells e)) (task_number p (actor e)) (λ n. judged_kind p n e)

  pub judged_fault : (f : RunFault) → admitted events p e ≡ Err f → judged mailbox_cells events p e ≡ refused (number_of f)
  judged_fault f q = judged_said ∙ ap (λ r. said r (λ n. judged_kind p n e)) q

  pub kept_fault : (f : RunFault) → admitted events p e ≡ Err f → p ≡ taken_by p e (judged mailbox_cells events p e)
  kept_fault f q = sym (ap (taken_by p e) (judged_fault f q))

  pub judged_number : (n : ℕ) → admitted events p e ≡ Ok n → judged mailbox_cells events p e ≡ judged_kind p n e
  judged_number n q = judged_said ∙ ap (λ r. said r (λ m. judged_kind p m e)) q

  stepped_number : (n : ℕ) → admitted events p e ≡ Ok n → stepped mailbox_cells p e ≡ moved_parts mailbox_cells p n e
  stepped_number n q =
      let o = found (nat_le events p.count) (not (numbers_fit mailbox_cells e)) (task_number p (actor e)) n q in
      ap (λ (t : Option ℕ). some_or (λ m. moved_parts mailbox_cells p m e) p t) o

  -- an event that is taken was acted on, and is then counted
  pub taken_number : (n : ℕ) (r : Option (Race Cell)) (a : Answer Cell) (p' : Parts Cell) → admitted events p e ≡ Ok n
      → taken r ≡ a → p' ≡ acted p n e a → counted p' ≡ taken_by p e a
  taken_number n r (taken None) p' q t s = ap counted s ∙ moved_counted p n e ∙ sym (stepped_number n q)
  taken_number n r (taken (Some x)) p' q t s = ap counted s
  taken_number n r (refused m) p' q t s = cc
