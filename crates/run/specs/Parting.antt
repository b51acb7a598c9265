-- The parts that a run holds, and what an event does to them.
use Rattle.std.specs.Prelude.{ℕ, cond, not, nat_le, Option, Some, None, Result, Ok, Err}
use Rattle.model.specs.declared.Cell.{Cell}
use Rattle.model.specs.declared.Event.{Event}
use Rattle.model.specs.declared.History.{History}
use Rattle.model.specs.declared.Race.{Race}
use Rattle.model.specs.Lists.{some_or}
use Rattle.model.specs.Past.{actor}
use Rattle.model.specs.Rules.{Answer, taken, refused, numbers_fit}
use Rattle.model.specs.Orders.{Order, gone}
use Rattle.model.specs.Parts.{Keyed, Parts, moved_parts, task_number, stepped, counted}
use Rattle.model.specs.Mailboxes.{mailbox_cells}
use Rattle.order.specs.declared.fault.OrderFault.{OrderFault}
use Rattle.order.specs.declared.fault.OrderFault.TheVariants.{TaskEnded}
use Rattle.run.specs.declared.access.Access.{Access}
use Rattle.run.specs.declared.fault.RunFault.{RunFault}
use Rattle.run.specs.declared.fault.RunFault.TheVariants.{Full, TooLarge, UnknownTask}
use Rattle.run.specs.declared.parts.Parts.{Parts as Held}
use Rattle.run.specs.Faults.{number_of}

-- what the keeper, the store and the name table of a run mean, and its count
abbrev pub parts_in : {K S N : Type 0} → (K → Order) → (S → Keyed Cell History) → (N → Keyed ℕ ℕ) → Held K S N → Parts Cell
parts_in order cells names p = record { order = order p.keeper; cells = cells p.store; names = names p.names; count = p.taken }

-- what a call says, in the words of the rules
abbrev pub told : Result (Option (Race Cell)) RunFault → Answer Cell
told (Ok r) = taken r
told (Err f) = refused (number_of f)

-- the parts after an event of the task with number n, before it is counted: only an event that is taken with no race changes them
abbrev pub acted : Parts Cell → ℕ → Event Cell → Answer Cell → Parts Cell
acted p n e (taken None) = record (moved_parts mailbox_cells p n e) { count = p.count }
acted p n e a = p

-- the keeper's number of the task that does an event, or the first of the refusals that come ahead of all others
abbrev pub admitted : ℕ → Parts Cell → Event Cell → Result ℕ RunFault
admitted events p e =
    cond (nat_le events p.count) (Err Full)
    (cond (not (numbers_fit mailbox_cells e)) (Err TooLarge) (some_or Ok (Err UnknownTask) (task_number p (actor e))))

-- an access by the task with number n, or the refusal of a task that has ended
abbrev pub access_of : Parts Cell → ℕ → Cell → Result Access OrderFault
access_of p n c = cond (gone p.order n) (Err TaskEnded) (Ok (record { step = (p.order.task n).current; place = p.count; cell = c }))

-- the parts after an event, by what was said to it: one that is taken is counted, and changes them otherwise if it makes no race
abbrev pub taken_by : Parts Cell → Event Cell → Answer Cell → Parts Cell
taken_by p e (taken None) = stepped mailbox_cells p e
taken_by p e (taken (Some r)) = counted p
taken_by p e (refused m) = p
