-- A fault of a run is told by its number: a table leads back to it.
use Rattle.std.proofs.Common.{◌≡◌, ℕ, cond, eqb, sym, refl, ap, ◌∙◌}
use Rattle.order.specs.declared.fault.OrderFault.{OrderFault}
use Rattle.order.specs.declared.fault.OrderFault.TheVariants.{TaskEnded, NoFinishOpen, FinishNotEmpty, FinishOpen, NoStepFree}
use Rattle.cells.specs.declared.fault.CellFault.TheVariants.{NoRoom}
use Rattle.run.specs.declared.fault.RunFault.{RunFault}
use Rattle.run.specs.declared.fault.RunFault.TheVariants.{TooLarge, UnknownTask, NameTaken, NoName, Full, Sealed, OtherJob, Order, Cells}
use Rattle.run.specs.Faults.{number_of}

-- the fault of the order keeper that has a number
abbrev order_fault : ℕ → OrderFault
order_fault n = cond (eqb n 13) TaskEnded (cond (eqb n 14) NoFinishOpen (cond (eqb n 15) FinishNotEmpty (cond (eqb n 16) FinishOpen NoStepFree)))

-- the fault that has a number
abbrev fault_of : ℕ → RunFault
fault_of n =
    cond (eqb n 6) TooLarge
    (cond (eqb n 7) UnknownTask
    (cond (eqb n 8) NameTaken
    (cond (eqb n 9) NoName
    (cond (eqb n 10) Full
    (cond (eqb n 11) Sealed
    (cond (eqb n 12) OtherJob
    (cond (eqb n 18) (Cells NoRoom) (Order (order_fault n)))))))))

back : (f : RunFault) → fault_of (number_of f) ≡ f
back TooLarge = refl
back (Order TaskEnded) = refl
back (Cells NoRoom) = refl
back _ = refl

pub same_fault : (f g : RunFault) → number_of f ≡ number_of g → f ≡ g
same_fault f g e = sym (back f) ∙ ap fault_of e ∙ back g
