-- What a put is answered, and what a store means after it.
use Rattle.std.specs.Prelude.{Bool, cond, Ok, Err, Result}
use Rattle.model.specs.Parts.{Keyed, no_room, with_key}
use Rattle.cells.specs.declared.fault.CellFault.{CellFault}
use Rattle.cells.specs.declared.fault.CellFault.TheVariants.{NoRoom}

-- a put is refused exactly where its key is not held and there is no room for one more
abbrev pub put_answer : {K V : Type 0} → Keyed K V → K → Result (Unit {0}) CellFault
put_answer t key = cond (no_room t key) (Err NoRoom) (Ok tt)

-- the key has the value, and every other key has what it had; or nothing is changed, if the put is refused
abbrev pub after_put : {K V : Type 0} → (K → K → Bool) → Keyed K V → K → V → Keyed K V
after_put same t key v = cond (no_room t key) t (with_key same t key v)
