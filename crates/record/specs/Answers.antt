-- What a call that reads from the front of bytes answers: the value and the rest of the bytes, or a fault.
use Rattle.std.specs.Prelude.{◌≡◌, ℕ, List, Ok, Err, Result}
use Rattle.std.specs.Borrow.{Bor}
use Rattle.record.specs.declared.fault.ByteFault.{ByteFault}

module _ {V : Type 0} (Read : List ℕ → V → List ℕ → Type 0) (Refused : List ℕ → ByteFault → Type 0) where
  -- what was read is there to be read, or the fault is a reason to refuse the bytes
  abbrev pub Answer : List ℕ → Result (V × Bor (List ℕ)) ByteFault → Type 0
  Answer bs (Ok p) = Read bs p.0 p.1.now
  Answer bs (Err f) = Refused bs f

  -- written, then read: whatever value's form the bytes begin with is the value that was read, and what follows the form
  -- is the rest that was handed on; and whatever reason there is to refuse the bytes is the fault that was answered
  abbrev pub OnlyAnswer : List ℕ → Result (V × Bor (List ℕ)) ByteFault → Type 0
  OnlyAnswer bs (Ok p) = ((v : V) (rest : List ℕ) → Read bs v rest → (p.0 ≡ v) × (p.1.now ≡ rest)) × ((f : ByteFault) → Refused bs f → ⊥)
  OnlyAnswer bs (Err g) = ((v : V) (rest : List ℕ) → Read bs v rest → ⊥) × ((f : ByteFault) → Refused bs f → g ≡ f)

-- the same where there is no value but the rest
module _ (Read : List ℕ → List ℕ → Type 0) (Refused : List ℕ → ByteFault → Type 0) where
  -- the heading is there, or the fault is a reason to refuse the bytes
  abbrev pub RestAnswer : List ℕ → Result (Bor (List ℕ)) ByteFault → Type 0
  RestAnswer bs (Ok p) = Read bs p.now
  RestAnswer bs (Err f) = Refused bs f

  -- no other answer fits
  abbrev pub OnlyRest : List ℕ → Result (Bor (List ℕ)) ByteFault → Type 0
  OnlyRest bs (Ok p) = ((rest : List ℕ) → Read bs rest → p.now ≡ rest) × ((f : ByteFault) → Refused bs f → ⊥)
  OnlyRest bs (Err g) = ((rest : List ℕ) → Read bs rest → ⊥) × ((f : ByteFault) → Refused bs f → g ≡ f)
