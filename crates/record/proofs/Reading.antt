-- Numbers one after another, and the event that they make.
use Rattle.std.proofs.Common.{ℕ, suc, ◌<◌, List, [], ◌∷◌, Err, refl, append_assoc, arith}
use Rattle.std.proofs.lemmas.Bool.Decides.{nat_tests}
use Rattle.record.specs.declared.fault.ByteFault.{ByteFault}
use Rattle.record.specs.declared.kind.Kind.{Kind}
use Rattle.record.specs.declared.kind.Kind.TheVariants.{Spawn}
use Rattle.record.specs.Numbers.{NumberRead, NumberRefused, NumbersRead, NumbersRefused}
use Rattle.record.specs.Kinds.{byte_of, KindRead}
use Rattle.record.specs.Events.{count_of, EventRefused}
use Rattle.record.specs.Events.EventRefused.{stopped, unknown}

-- a number, and numbers after it
pub numbers_more : (bs : List ℕ) (n : ℕ) (mid ns rest : List ℕ) → NumberRead bs n mid → NumbersRead mid ns rest → NumbersRead bs (n ∷ ns) rest
numbers_more bs n mid ns rest p q = ((p.0, q.0), rw (p.1, q.1, append_assoc))

-- a number alone
pub numbers_one : (bs : List ℕ) (n : ℕ) (rest : List ℕ) → NumberRead bs n rest → NumbersRead bs (n ∷ []) rest
numbers_one bs n rest p = numbers_more bs n rest [] rest p (tt, refl)

-- the next number is refused
pub numbers_stop : (k : ℕ) (bs : List ℕ) (f : ByteFault) → 0 < k → NumberRefused bs f → NumbersRefused k bs f
numbers_stop k bs f h p = record { numbers = []; rest = bs; read = (tt, refl); fewer = h; why = p }

-- a number is read, and a later one is refused
pub numbers_later : (k : ℕ) (bs : List ℕ) (n : ℕ) (mid : List ℕ) (f : ByteFault) → NumberRead bs n mid → NumbersRefused k mid f → NumbersRefused (suc k) bs f
numbers_later k bs n mid f p q = record {
  numbers = n ∷ q.numbers;
  rest = q.rest;
  read = numbers_more bs n mid q.numbers q.rest p q.read;
  fewer = omega (arith, q.fewer);
  why = q.why;
}

-- an event is refused where one of the numbers of its kind is
pub body_stopped : (kind : Kind) (more : List ℕ) (f : ByteFault) → NumbersRefused (count_of (byte_of kind)) more f → EventRefused (byte_of kind ∷ more) f
body_stopped Spawn more f p = stopped 1 more f refl (omega arith) (omega arith) p
body_stopped _ more f p = stopped _ more f refl (omega arith) (omega arith) p

-- each kind has at least a task
pub some_numbers : (k : ℕ) → 0 < count_of k
some_numbers k = grind (arith, nat_tests)

pub kind_unknown : (b : ℕ) (more : List ℕ) (f : ByteFault) → KindRead b (Err f) → EventRefused (b ∷ more) f
kind_unknown b more f (e, h) = rw e (unknown b more refl h)
