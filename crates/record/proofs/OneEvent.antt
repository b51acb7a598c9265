-- Bytes begin with at most one event, and are refused for at most one reason: a computed reading answers once.
use Rattle.std.proofs.Common.{◌≡◌, ℕ, zero, suc, ◌^◌, ◌<◌, Bool, true, false, cond, ◌&&◌, eqb, ltb, List, [], ◌∷◌, ◌++◌, length, get_or, refl, ap, arith}
use Rattle.std.proofs.lemmas.List.{append_assoc}
use Rattle.std.proofs.lemmas.Bool.Decides.{nat_tests}
use Rattle.model.specs.declared.Cell.{Cell}
use Rattle.model.specs.declared.Event.{Event}
use Rattle.model.specs.declared.Event.TheVariants.{Spawn, End, Open, Close, Read, Write}
use Rattle.record.specs.declared.fault.ByteFault.{ByteFault}
use Rattle.record.specs.declared.fault.ByteFault.TheVariants.{Short, UnknownKind}
use Rattle.record.specs.Numbers.{number_form, numbers_form, InRange, NumbersRead, NumbersRefused}
use Rattle.record.specs.Events.{kind_of, numbers_of, count_of, event_form, EventRead, EventRefused, nothing, unknown, stopped}
use Rattle.record.specs.Laws.{EventsApart}
use Rattle.record.proofs.OneNumber.{Out, got, fault, and_then, first_number, number_got, number_fault}

-- a number in front of those read after it
abbrev in_front : ℕ → Out (List ℕ) → Out (List ℕ)
in_front n o = and_then o (λ ns rest. got (n ∷ ns) rest)

-- as many numbers as are asked for
abbrev first_numbers : ℕ → List ℕ → Out (List ℕ)
first_numbers zero bs = got [] bs
first_numbers (suc k) bs = and_then (first_number bs) (λ n rest. in_front n (first_numbers k rest))

-- a form in front of other forms
numbers_more : (k n : ℕ) (ns rest : List ℕ) (o : Out (List ℕ)) → n < 2 ^ 63 → first_numbers k (numbers_form ns ++ rest) ≡ o → first_numbers (suc k) (numbers_form (n ∷ ns) ++ rest) ≡ in_front n o
numbers_more k n ns rest o h e =
    rw (number_got (numbers_form (n ∷ ns) ++ rest) n (numbers_form ns ++ rest) (h, append_assoc (number_form n) (numbers_form ns) rest), e)

-- the forms of numbers are read back
numbers_form_got : (ns rest : List ℕ) → InRange ns → first_numbers (length ns) (numbers_form ns ++ rest) ≡ got ns rest
numbers_form_got [] rest h = refl
numbers_form_got (n ∷ ns) rest h = numbers_more (length ns) n ns rest (got ns rest) h.0 (numbers_form_got ns rest h.1)

-- a fault after the forms of fewer numbers than are asked for is the answer
numbers_form_fault : (count : ℕ) (ns rest : List ℕ) (f : ByteFault) → InRange ns → length ns < count → first_number rest ≡ fault f → first_numbers count (numbers_form ns ++ rest) ≡ fault f
numbers_form_fault zero ns rest f h l e = absurd (omega arith)
numbers_form_fault (suc k) [] rest f h l e = rw e
numbers_form_fault (suc k) (n ∷ ns) rest f h l e = numbers_more k n ns rest (fault f) h.0 (numbers_form_fault k ns rest f h.1 (omega arith) e)

numbers_got : (count : ℕ) (bs ns rest : List ℕ) → length ns ≡ count → NumbersRead bs ns rest → first_numbers count bs ≡ got ns rest
numbers_got count bs ns rest l (h, e) = cc (numbers_form_got ns rest h)

numbers_fault : (count : ℕ) (bs : List ℕ) (f : ByteFault) → NumbersRefused count bs f → first_numbers count bs ≡ fault f
numbers_fault count bs f r = rw r.read.1 (numbers_form_fault count r.numbers r.rest f r.read.0 r.fewer (number_fault r.rest f r.why))

-- no two lists of as many numbers have one form, and no form begins another
pub numbers_prefix : (ms ns : List ℕ) (r s : List ℕ) → InRange ms → InRange ns → length ms ≡ length ns → numbers_form ms ++ r ≡ numbers_form ns ++ s → (ms ≡ ns) × (r ≡ s)
numbers_prefix ms ns r s h k l e =
    let p = numbers_form_got ms r h in
    let q = numbers_form_got ns s k in
    (cc, cc)

-- numbers that are read are not refused
pub numbers_not_refused : (count : ℕ) (bs ns rest : List ℕ) (f : ByteFault) → length ns ≡ count → NumbersRead bs ns rest → NumbersRefused count bs f → ⊥
numbers_not_refused count bs ns rest f l r q = cc (numbers_got count bs ns rest l r, numbers_fault count bs f q)

-- numbers are refused for at most one reason
pub numbers_one_fault : (count : ℕ) (bs : List ℕ) (f g : ByteFault) → NumbersRefused count bs f → NumbersRefused count bs g → f ≡ g
numbers_one_fault count bs f g p q = cc (numbers_fault count bs f p, numbers_fault count bs g q)

cell : List ℕ → Cell
cell ns = record { mailbox = get_or ns 1 0; block = get_or ns 2 0 }

-- the event of a kind and of the numbers after it
abbrev made : ℕ → List ℕ → Event Cell
made k ns = cond (eqb k 1) (Spawn (get_or ns 0 0) (get_or ns 1 0)) (cond (eqb k 2) (End (get_or ns 0 0)) (cond (eqb k 3) (Open (get_or ns 0 0)) (cond (eqb k 4) (Close (get_or ns 0 0)) (cond (eqb k 5) (Read (get_or ns 0 0) (cell ns)) (Write (get_or ns 0 0) (cell ns))))))

abbrev of_kind : ℕ → Out (List ℕ) → Out (Event Cell)
of_kind k o = and_then o (λ ns rest. got (made k ns) rest)

abbrev known : ℕ → Bool
known k = ltb 0 k && ltb k 7

-- an event, by its kind's byte
abbrev first_event : List ℕ → Out (Event Cell)
first_event [] = fault Short
first_event (k ∷ bs) = cond (known k) (of_kind k (first_numbers (count_of k) bs)) (fault UnknownKind)

-- an event is told by its kind and its numbers
told : (e : Event Cell) → (known (kind_of e) ≡ true) × (length (numbers_of e) ≡ count_of (kind_of e)) × (made (kind_of e) (numbers_of e) ≡ e)
unfolding cell
told (Spawn t u) = (refl, refl, refl)
told _ = (refl, refl, refl)

event_got : (bs : List ℕ) (e : Event Cell) (rest : List ℕ) → EventRead bs e rest → first_event bs ≡ got e rest
event_got bs e rest (h, eq) =
    let (there, count, same) = told e in
    rw (eq, there, ← count, numbers_form_got (numbers_of e) rest h, same)

event_fault : (bs : List ℕ) (f : ByteFault) → EventRefused bs f → first_event bs ≡ fault f
event_fault bs _ (nothing e) = ap first_event e
event_fault bs _ (unknown k more e h) = let other : known k ≡ false = grind (arith, nat_tests) in rw (e, other)
event_fault bs _ (stopped k more f e low high r) =
    let there : known k ≡ true = grind (arith, nat_tests) in
    rw (e, there, numbers_fault (count_of k) more f r)

pub events_apart : EventsApart
events_apart d e r s h k eq =
    let p = event_got (event_form d ++ r) d r (h, refl) in
    let q = event_got (event_form d ++ r) e s (k, eq) in
    (cc, cc)

pub event_not_refused : (bs : List ℕ) (e : Event Cell) (rest : List ℕ) (f : ByteFault) → EventRead bs e rest → EventRefused bs f → ⊥
event_not_refused bs e rest f r q = cc (event_got bs e rest r, event_fault bs f q)

pub event_one_fault : (bs : List ℕ) (f g : ByteFault) → EventRefused bs f → EventRefused bs g → f ≡ g
event_one_fault bs f g p q = cc (event_fault bs f p, event_fault bs g q)
