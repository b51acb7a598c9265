-- Examples, by computation, with numbers as keys and values.
use Rattle.std.specs.Prelude.{◌≡◌, ℕ, ◌+◌, ◌-◌, ◌/◌, ◌%◌, Bool, true, not, ◌&&◌, List, [], ◌∷◌, map, Some, None, Ok, Err, nat_eq, nat_lt}
use Rattle.model.specs.Lists.{any, below}
use Rattle.model.specs.declared.Layer.TheVariants as layer
use Rattle.model.specs.Parts.{Keyed, none_held}
use Rattle.cells.specs.declared.fault.CellFault.TheVariants.{NoRoom}
use Rattle.cells.specs.Faults.{number_of, layer_of}
use Rattle.cells.specs.Keys.{number_hash, cell_hash}
use Rattle.cells.specs.Stores.{put_answer, after_put}
use Rattle.cells.specs.Puts.{keys_named, puts_taken, last_put, meant_after}
use Rattle.cells.specs.Probes.{home}

-- a store of so many records: empty, and with the value 7 put for the key 1

abbrev pub with_none : ℕ → Keyed ℕ ℕ
with_none n = none_held n

abbrev pub with_one : ℕ → Keyed ℕ ℕ
with_one n = after_put nat_eq (with_none n) 1 7

-- what puts are answered: 18 without records; with one record its own key has room, and no other has; with two another has
abbrev pub AnswersShown : Type 0
AnswersShown =
    (put_answer (with_none 0) 1 ≡ Err NoRoom) × (put_answer (with_none 1) 1 ≡ Ok tt)
    × (put_answer (with_one 1) 1 ≡ Ok tt) × (put_answer (with_one 1) 2 ≡ Err NoRoom) × (put_answer (with_one 2) 2 ≡ Ok tt)
    × (number_of NoRoom ≡ 18) × (layer_of NoRoom ≡ layer.Cells)

-- what a put leaves: its key has the new value and is counted once; another key has what it had; a refused put leaves all as it was
abbrev pub PutsShown : Type 0
PutsShown =
    ((with_one 1).find 1 ≡ Some 7) × ((with_one 1).find 2 ≡ None) × ((with_one 1).count ≡ 1)
    × ((after_put nat_eq (with_one 1) 1 8).find 1 ≡ Some 8) × ((after_put nat_eq (with_one 1) 1 8).count ≡ 1)
    × ((after_put nat_eq (with_one 2) 2 8).find 1 ≡ Some 7) × ((after_put nat_eq (with_one 2) 2 8).count ≡ 2)
    × (after_put nat_eq (with_one 1) 2 8 ≡ with_one 1)

-- three puts, the second for another key: a store of one record refuses it, one of two takes it
abbrev three : List (ℕ × ℕ)
three = (1, 7) ∷ (2, 8) ∷ (1, 9) ∷ []

abbrev pub ListsShown : Type 0
ListsShown =
    (puts_taken nat_eq 1 three ≡ (1, 9) ∷ (1, 7) ∷ []) × (puts_taken nat_eq 2 three ≡ (1, 9) ∷ (2, 8) ∷ (1, 7) ∷ [])
    × (puts_taken nat_eq 0 three ≡ []) × (keys_named nat_eq (puts_taken nat_eq 2 three) ≡ 2)
    × ((meant_after nat_eq 1 three).find 1 ≡ Some 9) × ((meant_after nat_eq 1 three).find 2 ≡ None)
    × ((meant_after nat_eq 1 three).count ≡ 1) × (last_put nat_eq (puts_taken nat_eq 2 three) 2 ≡ Some 8)

-- whether no two of the numbers are less than n apart
abbrev pub apart : ℕ → List ℕ → Bool
apart n [] = true
apart n (x ∷ xs) = not (any (λ y. nat_lt (x - y + (y - x)) n) xs) && apart n xs

-- the home slots, among 1,024, of 32 keys
abbrev pub homes : {K : Type 0} → (K → ℕ) → (ℕ → K) → List ℕ
homes hash key = map (λ i. home 1024 (hash (key i))) (below 32)

-- numbers in a row, blocks of one mailbox, mailboxes, and the first blocks of a few mailboxes have home slots far apart
abbrev pub HomesApart : Type 0
HomesApart =
    (apart 21 (homes number_hash (λ i. i)) ≡ true)
    × (apart 11 (homes cell_hash (λ i. record { mailbox = 5; block = i })) ≡ true)
    × (apart 20 (homes cell_hash (λ i. record { mailbox = i; block = 5 })) ≡ true)
    × (apart 11 (homes cell_hash (λ i. record { mailbox = i / 8; block = i % 8 })) ≡ true)
