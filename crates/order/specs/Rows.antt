-- The records that a keeper holds, by their index: the four of number 0, and then those that it was lent.
use Rattle.std.specs.Prelude.{ℕ, ◌+◌, ◌-◌, ◌/◌, true, cond, List, [], ◌∷◌, length, get_or, nat_lt}
use Rattle.order.specs.declared.record.Link.{Link}
use Rattle.order.specs.declared.record.OrderRecord.{OrderRecord}
use Rattle.order.specs.declared.record.OrderRecord.TheVariants as kind
use Rattle.order.specs.declared.rows.Rows.{Rows}

-- the link that is read where there is none
abbrev pub no_link : Link
no_link = record { up = 0; turn = 0 }

-- the record that is read where there is none
abbrev pub blank : OrderRecord
blank = kind.Link no_link

-- how many numbers have all four records
abbrev pub limit_of : Rows → ℕ
limit_of r = 1 + length r.lent.now / 4

abbrev pub row_of : Rows → ℕ → OrderRecord
row_of r i = cond (nat_lt i 4) (get_or r.first i blank) (get_or r.lent.now (i - 4) blank)

-- the records of number 0 at the start: step 0 hangs from place 0, and task 0 is on it, in finish 0
abbrev pub first_rows : List OrderRecord
first_rows =
    kind.Link no_link
    ∷ kind.Link no_link
    ∷ kind.Task (record { running = true; current = 0; inner = 0; own = 0; home = 0 })
    ∷ kind.Finish (record { outer = 0; alive = 1; shut = 0 }) ∷ []
