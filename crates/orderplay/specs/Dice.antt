-- The numbers that lists of calls are made by.
use Rattle.std.specs.Prelude.{ℕ, ◌+◌, ◌*◌, ◌/◌, ◌%◌, ◌^◌}
use Rattle.orderplay.specs.declared.dice.Dice.{Dice}

-- the dice after a roll
abbrev pub rolled : Dice → Dice
rolled d = record { state = (d.state * 6364136223846793005 + 1442695040888963407) % 2 ^ 64 }

-- what rolled dice show, from 0 to `last`
abbrev pub face : Dice → ℕ → ℕ
face d last = d.state / 2 ^ 33 % (last + 1)
