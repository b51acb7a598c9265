-- The tallies of the rounds, for a keeper that has `size` records.
use Rattle.std.specs.Prelude.{ℕ, zero, suc, ◌+◌, ◌/◌, List}
use Rattle.order.specs.declared.replay.OrderCall.{OrderCall}
use Rattle.orderplay.specs.declared.dice.Dice.{Dice}
use Rattle.orderplay.specs.declared.lists.Shape.{Shape}
use Rattle.orderplay.specs.declared.tally.Tally.{Tally}
use Rattle.orderplay.specs.Dice.{rolled, face}
use Rattle.orderplay.specs.Lists.{any_calls, after_any, shape_calls}
use Rattle.orderplay.specs.Tallies.{blank}
use Rattle.orderplay.specs.Plays.{limit_of, played}

-- of a list at random, two rolls give how many records are lent for it, and how many calls it has

abbrev pub any_lent : Dice → ℕ
any_lent d = face (rolled d) 200

abbrev pub any_count : Dice → ℕ
any_count d = face (rolled (rolled d)) 64

-- and the rolls after them its calls
abbrev pub any_list : Dice → List OrderCall
any_list d = any_calls (rolled (rolled d)) (any_count d)

-- the dice after n lists
unfoldable pub after_lists : ℕ → Dice
after_lists zero = record { state = 1 }
after_lists (suc n) = let d : Dice = after_lists n in after_any (rolled (rolled d)) (any_count d)

-- the tally of n lists
unfoldable pub random_tally : ℕ → ℕ → Tally
random_tally size zero = blank
random_tally size (suc n) = let d : Dice = after_lists n in played (limit_of size (any_lent d)) (any_list d) (random_tally size n)

-- the tally of a shape's list
abbrev pub shape_tally : ℕ → Shape → Tally
shape_tally size s = played (1 + size / 4) (shape_calls s) blank
