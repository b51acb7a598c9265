-- The tallies of the rounds, one list at a time.
use Rattle.std.proofs.Common.{◌≡◌, ℕ, ◌+◌, List, refl, add-one}
use Rattle.order.specs.declared.replay.OrderCall.{OrderCall}
use Rattle.orderplay.specs.declared.dice.Dice.{Dice}
use Rattle.orderplay.specs.declared.tally.Tally.{Tally}
use Rattle.orderplay.specs.Dice.{rolled, face}
use Rattle.orderplay.specs.Lists.{any_calls, after_any}
use Rattle.orderplay.specs.Tallies.{blank}
use Rattle.orderplay.specs.Plays.{limit_of, played}
use Rattle.orderplay.specs.Rounds.{any_lent, any_count, any_list, after_lists, random_tally}

-- the definitions, unfolded once

pub dice_none : after_lists 0 ≡ record { state = 1 }
unfolding after_lists
dice_none = refl

dice_next : (n : ℕ) → after_lists (n + 1) ≡ after_any (rolled (rolled (after_lists n))) (any_count (after_lists n))
unfolding after_lists
dice_next n = rw (add-one n)

pub tally_none : (size : ℕ) → random_tally size 0 ≡ blank
unfolding random_tally
tally_none size = refl

tally_next : (size n : ℕ)
    → random_tally size (n + 1) ≡ played (limit_of size (any_lent (after_lists n))) (any_list (after_lists n)) (random_tally size n)
unfolding random_tally
tally_next size n = rw (add-one n)

-- the rolls for one more list
pub dice_more : (n : ℕ) (d e f g : Dice) (count : ℕ) → d ≡ after_lists n → e ≡ rolled d → f ≡ rolled e → count ≡ face (rolled e) 64
    → g ≡ after_any f count → g ≡ after_lists (n + 1)
dice_more n d e f g count h k l m o = rw (o, l, m, k, h, dice_next n)

-- one more list is played
pub tally_more : (size now n : ℕ) (d e f : Dice) (lent count : ℕ) (cs ds : List OrderCall) (t u : Tally)
    → now ≡ size → d ≡ after_lists n → e ≡ rolled d → lent ≡ face (rolled d) 200 → f ≡ rolled e → count ≡ face (rolled e) 64
    → cs ≡ any_calls f count → ds ≡ cs → t ≡ random_tally size n → u ≡ played (limit_of size lent) ds t → u ≡ random_tally now (n + 1)
tally_more size now n d e f lent count cs ds t u z h k l m o p q r s = rw (z, s, r, q, p, m, o, l, k, h, tally_next size n)
