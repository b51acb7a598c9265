-- Which of many reads must be kept: of those that are before no other the first and the last in serial order.
use Rattle.std.specs.Prelude.{◌≡◌, ℕ, ◌<◌, Bool, cond, ◌||◌, T, ◌⊎◌, List, ◌∷◌}
use Rattle.model.specs.Lists.{mem}
use Rattle.model.specs.Orders.{Order, at_or_after}

-- x is one of the steps rs, and before none of them
abbrev pub Latest : Order → List ℕ → ℕ → Type 0
Latest m rs x = T (mem x rs) × ((y : ℕ) → T (mem y rs) → T (m.before x y) → ⊥)

-- of those that are so, l is the first in serial order
abbrev pub Leftmost : Order → List ℕ → ℕ → Type 0
Leftmost m rs l = Latest m rs l × ((x : ℕ) → Latest m rs x → (x ≡ l) ⊎ T (m.earlier l x))

-- of those that are so, r is the last in serial order
abbrev pub Rightmost : Order → List ℕ → ℕ → Type 0
Rightmost m rs r = Latest m rs r × ((x : ℕ) → Latest m rs x → (x ≡ r) ⊎ T (m.earlier x r))

-- each of the steps is held
abbrev pub Held : Order → List ℕ → Type 0
Held m rs = (x : ℕ) → T (mem x rs) → x < m.steps

-- two readers suffice: a step that is or comes after the leftmost, and is or comes after the rightmost, is or comes after each
abbrev pub TwoSuffice : Order → Type 0
TwoSuffice m = (rs : List ℕ) (l r s : ℕ) → Leftmost m rs l → Rightmost m rs r
    → T (at_or_after m s l) → T (at_or_after m s r) → (x : ℕ) → T (mem x rs) → T (at_or_after m s x)

-- a read on the step s takes the place of the leftmost one, on l: s is or comes after l, or is earlier in serial order
abbrev pub moves_left : Order → ℕ → ℕ → Bool
moves_left m s l = at_or_after m s l || m.earlier s l

-- a read on the step s takes the place of the rightmost one, on r: s is or comes after r, or is later in serial order
abbrev pub moves_right : Order → ℕ → ℕ → Bool
moves_right m s r = at_or_after m s r || m.earlier r s

-- the leftmost one after one more read, on the step s
abbrev pub left_with : Order → ℕ → ℕ → ℕ
left_with m s l = cond (moves_left m s l) s l

-- the rightmost one after one more read, on the step s
abbrev pub right_with : Order → ℕ → ℕ → ℕ
right_with m s r = cond (moves_right m s r) s r

-- of any steps that are held, two are the leftmost and the rightmost
abbrev pub TwoFound : Order → Type 0
TwoFound m = (s : ℕ) (rs : List ℕ) → Held m (s ∷ rs) → ((l : ℕ) × Leftmost m (s ∷ rs) l) × ((r : ℕ) × Rightmost m (s ∷ rs) r)

-- the two can be kept up to date: a running task reads, on its current step
abbrev pub TwoKept : Order → Type 0
TwoKept m = (rs : List ℕ) (l r t : ℕ) → Held m rs → Leftmost m rs l → Rightmost m rs r → T (m.task t).running
    → Leftmost m ((m.task t).current ∷ rs) (left_with m (m.task t).current l)
    × Rightmost m ((m.task t).current ∷ rs) (right_with m (m.task t).current r)
