-- Labels of the program structure tree.
-- Its root is the outer finish, its leaves are the steps, and each node between is a task or a finish.
use Rattle.std.specs.Prelude.{◌≡◌, ℕ, suc, ◌<◌, Bool, true, false, cond, not, ◌&&◌, List, [], ◌∷◌, ◌++◌, ◌==◌, nat_lt}

-- the way from the root to a node: at each node on the way, the turn that is taken there
-- children stand from left to right by their turns; an odd turn leads into a task, an even one into a finish or to a step
abbrev pub Label : Type 0
Label = List ℕ

-- whether a turn leads into a task
abbrev pub odd : ℕ → Bool
odd ℕ.zero = false
odd (suc n) = not (odd n)

-- what a test says of the two turns where the labels a and b part
-- it counts as passed if a ends where b goes on, and as failed the other way round; no two steps have such labels
abbrev pub parted : (ℕ → ℕ → Bool) → Label → Label → Bool
parted test [] [] = false
parted test [] (y ∷ b) = true
parted test (x ∷ a) [] = false
parted test (x ∷ a) (y ∷ b) = cond (x == y) (parted test a b) (test x y)

-- where the labels part, a turns to the left of b
abbrev pub left : Label → Label → Bool
left = parted nat_lt

-- where the labels part, a turns to the left of b, and not into a task
abbrev pub over : Label → Label → Bool
over = parted (λ x y. nat_lt x y && not (odd x))

-- y is the node p, or lies under it
abbrev pub Under : Label → Label → Type 0
Under p y = (r : Label) × (y ≡ p ++ r)

-- if y lies under p, it turns below n there
abbrev pub Low : Label → ℕ → Label → Type 0
Low [] n [] = Unit {0}
Low [] n (i ∷ y) = i < n
Low (a ∷ p) n [] = Unit {0}
Low (a ∷ p) n (b ∷ y) = a ≡ b → Low p n y

-- a label with its last turn n replaced by the turns g n
abbrev pub turned : (ℕ → Label) → Label → Label
turned g [] = []
turned g (x ∷ []) = g x
turned g (x ∷ (y ∷ p)) = x ∷ turned g (y ∷ p)

-- To the right of the child with the turn n, the turn n + 1 is kept for a task and n + 2 for the step or finish after it.

-- the first step of that task
abbrev pub child_of : Label → Label
child_of = turned (λ n. suc n ∷ (0 ∷ []))

-- the step or the finish after that task
abbrev pub next_of : Label → Label
next_of = turned (λ n. suc (suc n) ∷ [])

-- the first step in that finish
abbrev pub inner_of : Label → Label
inner_of = turned (λ n. suc (suc n) ∷ (0 ∷ []))
