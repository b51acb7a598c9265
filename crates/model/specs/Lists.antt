-- Small words on lists and options that the other files use.
use Rattle.std.specs.Prelude.{ℕ, suc, Bool, true, false, cond, ◌||◌, List, [], ◌∷◌, ◌++◌, Some, None, Option, ◌==◌, nat_eq}

-- whether one of them passes
abbrev pub any : {A : Type 0} → (A → Bool) → List A → Bool
any p [] = false
any p (x ∷ xs) = p x || any p xs

-- those that pass
abbrev pub keep : {A : Type 0} → (A → Bool) → List A → List A
keep p [] = []
keep p (x ∷ xs) = cond (p x) (x ∷ keep p xs) (keep p xs)

-- what each of them gives, one after the other
abbrev pub flat : {A B : Type 0} → (A → List B) → List A → List B
flat f [] = []
flat f (x ∷ xs) = f x ++ flat f xs

-- whether a number is one of them
abbrev pub mem : ℕ → List ℕ → Bool
mem n xs = any (nat_eq n) xs

-- the first of them, if there is one
abbrev pub first_in : List ℕ → Option ℕ
first_in [] = None
first_in (i ∷ is) = Some i

-- the last of them
abbrev pub last_in : List ℕ → Option ℕ
last_in [] = None
last_in (i ∷ []) = Some i
last_in (i ∷ (j ∷ is)) = last_in (j ∷ is)

-- the first of them, or d if there is none
abbrev pub head_or : List ℕ → ℕ → ℕ
head_or [] d = d
head_or (x ∷ xs) d = x

-- all but the first
abbrev pub rest : List ℕ → List ℕ
rest [] = []
rest (x ∷ xs) = xs

-- whether there is none
abbrev pub is_empty : List ℕ → Bool
is_empty [] = true
is_empty (x ∷ xs) = false

-- the numbers below n, the largest first
abbrev pub below : ℕ → List ℕ
below ℕ.zero = []
below (suc n) = n ∷ below n

-- a function, changed at one number
abbrev pub put : {A : Type 0} → (ℕ → A) → ℕ → A → ℕ → A
put f k v x = cond (x == k) v (f x)

-- what f gives of a value that is there, or d
abbrev pub some_or : {A B : Type 0} → (A → B) → B → Option A → B
some_or f d None = d
some_or f d (Some x) = f x
