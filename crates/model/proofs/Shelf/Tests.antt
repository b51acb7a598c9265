-- What a passed and a failed test say, each way, and what an option holds.
use Rattle.std.proofs.Math.Facts.{yes_eqb}
use Rattle.std.proofs.Common.{◌≡◌, ℕ, Bool, true, false, cond, ◌||◌, T, eqb, ◌⊎◌, Some, None, Option, sym, refl, inl, inr, eqb→eq, arith}
use Rattle.model.specs.Lists.{some_or}
use Rattle.model.specs.Accesses.{CellKind}

-- a test passes or fails
pub tried : (b : Bool) → T b ⊎ (T b → ⊥)
tried true = inl tt
tried false = inr (λ t. t)

pub is_true : (b : Bool) → T b → b ≡ true
is_true true t = refl
is_true false t = absurd t

pub is_false : (b : Bool) → (T b → ⊥) → b ≡ false
is_false true n = absurd (n tt)
is_false false n = refl

-- two tests that say the same
pub T-ext : (a b : Bool) → (T a → T b) → (T b → T a) → a ≡ b
T-ext true true f g = refl
T-ext true false f g = absurd (f tt)
T-ext false true f g = absurd (g tt)
T-ext false false f g = refl

pub or_l : (a b : Bool) → T a → T (a || b)
or_l true b t = tt
or_l false b t = absurd t

pub or_r : (a b : Bool) → T b → T (a || b)
or_r true b t = tt
or_r false b t = t

-- numbers
pub eqb_sym : (m n : ℕ) → eqb m n ≡ eqb n m
eqb_sym m n = T-ext (eqb m n) (eqb n m) (λ t. yes_eqb (sym (eqb→eq m n t))) (λ t. yes_eqb (sym (eqb→eq n m t)))

-- cells
pub same_sym : {C : Type 0} (k : CellKind C) (a b : C) → k.same a b ≡ k.same b a
same_sym k a b = grind arith

-- `cond` at a passed and at a failed test
pub cond_yes : {A : Type 0} (b : Bool) (x y : A) → T b → cond b x y ≡ x
cond_yes true x y t = refl
cond_yes false x y t = absurd t

pub cond_no : {A : Type 0} (b : Bool) (x y : A) → (T b → ⊥) → cond b x y ≡ y
cond_no true x y n = absurd (n tt)
cond_no false x y n = refl

pub cond_eq : {A : Type 0} (m n : ℕ) (x y : A) → m ≡ n → cond (eqb m n) x y ≡ x
cond_eq m n x y e = cond_yes (eqb m n) x y (yes_eqb e)

pub cond_ne : {A : Type 0} (m n : ℕ) (x y : A) → (m ≡ n → ⊥) → cond (eqb m n) x y ≡ y
cond_ne m n x y f = cond_no (eqb m n) x y (λ t. f (eqb→eq m n t))

pub T-cond_yes : (b x y : Bool) → T b → T x → T (cond b x y)
T-cond_yes b x y t s = grind arith

pub T-cond_of : (b x y : Bool) → T (cond b x y) → (T b × T x) ⊎ ((T b → ⊥) × T y)
T-cond_of b x y t = grind arith

-- options
pub some_or_of : {A : Type 0} (p : A → Bool) (o : Option A) → T (some_or p false o) → (x : A) × (o ≡ Some x) × T (p x)
some_or_of p None t = absurd t
some_or_of p (Some x) t = (x, refl, t)

pub some_or_in : {A : Type 0} (p : A → Bool) (o : Option A) (x : A) → o ≡ Some x → T (p x) → T (some_or p false o)
some_or_in p o x e t = rw e t
