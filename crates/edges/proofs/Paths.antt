-- Ways back from a step, ways out of the finishes around one, and how they stand when the graph grows.
use Rattle.std.proofs.lemmas.Bool.Decides.{nat_tests}
use Rattle.std.proofs.Common.{◌≡◌, ℕ, zero, suc, ◌+◌, ◌<◌, ◌≤◌, T, ◌⊎◌, sym, refl, subst, inl, inr, arith}
use Rattle.std.proofs.lemmas.Bool.{cases_eq}
use Rattle.model.specs.Lists.{put}
use Rattle.edges.specs.Ways.{Ways, outlet, met, searched}

-- y is x, or stands on the way back from x
pub data Back (from : ℕ → ℕ) (y : ℕ) : ℕ → Type 0 where
  here : Back from y y
  on : (x : ℕ) → y < x → Back from y (from x) → Back from y x

-- y is a, or is come to from a by the steps that closed the finishes around it
pub data Out (w : Ways) (y : ℕ) : ℕ → Type 0 where
  stay : Out w y y
  leave : (a : ℕ) → a < w.shut (w.home a) → Out w y (w.shut (w.home a)) → Out w y a

-- a search back from b finds a, or b is a
abbrev pub Finds : Ways → ℕ → ℕ → Type 0
Finds w a b = (y : ℕ) × Out w y a × Back w.from y b

-- of n steps, each but the first comes from one below it
abbrev pub Falls : ℕ → (ℕ → ℕ) → Type 0
Falls n from = (x : ℕ) → 0 < x → x < n → from x < x

pub back_le : (from : ℕ → ℕ) (y x : ℕ) → Back from y x → y ≤ x
back_le from y x here = omega arith
back_le from y x (on z l b) = omega arith

pub out_le : (w : Ways) (y a : ℕ) → Out w y a → a ≤ y
out_le w y a stay = omega arith
out_le w y a (leave z l o) = let h = out_le w y (w.shut (w.home z)) o in omega arith

-- what is on the way back from where x comes from is on the way back from x
pub back_more : (from : ℕ → ℕ) (y s x : ℕ) → from x ≡ s → s < x → Back from y s → Back from y x
back_more from y s x e l b = on x (let h = back_le from y s b in omega arith) (subst (Back from y) (sym e) b)

-- what is on the way back from x is x, or on the way back from where x comes from
pub back_case : (from : ℕ → ℕ) (y s x : ℕ) → from x ≡ s → Back from y x → (y ≡ x) ⊎ Back from y s
back_case from y s x e here = inl refl
back_case from y s x e (on z l b) = inr (subst (Back from y) e b)

-- ways back from the first n steps are told by where these come from
pub back_same : (n : ℕ) (from new : ℕ → ℕ) (y x : ℕ) → Falls n from → ((z : ℕ) → z < n → from z ≡ new z) → x < n
    → Back from y x → Back new y x
back_same n from new y x falls same h here = here
back_same n from new y x falls same h (on z l b) =
    let k = falls z (omega arith) h in
    on z l (subst (Back new y) (same z h) (back_same n from new y (from z) falls same (omega arith) b))

-- ways out of the first n steps are told by what closed the finishes around these
pub out_same : (n : ℕ) (w new : Ways) (y a : ℕ) → ((z : ℕ) → z < n → w.shut (w.home z) < n)
    → ((z : ℕ) → z < n → w.shut (w.home z) ≡ new.shut (new.home z)) → a < n → Out w y a → Out new y a
out_same n w new y a held same h stay = stay
out_same n w new y a held same h (leave z l o) =
    leave z (subst (λ x. z < x) (same z h) l)
    (subst (Out new y) (same z h) (out_same n w new y (w.shut (w.home z)) held same (held z h) o))

pub out_held : (n : ℕ) (w : Ways) (y a : ℕ) → ((f : ℕ) → w.shut f < n) → a < n → Out w y a → y < n
out_held n w y a held h stay = h
out_held n w y a held h (leave z l o) = out_held n w y (w.shut (w.home z)) held (held (w.home z)) o

-- a way out goes on by the step that closed the finish
pub out_on : (w : Ways) (z a : ℕ) → z < w.shut (w.home z) → Out w z a → Out w (w.shut (w.home z)) a
out_on w z a k stay = leave z k stay
out_on w z a k (leave x l o) = leave x l (out_on w z (w.shut (w.home x)) k o)

-- from a step whose finish is open there is no way out
pub out_open : (w : Ways) (y a : ℕ) → w.shut (w.home a) ≡ 0 → Out w y a → y ≡ a
out_open w y a e stay = refl
out_open w y a e (leave z l o) = absurd (omega arith)

-- the graph, with the finish f closed by the step c
abbrev pub shut_by : Ways → ℕ → ℕ → Ways
shut_by w f c = record w { shut = put w.shut f c }

-- what is closed then keeps the ways out that there were
pub out_kept : (w : Ways) (f c : ℕ) → w.shut f ≡ 0 → (y a : ℕ) → Out w y a → Out (shut_by w f c) y a
out_kept w f c e y a stay = stay
out_kept w f c e y a (leave z l o) =
    let same : w.shut (w.home z) ≡ put w.shut f c (w.home z) = grind (arith, nat_tests) in
    leave z (subst (λ x. z < x) same l) (subst (Out (shut_by w f c) y) same (out_kept w f c e y (w.shut (w.home z)) o))

-- a new way out goes by the step that closed f
pub out_of : (w : Ways) (f c : ℕ) → w.shut (w.home c) ≡ 0 → (w.home c ≡ f → ⊥) → (y a : ℕ) → Out (shut_by w f c) y a
    → Out w y a ⊎ ((z : ℕ) × Out w z a × (w.home z ≡ f) × (y ≡ c))
out_of w f c e d y a stay = inl stay
out_of w f c e d y a (leave z l o) = elim (cases_eq (w.home z) f) [
  | inl k ↦ (
      let now : put w.shut f c (w.home z) ≡ c = grind (arith, nat_tests) in
      let there : put w.shut f c (w.home c) ≡ 0 = grind (arith, nat_tests) in
      inr (z, stay, k, out_open (shut_by w f c) y c there (subst (Out (shut_by w f c) y) now o)))
  | inr k ↦ (
      let same : put w.shut f c (w.home z) ≡ w.shut (w.home z) = grind (arith, nat_tests) in
      elim (out_of w f c e d y (put w.shut f c (w.home z)) o) [
        | inl v ↦ inl (leave z (subst (λ x. z < x) same l) (subst (Out w y) same v))
        | inr v ↦ inr (v.0, leave z (subst (λ x. z < x) same l) (subst (Out w v.0) same v.1), v.2, v.3)
      ])
]

-- `met` and `outlet`, with enough steps to go, find these ways

back_eq : (from : ℕ → ℕ) (y x : ℕ) → x ≡ y → Back from y x
back_eq from y x e = subst (Back from y) (sym e) here

pub met_back : (w : Ways) (k y x : ℕ) → T (met w k y x) → Back w.from y x
met_back w zero y x t = back_eq w.from y x (grind arith)
met_back w (suc k) y x t = grind (arith, nat_tests, met_back w k, on, back_eq)

pub back_met : (w : Ways) (n k y x : ℕ) → Falls n w.from → x < n → x ≤ k → Back w.from y x → T (met w k y x)
back_met w n zero y x falls h l b = let e : y ≤ x = back_le w.from y x b in grind (arith, nat_tests)
back_met w n (suc k) y x falls h l here = grind (arith, nat_tests)
back_met w n (suc k) y x falls h l (on z j b) =
    let f = falls z (omega arith) h in
    let m : T (met w k y (w.from z)) = back_met w n k y (w.from z) falls (omega arith) (omega arith) b in
    grind (arith, nat_tests)

pub outlet_out : (w : Ways) (k b y : ℕ) → Out w (outlet w k b y) y
outlet_out w zero b y = stay
outlet_out w (suc k) b y = grind (arith, nat_tests, outlet_out w k b, stay, leave)

pub out_outlet : (w : Ways) (k b y a : ℕ) → (y < w.shut (w.home y) → b < w.shut (w.home y)) → y ≤ b → y ≤ a + k → Out w y a
    → outlet w k b a ≡ y
out_outlet w zero b y a stop h l o = let e : a ≤ y = out_le w y a o in omega arith
out_outlet w (suc k) b y a stop h l stay = grind (arith, nat_tests)
out_outlet w (suc k) b y a stop h l (leave z j o) =
    let i : outlet w k b (w.shut (w.home z)) ≡ y = out_outlet w k b y (w.shut (w.home z)) stop h (omega arith) o in
    let e : w.shut (w.home z) ≤ y = out_le w y (w.shut (w.home z)) o in
    grind (arith, nat_tests)

module _ (w : Ways) (a b : ℕ) where
  -- what is searched and found is found by such ways
  pub searched_finds : T (searched w a b) → Finds w a b
  searched_finds t = (outlet w b b a, outlet_out w b b a, met_back w b (outlet w b b a) b (grind (arith, nat_tests)))

  pub searched_below : T (searched w a b) → a < b
  searched_below t = grind (arith, nat_tests)

  pub finds_le : Finds w a b → a ≤ b
  finds_le (y, o, i) = let h = out_le w y a o in let k = back_le w.from y b i in omega arith

  -- and what such ways lead to is found, where no step that b comes from lies in a finish that is closed by then
  pub finds_searched : (n : ℕ) → Falls n w.from → b < n
      → ((y : ℕ) → Back w.from y b → y < w.shut (w.home y) → b < w.shut (w.home y)) → (a ≡ b → ⊥) → Finds w a b
      → T (searched w a b)
  finds_searched n falls h stop d (y, o, i) =
      let l : y ≤ b = back_le w.from y b i in
      let k : a ≤ y = out_le w y a o in
      let e : outlet w b b a ≡ y = out_outlet w b b y a (stop y i) l (omega arith) o in
      let m : T (met w b y b) = back_met w n b y b falls h (omega arith) i in
      grind (arith, nat_tests)
