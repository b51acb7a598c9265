-- A search back may take its steps one by one, and more of them than it needs change nothing.
use Rattle.std.proofs.Common.{◌≡◌, ℕ, zero, suc, ◌+◌, ◌-◌, ◌<◌, ◌≤◌, ap, refl, arith, ◌==◌}
use Rattle.std.proofs.lemmas.Bool.Decides.{nat_tests}
use Rattle.order.specs.States.{State}
use Rattle.order.specs.Graphs.{ways_in, Searchable, GraphSound}
use Rattle.edges.specs.Ways.{Ways, ways_of, outlet, met}
use Rattle.edges.proofs.Links.{Falls, from_less}

-- b - y times are enough, to leave the finishes around y by steps up to b
pub outlet_fuel : (w : Ways) (b k j y : ℕ) → b ≤ y + k → b ≤ y + j → outlet w k b y ≡ outlet w j b y
outlet_fuel w b zero zero y p q = refl
outlet_fuel w b zero (suc j) y p q = grind (arith, nat_tests)
outlet_fuel w b (suc k) zero y p q = grind (arith, nat_tests)
outlet_fuel w b (suc k) (suc j) y p q = grind (arith, nat_tests, outlet_fuel w b k j (w.shut (w.home y)))

-- and x steps back, to get from x to 0
pub met_fuel : (w : Ways) (n : ℕ) → Falls w n → (y k j x : ℕ) → x < n → x ≤ k → x ≤ j → met w k y x ≡ met w j y x
met_fuel w n f y zero zero x l p q = refl
met_fuel w n f y zero (suc j) x l p q = grind (arith, nat_tests)
met_fuel w n f y (suc k) zero x l p q = grind (arith, nat_tests)
met_fuel w n f y (suc k) (suc j) x l p q = grind (arith, nat_tests, f x, met_fuel w n f y k j (w.from x))

-- from y on to the step z that closed the finish around it
pub outlet_on : (w : Ways) (b k y z : ℕ) → z ≡ w.shut (w.home y) → y < z → z ≤ b → b ≤ y + k → outlet w k b y ≡ outlet w (b - z) b z
outlet_on w b zero y z e p q r = absurd (omega arith)
outlet_on w b (suc k) y z e p q r = grind (arith, nat_tests, outlet_fuel w b k (b - z) z)

-- y is the last: the finish around it is open, or was closed later than b
pub outlet_done : (w : Ways) (b k y z : ℕ) → z ≡ w.shut (w.home y) → z ≤ y → outlet w k b y ≡ y
outlet_done w b zero y z e p = refl
outlet_done w b (suc k) y z e p = grind (arith, nat_tests)

pub outlet_past : (w : Ways) (b k y z : ℕ) → z ≡ w.shut (w.home y) → b < z → outlet w k b y ≡ y
outlet_past w b zero y z e p = refl
outlet_past w b (suc k) y z e p = grind (arith, nat_tests)

-- back from x to the step z that it comes from
pub met_back : (w : Ways) (n : ℕ) → Falls w n → (y k x z : ℕ) → z ≡ w.from x → y < x → x < n → x ≤ k → met w k y x ≡ met w z y z
met_back w n f y zero x z e p l q = absurd (omega arith)
met_back w n f y (suc k) x z e p l q = grind (arith, nat_tests, f x, met_fuel w n f y k z z)

-- at y, or past it
pub met_done : (w : Ways) (y k x : ℕ) → x ≤ y → met w k y x ≡ (x == y)
met_done w y zero x p = refl
met_done w y (suc k) x p = grind (arith, nat_tests)

-- a sound graph can be searched
module _ (st : State) (g : GraphSound st) where
  steps_same : st.steps ≡ g.order.steps
  steps_same = ap (λ m. m.steps) g.means

  from_same : (x : ℕ) → 0 < x → x < st.steps → (ways_in st).from x ≡ (ways_of g.reach).from x
  from_same x p l = let e = ap (λ k. k.up) (g.from_told x p l) in omega arith

  pub falls_back : Falls (ways_in st) st.steps
  falls_back x p l =
      let e = from_same x p l in
      let s = steps_same in
      let h = from_less st.limit g.order g.reach x p (omega arith) in
      omega arith

pub searchable : (st : State) → GraphSound st → Searchable st
searchable st g = record { falls = falls_back st g; homes = g.home_held }
