-- Graphs that agree on the steps that are held are searched alike.
use Rattle.std.proofs.Common.{◌≡◌, ℕ, zero, suc, ◌<◌, ◌&&◌, ap, refl, ◌∙◌, arith, nat_lt}
use Rattle.std.proofs.lemmas.Bool.Decides.{nat_tests}
use Rattle.edges.specs.Ways.{Ways, way_in, outlet, met, searched}
use Rattle.edges.proofs.Links.{Falls}

-- v is w, as far as the steps below n go
pub record Alike (n : ℕ) (v w : Ways) : Type 0 where
  pub from : (x : ℕ) → 0 < x → x < n → v.from x ≡ w.from x
  pub shut : (x : ℕ) → x < n → v.shut (v.home x) ≡ w.shut (w.home x)

module _ (n : ℕ) (v w : Ways) (a : Alike n v w) (f : Falls w n) where
  pub way_alike : (k x : ℕ) → x < n → way_in v k x ≡ way_in w k x
  way_alike zero x l = refl
  way_alike (suc k) x l = grind (arith, nat_tests, a.from x, f x, way_alike k (w.from x))

  met_alike : (k y x : ℕ) → x < n → met v k y x ≡ met w k y x
  met_alike zero y x l = refl
  met_alike (suc k) y x l = grind (arith, nat_tests, a.from x, f x, met_alike k y (w.from x))

  outlet_alike : (k b y : ℕ) → b < n → y < n → outlet v k b y ≡ outlet w k b y
  outlet_alike zero b y m l = refl
  outlet_alike (suc k) b y m l = grind (arith, nat_tests, a.shut y, outlet_alike k b (w.shut (w.home y)))

  pub searched_alike : (x y : ℕ) → x < n → y < n → searched v x y ≡ searched w x y
  searched_alike x y p q =
      ap (λ z. nat_lt x y && met v y z y) (outlet_alike y y x q p) ∙ ap (λ z. nat_lt x y && z) (met_alike y (outlet w y y x) y q)
