-- A function changed at one number: what is said of its values, and what a part of them says.
use Rattle.std.proofs.Math.Path.{fun_ext}
use Rattle.std.proofs.lemmas.Bool.{cases_eq}
use Rattle.std.proofs.Common.{◌≡◌, ℕ, ◌⊎◌, inl, inr, refl, sym, subst}
use Rattle.model.specs.Lists.{put}
use Rattle.model.specs.Orders.{Order}
use Rattle.order.proofs.Books.Writes.{put_at, put_off}

-- what holds of the new value at k, and of each old one elsewhere, holds of all
pub put_holds : {A : Type 0} (P : ℕ → A → Type 0) (f : ℕ → A) (k : ℕ) (v : A) → P k v → (x : ℕ) → ((x ≡ k → ⊥) → P x (f x)) → P x (put f k v x)
put_holds P f k v a x b = go (cases_eq x k)
  where
    go : (x ≡ k) ⊎ (x ≡ k → ⊥) → P x (put f k v x)
    go (inl e) = subst (P x) (sym (put_at f k v x e)) (subst (λ y. P y v) (sym e) a)
    go (inr d) = subst (P x) (sym (put_off f k v x d)) (b d)

-- what a part of the values says stays where the new value says the same
pub put_keeps : {A B : Type 0} (g : A → B) (f : ℕ → A) (k : ℕ) (v : A) → g v ≡ g (f k) → (x : ℕ) → g (put f k v x) ≡ g (f x)
put_keeps g f k v e x = put_holds (λ y w. g w ≡ g (f y)) f k v e x (λ d. refl)

-- a part of the changed values is the changed part
pub put_part : {A B : Type 0} (g : A → B) (f : ℕ → A) (k : ℕ) (v : A) → (λ x. g (put f k v x)) ≡ put (λ x. g (f x)) k (g v)
put_part g f k v = fun_ext (λ x. put_holds (λ y w. g w ≡ put (λ z. g (f z)) k (g v) y) f k v
    (sym (put_at (λ z. g (f z)) k (g v) k refl)) x (λ d. sym (put_off (λ z. g (f z)) k (g v) x d)))

-- two orders that say the same
pub order_ext : (m n : Order) → m.limit ≡ n.limit → m.steps ≡ n.steps → m.tasks ≡ n.tasks → m.finishes ≡ n.finishes
    → ((a b : ℕ) → m.before a b ≡ n.before a b) → ((a b : ℕ) → m.earlier a b ≡ n.earlier a b) → ((u : ℕ) → m.task u ≡ n.task u)
    → ((f u : ℕ) → m.lives f u ≡ n.lives f u) → ((f l : ℕ) → m.last f l ≡ n.last f l) → m ≡ n
order_ext m n a b c d before earlier task lives last = λ i. record {
  limit = a i;
  steps = b i;
  before = λ x y. before x y i;
  earlier = λ x y. earlier x y i;
  tasks = c i;
  task = λ u. task u i;
  finishes = d i;
  lives = λ f u. lives f u i;
  last = λ f l. last f l i;
}
