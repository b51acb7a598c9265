-- A task's open finishes, and the finish that it lives in, are the same in every part that has its events so far.
use Rattle.std.proofs.lemmas.Option.{same_Some}
use Rattle.std.proofs.lemmas.Bool.Decides.{nat_tests}
use Rattle.std.proofs.Common.{◌≡◌, ℕ, ◌<◌, T, eqb, List, [], ◌∷◌, length, Some, sym, refl, ap, ◌∙◌, subst, ap₂, inl, inr, arith}
use Rattle.std.proofs.lemmas.Bool.{cases_eq}
use Rattle.model.specs.declared.Event.{Event}
use Rattle.model.specs.declared.Event.TheVariants.{Spawn}
use Rattle.model.specs.Lists.{keep, mem}
use Rattle.model.specs.Past.{Past, at, behind, actor, makes, opens, own, own_after, home, innermost, innermost_of, outer}
use Rattle.model.specs.Accesses.{CellKind}
use Rattle.model.specs.Legal.{arranged}
use Rattle.model.proofs.Shelf.Tests.{tried, cond_yes}
use Rattle.model.proofs.Shelf.Lists.{mem_head, mem_tail, mem_rest}
use Rattle.model.proofs.Shelf.Places.{at_top, at_lt, at_some, at_case, at_grow}
use Rattle.model.proofs.Shelf.Places.{behind_new, behind_old, length_behind, at_behind, behind_behind}
use Rattle.model.proofs.Linking.Sound.{Sound, actor_known, child_known, stale}
use Rattle.model.proofs.Linking.Finishes.{home_old}
use Rattle.model.proofs.Reorderings.Sublists.{Part, part_early}
use Rattle.model.proofs.Reorderings.Arranged.{arranged_cons}
use Rattle.model.proofs.Reorderings.Facts.{same_before, makes_before}

module _ {C : Type 0} where
  -- a task's own events
  abbrev mine : ℕ → Past C → Past C
  mine t g = keep (λ e. eqb t (actor e)) g

  own_skip : (e : Event C) (t n : ℕ) (w : List ℕ) → (t ≡ actor e → ⊥) → own_after e t n w ≡ w
  own_skip (Spawn a u) t n w f = refl
  own_skip e t n w f = grind arith

  mine_cons : (t : ℕ) (e : Event C) (g : Past C) → t ≡ actor e → mine t (e ∷ g) ≡ (e ∷ mine t g)
  mine_cons t e g y = grind arith

  mine_skip : (t : ℕ) (e : Event C) (g : Past C) → (t ≡ actor e → ⊥) → mine t (e ∷ g) ≡ mine t g
  mine_skip t e g n = grind arith

  -- they tell how many finishes it has opened, and which of them are open
  opens_mine : (g : Past C) (t : ℕ) → opens g t ≡ opens (mine t g) t
  opens_mine [] t = refl
  opens_mine (e ∷ g) t = grind (arith, nat_tests, opens_mine g)

  own_mine : (g : Past C) (t : ℕ) → own g t ≡ own (mine t g) t
  own_mine [] t = refl
  own_mine (e ∷ g) t = grind (arith, nat_tests, own_mine g, opens_mine, mine_cons, own_skip, mine_skip)

  mine_none : (g : Past C) (t : ℕ) → ((p : ℕ) (d : Event C) → at g p ≡ Some d → actor d ≡ t → ⊥) → mine t g ≡ []
  mine_none [] t n = refl
  mine_none (e ∷ g) t n =
      mine_skip t e g (λ z. n (length g) e (at_top g e) (sym z)) ∙ mine_none g t (λ p d a s. n p d (at_grow g e p d a) s)

  -- the last of them
  mine_last : (g : Past C) (t x : ℕ) (d : Event C) → at g x ≡ Some d → actor d ≡ t
      → ((p : ℕ) (c : Event C) → at g p ≡ Some c → actor c ≡ t → x < p → ⊥) → mine t g ≡ (d ∷ mine t (behind g x))
  mine_last [] t x d a s n = cc
  mine_last (e ∷ g) t x d a s n = elim (at_case g e x d a) [
    | inl w ↦
        grind arith
    | inr w ↦
        mine_skip t e g (λ z. n (length g) e (at_top g e) (sym z) w.0)
        ∙ mine_last g t x d w.1 s (λ p c b r m. n p c (at_grow g e p c b) r m)
        ∙ ap (λ p. d ∷ mine t p) (sym (behind_old g e x w.0))
  ]

module _ {C : Type 0} (h : Past C) where
  -- of the events of t, the places s hold those below n
  abbrev UpTo : List ℕ → ℕ → ℕ → Type 0
  UpTo s t n = (p : ℕ) (d : Event C) → at h p ≡ Some d → actor d ≡ t → (T (mem p s) → p < n) × (p < n → T (mem p s))

  -- the part behind an event holds the earlier ones of its task
  upto_here : (i : ℕ) (s : List ℕ) (e : Event C) → Part h (i ∷ s) → at h i ≡ Some e → UpTo s (actor e) i
  upto_here i s e P a p d b z = grind (arith, nat_tests, part_early, same_before)

  behind_at : (n p : ℕ) (d : Event C) → n < length h → at (behind h n) p ≡ Some d → (p < n) × (at h p ≡ Some d)
  behind_at n p d lt a = grind (arith, nat_tests, length_behind, at_lt, at_behind)

  none_later : (x : ℕ) (s : List ℕ) (t n : ℕ) → n < length h → UpTo (x ∷ s) t n → UpTo s t x
      → (p : ℕ) (d : Event C) → at (behind h n) p ≡ Some d → actor d ≡ t → x < p → ⊥
  none_later x s t n lt f low p d a z w = grind (arith, nat_tests, behind_at)

  -- such a part has the same events of t as the past behind n
  mine_part : (s : List ℕ) → Part h s → (t n : ℕ) → n < length h → UpTo s t n → mine t (arranged h s) ≡ mine t (behind h n)
  mine_part [] P t n lt f =
      sym (mine_none (behind h n) t (λ p d a y. let (u, b) = behind_at n p d lt a in (f p d b y).1 u))
  mine_part (x ∷ s) P t n lt f =
      let (e, a) = at_some h x P.0 in
      ap (mine t) (arranged_cons h x s e a)
      ∙ elim (cases_eq t (actor e)) [
        | inl y ↦
            (let low : UpTo s t x = λ p d b z. upto_here x s e P a p d b (z ∙ y) in
            let xn = (f x e a (sym y)).0 (mem_head x s) in
            mine_cons t e (arranged h s) y
            ∙ ap (λ w. e ∷ w) (mine_part s P.3 t x P.0 low)
            ∙ sym
            (mine_last (behind h n) t x e (at_behind h n x lt xn ∙ a) (sym y) (none_later x s t n lt f low)
            ∙ ap (λ w. e ∷ mine t w) (behind_behind h n x lt xn)))
        | inr y ↦
            (let other : (p : ℕ) (d : Event C) → at h p ≡ Some d → actor d ≡ t → p ≡ x → ⊥ =
            λ p d b z q. y (sym z ∙ ap actor (same_Some _ _ (sym b ∙ ap (at h) q ∙ a))) in
            mine_skip t e (arranged h s) y
            ∙ mine_part s P.3 t n lt
            (λ p d b z. (λ q. (f p d b z).0 (mem_tail p x s q), λ u. mem_rest p x s (other p d b z) ((f p d b z).1 u))))
      ]

  pub own_part : (i : ℕ) (s : List ℕ) (e : Event C) → Part h (i ∷ s) → at h i ≡ Some e
      → own (arranged h s) (actor e) ≡ own (behind h i) (actor e)
  own_part i s e P a = grind (arith, nat_tests, own_mine, mine_part, upto_here)

module _ {C : Type 0} (k : CellKind C) where
  home_none : (g : Past C) (u : ℕ) → ((p : ℕ) (d : Event C) → at g p ≡ Some d → T (makes u d) → ⊥) → home g u ≡ outer
  home_none [] u n = refl
  home_none (e ∷ g) u n = home_old g e u (n (length g) e (at_top g e)) ∙ home_none g u (λ p d a m. n p d (at_grow g e p d a) m)

  -- a task lives where its spawner was
  home_made : (h : Past C) → Sound k h → (u x : ℕ) (d : Event C)
      → at h x ≡ Some d → T (makes u d) → home h u ≡ innermost (behind h x) (actor d)
  home_made [] s u x d a m = cc
  home_made (e ∷ h) s u x d a m = grind (arith, nat_tests, home_made h, at_case, behind_new, home_old, stale, child_known, behind_old)

  -- and it lives there when it acts
  home_behind : (h : Past C) → Sound k h → (x : ℕ) (d : Event C) → at h x ≡ Some d → home (behind h x) (actor d) ≡ home h (actor d)
  home_behind [] s x d a = cc
  home_behind (e ∷ h) s x d a = grind (arith, nat_tests, home_behind h, at_case, behind_new, home_old, stale, behind_old, actor_known)

module _ {C : Type 0} (k : CellKind C) (h : Past C) (so : Sound k h) where
  -- a part with a task's spawn says where the task lives
  pub home_part : (s : List ℕ) → Part h s → (u : ℕ)
      → ((p : ℕ) (d : Event C) → at h p ≡ Some d → T (makes u d) → T (mem p s)) → home (arranged h s) u ≡ home h u
  home_part [] P u f = sym (home_none k h u f)
  home_part (x ∷ s) P u f =
      let (e, a) = at_some h x P.0 in
      let t = actor e in
      ap (λ g. home g u) (arranged_cons h x s e a)
      ∙ elim (tried (makes u e)) [
        | inl m ↦
            cond_yes (makes u e) (innermost (arranged h s) t) (home (arranged h s) u) m
            ∙ ap₂ (λ w y. innermost_of t w y) (own_part h x s e P a)
            (home_part s P.3 t (λ p d b n. P.2 p (makes_before k h so p x d e b a n)) ∙ sym (home_behind k h so x e a))
            ∙ sym (home_made k h so u x e a m)
        | inr n ↦
            (let other : (p : ℕ) (d : Event C) → at h p ≡ Some d → T (makes u d) → p ≡ x → ⊥ =
            λ p d b m q. n (subst (λ c. T (makes u c)) (same_Some _ _ (sym b ∙ ap (at h) q ∙ a)) m) in
            home_old (arranged h s) e u n ∙ home_part s P.3 u (λ p d b m. mem_rest p x s (other p d b m) (f p d b m)))
      ]

  pub innermost_part : (i : ℕ) (s : List ℕ) (e : Event C) → Part h (i ∷ s) → at h i ≡ Some e
      → innermost (arranged h s) (actor e) ≡ innermost (behind h i) (actor e)
  innermost_part i s e P a = grind (arith, nat_tests, own_part, home_part, makes_before, home_behind)
