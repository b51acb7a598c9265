-- How two steps stand is told by the fork at which the ways up from them meet.
use Rattle.std.proofs.Math.Logic.{∥∥₁_elim, ∥∥₁_map}
use Rattle.std.proofs.Props.{props}
use Rattle.std.proofs.lemmas.Bool.{lt-ltb}
use Rattle.std.proofs.Common.{◌≡◌, ℕ, zero, suc, ◌*◌, ◌%◌, ◌<◌, Bool, true, false, cond, not, ◌&&◌, ◌⊎◌, inl, inr, [], ◌∷◌, ◌++◌, nat_lt, ◌==◌, refl, sym, ap, subst, ◌∙◌, arith}
use Rattle.model.specs.Labels.{Label, odd, left, over}
use Rattle.model.specs.Reached.{Reached}
use Rattle.model.specs.Trees.{Labelled, tree_of}
use Rattle.model.proofs.Trees.Reached.{reached_labels}
use Rattle.order.specs.declared.record.Link.{Link}
use Rattle.order.specs.declared.book.climb.Fork.{Fork}
use Rattle.order.specs.declared.tree.Relation.{Relation}
use Rattle.order.specs.States.{State, place}
use Rattle.order.specs.Forks.{label, Below, Forked}
use Rattle.order.specs.Trees.{TreeSound, Node, Grown, tree_order, step_label, climbed}
use Rattle.order.specs.Keepers.{relation_in}
use Rattle.order.proofs.Climbs.Places.{label_up}
use Rattle.order.proofs.Keeping.Agree.{of_held}
use Rattle.order.proofs.Climbs.Relating.{ends_by, before_is, earlier_is, links_are}

-- the tree that was grown, of the order that the keeper means
pub grown : (st : State) → TreeSound st → Grown st
grown st w =
    let tree = subst (λ m. (r : Reached st.limit m) × ((x : ℕ) → x < st.steps → step_label st x ≡ (tree_of r).step x)) (sym w.means) (w.reach, w.told) in
    record { reach = tree.0; told = tree.1 }

pub labelled : (st : State) → TreeSound st → Labelled (tree_order st) (step_label st)
labelled st w =
    let g = grown st w in
    let l = reached_labels st.limit (tree_order st) g.reach in
    record {
      before_is = λ a b h k. let e = g.told a h in let f = g.told b k in let z = l.before_is a b h k in cc;
      earlier_is = λ a b h k. let e = g.told a h in let f = g.told b k in let z = l.earlier_is a b h k in cc;
      apart = λ a b h k e. l.apart a b h k (sym (g.told a h) ∙ (e ∙ g.told b k));
      leaf = λ a b h k u. l.leaf a b h k (u.0, sym (g.told b k) ∙ (u.1 ∙ ap (λ z. z ++ u.0) (g.told a h)));
    }

not_twice : (b : Bool) → not (not b) ≡ b
not_twice true = refl
not_twice false = refl

-- a turn is even where its test says so
even_turn : (n : ℕ) → not (odd n) ≡ (n % 2 == 0)
even_turn zero = refl
even_turn (suc zero) = refl
even_turn (suc (suc n)) =
    let step : suc (suc n) % 2 ≡ n % 2 = omega arith in
    ap not (not_twice (odd n)) ∙ (even_turn n ∙ ap (λ k. k == 0) (sym step))

same_relation : (p p₂ q q₂ : Bool) (n n₂ : ℕ) → p ≡ p₂ → q ≡ q₂ → n ≡ n₂
    → ◌≡◌ {A = Relation} (record { before = p; earlier = q; links = n }) (record { before = p₂; earlier = q₂; links = n₂ })
same_relation p p₂ q q₂ n n₂ d e f = cc

module _ (st : State) (w : TreeSound st) where
  abbrev link : ℕ → Link
  link = st.link

  -- a step's place, or a node's
  abbrev Stands : ℕ → Type 0
  Stands p = ((x : ℕ) × (x < st.steps) × (p ≡ place x)) ⊎ Node st p

  stands_held : (p : ℕ) → Stands p → p < 2 * st.steps
  stands_held p s = elim s [
    | inl h ↦ omega (arith, h.1, h.2)
    | inr h ↦ omega (arith, h.1, h.2)
  ]

  -- whatever is above a place that stands, stands
  above : (p q : ℕ) → Below link p q → Stands q → Stands p
  above p _ Below.here s = s
  above p _ (Below.from_up q l b) s = above p (link q).up b (inr (w.nodes q (stands_held q s)))

  label_at : (p : ℕ) → 0 < p → Stands p → label link p ≡ label link (link p).up ++ ((link p).turn ∷ [])
  label_at p l s = label_up link p (w.plain.hung p l (stands_held p s))

  -- the first step of a node has one turn more
  under_node : (p : ℕ) (n : Node st p) → step_label st n.0 ≡ label link p ++ (0 ∷ [])
  under_node p n =
      let l = n.3 in
      label_up link (place n.0) (omega (arith, ap Link.up l))
      ∙ (ap (λ (k : Link). label link k.up ++ (k.turn ∷ [])) l ∙ ap (λ z. label link z ++ (0 ∷ [])) (sym n.2))

  -- a step has no node's label, since the node's first step lies under that
  no_node : (p x : ℕ) → x < st.steps → (n : Node st p) → step_label st x ≡ label link p → ⊥
  no_node p x h n e =
      let u = under_node p n in
      let same : x ≡ n.0 = (labelled st w).leaf x n.0 h n.1 (0 ∷ [], u ∙ ap (λ z. z ++ (0 ∷ [])) (sym e)) in
      longer (step_label st x) (ap (step_label st) same ∙ (u ∙ ap (λ z. z ++ (0 ∷ [])) (sym e)))
    where
      longer : (a : Label) → a ≡ a ++ (0 ∷ []) → ⊥
      longer [] e = cc e
      longer (y ∷ a) e = longer a (cc e)

  -- places that stand have labels of their own
  own_label : (p q : ℕ) → Stands p → Stands q → label link p ≡ label link q → p ≡ q
  own_label p q (inl s) (inl t) e =
      s.2 ∙ (ap place ((labelled st w).apart s.0 t.0 s.1 t.1 (ap (label link) (sym s.2) ∙ (e ∙ ap (label link) t.2))) ∙ sym t.2)
  own_label p q (inl s) (inr t) e = absurd (no_node q s.0 s.1 t (ap (label link) (sym s.2) ∙ e))
  own_label p q (inr s) (inl t) e = absurd (no_node p t.0 t.1 s (ap (label link) (sym t.2) ∙ sym e))
  own_label p q (inr s) (inr t) e =
      let same : s.0 ≡ t.0 = (labelled st w).apart s.0 t.0 s.1 t.1 (under_node p s ∙ (ap (λ z. z ++ (0 ∷ [])) e ∙ sym (under_node q t))) in
      s.2 ∙ (ap (λ x. 2 * x) same ∙ sym t.2)

  -- of places on the ways up from two steps, those that hang from one have turns of their own
  distinct : (a b : ℕ) → a < st.steps → b < st.steps → (p q : ℕ) → Below link p (place a) → Below link q (place b) → 0 < p → 0 < q
      → (link p).up ≡ (link q).up → (link p).turn ≡ (link q).turn → p ≡ q
  distinct a b h k p q s t l m e f =
      let x = above p (place a) s (inl (a, h, refl)) in
      let y = above q (place b) t (inl (b, k, refl)) in
      own_label p q x y (label_at p l x ∙ (ap (λ z. label link z ++ ((link p).turn ∷ [])) e
      ∙ (ap (λ z. label link (link q).up ++ (z ∷ [])) f ∙ sym (label_at q m y))))

  -- of two steps that are held
  pub relation_told : (a b : ℕ) → a < st.steps → b < st.steps → (r : Fork) → Forked link (place a) (place b) r
      → record { before = nat_lt r.left r.right && (r.left % 2 == 0); earlier = nat_lt r.left r.right; links = r.links }
      ≡ relation_in (tree_order st) (step_label st) a b
  relation_told a b h k r f =
      let own = distinct a b h k in
      let leaf = labelled st w in
      let ends = ends_by link (place a) (place b) r f (λ u. ap (step_label st) (leaf.leaf a b h k u)) in
      let before = before_is link (place a) (place b) r f own ends ∙ ap (λ z. nat_lt r.left r.right && z) (even_turn r.left) in
      let earlier = earlier_is link (place a) (place b) r f own ends in
      let i = lt-ltb a st.steps h in
      let j = lt-ltb b st.steps k in
      same_relation _ _ _ _ _ _ (of_held st.steps a b _ _ h k before) (of_held st.steps a b _ _ h k earlier)
      (links_are link (place a) (place b) r f own ∙ held _ _ (climbed (step_label st a) (step_label st b)) i j)
    where
      held : (x y : Bool) (n : ℕ) → x ≡ true → y ≡ true → n ≡ cond (x && y) n 0
      held true true n e f = refl
      held false y n e f = absurd (cc e)
      held true false n e f = absurd (cc f)

pub labelled_by : (st : State) → ∥ TreeSound st ∥₁ → Labelled (tree_order st) (step_label st)
labelled_by st w = ∥∥₁_elim w (Prim.hlevel props) (labelled st)

pub grown_by : (st : State) → ∥ TreeSound st ∥₁ → ∥ Grown st ∥₁
grown_by st w = ∥∥₁_map w (grown st)

pub told_by : (st : State) → ∥ TreeSound st ∥₁ → (a b : ℕ) → a < st.steps → b < st.steps → (r : Fork) → Forked st.link (place a) (place b) r
    → (over left : Bool) → over ≡ (nat_lt r.left r.right && (r.left % 2 == 0)) → left ≡ nat_lt r.left r.right
    → record { before = over; earlier = left; links = r.links } ≡ relation_in (tree_order st) (step_label st) a b
told_by st w a b h k r f over left d e =
    same_relation over _ left _ r.links _ d e refl ∙ ∥∥₁_elim w (Prim.hlevel props) (λ v. relation_told st v a b h k r f)
