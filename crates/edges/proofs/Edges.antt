-- A step is before another exactly when edges of the graph lead from the one to the other.
use Rattle.std.proofs.Common.{◌≡◌, ℕ, ◌+◌, ◌<◌, ◌≤◌, ◌&&◌, T, ◌⊎◌, List, [], ◌∷◌, eqb, sym, refl, ap, ◌∙◌, subst, inl, inr, arith}
use Rattle.std.proofs.Math.Facts.{yes_and, yes_eqb}
use Rattle.std.proofs.lemmas.Bool.{cases_eq}
use Rattle.std.proofs.lemmas.Bool.Decides.{nat_tests}
use Rattle.model.specs.Lists.{head_or, put}
use Rattle.model.specs.Orders.{Order, at_or_after, spawned, opened, closed, done}
use Rattle.model.specs.Reached.{Reached, start, by_spawn, by_open, by_close, by_end}
use Rattle.model.specs.Shapes.{In}
use Rattle.model.proofs.Shelf.Lists.{any_below_of, any_below_in}
use Rattle.model.proofs.Shelf.Tests.{or_l}
use Rattle.model.proofs.Trees.Reached.{reached_laws}
use Rattle.edges.specs.Ways.{Ways, spawn_ways, next_ways, close_ways, ways_of}
use Rattle.edges.specs.Edges.{Edge, came, awaited, Leads, by_one, by_more, EdgesTell}
use Rattle.edges.proofs.Kept.{Kept, after_case}
use Rattle.edges.proofs.Add.{put_at, put_off}
use Rattle.edges.proofs.Before.{reached_kept}
use Rattle.edges.proofs.Links.{Grown, spawn_grown, next_grown, close_grown, from_before}

-- the innermost finish of a running task is open
innermost_open : (m : Order) (w : Ways) → Kept m w → (t f : ℕ) (fs : List ℕ) → T (m.task t).running → (m.task t).finishes ≡ f ∷ fs
    → (g : ℕ) → g ≡ head_or (m.task t).finishes 0 → w.shut g ≡ 0
innermost_open m w k t f fs run own g e =
    (k.walker t run).open_still g (subst (In g) (sym own) (inl (e ∙ ap (λ z. head_or z 0) own)))

-- a last step of the finish that is closed is before the step of the close
closed_last : (m : Order) (t l : ℕ) → l < m.steps → T (m.last (head_or (m.task t).finishes 0) l) → T ((closed m t).before l m.steps)
closed_last m t l h last =
    let f : ℕ = head_or (m.task t).finishes 0 in
    let both = yes_and (m.last f l) (at_or_after m l l) last (or_l (eqb l l) (m.before l l) (yes_eqb refl)) in
    let i = any_below_in (λ x. m.last f x && at_or_after m x l) m.steps l h both in
    grind (arith, nat_tests)

closed_old : (m : Order) (t a b : ℕ) → b < m.steps → T (m.before a b) → T ((closed m t).before a b)
closed_old m t a b h i = grind (arith, nat_tests)

-- a was before b, or b is new and comes from s, and a is at or before s
abbrev Known : Order → ℕ → ℕ → ℕ → ℕ → Type 0
Known m new s a b = T (m.before a b) ⊎ ((m.steps ≤ b) × (b < m.steps + new) × T (at_or_after m s a))

spawned_of : (m : Order) (t a b : ℕ) → T ((spawned m t).before a b) → Known m 2 (m.task t).current a b
spawned_of m t a b i = grind (arith, nat_tests)

opened_of : (m : Order) (t a b : ℕ) → T ((opened m t).before a b) → Known m 1 (m.task t).current a b
opened_of m t a b i = grind (arith, nat_tests)

-- or, before the step of a close, at or before a last step of the finish
closed_of : (m : Order) (t a b : ℕ) → T ((closed m t).before a b)
    → Known m 1 (m.task t).current a b
    ⊎ ((b ≡ m.steps) × (l : ℕ) × T (m.last (head_or (m.task t).finishes 0) l) × T (at_or_after m l a))
closed_of m t a b i = grind (arith, nat_tests, any_below_of)

done_last : (m : Order) (t g l : ℕ) → T ((done m t).last g l) → (g ≡ head_or (m.task t).finishes 0) ⊎ T (m.last g l)
done_last m t g l i = grind (arith, nat_tests)

-- the last steps of a finish are before the step that closed it
awaits : (limit : ℕ) (m : Order) (r : Reached limit m) (f l : ℕ) → T (m.last f l) → 0 < (ways_of r).shut f
    → T (m.before l ((ways_of r).shut f))
awaits limit m start f l last p = absurd last
awaits limit m (by_spawn o t r run) f l last p =
    let h = (reached_kept limit o r).grown.shut_by f in
    let i = awaits limit o r f l last p in
    grind (arith, nat_tests)
awaits limit m (by_open o t r run) f l last p =
    let h = (reached_kept limit o r).grown.shut_by f in
    let i = awaits limit o r f l last p in
    grind (arith, nat_tests)
awaits limit m (by_close o t g h fs r run own none) f l last p =
    let k = reached_kept limit o r in
    let c : ℕ = head_or (o.task t).finishes 0 in
    elim (cases_eq f c) [
      | inl e ↦ subst (λ z. T ((closed o t).before l z)) (sym (ap (put (ways_of r).shut c o.steps) e ∙ put_at (ways_of r).shut c o.steps))
          (closed_last o t l (k.last_is f l last).0 (subst (λ z. T (o.last z l)) e last))
      | inr d ↦ (let q = put_off (ways_of r).shut c o.steps f d in
          subst (λ z. T ((closed o t).before l z)) (sym q)
          (closed_old o t l ((ways_of r).shut f) (k.grown.shut_by f) (awaits limit o r f l last (omega arith))))
    ]
awaits limit m (by_end o t g r run own) f l last p = elim (done_last o t f l last) [
  | inl e ↦ (let z = innermost_open o (ways_of r) (reached_kept limit o r) t g [] run own f e in absurd (omega arith))
  | inr i ↦ awaits limit o r f l i p
]

module _ (limit : ℕ) (m : Order) (r : Reached limit m) where
  edge_before : (a b : ℕ) → Edge m (ways_of r) a b → T (m.before a b)
  edge_before a b (came x p l) = from_before limit m r x p l
  edge_before a b (awaited f l last p) = awaits limit m r f l last p

  leads_before : (a b : ℕ) → Leads m (ways_of r) a b → T (m.before a b)
  leads_before a b (by_one c e) = edge_before a c e
  leads_before a b (by_more c d l e) =
      (reached_laws limit m r).before_trans a c d (leads_before a c l) (edge_before c d e)

-- the graph v of n is the graph w of m and new steps that come from s
record Grows (m n : Order) (w v : Ways) (new s : ℕ) : Type 0 where
  pub steps_is : n.steps ≡ m.steps + new
  pub grown : Grown m.steps new s w v
  pub last_more : (f l : ℕ) → T (m.last f l) → T (n.last f l)
  pub shut_same : (f : ℕ) → 0 < w.shut f → v.shut f ≡ w.shut f

module _ {m n : Order} {w v : Ways} {new s : ℕ} (g : Grows m n w v new s) where
  -- an edge is one still
  edge_on : (a b : ℕ) → Edge m w a b → Edge n v a b
  edge_on a b (came x p l) =
      let e = g.steps_is in
      subst (λ z. Edge n v z x) (g.grown.old x l) (came x p (omega arith))
  edge_on a b (awaited f l last p) =
      let e = g.shut_same f p in
      subst (Edge n v l) e (awaited f l (g.last_more f l last) (omega arith))

  leads_on : (a b : ℕ) → Leads m w a b → Leads n v a b
  leads_on a b (by_one c e) = by_one c (edge_on a c e)
  leads_on a b (by_more c d l e) = by_more c d (leads_on a c l) (edge_on c d e)

  module _ (ih : (a b : ℕ) → T (m.before a b) → Leads m w a b) where
    -- an edge from l to b leads there from all that l is at or after
    leads_to : (l a b : ℕ) → Edge n v l b → T (at_or_after m l a) → Leads n v a b
    leads_to l a b e t = elim (after_case m l a t) [
      | inl q ↦ subst (λ z. Leads n v z b) (sym q) (by_one b e)
      | inr i ↦ by_more l b (leads_on a l (ih a l i)) e
    ]

    -- and so do the edges to the new steps
    leads_new : s < m.steps → (a b : ℕ) → Known m new s a b → Leads n v a b
    leads_new h a b (inl i) = leads_on a b (ih a b i)
    leads_new h a b (inr (p, q, t)) =
        let e = g.steps_is in
        leads_to s a b (subst (λ z. Edge n v z b) (g.grown.fresh b p q) (came b (omega arith) (omega arith))) t

-- each call makes the graph grow so
spawn_grows : (m : Order) (w : Ways) (t : ℕ) → Grows m (spawned m t) w (spawn_ways m t w) 2 (m.task t).current
spawn_grows m w t =
    record { steps_is = refl; grown = spawn_grown m t w; last_more = λ f l i. i; shut_same = λ f p. refl }

open_grows : (m : Order) (w : Ways) (t : ℕ) → Grows m (opened m t) w (next_ways m t w) 1 (m.task t).current
open_grows m w t =
    record { steps_is = refl; grown = next_grown m t w; last_more = λ f l i. i; shut_same = λ f p. refl }

close_grows : (m : Order) (w : Ways) → Kept m w → (t f : ℕ) (fs : List ℕ) → T (m.task t).running → (m.task t).finishes ≡ f ∷ fs
    → Grows m (closed m t) w (close_ways m t w) 1 (m.task t).current
close_grows m w k t f fs run own =
    record {
      steps_is = refl;
      grown = close_grown m t w;
      last_more = λ f l i. i;
      shut_same = λ g p.
          put_off w.shut (head_or (m.task t).finishes 0) m.steps g
          (λ e. let z = innermost_open m w k t f fs run own g e in absurd (omega arith));
    }

done_grows : (m : Order) (w : Ways) (t : ℕ) → Grows m (done m t) w w 0 0
done_grows m w t =
    record {
      steps_is = omega arith;
      grown = record { old = λ x l. refl; fresh = λ x (p : m.steps ≤ x) (q : x < m.steps + 0). absurd (omega arith) };
      last_more = λ f l i. grind arith;
      shut_same = λ f p. refl;
    }

-- edges lead from each step that is before another
before_leads : (limit : ℕ) (m : Order) (r : Reached limit m) (a b : ℕ) → T (m.before a b) → Leads m (ways_of r) a b
before_leads limit m start a b i = absurd i
before_leads limit m (by_spawn o t r run) a b i =
    leads_new (spawn_grows o (ways_of r) t) (before_leads limit o r) ((reached_laws limit o r).current_held t run) a b
    (spawned_of o t a b i)
before_leads limit m (by_open o t r run) a b i =
    leads_new (open_grows o (ways_of r) t) (before_leads limit o r) ((reached_laws limit o r).current_held t run) a b
    (opened_of o t a b i)
before_leads limit m (by_close o t f g fs r run own none) a b i =
    let w : Ways = ways_of r in
    let c : ℕ = head_or (o.task t).finishes 0 in
    let grows = close_grows o w (reached_kept limit o r) t f (g ∷ fs) run own in
    let h = (reached_laws limit o r).current_held t run in
    elim (closed_of o t a b i) [
      | inl j ↦ leads_new grows (before_leads limit o r) h a b j
      | inr (e, l, last, j) ↦ (
          let q = put_at w.shut c o.steps in
          leads_to grows (before_leads limit o r) l a b
          (subst (Edge (closed o t) (close_ways o t w) l) (q ∙ sym e) (awaited c l last (omega arith))) j)
    ]
before_leads limit m (by_end o t f r run own) a b i = leads_on (done_grows o (ways_of r) t) a b (before_leads limit o r a b i)

-- a step is before another exactly when edges lead from the one to the other
pub edges_tell : (limit : ℕ) (m : Order) (r : Reached limit m) → EdgesTell m (ways_of r)
edges_tell limit m r a b = (before_leads limit m r a b, leads_before limit m r a b)
