-- The graph keeper's book holds the graph that its calls grew, and so says of its steps what the order says that they lead to.
use Rattle.std.proofs.Common.{◌≡◌, ℕ, ◌+◌, ◌*◌, ◌<◌, ◌≤◌, T, ◌∷◌, nat_eq, refl, subst, ap, ap₂, sym, ◌∙◌, inl, inr, arith}
use Rattle.std.proofs.Math.Dec.{eqb_refl}
use Rattle.std.proofs.lemmas.Bool.{cases_eq}
use Rattle.model.proofs.Shelf.Tests.{or_l}
use Rattle.model.specs.Lists.{head_or, put, mem}
use Rattle.model.specs.Orders.{Order}
use Rattle.model.specs.Reached.{Reached, start, by_spawn, by_open, by_close, by_end}
use Rattle.model.specs.Labels.{left}
use Rattle.model.proofs.Trees.Reached.{reached_laws}
use Rattle.order.specs.declared.record.Link.{Link}
use Rattle.order.specs.States.{State, place, seated}
use Rattle.edges.specs.Ways.{Ways, ways_of, way, searched}
use Rattle.order.specs.Graphs.{GraphSound, graph_order, ways_in, comes_from}
use Rattle.order.specs.Invariants.{Plain}
use Rattle.order.proofs.Books.Writes.{put_at, put_off}
use Rattle.order.proofs.Keeping.Agree.{agree}
use Rattle.order.proofs.Graphs.Alike.{Alike, way_alike, searched_alike}
use Rattle.edges.proofs.Links.{Falls, from_less}
use Rattle.edges.proofs.Earlier.{earlier_by_ways}
use Rattle.edges.proofs.Before.{before_by_ways}

-- the places of the steps below n hang as the graph says
pub record Hung (link : ℕ → Link) (n finishes : ℕ) (from home : ℕ → ℕ) : Type 0 where
  pub from_told : (x : ℕ) → 0 < x → x < n → link (place x) ≡ record { up = place (from x); turn = x }
  pub home_told : (x : ℕ) → x < n → (link (2 * x)).up ≡ home x
  pub home_held : (x : ℕ) → x < n → (link (2 * x)).up < finishes

-- one more step is seated
module _ (link : ℕ → Link) (n k m finishes : ℕ) (from home : ℕ → ℕ) (s s' f f' : ℕ) (h : Hung link n finishes from home)
    (is_next : k ≡ n) (more : m ≡ n + 1) (same_from : s' ≡ s) (same_home : f' ≡ f) (held : f < finishes) where
  leaf_old : (x : ℕ) → (x ≡ n → ⊥) → seated link n (comes_from n s f) (place x) ≡ link (place x)
  leaf_old x d =
      put_off (put link (2 * n) (comes_from n s f).node) (place n) (comes_from n s f).leaf (place x) (λ e. d (omega arith))
      ∙ put_off link (2 * n) (comes_from n s f).node (place x) (λ e. omega arith)

  leaf_new : (x : ℕ) → x ≡ n → seated link n (comes_from n s f) (place x) ≡ record { up = place s; turn = n }
  leaf_new x e = put_at (put link (2 * n) (comes_from n s f).node) (place n) (comes_from n s f).leaf (place x) (ap place e)

  node_old : (x : ℕ) → (x ≡ n → ⊥) → seated link n (comes_from n s f) (2 * x) ≡ link (2 * x)
  node_old x d =
      put_off (put link (2 * n) (comes_from n s f).node) (place n) (comes_from n s f).leaf (2 * x) (λ e. omega arith)
      ∙ put_off link (2 * n) (comes_from n s f).node (2 * x) (λ e. d (omega arith))

  node_new : (x : ℕ) → x ≡ n → seated link n (comes_from n s f) (2 * x) ≡ record { up = f; turn = 0 }
  node_new x e =
      put_off (put link (2 * n) (comes_from n s f).node) (place n) (comes_from n s f).leaf (2 * x) (λ e. omega arith)
      ∙ put_at link (2 * n) (comes_from n s f).node (2 * x) (omega arith)

  pub hung_seat : Hung (seated link n (comes_from n s f)) m finishes (put from k s') (put home k f')
  hung_seat = record {
    from_told = λ x p l. elim (cases_eq x n) [
      | inl e ↦ leaf_new x e
          ∙ ap₂ (λ (u v : ℕ). let r : Link = record { up = place u; turn = v } in r) (sym (put_at from k s' x (omega arith) ∙ same_from)) (sym e)
      | inr d ↦ leaf_old x d ∙ h.from_told x p (omega arith)
          ∙ ap (λ (u : ℕ). let r : Link = record { up = place u; turn = x } in r) (sym (put_off from k s' x (λ e. d (omega arith))))
    ];
    home_told = λ x l. elim (cases_eq x n) [
      | inl e ↦ ap (λ r. r.up) (node_new x e) ∙ sym (put_at home k f' x (omega arith) ∙ same_home)
      | inr d ↦ ap (λ r. r.up) (node_old x d) ∙ h.home_told x (omega arith) ∙ sym (put_off home k f' x (λ e. d (omega arith)))
    ];
    home_held = λ x l. elim (cases_eq x n) [
      | inl e ↦ (let q = ap (λ r. r.up) (node_new x e) in omega arith)
      | inr d ↦ (let q = ap (λ r. r.up) (node_old x d) in let b = h.home_held x (omega arith) in omega arith)
    ];
  }

-- there are more finishes
pub hung_more : (link : ℕ → Link) (n f g : ℕ) (from home : ℕ → ℕ) → Hung link n f from home → f ≤ g → Hung link n g from home
hung_more link n f g from home h l = record {
  from_told = h.from_told;
  home_told = h.home_told;
  home_held = λ x p. let b = h.home_held x p in omega arith;
}

-- the book holds the graph w
pub record Drawn (st : State) (w : Ways) : Type 0 where
  pub hung : Hung st.link st.steps st.finishes w.from w.home
  pub shut_told : (f : ℕ) → f < st.finishes → (st.finish f).shut ≡ w.shut f

pub drawn : (st : State) (g : GraphSound st) → Drawn st (ways_of g.reach)
drawn st g = record {
  hung = record { from_told = g.from_told; home_told = g.home_told; home_held = g.home_held };
  shut_told = g.shut_told;
}

pub drawn_sound : (st : State) (m : Order) (r : Reached st.limit m) → Plain st → graph_order st ≡ m → Drawn st (ways_of r) → GraphSound st
drawn_sound st m r p e d = record {
  plain = p;
  order = m;
  reach = r;
  means = e;
  from_told = d.hung.from_told;
  home_told = d.hung.home_told;
  shut_told = d.shut_told;
  home_held = d.hung.home_held;
}

drawn_alike : (st : State) (w : Ways) → Drawn st w → Alike st.steps (ways_in st) w
drawn_alike st w d = record {
  from = λ x p l. let e = ap (λ k. k.up) (d.hung.from_told x p l) in omega arith;
  shut = λ x l. d.shut_told (st.link (2 * x)).up (d.hung.home_held x l) ∙ ap w.shut (d.hung.home_told x l);
}

-- what the book says of steps, where the order m is reached that has as many
module _ (st : State) (limit : ℕ) (m : Order) (r : Reached limit m) (same : m.steps ≡ st.steps) (d : Drawn st (ways_of r)) where
  falls : Falls (ways_of r) st.steps
  falls x p l = from_less limit m r x p (omega arith)

  alike : Alike st.steps (ways_in st) (ways_of r)
  alike = drawn_alike st (ways_of r) d

  pub before_is : (a b : ℕ) → (graph_order st).before a b ≡ m.before a b
  before_is a b =
      agree m.before st.steps a b (searched (ways_in st) a b)
      (λ h. let l = (reached_laws limit m r).before_held a b h in (omega arith, omega arith))
      (λ p q. before_by_ways limit m r a b (omega arith) (omega arith)
      ∙ sym (searched_alike st.steps (ways_in st) (ways_of r) alike falls a b p q))

  pub earlier_is : (a b : ℕ) → (graph_order st).earlier a b ≡ m.earlier a b
  earlier_is a b =
      agree m.earlier st.steps a b (left (way (ways_in st) a) (way (ways_in st) b))
      (λ h. let l = (reached_laws limit m r).earlier_held a b h in (omega arith, omega arith))
      (λ p q. earlier_by_ways limit m r a b (omega arith) (omega arith)
      ∙ sym (ap₂ left (way_alike st.steps (ways_in st) (ways_of r) alike falls a a p) (way_alike st.steps (ways_in st) (ways_of r) alike falls b b q)))

-- a finish that is not made yet was not closed
pub not_shut : (limit : ℕ) (m : Order) (r : Reached limit m) (f : ℕ) → m.finishes ≤ f → (ways_of r).shut f ≡ 0
not_shut limit m start f l = refl
not_shut limit m (by_spawn o t r run) f l = not_shut limit o r f l
not_shut limit m (by_open o t r run) f l = not_shut limit o r f (omega arith)
not_shut limit m (by_close o t g h fs r run own none) f l =
    let first : T (mem g (g ∷ (h ∷ fs))) = or_l (nat_eq g g) (mem g (h ∷ fs)) (eqb_refl g) in
    let held = (reached_laws limit o r).finish_held t g run (subst (λ z. T (mem g z)) (sym own) first) in
    let is = ap (λ z. head_or z 0) own in
    put_off (ways_of r).shut (head_or (o.task t).finishes 0) o.steps f (λ e. omega arith) ∙ not_shut limit o r f l
not_shut limit m (by_end o t g r run own) f l = not_shut limit o r f l
