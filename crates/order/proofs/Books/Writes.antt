-- One record written is one change of what the book holds.
use Rattle.std.proofs.Math.Path.{fun_ext}
use Rattle.std.proofs.lemmas.Bool.{cases_eq, cond-true, cond-false, eq-eqb, ne_eqb}
use Rattle.std.proofs.Common.{◌≡◌, ℕ, ◌⊎◌, inl, inr, sym, ap, ◌∙◌, arith, ◌==◌}
use Rattle.model.specs.Lists.{put}
use Rattle.order.specs.declared.record.Link.{Link}
use Rattle.order.specs.declared.record.TaskRow.{TaskRow}
use Rattle.order.specs.declared.record.FinishRow.{FinishRow}
use Rattle.order.specs.declared.record.OrderRecord.{OrderRecord}
use Rattle.order.specs.declared.record.OrderRecord.TheVariants as kind
use Rattle.order.specs.States.{State, state_in, link_at, task_at, finish_at, link_in, task_in, finish_in}

pub put_at : {A : Type 0} (f : ℕ → A) (k : ℕ) (v : A) (x : ℕ) → x ≡ k → put f k v x ≡ v
put_at f k v x e = cond-true (x == k) v (f x) (eq-eqb x k e)

pub put_off : {A : Type 0} (f : ℕ → A) (k : ℕ) (v : A) (x : ℕ) → (x ≡ k → ⊥) → put f k v x ≡ f x
put_off f k v x d = cond-false (x == k) v (f x) (ne_eqb x k d)

-- what is read of the records that lie apart from one another, when one of them is written
module _ {A : Type 0} (read : OrderRecord → A) (at : ℕ → ℕ) (row : ℕ → OrderRecord) where
  abbrev all : (ℕ → OrderRecord) → ℕ → A
  all rows j = read (rows (at j))

  pub read_same : (k : ℕ) (v : OrderRecord) → ((j : ℕ) → at j ≡ at k → j ≡ k) → all (put row (at k) v) ≡ put (all row) k (read v)
  read_same k v one = fun_ext (λ j. go j (cases_eq j k))
    where
      go : (j : ℕ) → (j ≡ k) ⊎ (j ≡ k → ⊥) → all (put row (at k) v) j ≡ put (all row) k (read v) j
      go j (inl e) = ap read (put_at row (at k) v (at j) (ap at e)) ∙ sym (put_at (all row) k (read v) j e)
      go j (inr d) = ap read (put_off row (at k) v (at j) (λ e. d (one j e))) ∙ sym (put_off (all row) k (read v) j d)

  pub read_else : (i : ℕ) (v : OrderRecord) → ((j : ℕ) → at j ≡ i → ⊥) → all (put row i v) ≡ all row
  read_else i v off = fun_ext (λ j. ap read (put_off row i v (at j) (off j)))

same_parts : (l l₂ s t f : ℕ) (a a₂ : ℕ → Link) (b b₂ : ℕ → TaskRow) (c c₂ : ℕ → FinishRow) → l ≡ l₂ → a ≡ a₂ → b ≡ b₂ → c ≡ c₂
    → ◌≡◌ {A = State} (record { limit = l; steps = s; tasks = t; finishes = f; link = a; task = b; finish = c })
    (record { limit = l₂; steps = s; tasks = t; finishes = f; link = a₂; task = b₂; finish = c₂ })
same_parts l l₂ s t f a a₂ b b₂ c c₂ d e g h = cc

-- of the rows r, the rows q with one record written
module _ (r q : ℕ → OrderRecord) (limit limit₂ steps tasks finishes : ℕ) (same : limit₂ ≡ limit) where
  abbrev st : State
  st = state_in r limit steps tasks finishes

  pub link_written : (p : ℕ) (l : Link) → q ≡ put r (link_at p) (kind.Link l)
      → state_in q limit₂ steps tasks finishes ≡ record st { link = put st.link p l }
  link_written p l e =
      let a = read_same link_in link_at r p (kind.Link l) (λ j e. omega (arith, e)) in
      let b = read_else task_in task_at r (link_at p) (kind.Link l) (λ t e. omega (arith, e)) in
      let c = read_else finish_in finish_at r (link_at p) (kind.Link l) (λ f e. omega (arith, e)) in
      ap (λ z. state_in z limit₂ steps tasks finishes) e ∙ same_parts limit₂ limit steps tasks finishes _ _ _ _ _ _ same a b c

  pub task_written : (t : ℕ) (k : TaskRow) → q ≡ put r (task_at t) (kind.Task k)
      → state_in q limit₂ steps tasks finishes ≡ record st { task = put st.task t k }
  task_written t k e =
      let a = read_else link_in link_at r (task_at t) (kind.Task k) (λ p e. omega (arith, e)) in
      let b = read_same task_in task_at r t (kind.Task k) (λ j e. omega (arith, e)) in
      let c = read_else finish_in finish_at r (task_at t) (kind.Task k) (λ f e. omega (arith, e)) in
      ap (λ z. state_in z limit₂ steps tasks finishes) e ∙ same_parts limit₂ limit steps tasks finishes _ _ _ _ _ _ same a b c

  pub finish_written : (f : ℕ) (k : FinishRow) → q ≡ put r (finish_at f) (kind.Finish k)
      → state_in q limit₂ steps tasks finishes ≡ record st { finish = put st.finish f k }
  finish_written f k e =
      let a = read_else link_in link_at r (finish_at f) (kind.Finish k) (λ p e. omega (arith, e)) in
      let b = read_else task_in task_at r (finish_at f) (kind.Finish k) (λ t e. omega (arith, e)) in
      let c = read_same finish_in finish_at r f (kind.Finish k) (λ j e. omega (arith, e)) in
      ap (λ z. state_in z limit₂ steps tasks finishes) e ∙ same_parts limit₂ limit steps tasks finishes _ _ _ _ _ _ same a b c
