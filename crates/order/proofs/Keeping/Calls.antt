-- The calls of a keeper that goes by a plan: what its book is after each, and the order that it stands for.
use Rattle.std.proofs.Props.{props}
use Rattle.std.proofs.Math.Logic.{∥∥₁_elim, ∥∥₁_map}
use Rattle.std.proofs.Common.{◌≡◌, ℕ, ◌<◌, ◌≤◌, ◌^◌, Some, None, Ok, Option, Result, refl, sym, subst}
use Rattle.model.specs.Orders.{Order, emptied, spawned, opened, closed, done}
use Rattle.order.specs.declared.fault.OrderFault.{OrderFault}
use Rattle.order.specs.Calls.{reply, moved, spawn_fault, open_fault, close_fault, end_fault}
use Rattle.order.specs.States.{State, Cleared, end_book}
use Rattle.order.specs.Invariants.{Plain, plain_prop}
use Rattle.order.specs.Plans.{Plan, Keeps, StandsFor, order_by, spawn_by, open_by, close_by}

-- a call that goes on was not refused
pub passed : {A : Type 0} (o : Option OrderFault) (r : Result A OrderFault) (a b : A) → r ≡ reply o a → r ≡ Ok b → o ≡ None
passed None r a b e f = refl
passed (Some x) r a b e f = absurd (cc)

order_prop : (m n : Order) → IsProp (m ≡ n)
order_prop m n = Prim.hlevel props

-- what a keeper owes of its book st, which is to stand for the order n
pub record Owed (Sound : State → Type 0) (p : Plan) (st : State) (n : Order) : Type 0 where
  pub held : record { plain : Plain st; sound : ∥ Sound st ∥₁; keeps : ∥ Keeps Sound p ∥₁ }
  pub kept : order_by p st ≡ n

-- what it owes where a call makes the book s of st, of which it may be refused by the fault o, and n of the order
abbrev pub OwedBy : (Sound : State → Type 0) (p : Plan) (o : Order → ℕ → Option OrderFault) (n : Order → ℕ → Order) (st : State) (t : ℕ) (s : State) → Type 0
OwedBy Sound p o n st t s = let m = order_by p st in Owed Sound p s (moved (o m t) m (n m t))

module _ (Sound : State → Type 0) (p : Plan) (keeps : ∥ Keeps Sound p ∥₁) where
  -- a book that is sound and stands for n wherever the plan keeps what is sound
  owed : (st : State) (n : Order) → (Keeps Sound p → ∥ StandsFor Sound p st n ∥₁) → Owed Sound p st n
  owed st n f = record {
    held = record {
      plain = ∥∥₁_elim keeps (plain_prop st) (λ k. ∥∥₁_elim (f k) (plain_prop st) (λ w. k.plain st w.0));
      sound = ∥∥₁_elim keeps (Prim.hlevel props) (λ k. ∥∥₁_map (f k) (λ w. w.0));
      keeps = keeps;
    };
    kept = ∥∥₁_elim keeps (order_prop (order_by p st) n) (λ k. ∥∥₁_elim (f k) (order_prop (order_by p st) n) (λ w. w.1));
  }

  pub clears : (limit : ℕ) (st : State) → Cleared limit st → 0 < limit → limit ≤ 2 ^ 62 → Owed Sound p st (emptied limit)
  clears limit st c a b = owed st (emptied limit) (λ k. ∣ k.clears limit st c a b ∣₁)

  -- a call that is refused leaves the book, which stands for its order still
  either : (o : Option OrderFault) (st s : State) (n : Order) → Sound st → (o ≡ None → StandsFor Sound p s n)
      → StandsFor Sound p (moved o st s) (moved o (order_by p st) n)
  either None st s n v f = f refl
  either (Some x) st s n v f = (v, refl)

  module _ (st : State) (w : ∥ Sound st ∥₁) (t : ℕ) (st₂ : State) where
    -- a call makes the book s, if it is not refused and the plan keeps that sound
    moves : (o : Order → ℕ → Option OrderFault) (n : Order → ℕ → Order) (s : State) → st₂ ≡ moved (o (order_by p st) t) st s
        → (Keeps Sound p → Sound st → o (order_by p st) t ≡ None → StandsFor Sound p s (n (order_by p st) t)) → OwedBy Sound p o n st t st₂
    moves o n s e f =
        let m = order_by p st in
        let q = moved (o m t) m (n m t) in
        owed st₂ q (λ k. ∥∥₁_map w (λ v. subst (λ z. StandsFor Sound p z q) (sym e) (either (o m t) st s (n m t) v (f k v))))

    pub spawns : st₂ ≡ moved (spawn_fault (order_by p st) t) st (spawn_by p st t) → OwedBy Sound p spawn_fault spawned st t st₂
    spawns e = moves spawn_fault spawned (spawn_by p st t) e (λ k v. k.spawns st v t)

    pub opens : st₂ ≡ moved (open_fault (order_by p st) t) st (open_by p st t) → OwedBy Sound p open_fault opened st t st₂
    opens e = moves open_fault opened (open_by p st t) e (λ k v. k.opens st v t)

    pub closes : st₂ ≡ moved (close_fault (order_by p st) t) st (close_by p st t) → OwedBy Sound p close_fault closed st t st₂
    closes e = moves close_fault closed (close_by p st t) e (λ k v. k.closes st v t)

    pub ends : st₂ ≡ moved (end_fault (order_by p st) t) st (end_book st t) → OwedBy Sound p end_fault done st t st₂
    ends e = moves end_fault done (end_book st t) e (λ k v. k.ends st v t)
