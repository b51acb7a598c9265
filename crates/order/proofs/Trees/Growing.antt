-- The book of a tree keeper after calls, and the tree that they grow.
use Rattle.std.proofs.Math.Logic.{∥∥₁_elim, ∥∥₁_map}
use Rattle.std.proofs.Props.{props}
use Rattle.std.proofs.lemmas.Bool.{ltb-true}
use Rattle.std.proofs.lemmas.List.{take_all, take_more}
use Rattle.std.proofs.Common.{◌≡◌, ℕ, ◌+◌, ◌<◌, ◌≤◌, ◌^◌, Bool, true, false, cond, ◌&&◌, Some, None, Option, List, [], ◌∷◌, ◌++◌, length, get_or, take, nat_lt, refl, sym, ap, ap₂, ◌∙◌, subst}
use Rattle.model.specs.Orders.{Order, emptied}
use Rattle.model.specs.Labels.{Label}
use Rattle.model.specs.Trees.{Tree, planted, tree_of}
use Rattle.order.specs.declared.fault.OrderFault.{OrderFault}
use Rattle.order.specs.declared.replay.OrderCall.{OrderCall}
use Rattle.order.specs.declared.replay.OrderCall.TheVariants.{Spawn, Open, Close, End}
use Rattle.order.specs.declared.tree.Relation.{Relation}
use Rattle.order.specs.Calls.{moved}
use Rattle.order.specs.States.{State, Cleared}
use Rattle.order.specs.Invariants.{Plain, plain_prop}
use Rattle.order.specs.Trees.{TreeSound, step_label, tree_order, climbed}
use Rattle.order.specs.Keepers.{relation_in}
use Rattle.order.specs.Replays.{fault_of, order_made, after_call, after_calls}
use Rattle.order.specs.Grown.{Grew, GrewBy, tree_made, tree_after_call, grown, tree_after, book_made, book_after_call}
use Rattle.order.proofs.Books.Telling.{spawn_ready, open_ready, close_ready, end_ready}
use Rattle.order.proofs.Trees.Kept.{tree_cleared, tree_spawned, tree_opened, tree_closed, tree_ended}

-- a call that is not refused
call_grew : (st : State) (w : TreeSound st) (c : OrderCall) → fault_of (tree_order st) c ≡ None
    → Grew (book_made st c) (order_made w.order c) (tree_made w.order c (tree_of w.reach))
call_grew st w (Spawn t) e = tree_spawned st w t (spawn_ready st w.plain t e)
call_grew st w (Open t) e = tree_opened st w t (open_ready st w.plain t e)
call_grew st w (Close t) e = let r = close_ready st w.plain t e in tree_closed st w t r.0 r.1 r.2
call_grew st w (End t) e = let r = end_ready st w.plain t e in tree_ended st w t r.0 r.1 r.2

-- refused or not, a call leaves a book that is sound
either_grew : (st : State) (w : TreeSound st) (s : State) (n : Order) (z : Tree) (o : Option OrderFault) → (o ≡ None → Grew s n z)
    → Grew (moved o st s) (moved o w.order n) (moved o (tree_of w.reach) z)
either_grew st w s n z None f = f refl
either_grew st w s n z (Some x) f = record { sound = w; order_is = refl; tree_is = refl }

grew_as : {st : State} {m n : Order} {w z : Tree} → Grew st m w → m ≡ n → w ≡ z → Grew st n z
grew_as g e f = record { sound = g.sound; order_is = g.order_is ∙ e; tree_is = g.tree_is ∙ f }

call_grows : (st : State) (m : Order) (w : Tree) → Grew st m w → (c : OrderCall)
    → Grew (book_after_call st c) (after_call m c) (tree_after_call m w c)
call_grows st m w g c =
    let s = g.sound in
    let z = tree_of s.reach in
    let o = fault_of (tree_order st) c in
    let same : o ≡ fault_of s.order c = ap (λ n. fault_of n c) s.means in
    grew_as (either_grew st s (book_made st c) (order_made s.order c) (tree_made s.order c z) o (call_grew st s c))
    (ap (λ q. moved q s.order (order_made s.order c)) same ∙ ap (λ n. after_call n c) g.order_is)
    (ap (λ q. moved q z (tree_made s.order c z)) same ∙ ap₂ (λ n y. tree_after_call n y c) g.order_is g.tree_is)

-- one call after others

calls_last : (m : Order) (cs : List OrderCall) (c : OrderCall) → after_calls m (cs ++ (c ∷ [])) ≡ after_call (after_calls m cs) c
calls_last m [] c = refl
calls_last m (d ∷ cs) c = calls_last (after_call m d) cs c

grown_last : (m : Order) (w : Tree) (cs : List OrderCall) (c : OrderCall)
    → grown m w (cs ++ (c ∷ [])) ≡ tree_after_call (after_calls m cs) (grown m w cs) c
grown_last m w [] c = refl
grown_last m w (d ∷ cs) c = grown_last (after_call m d) (tree_after_call m w d) cs c

grew_last : (st : State) (limit : ℕ) (cs : List OrderCall) (c : OrderCall) → GrewBy st limit cs
    → GrewBy (book_after_call st c) limit (cs ++ (c ∷ []))
grew_last st limit cs c g =
    let m = emptied limit in
    let order = sym (calls_last m cs c) in
    let tree = sym (grown_last m planted cs c) in
    ∥∥₁_map g (λ v. grew_as (call_grows st (after_calls m cs) (tree_after limit cs) v c) order tree)

-- the calls of a list, one after the other

pub grew_none : (limit : ℕ) (st : State) → Cleared limit st → 0 < limit → limit ≤ 2 ^ 62 → GrewBy st limit []
grew_none limit st c a b = ∣ tree_cleared limit st c a b ∣₁

pub grew_more : (st st₂ : State) (limit : ℕ) (cs : List OrderCall) (i : ℕ) (d : OrderCall) → i < length cs
    → st₂ ≡ book_after_call st (get_or cs i d) → GrewBy st limit (take i cs) → GrewBy st₂ limit (take (i + 1) cs)
grew_more st st₂ limit cs i d l e g =
    let c = get_or cs i d in
    let past = take i cs in
    subst (GrewBy st₂ limit) (sym (take_more cs i d l)) (subst (λ s. GrewBy s limit (past ++ (c ∷ []))) (sym e) (grew_last st limit past c g))

pub grew_all : (st : State) (limit : ℕ) (cs : List OrderCall) (i : ℕ) → length cs ≤ i → GrewBy st limit (take i cs) → GrewBy st limit cs
grew_all st limit cs i l g = subst (GrewBy st limit) (take_all i cs l) g

-- how steps stand

same_links : (p q : Bool) (n k : ℕ) → (p ≡ true → q ≡ true → n ≡ k) → cond (p && q) n 0 ≡ cond (p && q) k 0
same_links true true n k e = e refl refl
same_links true false n k e = refl
same_links false q n k e = refl

-- labels tell the same if the steps that are held have the same
relation_alike : (m : Order) (lab lab₂ : ℕ → Label) → ((x : ℕ) → x < m.steps → lab x ≡ lab₂ x) → (a b : ℕ)
    → relation_in m lab a b ≡ relation_in m lab₂ a b
relation_alike m lab lab₂ e a b =
    ap (λ n. let r : Relation = record { before = m.before a b; earlier = m.earlier a b; links = n } in r)
    (same_links (nat_lt a m.steps) (nat_lt b m.steps) (climbed (lab a) (lab b)) (climbed (lab₂ a) (lab₂ b))
    (λ p q. ap₂ climbed (e a (ltb-true a m.steps p)) (e b (ltb-true b m.steps q))))

grew_tells : (st : State) (m : Order) (w : Tree) → Grew st m w → (a b : ℕ)
    → relation_in (tree_order st) (step_label st) a b ≡ relation_in m w.step a b
grew_tells st m w g a b =
    let told = λ (x : ℕ) (l : x < st.steps). g.sound.told x l ∙ ap (λ (z : Tree). z.step x) g.tree_is in
    relation_alike (tree_order st) (step_label st) w.step told a b ∙ ap (λ n. relation_in n w.step a b) (g.sound.means ∙ g.order_is)

-- what holds of the book
module _ {st : State} {m : Order} {w : Tree} (g : ∥ Grew st m w ∥₁) where
  pub grew_plain : Plain st
  grew_plain = ∥∥₁_elim g (plain_prop st) (λ v. v.sound.plain)

  pub grew_sound : ∥ TreeSound st ∥₁
  grew_sound = ∥∥₁_map g (λ v. v.sound)

  pub grew_order : tree_order st ≡ m
  grew_order = ∥∥₁_elim g (Prim.hlevel props) (λ v. v.sound.means ∙ v.order_is)

  pub grew_told : (a b : ℕ) → relation_in (tree_order st) (step_label st) a b ≡ relation_in m w.step a b
  grew_told a b = ∥∥₁_elim g (Prim.hlevel props) (λ v. grew_tells st m w v a b)
