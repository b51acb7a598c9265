-- The calls of a list, one after the other.
use Rattle.std.proofs.Math.Seq.{drop-cons}
use Rattle.std.proofs.lemmas.List.{drop_all}
use Rattle.std.proofs.Common.{◌≡◌, ℕ, ◌+◌, ◌<◌, ◌≤◌, suc, Bool, List, length, get_or, drop, sym, ap, ◌∙◌, arith}
use Rattle.model.specs.Orders.{Order}
use Rattle.order.specs.declared.replay.OrderCall.{OrderCall}
use Rattle.order.specs.declared.replay.Standing.{Standing}
use Rattle.order.specs.Replays.{after_call, after_calls, standing_in}

-- one more call made, and one fewer left
pub calls_more : (cs : List OrderCall) (i : ℕ) (d : OrderCall) (m n o : Order) → i < length cs → n ≡ after_call m (get_or cs i d)
    → after_calls m (drop i cs) ≡ o → after_calls n (drop (i + 1) cs) ≡ o
calls_more cs i d m n o l f g =
    let next : i + 1 ≡ suc i = omega arith in
    ap (λ k. after_calls n (drop k cs)) next
    ∙ (ap (λ z. after_calls z (drop (suc i) cs)) f
    ∙ (sym (ap (after_calls m) (drop-cons cs i d l)) ∙ g))

-- no call is left
pub calls_all : (cs : List OrderCall) (i : ℕ) (m o : Order) → length cs ≤ i → after_calls m (drop i cs) ≡ o → m ≡ o
calls_all cs i m o l e = sym (ap (after_calls m) (drop_all i cs l)) ∙ e

-- what is told of a keeper's order is told of the order that it equals
pub standing_by : (m n : Order) (a b : ℕ) (before earlier : Bool) → m ≡ n → before ≡ m.before a b → earlier ≡ m.earlier a b
    → record { before = before; earlier = earlier } ≡ standing_in n a b
standing_by m n a b before earlier e f g = both _ _ _ _ (f ∙ ap (λ (z : Order). z.before a b) e) (g ∙ ap (λ (z : Order). z.earlier a b) e)
  where
    both : (p p₂ q q₂ : Bool) → p ≡ p₂ → q ≡ q₂ → ◌≡◌ {A = Standing} (record { before = p; earlier = q }) (record { before = p₂; earlier = q₂ })
    both p p₂ q q₂ e f = cc
