-- The lists of calls, one block at a time.
use Rattle.std.proofs.Common.{◌≡◌, ℕ, ◌+◌, List, [], ◌∷◌, ◌++◌, refl, sym, ap, ◌∙◌, add-one}
use Rattle.std.proofs.lemmas.List.{append_assoc, append-nil}
use Rattle.order.specs.declared.replay.OrderCall.{OrderCall}
use Rattle.orderplay.specs.declared.dice.Dice.{Dice}
use Rattle.orderplay.specs.Dice.{rolled, face}
use Rattle.orderplay.specs.Lists.{call_of, any_call, any_calls, after_any, blocks, blocks_down}

-- the definitions, unfolded once

pub blocks_none : (f : ℕ → List OrderCall) → blocks f 0 ≡ []
unfolding blocks
blocks_none f = refl

pub blocks_next : (f : ℕ → List OrderCall) (n : ℕ) → blocks f (n + 1) ≡ blocks f n ++ f n
unfolding blocks
blocks_next f n = rw (add-one n)

pub blocks_down_none : (f : ℕ → List OrderCall) → blocks_down f 0 ≡ []
unfolding blocks_down
blocks_down_none f = refl

pub blocks_down_next : (f : ℕ → List OrderCall) (n : ℕ) → blocks_down f (n + 1) ≡ f n ++ blocks_down f n
unfolding blocks_down
blocks_down_next f n = rw (add-one n)

pub any_calls_none : (d : Dice) → any_calls d 0 ≡ []
unfolding any_calls
any_calls_none d = refl

pub any_calls_next : (d : Dice) (n : ℕ) → any_calls d (n + 1) ≡ any_calls d n ++ (any_call (after_any d n) ∷ [])
unfolding any_calls
any_calls_next d n = rw (add-one n)

pub after_any_none : (d : Dice) → after_any d 0 ≡ d
unfolding after_any
after_any_none d = refl

pub after_any_next : (d : Dice) (n : ℕ) → after_any d (n + 1) ≡ rolled (rolled (rolled (after_any d n)))
unfolding after_any
after_any_next d n = rw (add-one n)

-- the rolls for one more call
pub dice_more : (d : Dice) (n : ℕ) (e f g h : Dice) → e ≡ after_any d n → f ≡ rolled e → g ≡ rolled f → h ≡ rolled g
    → h ≡ after_any d (n + 1)
dice_more d n e f g h k l m o = rw (o, m, l, k, after_any_next d n)

-- the call that they give is added
pub call_more : (d : Dice) (n : ℕ) (e f g : Dice) (cs ds : List OrderCall) (kind last task number : ℕ) (c : OrderCall)
    → e ≡ after_any d n → cs ≡ any_calls d n → f ≡ rolled e → kind ≡ face (rolled e) 15 → g ≡ rolled f → last ≡ face (rolled f) 5
    → task ≡ face (rolled g) last → number ≡ task → c ≡ call_of kind number → ds ≡ cs ++ (c ∷ []) → ds ≡ any_calls d (n + 1)
call_more d n e f g cs ds kind last task number c h k l m o p q r s t = rw (t, k, s, r, q, p, m, o, l, h, any_calls_next d n)

-- a block of one call is added
pub one_more : (f : ℕ → List OrderCall) (n : ℕ) (before cs ds : List OrderCall) (x : OrderCall)
    → cs ≡ before ++ blocks f n → ds ≡ cs ++ (x ∷ []) → f n ≡ x ∷ [] → ds ≡ before ++ blocks f (n + 1)
one_more f n before cs ds x e g h = rw (g, e, blocks_next f n, h) (append_assoc before (blocks f n) (x ∷ []))

-- a block of two calls is added, one by one
pub two_more : (f : ℕ → List OrderCall) (n : ℕ) (before bs cs ds : List OrderCall) (x y : OrderCall)
    → bs ≡ before ++ blocks f n → cs ≡ bs ++ (x ∷ []) → ds ≡ cs ++ (y ∷ []) → f n ≡ x ∷ y ∷ [] → ds ≡ before ++ blocks f (n + 1)
two_more f n before bs cs ds x y e g h k = rw (h, g, e, blocks_next f n, k) (simp append_assoc)

-- a whole block is added
pub block_more : (f : ℕ → List OrderCall) (n : ℕ) (cs ds block : List OrderCall) → cs ≡ blocks f n → ds ≡ cs ++ block → f n ≡ block
    → ds ≡ blocks f (n + 1)
block_more f n cs ds block e g h = rw (g, e, blocks_next f n, h)

-- of blocks from the last number down, the first is added, call by call
pub down_more : (f : ℕ → List OrderCall) (i j : ℕ) (bs cs ds all : List OrderCall) (x y : OrderCall)
    → j + 1 ≡ i → bs ++ blocks_down f i ≡ all → cs ≡ bs ++ (x ∷ []) → ds ≡ cs ++ (y ∷ []) → f j ≡ x ∷ y ∷ []
    → ds ++ blocks_down f j ≡ all
down_more f i j bs cs ds all x y e g h k l =
    let next : blocks_down f i ≡ (x ∷ y ∷ []) ++ blocks_down f j = rw (← e, blocks_down_next f j, l) in
    rw (k, h) (simp append_assoc) ∙ (ap (λ zs. bs ++ zs) (sym next) ∙ g)

-- no block is left
pub down_all : (f : ℕ → List OrderCall) (i : ℕ) (cs all : List OrderCall) → i ≡ 0 → cs ++ blocks_down f i ≡ all → cs ≡ all
down_all f i cs all e g =
    let none : blocks_down f i ≡ [] = rw (e, blocks_down_none f) in
    sym (append-nil cs) ∙ (ap (λ zs. cs ++ zs) (sym none) ∙ g)
