-- Labels of steps: how left, over, Under and Low behave on them.
use Rattle.std.proofs.Common.{◌≡◌, ℕ, suc, ◌<◌, ◌≤◌, true, false, not, T, ◌⊎◌, [], ◌∷◌, ◌++◌, sym, refl, ap, ◌∙◌, subst, ap₂, inl, inr, append_assoc, arith}
use Rattle.std.proofs.lemmas.Bool.{cases_eq, cases_order}
use Rattle.std.proofs.lemmas.Bool.Decides.{nat_tests}
use Rattle.model.specs.Labels.{Label, odd, left, over, Under, Low, turned}
use Rattle.model.proofs.Shelf.Tests.{is_false}

pub over_left : (a b : Label) → T (over a b) → T (left a b)
over_left [] [] h = h
over_left [] (y ∷ b) h = h
over_left (x ∷ a) [] h = h
over_left (x ∷ a) (y ∷ b) h = grind (arith, over_left a b)

pub left_irrefl : (a : Label) → T (left a a) → ⊥
left_irrefl [] h = h
left_irrefl (x ∷ a) h = grind (arith, left_irrefl a)

both_trans : (a b c : Label)
    → (T (left a b) → T (left b c) → T (left a c)) × (T (over a b) → T (over b c) → T (over a c))
both_trans [] [] c = (λ h k. absurd h, λ h k. absurd h)
both_trans [] (y ∷ b) [] = (λ h k. k, λ h k. k)
both_trans [] (y ∷ b) (z ∷ c) = (λ h k. tt, λ h k. tt)
both_trans (x ∷ a) [] c = (λ h k. absurd h, λ h k. absurd h)
both_trans (x ∷ a) (y ∷ b) [] = (λ h k. k, λ h k. k)
both_trans (x ∷ a) (y ∷ b) (z ∷ c) = grind (arith, nat_tests, both_trans a)

pub left_trans : (a b c : Label) → T (left a b) → T (left b c) → T (left a c)
left_trans a b c = (both_trans a b c).0

pub over_trans : (a b c : Label) → T (over a b) → T (over b c) → T (over a c)
over_trans a b c = (both_trans a b c).1

pub left_total : (a b : Label) → (a ≡ b → ⊥) → T (left a b) ⊎ T (left b a)
left_total [] [] n = absurd (n refl)
left_total [] (y ∷ b) n = inl tt
left_total (x ∷ a) [] n = inr tt
left_total (x ∷ a) (y ∷ b) n = grind (arith, left_total a)

-- of two labels that are not over one after the other, the later one is over wherever the earlier one is
pub over_between : (a b c : Label) → T (left a b) → T (left b c) → (T (over a b) → ⊥) → T (over a c) → T (over b c)
over_between [] [] c h k n o = absurd h
over_between [] (y ∷ b) c h k n o = absurd (n tt)
over_between (x ∷ a) [] c h k n o = absurd h
over_between (x ∷ a) (y ∷ b) [] h k n o = k
over_between (x ∷ a) (y ∷ b) (z ∷ c) h k n o = grind (arith, nat_tests, over_between a b c)

pub left_same : (p a b : Label) → left (p ++ a) (p ++ b) ≡ left a b
left_same [] a b = refl
left_same (x ∷ p) a b = let h : left (p ++ a) (p ++ b) ≡ left a b = left_same p a b in grind arith

pub over_same : (p a b : Label) → over (p ++ a) (p ++ b) ≡ over a b
over_same [] a b = refl
over_same (x ∷ p) a b = let h : over (p ++ a) (p ++ b) ≡ over a b = over_same p a b in grind arith

pub low_turn : (p : Label) (n i : ℕ) (r : Label) → Low p n (p ++ (i ∷ r)) → i < n
low_turn [] n i r h = h
low_turn (a ∷ p) n i r h = low_turn p n i r (h refl)

pub low_more : (p : Label) (n k : ℕ) (y : Label) → n ≤ k → Low p n y → Low p k y
low_more [] n k [] l h = tt
low_more [] n k (i ∷ y) l h = omega arith
low_more (a ∷ p) n k [] l h = tt
low_more (a ∷ p) n k (b ∷ y) l h = λ e. low_more p n k y l (h e)

-- to what is low at a node, all that is higher there looks alike
pub record Alike (y z w : Label) : Type 0 where
  pub left_to : left y z ≡ left y w
  pub left_from : left z y ≡ left w y
  pub over_to : over y z ≡ over y w
  pub over_from : over z y ≡ over w y

-- labels with the same first turn, seen from one with another
alike_apart : (i x : ℕ) (y z w : Label) → (x ≡ i → ⊥) → Alike (i ∷ y) (x ∷ z) (x ∷ w)
alike_apart i x y z w d =
    record {
      left_to = grind arith;
      left_from = grind arith;
      over_to = grind arith;
      over_from = grind arith;
    }

pub alike_past : (p : Label) (n : ℕ) (y : Label) (j k : ℕ) (r s : Label) → Low p n y → n ≤ j → n ≤ k
    → Alike y (p ++ (j ∷ r)) (p ++ (k ∷ s))
alike_past [] n [] j k r s h a b = record { left_to = refl; left_from = refl; over_to = refl; over_from = refl }
alike_past [] n (i ∷ y) j k r s h a b =
    record {
      left_to = grind arith;
      left_from = grind arith;
      over_to = grind arith;
      over_from = grind arith;
    }
alike_past (x ∷ p) n [] j k r s h a b = record { left_to = refl; left_from = refl; over_to = refl; over_from = refl }
alike_past (x ∷ p) n (i ∷ y) j k r s h a b = go (cases_eq x i) (λ l. alike_past p n y j k r s l a b)
  where
    go : (x ≡ i) ⊎ (x ≡ i → ⊥) → (Low p n y → Alike y (p ++ (j ∷ r)) (p ++ (k ∷ s)))
        → Alike (i ∷ y) ((x ∷ p) ++ (j ∷ r)) ((x ∷ p) ++ (k ∷ s))
    go (inl e) rec =
        let q : Alike y (p ++ (j ∷ r)) (p ++ (k ∷ s)) = rec (h e) in
        record {
          left_to = grind arith;
          left_from = grind arith;
          over_to = grind arith;
          over_from = grind arith;
        }
    go (inr d) rec = alike_apart i x y (p ++ (j ∷ r)) (p ++ (k ∷ s)) d

pub under_refl : (p : Label) → Under p p
under_refl [] = ([], refl)
under_refl (x ∷ p) = let h : Under p p = under_refl p in (h.0, ap (λ z. x ∷ z) h.1)

pub under_more : (p q r : Label) → Under p q → Under p (q ++ r)
under_more p q r u = (u.0 ++ r, ap (λ z. z ++ r) u.1 ∙ append_assoc p u.0 r)

pub under_tried : (p y : Label) → Under p y ⊎ (Under p y → ⊥)
under_tried [] y = inl (y, refl)
under_tried (x ∷ p) [] = inr (λ u. let z : ◌≡◌ {A = ℕ} 0 1 = cc u.1 in omega arith)
under_tried (x ∷ p) (i ∷ y) = go (cases_eq x i) (under_tried p y)
  where
    same : x ≡ i → Under p y ⊎ (Under p y → ⊥) → Under (x ∷ p) (i ∷ y) ⊎ (Under (x ∷ p) (i ∷ y) → ⊥)
    same e (inl u) = inl (u.0, cc u.1)
    same e (inr n) = inr (λ u. n (u.0, cc u.1))

    go : (x ≡ i) ⊎ (x ≡ i → ⊥) → Under p y ⊎ (Under p y → ⊥) → Under (x ∷ p) (i ∷ y) ⊎ (Under (x ∷ p) (i ∷ y) → ⊥)
    go (inl e) d = same e d
    go (inr n) d = inr (λ u. n (cc u.1))

-- what is below k + 1 at q, and not under the child k, is below k
pub low_off : (q : Label) (k : ℕ) (y : Label) → Low q (suc k) y → (Under (q ++ (k ∷ [])) y → ⊥) → Low q k y
low_off [] k [] h n = tt
low_off [] k (i ∷ y) h n = go (cases_order i k)
  where
    go : (i ≡ k) ⊎ ((i < k) ⊎ (k < i)) → i < k
    go (inl e) = absurd (n (y, ap (λ z. z ∷ y) e))
    go (inr (inl l)) = l
    go (inr (inr l)) = omega arith
low_off (x ∷ q) k [] h n = tt
low_off (x ∷ q) k (i ∷ y) h n = λ e. low_off q k y (h e) (λ u. n (u.0, cc u.1))

-- a node that is low at p lies over p if it lies over a higher turn at p
pub under_low : (p : Label) (n : ℕ) (q : Label) (j : ℕ) (r : Label) → Low p n q → n ≤ j → Under q (p ++ (j ∷ r)) → Under q p
under_low p n [] j r h l u = (p, refl)
under_low [] n (c ∷ q) j r h l u = let e : j ≡ c = cc u.1 in absurd (let z : ⊥ = omega arith in z)
under_low (a ∷ p) n (c ∷ q) j r h l u =
    let e : a ≡ c = cc u.1 in
    let v : Under q p = under_low p n q j r (h e) l (u.0, cc u.1) in
    (v.0, cc v.1)

-- what is low at p where a turn k of q is stays so at a later turn of q
pub low_beside : (p : Label) (n : ℕ) (q : Label) (k up : ℕ) (at : ℕ) (j : ℕ) (r : Label)
    → Low p n (q ++ (k ∷ [])) → Low q up (p ++ (at ∷ [])) → up ≤ j → (p ≡ q → k < n → at < up → ⊥) → Low p n (q ++ (j ∷ r))
low_beside [] n [] k up at j r a b l c = absurd (c refl a b)
low_beside [] n (y ∷ q) k up at j r a b l c = a
low_beside (x ∷ p) n [] k up at j r a b l c = λ e. absurd (let z : ⊥ = omega arith in z)
low_beside (x ∷ p) n (y ∷ q) k up at j r a b l c =
    λ e. low_beside p n q k up at j r (a e) (b (sym e)) l (λ f. c (ap₂ ◌∷◌ e f))

-- what turns below n at p, and p itself
pub low_here : (p : Label) (n i : ℕ) (r : Label) → i < n → Low p n (p ++ (i ∷ r))
low_here [] n i r h = h
low_here (a ∷ p) n i r h = λ e. low_here p n i r h

pub low_self : (p : Label) (n : ℕ) → Low p n p
low_self [] n = tt
low_self (a ∷ p) n = λ e. low_self p n

-- below a new turn j nothing is yet
pub low_new : (q : Label) (n j : ℕ) (p : Label) (i : ℕ) (y : Label) → n ≤ j → Low q n y → Low (q ++ (j ∷ p)) i y
low_new [] n j p i [] l h = tt
low_new [] n j p i (a ∷ y) l h = λ e. absurd (let z : ⊥ = omega arith in z)
low_new (x ∷ q) n j p i [] l h = tt
low_new (x ∷ q) n j p i (b ∷ y) l h = λ e. low_new q n j p i y l (h e)

-- a label that takes another turn at q
pub low_aside : (q : Label) (j : ℕ) (p : Label) (i a : ℕ) (r : Label) → (j ≡ a → ⊥) → Low (q ++ (j ∷ p)) i (q ++ (a ∷ r))
low_aside [] j p i a r n = λ e. absurd (n e)
low_aside (x ∷ q) j p i a r n = λ e. low_aside q j p i a r n

pub turned_at : (g : ℕ → Label) (q : Label) (k : ℕ) → turned g (q ++ (k ∷ [])) ≡ q ++ g k
turned_at g [] k = refl
turned_at g (x ∷ []) k = refl
turned_at g (x ∷ (y ∷ q)) k = ap (λ z. x ∷ z) (turned_at g (y ∷ q) k)

under_turn : (q : Label) (i j : ℕ) (r w : Label) → Under (q ++ (i ∷ r)) (q ++ (j ∷ w)) → i ≡ j
under_turn [] i j r w u = cc u.1
under_turn (x ∷ q) i j r w u = under_turn q i j r w (u.0, cc u.1)

pub not_under : (q : Label) (k : ℕ) (w : Label) → Under (q ++ (k ∷ w)) q → ⊥
not_under [] k w u = let z : ◌≡◌ {A = ℕ} 0 1 = cc u.1 in omega arith
not_under (x ∷ q) k w u = not_under q k w (u.0, cc u.1)

-- a node over a child of q that is not the child lies over q
pub under_cut : (a q : Label) (k : ℕ) → Under a (q ++ (k ∷ [])) → (a ≡ q ++ (k ∷ []) → ⊥) → Under a q
under_cut [] q k u d = (q, refl)
under_cut (x ∷ []) [] k u d = absurd (d (cc u.1))
under_cut (x ∷ (y ∷ a)) [] k u d = let z : ◌≡◌ {A = ℕ} 0 1 = cc u.1 in absurd (let e : ⊥ = omega arith in e)
under_cut (x ∷ a) (y ∷ q) k u d = grind (arith, under_cut a)

pub left_none : (a b : Label) → a ≡ b → left a b ≡ false
left_none a b e = grind (arith, left_irrefl)

pub over_none : (a b : Label) → a ≡ b → over a b ≡ false
over_none a b e = subst (λ w. over a w ≡ false) e (is_false (over a a) (λ h. left_irrefl a (over_left a a h)))

-- a step in the child i of the node q, and one in a child j to the right of it
pub turn_left : (q : Label) (i j : ℕ) (r s : Label) → i < j → left (q ++ (i ∷ r)) (q ++ (j ∷ s)) ≡ true
turn_left q i j r s l = left_same q (i ∷ r) (j ∷ s) ∙ (grind arith)

pub turn_right : (q : Label) (i j : ℕ) (r s : Label) → i < j → left (q ++ (j ∷ s)) (q ++ (i ∷ r)) ≡ false
turn_right q i j r s l = left_same q (j ∷ s) (i ∷ r) ∙ (grind arith)

pub turn_over : (q : Label) (i j : ℕ) (r s : Label) → i < j → over (q ++ (i ∷ r)) (q ++ (j ∷ s)) ≡ not (odd i)
turn_over q i j r s l = over_same q (i ∷ r) (j ∷ s) ∙ (grind arith)

pub turn_back : (q : Label) (i j : ℕ) (r s : Label) → i < j → over (q ++ (j ∷ s)) (q ++ (i ∷ r)) ≡ false
turn_back q i j r s l = over_same q (j ∷ s) (i ∷ r) ∙ (grind arith)

-- labels that part at q: one lies under the other only if they take the same turn
part_turn : (q : Label) (i j : ℕ) (v w y z : Label) → y ≡ q ++ (i ∷ v) → z ≡ q ++ (j ∷ w) → Under y z → i ≡ j
part_turn q i j v w y z a b u = under_turn q i j v w (subst (λ x. Under x (q ++ (j ∷ w))) a (subst (Under y) b u))

-- where y and z part, y turns to the left of z, into a task
pub record Beside (y z : Label) : Type 0 where
  -- the node where they part, the turns that y and z take there, and how each goes on
  pub part : Label
  pub near : ℕ
  pub far : ℕ
  pub near_tail : Label
  pub far_tail : Label
  pub near_is : y ≡ part ++ (near ∷ near_tail)
  pub far_is : z ≡ part ++ (far ∷ far_tail)
  pub apart : near < far
  pub tasked : T (odd near)

module _ (y z : Label) (b : Beside y z) where
  pub beside_left : left y z ≡ true
  beside_left = ap₂ left b.near_is b.far_is ∙ turn_left b.part b.near b.far b.near_tail b.far_tail b.apart

  pub beside_right : left z y ≡ false
  beside_right = ap₂ left b.far_is b.near_is ∙ turn_right b.part b.near b.far b.near_tail b.far_tail b.apart

  pub beside_over : over y z ≡ false
  beside_over = grind (arith, turn_over)

  pub beside_back : over z y ≡ false
  beside_back = ap₂ over b.far_is b.near_is ∙ turn_back b.part b.near b.far b.near_tail b.far_tail b.apart

  pub beside_under : Under y z → ⊥
  beside_under u =
      let e = part_turn b.part b.near b.far b.near_tail b.far_tail y z b.near_is b.far_is u in
      let l = b.apart in
      omega arith

  pub beside_above : Under z y → ⊥
  beside_above u =
      let e = part_turn b.part b.far b.near b.far_tail b.near_tail z y b.far_is b.near_is u in
      let l = b.apart in
      omega arith
