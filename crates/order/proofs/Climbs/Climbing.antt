-- Climbing from two places to where their ways up meet.
use Rattle.std.proofs.Common.{◌≡◌, ◌≢◌, ℕ, ◌+◌, ◌<◌, ◌≤◌, ◌⊎◌, [], ◌∷◌, ◌++◌, length, refl, sym, ap, ◌∙◌, inl, inr, append_assoc, arith}
use Rattle.std.proofs.lemmas.List.{append-nil}
use Rattle.model.specs.Lists.{head_or}
use Rattle.model.specs.Labels.{Label}
use Rattle.order.specs.declared.record.Link.{Link}
use Rattle.order.specs.declared.book.climb.Fork.{Fork}
use Rattle.order.specs.Forks.{label, Below, Parted, Forked}
use Rattle.order.proofs.Climbs.Places.{label_up, below_up}

-- the way up from a enters x from the place `on`, by the turn given
pub record Entered (link : ℕ → Link) (a x turn on : ℕ) : Type 0 where
  pub below : Below link on a
  pub up_is : (link on).up ≡ x
  pub turn_is : (link on).turn ≡ turn

-- the way up from a has come to x
pub record Side (link : ℕ → Link) (a x turn on : ℕ) : Type 0 where
  pub below : Below link x a
  pub at_most : x ≤ a
  pub rest : Label
  pub way : label link a ≡ label link x ++ rest
  pub turn_is : turn ≡ head_or rest 0
  pub entered : (rest ≡ []) ⊎ Entered link a x turn on

-- the ways up from a and b have come to x and y, each step from the larger of the two
pub record Climb (link : ℕ → Link) (a b x y : ℕ) (r : Fork) : Type 0 where
  -- the places that the last steps were from; two large numbers where there was none
  pub on_a : ℕ
  pub on_b : ℕ
  pub apart : on_a ≢ on_b
  pub over_a : y < on_a
  pub over_b : x < on_b
  pub side_a : Side link a x r.left on_a
  pub side_b : Side link b y r.right on_b
  pub links_are : r.links ≡ length side_a.rest + length side_b.rest
  pub fewer : r.links + x + y ≤ a + b

-- nothing is climbed yet
abbrev side_start : (link : ℕ → Link) (a on : ℕ) → Side link a a 0 on
side_start link a on = record {
  below = Below.here;
  at_most = omega arith;
  rest = [];
  way = sym (append-nil (label link a));
  turn_is = refl;
  entered = inl refl;
}

pub climb_start : (link : ℕ → Link) (a b : ℕ) → Climb link a b a b (record { left = 0; right = 0; links = 0 })
climb_start link a b = record {
  on_a = a + b + 1;
  on_b = a + b + 2;
  apart = λ e. omega arith;
  over_a = omega arith;
  over_b = omega arith;
  side_a = side_start link a (a + b + 1);
  side_b = side_start link b (a + b + 2);
  links_are = refl;
  fewer = omega arith;
}

-- one link more on one side
abbrev side_up : (link : ℕ → Link) (a x turn on : ℕ) → Side link a x turn on → (link x).up < x
    → Side link a (link x).up (link x).turn x
side_up link a x turn on s l = record {
  below = below_up link x a (omega arith) s.below;
  at_most = (let m = s.at_most in omega arith);
  rest = (link x).turn ∷ s.rest;
  way = s.way ∙ ap (λ z. z ++ s.rest) (label_up link x l)
      ∙ append_assoc (label link (link x).up) ((link x).turn ∷ []) s.rest;
  turn_is = refl;
  entered = inr (record { below = s.below; up_is = refl; turn_is = refl });
}

module _ (link : ℕ → Link) (a b x y : ℕ) (r : Fork) (c : Climb link a b x y r) where
  pub climb_a : y < x → (link x).up < x
      → Climb link a b (link x).up y (record { left = (link x).turn; right = r.right; links = r.links + 1 })
  climb_a l d =
      let n = c.links_are in
      let w = c.fewer in
      let o = c.over_b in
      record {
        on_a = x;
        on_b = c.on_b;
        apart = λ e. omega arith;
        over_a = l;
        over_b = omega arith;
        side_a = side_up link a x r.left c.on_a c.side_a d;
        side_b = c.side_b;
        links_are = omega arith;
        fewer = omega arith;
      }

  pub climb_b : x < y → (link y).up < y
      → Climb link a b x (link y).up (record { left = r.left; right = (link y).turn; links = r.links + 1 })
  climb_b l d =
      let n = c.links_are in
      let w = c.fewer in
      let o = c.over_a in
      record {
        on_a = c.on_a;
        on_b = y;
        apart = λ e. omega arith;
        over_a = omega arith;
        over_b = l;
        side_a = c.side_a;
        side_b = side_up link b y r.right c.on_b c.side_b d;
        links_are = omega arith;
        fewer = omega arith;
      }

  -- the same of the values that the code has after the step
  pub stepped_a : y < x → (link x).up < x → (l : Link) → l ≡ link x → (v w : ℕ) (q : Fork) → v ≡ l.up → w ≡ y
      → q ≡ record { left = l.turn; right = r.right; links = r.links } → Climb link a b v w (record q { links = q.links + 1 })
  stepped_a less d l e v w q s t u = rw (s, t, u, e) (climb_a less d)

  pub stepped_b : x < y → (link y).up < y → (l : Link) → l ≡ link y → (v w : ℕ) (q : Fork) → v ≡ x → w ≡ l.up
      → q ≡ record { left = r.left; right = l.turn; links = r.links } → Climb link a b v w (record q { links = q.links + 1 })
  stepped_b less d l e v w q s t u = rw (s, t, u, e) (climb_b less d)

  -- where they meet
  module _ (meet : x ≡ y) where
    parts : (c.side_a.rest ≡ []) ⊎ Entered link a x r.left c.on_a → (c.side_b.rest ≡ []) ⊎ Entered link b y r.right c.on_b
        → (c.side_a.rest ≡ []) ⊎ ((c.side_b.rest ≡ []) ⊎ Parted link a b x r)
    parts (inl e) s = inl e
    parts (inr h) (inl e) = inr (inl e)
    parts (inr h) (inr k) =
        let p = c.over_a in
        let q = c.over_b in
        inr (inr (record {
          on_a = c.on_a;
          on_b = c.on_b;
          apart = c.apart;
          some_a = omega arith;
          some_b = omega arith;
          below_a = h.below;
          below_b = k.below;
          up_a = h.up_is;
          up_b = k.up_is ∙ sym meet;
          turn_a = h.turn_is;
          turn_b = k.turn_is;
        }))

    pub climb_end : Forked link a b r
    climb_end = record {
      top = x;
      rest_a = c.side_a.rest;
      rest_b = c.side_b.rest;
      way_a = c.side_a.way;
      way_b = c.side_b.way ∙ ap (λ z. label link z ++ c.side_b.rest) (sym meet);
      left_is = c.side_a.turn_is;
      right_is = c.side_b.turn_is;
      links_are = c.links_are;
      parts = parts c.side_a.entered c.side_b.entered;
    }
