-- Where the ways up from two places meet.
use Rattle.std.specs.Prelude.{◌≡◌, ℕ, suc, ◌+◌, ◌<◌, cond, [], ◌∷◌, ◌++◌, length, ◌⊎◌, ◌≢◌, nat_lt}
use Rattle.model.specs.Lists.{head_or}
use Rattle.model.specs.Labels.{Label}
use Rattle.order.specs.declared.record.Link.{Link}
use Rattle.order.specs.declared.book.climb.Fork.{Fork}

-- the label of a place: the turns on the way from place 0 down to it, at most k of them
abbrev pub label_in : (ℕ → Link) → ℕ → ℕ → Label
label_in link ℕ.zero p = []
label_in link (suc k) p = cond (nat_lt (link p).up p) (label_in link k (link p).up ++ ((link p).turn ∷ [])) []

abbrev pub label : (ℕ → Link) → ℕ → Label
label link p = label_in link p p

-- q is p, or hangs from p over other places
pub data Below (link : ℕ → Link) (p : ℕ) : ℕ → Type 0 where
  here : Below link p p
  from_up : (q : ℕ) → 0 < q → Below link p (link q).up → Below link p q

-- the ways up from a and b part at two places that hang from one, each by its turn
pub record Parted (link : ℕ → Link) (a b top : ℕ) (r : Fork) : Type 0 where
  pub on_a : ℕ
  pub on_b : ℕ
  pub apart : on_a ≢ on_b
  pub some_a : 0 < on_a
  pub some_b : 0 < on_b
  pub below_a : Below link on_a a
  pub below_b : Below link on_b b
  pub up_a : (link on_a).up ≡ top
  pub up_b : (link on_b).up ≡ top
  pub turn_a : (link on_a).turn ≡ r.left
  pub turn_b : (link on_b).turn ≡ r.right

-- r says by which turns the ways up from a and b enter the first place that is on both, and how many links lead there; the turn is 0
-- where a way has none
pub record Forked (link : ℕ → Link) (a b : ℕ) (r : Fork) : Type 0 where
  pub top : ℕ
  pub rest_a : Label
  pub rest_b : Label
  pub way_a : label link a ≡ label link top ++ rest_a
  pub way_b : label link b ≡ label link top ++ rest_b
  pub left_is : r.left ≡ head_or rest_a 0
  pub right_is : r.right ≡ head_or rest_b 0
  pub links_are : r.links ≡ length rest_a + length rest_b
  pub parts : (rest_a ≡ []) ⊎ ((rest_b ≡ []) ⊎ Parted link a b top r)
