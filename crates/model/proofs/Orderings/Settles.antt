-- Clean pasts are settled, and raced ones are not.
use Rattle.std.proofs.lemmas.Bool.Decides.{nat_tests}
use Rattle.std.proofs.Common.{◌≡◌, ℕ, ◌<◌, Bool, false, T, List, [], ◌∷◌, ◌++◌, Some, sym, subst, inl, inr, arith}
use Rattle.model.specs.declared.Event.{Event}
use Rattle.model.specs.declared.Event.TheVariants.{Spawn, End, Open, Close, Read, Write}
use Rattle.model.specs.declared.Race.{Race}
use Rattle.model.specs.Lists.{mem, keep, some_or}
use Rattle.model.specs.Past.{Past, at}
use Rattle.model.specs.Before.{before}
use Rattle.model.specs.Accesses.{CellKind, reads, writes, accesses, conflicts}
use Rattle.model.specs.Rules.{Limits}
use Rattle.model.specs.Legal.{ahead, part_ahead, Legal, Settled}
use Rattle.model.specs.Laws.{Clean, RacedBy}
use Rattle.model.proofs.Shelf.Tests.{or_l, some_or_of, some_or_in, same_sym}
use Rattle.model.proofs.Shelf.Lists.{keep_in, keep_of, first_in_mem}
use Rattle.model.proofs.Shelf.Places.{at_new, at_lt, at_grow}
use Rattle.model.proofs.Shelf.Befores.{before_of}
use Rattle.model.proofs.Orderings.Legals.{legal_apart, legal_asym}
use Rattle.model.proofs.Orderings.Races.{Clash, clash_beside, raced_clash, sides}
use Rattle.model.proofs.Orderings.Follows.{part_mem, mem_part, part_ahead_grow, first_top, Top, same_first, swapped}

module _ {C : Type 0} (k : CellKind C) where
  pub access_write : (c : C) (d e : Event C) → T (accesses k c d) → T (writes k c e) → T (conflicts k d e)
  access_write c d (Spawn t u) s r = r
  access_write c d e s r = grind arith

  pub conflicts_sym : (d e : Event C) → T (conflicts k d e) → T (conflicts k e d)
  conflicts_sym (Spawn t u) (Read v c) y = absurd y
  conflicts_sym (End t) (Read v c) y = absurd y
  conflicts_sym (Open t) (Read v c) y = absurd y
  conflicts_sym (Close t) (Read v c) y = absurd y
  conflicts_sym (Read t b) (Read v c) y = absurd y
  conflicts_sym (Write t b) (Read v c) y = grind arith
  conflicts_sym (Spawn t u) (Write v c) y = absurd y
  conflicts_sym (End t) (Write v c) y = absurd y
  conflicts_sym (Open t) (Write v c) y = absurd y
  conflicts_sym (Close t) (Write v c) y = absurd y
  conflicts_sym (Read t b) (Write v c) y = grind arith
  conflicts_sym (Write t b) (Write v c) y = subst T (same_sym k c b) y
  conflicts_sym d e y = absurd y

  pub write_access : (c : C) (d e : Event C) → T (writes k c d) → T (accesses k c e) → T (conflicts k d e)
  write_access c d e s r = conflicts_sym e d (access_write c e d r s)

  -- every conflicting pair is ordered
  abbrev pub Ordered : Past C → Type 0
  Ordered h = (i j : ℕ) (d e : Event C) → i < j → at h i ≡ Some d → at h j ≡ Some e → T (conflicts k d e) → T (before h i j)

  -- a write of c stands at j
  abbrev writes_at : Past C → C → ℕ → Bool
  writes_at h c j = some_or (writes k c) false (at h j)

  module _ (h : Past C) (ordered : Ordered h) (o : List ℕ) (legal : Legal h o) where
    write_ahead : (i j : ℕ) (c : C) (e : Event C) → at h i ≡ Some e → T (accesses k c e) → T (writes_at h c j) → j < i → T (ahead o j i)
    write_ahead i j c e q a w l = grind (arith, nat_tests, before_of, ordered, write_access)

    write_below : (i j : ℕ) (c : C) (e : Event C) → at h i ≡ Some e → T (accesses k c e) → T (writes_at h c j) → T (ahead o j i) → j < i
    write_below i j c e q a w t = grind (arith, nat_tests, legal_asym, before_of, ordered, access_write)

    -- the writes that an access has ahead of it are those below it, and the first is the largest
    writes_top : (i : ℕ) (c : C) → Top (keep (writes_at h c) (part_ahead o i))
    writes_top i c x y f m =
        let a = keep_of (writes_at h c) (part_ahead o i) y m in
        let b = keep_of (writes_at h c) (part_ahead o i) x (first_in_mem (keep (writes_at h c) (part_ahead o i)) x f) in
        let s = some_or_of (writes k c) (at h x) b.1 in
        elim (first_top (writes_at h c) (part_ahead o i) x y f a.0 a.1) [
          | inl g ↦ omega arith
          | inr g ↦
              grind (arith, nat_tests, write_below, part_ahead_grow)
        ]

  ordered_same : (h : Past C) → Ordered h → (i : ℕ) (c : C) (e : Event C) → at h i ≡ Some e → T (accesses k c e)
      → (o p : List ℕ) → Legal h o → Legal h p → (j : ℕ)
      → T (mem j (keep (writes_at h c) (part_ahead o i))) → T (mem j (keep (writes_at h c) (part_ahead p i)))
  ordered_same h ordered i c e q a o p lo lp j m = grind (arith, nat_tests, keep_of, write_below, ordered, mem_part, keep_in, part_mem, write_ahead)

  ordered_settled : (h : Past C) → Ordered h → Settled k h
  ordered_settled h ordered i c e q a o p lo lp =
      same_first (keep (writes_at h c) (part_ahead o i)) (keep (writes_at h c) (part_ahead p i))
      (ordered_same h ordered i c e q a o p lo lp) (ordered_same h ordered i c e q a p o lp lo)
      (writes_top h ordered o lo i c) (writes_top h ordered p lp i c)

  -- a race is between accesses that follow different writes in two orders
  clash_unsettled : (e : Event C) (h : Past C) (r : Race C) → Clash k h e r → Settled k (e ∷ h) → ⊥
  clash_unsettled e h r w settled =
      let a = r.first in
      let b = r.second in
      let c = r.cell in
      let s = clash_beside k e h r w in
      let lo = at_lt h a w.it w.found in
      let la = w.latest in
      let at_a : at (e ∷ h) a ≡ Some w.it = at_grow h e a w.it w.found in
      let at_b : at (e ∷ h) b ≡ Some e = at_new h e b la in
      let ab : a ≡ b → ⊥ = omega arith in
      elim (sides k r.kind c w.it e w.touch) [
        | inl t ↦
            swapped (writes_at (e ∷ h) c) s.later s.sooner a b ab
            (some_or_in (writes k c) (at (e ∷ h) a) w.it at_a t.0)
            (legal_apart (e ∷ h) (s.later ++ (b ∷ a ∷ s.sooner)) s.one_way)
            (settled b c e at_b t.1 (s.later ++ (b ∷ a ∷ s.sooner)) (s.later ++ (a ∷ b ∷ s.sooner)) s.one_way s.other_way)
        | inr t ↦
            swapped (writes_at (e ∷ h) c) s.later s.sooner b a (λ z. ab (sym z))
            (some_or_in (writes k c) (at (e ∷ h) b) e at_b t.1)
            (legal_apart (e ∷ h) (s.later ++ (a ∷ b ∷ s.sooner)) s.other_way)
            (settled a c w.it at_a (or_l (reads k c w.it) (writes k c w.it) t.0)
            (s.later ++ (a ∷ b ∷ s.sooner)) (s.later ++ (b ∷ a ∷ s.sooner)) s.other_way s.one_way)
      ]

  pub raced_unsettled : (l : Limits) (h : Past C) (r : Race C) → RacedBy k l h r → Settled k h → ⊥
  raced_unsettled l [] r q settled = q
  raced_unsettled l (e ∷ h) r q settled = clash_unsettled e h r (raced_clash k l e h r q) settled

  -- what the proof that every conflicting pair of a clean past is ordered gives
  module _ (clean_ordered : (l : Limits) (h : Past C) → Clean k l h → Ordered h) where
    pub clean_settled : (l : Limits) (h : Past C) → Clean k l h → Settled k h
    clean_settled l h cl = ordered_settled h (clean_ordered l h cl)
