-- The race that a run names is its first conflict that nothing orders, and such a conflict is always named.
use Rattle.std.proofs.lemmas.Option.{same_Some}
use Rattle.std.proofs.lemmas.Bool.Decides.{nat_tests}
use Rattle.std.proofs.Common.{◌≡◌, ℕ, suc, ◌<◌, T, [], ◌∷◌, length, Some, None, sym, refl, ◌∙◌, subst, inl, inr, arith}
use Rattle.model.specs.declared.Event.{Event}
use Rattle.model.specs.declared.Race.{Race}
use Rattle.model.specs.Past.{Past, at}
use Rattle.model.specs.Before.{before}
use Rattle.model.specs.Accesses.{CellKind, reads, writes}
use Rattle.model.specs.Rules.{Limits}
use Rattle.model.specs.Laws.{Clean, RacedBy, of_kind, Unordered, FirstNamed}
use Rattle.model.proofs.Shelf.Tests.{or_l}
use Rattle.model.proofs.Shelf.Places.{at_new, at_old, at_lt, at_grow}
use Rattle.model.proofs.Shelf.Befores.{before_old}
use Rattle.model.proofs.Orderings.Races.{Clash, raced_clash, raced_latest, sides}
use Rattle.model.proofs.Orderings.Settles.{write_access, access_write, Ordered}
use Rattle.model.proofs.Verdicts.Kinds.{raced_kind}

module _ {C : Type 0} (k : CellKind C) where
  -- the kind and the cell of the race r are those of its two accesses
  abbrev Described : Past C → Race C → Type 0
  Described h r = (d e : Event C) → at h r.first ≡ Some d → at h r.second ≡ Some e → T (of_kind k r.kind r.cell d e)

  clash_unordered : (e : Event C) (h : Past C) (r : Race C) → Clash k h e r → Unordered k (e ∷ h) r.first r.second
  clash_unordered e h r w =
      let lo = at_lt h r.first w.it w.found in
      let la = w.latest in
      record {
        one = w.it;
        other = e;
        later = omega arith;
        at_one = at_grow h e r.first w.it w.found;
        at_other = at_new h e r.second la;
        conflict = elim (sides k r.kind r.cell w.it e w.touch) [
          | inl t ↦ write_access k r.cell w.it e t.0 t.1
          | inr t ↦ access_write k r.cell w.it e (or_l (reads k r.cell w.it) (writes k r.cell w.it) t.0) t.1
        ];
        free = λ t. w.free (subst (λ (x : ℕ). T (before (e ∷ h) r.first x)) la t);
      }

  raced_unordered : (l : Limits) (h : Past C) (r : Race C) → RacedBy k l h r → Unordered k h r.first r.second
  raced_unordered l [] r q = elim q [ ]
  raced_unordered l (e ∷ h) r q = clash_unordered e h r (raced_clash k l e h r q)

  module _ (clean_ordered : (l : Limits) (h : Past C) → Clean k l h → Ordered k h) where
    clean_none : (l : Limits) (h : Past C) → Clean k l h → (i j : ℕ) → Unordered k h i j → ⊥
    clean_none l h q i j u = u.free (clean_ordered l h q i j u.one u.other u.later u.at_one u.at_other u.conflict)

    -- a conflict of places that the latest event does not touch
    unordered_old : (e : Event C) (h : Past C) (i j : ℕ) → j < length h → Unordered k (e ∷ h) i j → Unordered k h i j
    unordered_old e h i j lt u =
        let w = u.later in
        record {
          one = u.one;
          other = u.other;
          later = w;
          at_one = sym (at_old h e i (omega arith)) ∙ u.at_one;
          at_other = sym (at_old h e j lt) ∙ u.at_other;
          conflict = u.conflict;
          free = λ t. u.free (subst T (sym (before_old h e i j lt)) t);
        }

    -- in a raced past the second place of each is the latest
    raced_last : (l : Limits) (h : Past C) (r : Race C) → RacedBy k l h r → (i j : ℕ) → Unordered k h i j → suc j ≡ length h
    raced_last l [] r q i j u = elim q [ ]
    raced_last l (e ∷ h) r q i j u = grind (arith, nat_tests, at_lt, clean_none, unordered_old)

    pub first_named : (l : Limits) → FirstNamed k l
    first_named l h None q =
        record {
          found = λ i j u. absurd (clean_none l h q i j u);
          shown = λ r e. cc;
          described = λ r e. cc;
        }
    first_named l h (Some r) q =
        record {
          found = λ i j u.
              let x = raced_last l h r q i j u in
              let y = raced_latest k l h r q in
              (r, refl, omega arith, λ (a b : ℕ) (lt : b < j) v. (let z = raced_last l h r q a b v in omega arith));
          shown = λ s e. subst (λ (x : Race C). Unordered k h x.first x.second) (same_Some _ _ e) (raced_unordered l h r q);
          described = λ s e. subst (λ (x : Race C). Described h x) (same_Some _ _ e) (raced_kind k l h r q);
        }
