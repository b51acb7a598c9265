-- What an answer says: its tests failed, and with a race its kind, the two accesses, and that nothing orders them.
use Rattle.std.proofs.lemmas.Option.{same_Some}
use Rattle.std.proofs.lemmas.Bool.Decides.{nat_tests}
use Rattle.std.proofs.Common.{◌≡◌, ℕ, suc, ◌+◌, Bool, true, false, cond, not, ◌&&◌, ◌||◌, T, eqb, ltb, leb, ◌⊎◌, List, [], ◌∷◌, length, Some, None, Option, sym, refl, ap, ◌∙◌, subst, inl, inr, arith}
use Rattle.model.specs.declared.Event.{Event}
use Rattle.model.specs.declared.Event.TheVariants.{Spawn, End, Open, Close, Read, Write}
use Rattle.model.specs.declared.RaceKind.{RaceKind}
use Rattle.model.specs.declared.RaceKind.TheVariants.{WriteRead, WriteWrite, ReadWrite}
use Rattle.model.specs.declared.Race.{Race}
use Rattle.model.specs.Lists.{any, mem, keep, is_empty}
use Rattle.model.specs.Past.{Past, own, innermost, at, behind, made, spawned_tasks, ended, lived_in}
use Rattle.model.specs.Before.{before, serial}
use Rattle.model.specs.Accesses.{CellKind, reads, writes, accesses}
use Rattle.model.specs.Cells.{cell_held, cells_held}
use Rattle.model.specs.Cells.{last_write, reads_since, unordered_reads, left_read, right_read}
use Rattle.model.specs.Rules.{Limits, Answer, taken, refused, refusal, judge, by_kind, accessed, race_of, race_with}
use Rattle.model.specs.Rules.{first_tests, steps_held}
use Rattle.model.specs.Legal.{Beside}
use Rattle.model.specs.Laws.{RacedBy, of_kind}
use Rattle.model.proofs.Shelf.Tests.{tried, cond_no}
use Rattle.model.proofs.Shelf.Lists.{mem_of, keep_of, first_in_mem, last_in_mem}
use Rattle.model.proofs.Shelf.Places.{behind_new, at_new, at_lt, at_grow}
use Rattle.model.proofs.Shelf.Befores.{before_lt}
use Rattle.model.proofs.Orderings.Legals.{beside}

-- an answer that begins with a test, and is not its refusal
pub passed : {C : Type 0} (b : Bool) (n : ℕ) (a : Answer C) (m : Option (Race C))
    → cond b (refused n) a ≡ taken m → (T b → ⊥) × (a ≡ taken m)
passed true n a m e = let z : ◌≡◌ {A = ℕ} 0 1 = cc in absurd (omega arith)
passed false n a m e = (λ t. t, e)

-- what stands in a list that a test picks
mem_cond : (b : Bool) (xs ys : List ℕ) (i : ℕ) → T (mem i (cond b xs ys)) → (T b × T (mem i xs)) ⊎ ((T b → ⊥) × T (mem i ys))
mem_cond true xs ys i m = inl (tt, m)
mem_cond false xs ys i m = inr (λ t. t, m)

-- no test of a list passes
abbrev pub Pass : List (Bool × ℕ) → Type 0
Pass [] = Unit {0}
Pass (p ∷ ps) = (T p.0 → ⊥) × Pass ps

module _ {C : Type 0} (k : CellKind C) where
  taken_inj : (m n : Option (Race C)) → ◌≡◌ {A = Answer C} (taken m) (taken n) → m ≡ n
  taken_inj m n e = cc

  pub passes : (ps : List (Bool × ℕ)) (a : Answer C) (m : Option (Race C)) → refusal ps a ≡ taken m → Pass ps × (a ≡ taken m)
  passes [] a m e = (tt, e)
  passes (p ∷ ps) a m e = grind (arith, passes ps)

  -- where no test passes, nothing is refused
  none_refuses : (ps : List (Bool × ℕ)) (a : Answer C) → Pass ps → refusal ps a ≡ a
  none_refuses [] a p = refl
  none_refuses (q ∷ ps) a p = grind (arith, none_refuses ps)

  -- the tests of each kind of event, of an access where it makes no race
  abbrev pub kind_tests : Limits → Past C → Event C → List (Bool × ℕ)
  kind_tests l h (Spawn t u) =
      (eqb u 0 || made h u, 8)
      ∷ (leb l.names (length (spawned_tasks h)), 9)
      ∷ (ended h t, 13)
      ∷ (ltb l.steps (steps_held h + 2), 17) ∷ []
  kind_tests l h (End t) = (ended h t, 13) ∷ (not (is_empty (own h t)), 16) ∷ []
  kind_tests l h (Open t) = (ended h t, 13) ∷ (ltb l.steps (steps_held h + 1), 17) ∷ []
  kind_tests l h (Close t) =
      (ended h t, 13) ∷ (is_empty (own h t), 14) ∷ (lived_in h (innermost h t), 15) ∷ (ltb l.steps (steps_held h + 1), 17) ∷ []
  kind_tests l h (Read t c) = (ended h t, 13) ∷ (not (cell_held k h c) && leb l.cells (cells_held k h), 18) ∷ []
  kind_tests l h (Write t c) = (ended h t, 13) ∷ (not (cell_held k h c) && leb l.cells (cells_held k h), 18) ∷ []

  -- an access that is taken is answered with its race
  accessed_of : (l : Limits) (h : Past C) (c : C) (r m : Option (Race C)) → accessed k l h c r ≡ taken m → r ≡ m
  accessed_of l h c r m e = grind arith

  by_kind_of : (l : Limits) (h : Past C) (e : Event C) (m : Option (Race C)) → by_kind k l h e ≡ taken m → race_of k h e ≡ m
  by_kind_of l h (Spawn t u) m q = taken_inj None m (passes (kind_tests l h (Spawn t u)) (taken None) m q).1
  by_kind_of l h e m q = grind arith

  -- an event that makes no race is judged by tests alone
  by_tests : (l : Limits) (h : Past C) (e : Event C) → race_of k h e ≡ None → by_kind k l h e ≡ refusal (kind_tests l h e) (taken None)
  by_tests l h (Spawn t u) q = refl
  by_tests l h e q = grind arith

  -- so it is taken with no race exactly where it makes none and no test passes
  pub clean_passes : (l : Limits) (h : Past C) (e : Event C)
      → judge k l h e ≡ taken None → Pass (first_tests k l h e) × Pass (kind_tests l h e)
  clean_passes l h e q =
      let r = passes (first_tests k l h e) (by_kind k l h e) None q in
      let free = by_kind_of l h e None r.1 in
      grind arith

  pub passes_clean : (l : Limits) (h : Past C) (e : Event C)
      → race_of k h e ≡ None → Pass (first_tests k l h e) → Pass (kind_tests l h e) → judge k l h e ≡ taken None
  passes_clean l h e free p q = grind arith

  -- a taken event is answered with the race that it makes, or with none
  pub taken_race : (l : Limits) (h : Past C) (e : Event C) (m : Option (Race C)) → judge k l h e ≡ taken m → race_of k h e ≡ m
  taken_race l h e m q = by_kind_of l h e m (passes (first_tests k l h e) (by_kind k l h e) m q).1

  -- the place i of h has an event that f says touches c; the marks stand at such
  abbrev pub Stands : (C → Event C → Bool) → Past C → C → ℕ → Type 0
  Stands f h c i = (d : Event C) × (at h i ≡ Some d) × T (f c d)

  stands_old : (f : C → Event C → Bool) (e : Event C) (h : Past C) (c : C) (i : ℕ) → Stands f h c i → Stands f (e ∷ h) c i
  stands_old f e h c i s = (s.0, at_grow h e i s.0 s.1, s.2)

  pub last_write_of : (h : Past C) (c : C) (i : ℕ) → last_write k h c ≡ Some i → Stands (writes k) h c i
  last_write_of [] c i q = cc
  last_write_of (e ∷ h) c i q =
      elim (tried (writes k c e)) [
        | inl t ↦
            grind arith
        | inr t ↦
            (let q' = sym (cond_no (writes k c e) (Some (length h)) (last_write k h c) t) ∙ q in
            stands_old (writes k) e h c i (last_write_of h c i q'))
      ]

  pub reads_since_of : (h : Past C) (c : C) (i : ℕ) → T (mem i (reads_since k h c)) → Stands (reads k) h c i
  reads_since_of [] c i m = elim m [ ]
  reads_since_of (e ∷ h) c i m =
      let rs = reads_since k h c in
      elim (mem_cond (writes k c e) [] (cond (reads k c e) (length h ∷ rs) rs) i m) [
        | inl p ↦ absurd p.1
        | inr p ↦
            elim (mem_cond (reads k c e) (length h ∷ rs) rs i p.1) [
              | inl q ↦
                  elim (mem_of i (length h) rs q.1) [
                    | inl z ↦ (e, at_new h e i z, q.0)
                    | inr z ↦ stands_old (reads k) e h c i (reads_since_of h c i z)
                  ]
              | inr q ↦ stands_old (reads k) e h c i (reads_since_of h c i q.1)
            ]
      ]

  pub unordered_of : (h : Past C) (c : C) (i : ℕ) → T (mem i (unordered_reads k h c)) → Stands (reads k) h c i
  unordered_of h c i m = reads_since_of h c i (keep_of (λ j. not (any (before h j) (reads_since k h c))) (reads_since k h c) i m).0

  read_kept : (h : Past C) (c : C) (i : ℕ) → T (mem i (keep (λ j. mem j (unordered_reads k h c)) (serial h))) → Stands (reads k) h c i
  read_kept h c i m = unordered_of h c i (keep_of (λ j. mem j (unordered_reads k h c)) (serial h) i m).1

  pub left_read_of : (h : Past C) (c : C) (i : ℕ) → left_read k h c ≡ Some i → Stands (reads k) h c i
  left_read_of h c i q = read_kept h c i (first_in_mem (keep (λ j. mem j (unordered_reads k h c)) (serial h)) i q)

  pub right_read_of : (h : Past C) (c : C) (i : ℕ) → right_read k h c ≡ Some i → Stands (reads k) h c i
  right_read_of h c i q = read_kept h c i (last_in_mem (keep (λ j. mem j (unordered_reads k h c)) (serial h)) i q)

  pub sides : (kind : RaceKind) (c : C) (d e : Event C) → T (of_kind k kind c d e)
      → (T (writes k c d) × T (accesses k c e)) ⊎ (T (reads k c d) × T (writes k c e))
  sides WriteRead c d e t = grind arith
  sides f c d e t = grind arith

  -- what a race of the next event is
  pub record Clash (h : Past C) (e : Event C) (r : Race C) : Type 0 where
    pub latest : r.second ≡ length h
    pub it : Event C
    pub found : at h r.first ≡ Some it
    pub free : T (before (e ∷ h) r.first (length h)) → ⊥
    pub touch : T (of_kind k r.kind r.cell it e)

  -- the place i of h has an access of c that makes a race of this kind with e
  abbrev Met : RaceKind → Past C → Event C → C → ℕ → Type 0
  Met kind h e c i = Stands (λ x d. of_kind k kind x d e) h c i

  race_with_of : (kind : RaceKind) (h : Past C) (e : Event C) (c : C) (m : Option ℕ) (other : Option (Race C)) (r : Race C)
      → ((i : ℕ) → m ≡ Some i → Met kind h e c i) → (other ≡ Some r → Clash h e r)
      → race_with kind h e c m other ≡ Some r → Clash h e r
  race_with_of kind h e c None other r f g q = g q
  race_with_of kind h e c (Some i) other r f g q =
      elim (tried (before (e ∷ h) i (length h))) [
        | inl t ↦ grind arith
        | inr t ↦
            subst (λ (x : Race C). Clash h e x) (same_Some _ _ (sym (cond_no (before (e ∷ h) i (length h)) other (Some race) t) ∙ q))
            (let w = f i refl in record { latest = refl; it = w.0; found = w.1; free = t; touch = w.2 })
      ]
    where
      race : Race C
      race = record { kind = kind; cell = c; first = i; second = length h }

  meets : (f : C → Event C → Bool) (h : Past C) (c : C) (i : ℕ)
      → Stands f h c i → (d : Event C) × (at h i ≡ Some d) × T (f c d && k.same c c)
  meets f h c i w = grind arith

  race_clash : (h : Past C) (e : Event C) (r : Race C) → race_of k h e ≡ Some r → Clash h e r
  race_clash h (Write t c) r q =
      race_with_of WriteWrite h (Write t c) c (last_write k h c) _ r (λ i m. meets (writes k) h c i (last_write_of h c i m))
      (race_with_of ReadWrite h (Write t c) c (left_read k h c) _ r (λ i m. meets (reads k) h c i (left_read_of h c i m))
      (race_with_of ReadWrite h (Write t c) c (right_read k h c) None r (λ i m. meets (reads k) h c i (right_read_of h c i m))
      (λ z. cc))) q
  race_clash h e r q = grind (arith, nat_tests, race_with_of, meets, last_write_of)

  pub raced_clash : (l : Limits) (e : Event C) (h : Past C) (r : Race C) → RacedBy k l (e ∷ h) r → Clash h e r
  raced_clash l e h r q = race_clash h e r (taken_race l h e (Some r) q.0)

  pub raced_latest : (l : Limits) (h : Past C) (r : Race C) → RacedBy k l h r → suc r.second ≡ length h
  raced_latest l [] r q = elim q [ ]
  raced_latest l (e ∷ h) r q = ap suc (raced_clash l e h r q).latest

  -- any two places, the second the latest, that are unordered
  pub clash_beside : (e : Event C) (h : Past C) (r : Race C) → Clash h e r → Beside (e ∷ h) r.first r.second
  clash_beside e h r w = grind (arith, nat_tests, at_lt, beside, before_lt)

  pub raced_beside : (l : Limits) (h : Past C) (r : Race C) → RacedBy k l h r → Beside h r.first r.second
  raced_beside l [] r q = elim q [ ]
  raced_beside l (e ∷ h) r q = clash_beside e h r (raced_clash l e h r q)

  -- the past that the racing event found
  pub behind_second : (l : Limits) (e : Event C) (h : Past C) (r : Race C) → RacedBy k l (e ∷ h) r → behind (e ∷ h) r.second ≡ h
  behind_second l e h r q = behind_new h e r.second (raced_clash l e h r q).latest
