-- The next event makes no race where all that it conflicts with is before it: the marks are such accesses.
use Rattle.std.proofs.lemmas.Bool.Decides.{nat_tests}
use Rattle.std.proofs.Common.{◌≡◌, ℕ, T, ◌∷◌, length, Some, None, Option, refl, arith}
use Rattle.model.specs.declared.Event.{Event}
use Rattle.model.specs.declared.Event.TheVariants.{Spawn, End, Open, Close, Read, Write}
use Rattle.model.specs.declared.RaceKind.{RaceKind}
use Rattle.model.specs.declared.RaceKind.TheVariants.{WriteWrite, ReadWrite}
use Rattle.model.specs.declared.Race.{Race}
use Rattle.model.specs.Past.{Past, at}
use Rattle.model.specs.Before.{before}
use Rattle.model.specs.Accesses.{CellKind, reads, writes, conflicts}
use Rattle.model.specs.Cells.{last_write, left_read, right_read}
use Rattle.model.specs.Rules.{race_with, race_of}
use Rattle.model.proofs.Shelf.Tests.{or_r}
use Rattle.model.proofs.Orderings.Races.{Stands, last_write_of, left_read_of, right_read_of}

module _ {C : Type 0} (k : CellKind C) where
  no_race_with : (kind : RaceKind) (g : Past C) (e : Event C) (c : C) (m : Option ℕ) (other : Option (Race C))
      → ((p : ℕ) → m ≡ Some p → T (before (e ∷ g) p (length g))) → other ≡ None → race_with kind g e c m other ≡ None
  no_race_with kind g e c None other f o = o
  no_race_with kind g e c (Some p) other f o = grind arith

  pub no_race : (g : Past C) (e : Event C)
      → ((p : ℕ) (d : Event C) → at g p ≡ Some d → T (conflicts k d e) → T (before (e ∷ g) p (length g))) → race_of k g e ≡ None
  no_race g (Spawn t u) f = refl
  no_race g (End t) f = refl
  no_race g (Open t) f = refl
  no_race g (Close t) f = refl
  no_race g (Read t c) f = grind (arith, nat_tests, last_write_of)
  no_race g (Write t c) f =
      no_race_with WriteWrite g (Write t c) c (last_write k g c) _
      (λ p e. let r = last_write_of k g c p e in f p r.0 r.1 (or_r (reads k c r.0) (writes k c r.0) r.2))
      (no_race_with ReadWrite g (Write t c) c (left_read k g c) _ (λ p e. by_read p (left_read_of k g c p e))
      (no_race_with ReadWrite g (Write t c) c (right_read k g c) None (λ p e. by_read p (right_read_of k g c p e)) refl))
    where
      by_read : (p : ℕ) → Stands k (reads k) g c p → T (before (Write t c ∷ g) p (length g))
      by_read p r = grind arith
