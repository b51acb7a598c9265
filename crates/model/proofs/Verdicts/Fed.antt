-- A clean past, fed event by event to a new run, is taken whole.
use Rattle.std.proofs.Common.{◌≡◌, [], ◌∷◌, None, refl, arith}
use Rattle.model.specs.declared.Event.{Event}
use Rattle.model.specs.declared.Stage.TheVariants.{Feeding}
use Rattle.model.specs.declared.Call.TheVariants.{Feed}
use Rattle.model.specs.Past.{Past}
use Rattle.model.specs.Accesses.{CellKind}
use Rattle.model.specs.Rules.{taken, judge}
use Rattle.model.specs.Laws.{Clean}
use Rattle.model.specs.Runs.{Opening, Standing, took, answer_to, after_calls, replies, all_fed, each_took}

module _ {C : Type 0} (k : CellKind C) (o : Opening) where
  -- a run that has taken the past h and feeds on
  abbrev at_end : Past C → Standing C
  at_end h = record { past = h; stage = Feeding }

  -- the next event of a clean past
  took_next : (h : Past C) (e : Event C) (s : Standing C)
      → s ≡ at_end h → judge k o.limits h e ≡ taken None → answer_to k o s (Feed e) ≡ took None
  took_next h e s p q = grind arith

  -- each event of a clean past is taken
  pub clean_fed : (h : Past C) → Clean k o.limits h
      → (replies k o (all_fed h) ≡ each_took h) × (after_calls k o (all_fed h) ≡ record { past = h; stage = Feeding })
  clean_fed [] q = (refl, refl)
  clean_fed (e ∷ h) q = grind (arith, clean_fed h)
