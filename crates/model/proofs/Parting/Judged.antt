-- What the rules say of an event on a clean past is what can be said from the parts alone.
use Rattle.std.proofs.lemmas.Bool.Decides.{nat_tests}
use Rattle.std.proofs.Common.{◌≡◌, Option, arith}
use Rattle.model.specs.declared.Event.{Event}
use Rattle.model.specs.declared.Event.TheVariants.{Spawn}
use Rattle.model.specs.declared.Race.{Race}
use Rattle.model.specs.Past.{Past, actor}
use Rattle.model.specs.Accesses.{CellKind}
use Rattle.model.specs.Rules.{Limits, judge, by_kind, accessed}
use Rattle.model.specs.Laws.{Clean}
use Rattle.model.specs.Orders.{gone}
use Rattle.model.specs.Link.{number}
use Rattle.model.specs.Parts.{parts_of, judged, judged_kind, judged_access}
use Rattle.model.proofs.Linking.Sound.{Known, Sound, clean_sound}
use Rattle.model.proofs.Parting.Tasks.{task_known, task_unknown, few_is, gone_is, has_own_is, lived_is}
use Rattle.model.proofs.Parting.Cells.{read_race_is, write_race_is}

module _ {C : Type 0} (k : CellKind C) (l : Limits) where
  access_same : (h : Past C) (c : C) (x y : Option (Race C)) → x ≡ y → judged_access (parts_of k l h) c x ≡ accessed k l h c y
  access_same h c x y e = grind arith

  -- of a known task, kind by kind
  kind_is : (h : Past C) (e : Event C) → Sound k h → Known k h (actor e)
      → judged_kind (parts_of k l h) (number h (actor e)) e ≡ by_kind k l h e
  kind_is h (Spawn t u) s q = grind (arith, nat_tests, gone, gone_is, few_is)
  kind_is h e s q = grind (arith, nat_tests, gone, gone_is, few_is, has_own_is, lived_is, access_same, read_race_is, write_race_is)

  judged_sound : (h : Past C) (e : Event C) → Sound k h → judged k l.events (parts_of k l h) e ≡ judge k l h e
  judged_sound h e s = grind (arith, nat_tests, task_known k l, kind_is, task_unknown k l)

module _ {C : Type 0} (k : CellKind C) where
  pub judged_is : (l : Limits) (h : Past C) (e : Event C) → Clean k l h → judged k l.events (parts_of k l h) e ≡ judge k l h e
  judged_is l h e c = judged_sound k l h e (clean_sound k l h c)
