-- What bounds the parts: the limits that a run was opened with, its order and its count.
use Rattle.std.proofs.Common.{refl, inl, inr, arith}
use Rattle.model.specs.Past.{Past}
use Rattle.model.specs.Accesses.{CellKind}
use Rattle.model.specs.Rules.{Limits}
use Rattle.model.specs.Laws.{Clean}
use Rattle.model.specs.Parts.{parts_of, Room}
use Rattle.model.proofs.Linking.Sound.{clean_sound}
use Rattle.model.proofs.Linking.Reach.{steps_is, keeper_reached}
use Rattle.model.proofs.Reorderings.Bounds.{events_bound, names_bound, cells_bound, steps_bound}
use Rattle.model.proofs.Parting.Tasks.{limit_is}
use Rattle.model.proofs.Parting.Held.{found_held, number_held, tasks_count}

module _ {C : Type 0} (k : CellKind C) where
  pub room : (l : Limits) (h : Past C) → Clean k l h → Room l (parts_of k l h)
  room l h c = record {
    count_within = events_bound k l h c;
    names_limit = refl;
    names_within = names_bound k l h c;
    cells_limit = refl;
    cells_within = cells_bound k l h c;
    steps_limit = limit_is k l.steps h;
    steps_within = λ o. let e = steps_is k l.steps h in elim (steps_bound k l h c) [ inl b ↦ omega arith | inr b ↦ omega arith ];
    tasks_are = tasks_count k l h;
    reached = keeper_reached k l.steps h (clean_sound k l h c);
    history_held = found_held k l h c;
    number_held = λ t n q. (let r = number_held k l h c t n q in (r.1, r.2));
  }
