-- A call that is answered from what a run holds is answered what the rules say, since what calls have led to is held.
use Rattle.std.proofs.Common.{◌≡◌, ℕ, List, [], ◌∷◌, ap, ◌∙◌}
use Rattle.model.specs.declared.Cell.{Cell}
use Rattle.model.specs.declared.History.{History}
use Rattle.model.specs.declared.Call.{Call}
use Rattle.model.specs.Mailboxes.{mailbox_cells}
use Rattle.model.specs.Orders.{Order}
use Rattle.model.specs.Parts.{Keyed}
use Rattle.model.specs.Runs.{Opening, Reply, answer_to, after_calls}
use Rattle.model.specs.Holding.{held_answer, held_by, held_after}
use Rattle.model.proofs.Parting.Calls.{answered_by_parts}
use Rattle.run.specs.declared.run.Run.{Run}
use Rattle.run.specs.Runs.{held_in, answer_of, Answered}
use Rattle.run.specs.Lawful.{Lawful, StageTold, CountTold}

-- the first of some replies
abbrev head : Reply Cell → List (Reply Cell) → Reply Cell
head d [] = d
head d (r ∷ rs) = r

pub held_tells : (o : Opening) (cs : List (Call Cell)) (c : Call Cell)
    → held_answer mailbox_cells o (held_after mailbox_cells o cs) c ≡ answer_to mailbox_cells o (after_calls mailbox_cells o cs) c
held_tells o cs c =
    let d = held_answer mailbox_cells o (held_after mailbox_cells o cs) c in
    ap (head d) ((answered_by_parts mailbox_cells o (c ∷ cs)).replies_are)

module _ {K S N : Type 0} (order : K → Order) (cells : S → Keyed Cell History) (names : N → Keyed ℕ ℕ) where
  pub lawful : (was : Run K S N) (c : Call Cell) (reply : Reply Cell) (is : Run K S N)
      → Answered order cells names was c reply is → Lawful order cells names was c reply is
  lawful was c reply is a o cs l =
      let x : answer_of order cells names was c ≡ held_answer mailbox_cells o (held_after mailbox_cells o cs) c =
      λ i. held_answer mailbox_cells (l.opened i) (l.holds i) c in (
        a.told ∙ x ∙ held_tells o cs c,
        record {
          opened = a.same ∙ l.opened;
          holds = a.kept ∙ (λ i. held_by mailbox_cells (l.holds i) c (x i));
        },
      )

  pub stage_told : (r : Run K S N) → StageTold order cells names r ((held_in order cells names r).stage)
  stage_told r o cs l = ap (λ h. h.stage) l.holds ∙ (answered_by_parts mailbox_cells o cs).stage_is

  pub count_told : (r : Run K S N) → CountTold order cells names r ((held_in order cells names r).parts.count)
  count_told r o cs l = ap (λ h. h.parts.count) l.holds ∙ (answered_by_parts mailbox_cells o cs).count_is
