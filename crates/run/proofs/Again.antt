-- What a clean run has taken is taken again in any legal order, by a run under the same limits: in that order too it is clean.
use Rattle.std.proofs.Common.{◌≡◌, ℕ, List, map, Some, ap, subst, ◌∙◌}
use Rattle.model.specs.declared.Cell.{Cell}
use Rattle.model.specs.declared.Stage.{Stage}
use Rattle.model.specs.declared.Stage.TheVariants.{Feeding}
use Rattle.model.specs.declared.Call.{Call}
use Rattle.model.specs.Past.{Past}
use Rattle.model.specs.Legal.{Legal, arranged}
use Rattle.model.specs.Laws.{Clean, Outcome}
use Rattle.model.specs.Mailboxes.{mailbox_cells}
use Rattle.model.specs.Runs.{Opening, named, after_calls, replies, past_of, all_fed, each_took}
use Rattle.model.proofs.Whole.{any_order}
use Rattle.model.proofs.Verdicts.Fed.{clean_fed}
use Rattle.run.specs.declared.log.Asked.{Asked}
use Rattle.run.specs.Replays.{calls_in, taken_in}
use Rattle.run.specs.Laws.{TakenAgain}
use Rattle.run.specs.Replays.{Replayed}
use Rattle.run.proofs.Telling.{taken_is, laws_told}

-- the job of the second run plays no part
fed_again : (o w : Opening) (h : Past Cell) (p : List ℕ) → o.limits ≡ w.limits → Clean mailbox_cells o.limits h → Legal h p
    → (replies mailbox_cells w (all_fed (arranged h p)) ≡ each_took (arranged h p))
    × (after_calls mailbox_cells w (all_fed (arranged h p)) ≡ record { past = arranged h p; stage = Feeding })
fed_again o w h p same clean legal =
    let c = (any_order mailbox_cells o.limits h clean p legal).1 in
    clean_fed mailbox_cells w (arranged h p) (subst (λ l. Clean mailbox_cells l (arranged h p)) same c)

pub taken_again : (o w : Opening) (cs : List (Call Cell)) (log before after : List Asked) (g k : Stage Cell) → o.limits ≡ w.limits
    → Replayed o cs log g → Replayed w (calls_in before) after k → TakenAgain (taken_in log) (named g) before after (named k)
taken_again o w cs log before after g k same t u = λ none p legal feeds.
    let h = taken_in log in
    let clean = subst (Outcome mailbox_cells o.limits h) none (laws_told o cs log g t).lawful in
    let f = fed_again o w h p same clean legal in (
      u.answered ∙ ap (λ ds. map Some (replies mailbox_cells w ds)) feeds ∙ ap (map Some) f.0,
      taken_is w (calls_in before) after k u ∙ ap (past_of mailbox_cells w) feeds ∙ ap (λ s. s.past) f.1,
      ap named (u.stage ∙ ap (λ ds. (after_calls mailbox_cells w ds).stage) feeds ∙ ap (λ s. s.stage) f.1),
    )
