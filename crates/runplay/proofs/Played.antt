-- Logs: of calls that are not yet made, and of those that a pair has played.
use Rattle.std.proofs.Common.{◌≡◌, List, [], ◌∷◌, ◌++◌, map, reverse, refl, sym, ap, ◌∙◌}
use Rattle.std.proofs.lemmas.List.{reverse-append, map-append}
use Rattle.model.specs.declared.Cell.{Cell}
use Rattle.model.specs.declared.Stage.{Stage}
use Rattle.model.specs.declared.Call.{Call}
use Rattle.model.specs.Runs.{named}
use Rattle.run.specs.declared.log.Asked.{Asked}
use Rattle.run.specs.Replays.{calls_in, taken_in}
use Rattle.run.specs.Laws.{RacedBeside}
use Rattle.runplay.specs.Logs.{unmade}

-- the same log and stage, under other names
pub beside_same : (a b : List Asked) (s t : Stage Cell) → a ≡ b → s ≡ t → RacedBeside (taken_in b) (named t) → RacedBeside (taken_in a) (named s)
beside_same a b s t p q h = λ r e. rw p (h r (sym (ap named q) ∙ e))

-- a new log has the calls
pub calls_unmade : (cs : List (Call Cell)) → calls_in (map unmade cs) ≡ reverse cs
calls_unmade [] = refl
calls_unmade (c ∷ cs) =
    ap (map (λ (a : Asked). a.call)) (reverse-append (unmade c ∷ []) (map unmade cs))
    ∙ map-append (λ (a : Asked). a.call) (reverse (map unmade cs)) (unmade c ∷ [])
    ∙ ap (λ ds. ds ++ (c ∷ [])) (calls_unmade cs) ∙ sym (reverse-append (c ∷ []) cs)
