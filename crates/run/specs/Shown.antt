-- How words, verdicts, withdrawals, refusals, answers and replies are shown.
use Rattle.std.specs.Prelude.{ℕ, List, ◌++◌, Option, Some, None, codes, decimal}
use Rattle.model.specs.declared.Cell.{Cell}
use Rattle.model.specs.declared.Race.{Race}
use Rattle.std.specs.Fmt.{option_append}
use Rattle.model.specs.Shown.{cell_text, race_shown, layer_text}
use Rattle.run.specs.declared.fault.Refusal.{Refusal}
use Rattle.run.specs.declared.run.Answer.{Answer}
use Rattle.run.specs.declared.run.Answer.TheVariants.{Taken, Stopped}
use Rattle.run.specs.declared.log.Reply.{Reply}
use Rattle.run.specs.declared.log.Reply.TheVariants.{Answered, Sealed, Refused}
use Rattle.run.specs.Faults.{number_of, layer_of}
use Rattle.run.specs.declared.token.Withdrawn.{Withdrawn}
use Rattle.run.specs.declared.verdict.Word.{Word}
use Rattle.run.specs.declared.verdict.Word.TheVariants.{Clean, Raced}
use Rattle.run.specs.declared.verdict.Verdict.{Verdict}

abbrev pub withdrawn_text : Withdrawn → List ℕ
withdrawn_text w = codes "job " ++ (decimal w.job ++ codes " withdrawn")

-- a verdict is raced if it has a race
abbrev pub word_of : {A : Type 0} → Option A → Word
word_of None = Clean
word_of (Some r) = Raced

abbrev pub word_text : Word → List ℕ
word_text Clean = codes "clean"
word_text Raced = codes "raced"

-- `job 7 clean`, or `job 7 raced`
abbrev pub head_text : ℕ → Option (Race Cell) → List ℕ
head_text job o = codes "job " ++ (decimal job ++ (codes " " ++ word_text (word_of o)))

-- `job 7 clean events 3`, or `job 7 raced ww cell 1/5 first 1 second 2 events 3`
abbrev pub found_shown : ℕ → Option (Race Cell) → ℕ → Option (List ℕ)
found_shown job None n = Some (head_text job None ++ (codes " events " ++ decimal n))
found_shown job (Some r) n =
    option_append (Some (head_text job (Some r))) (option_append (Some (codes " ")) (option_append
    (race_shown (λ c. Some (cell_text c)) r) (Some (codes " events " ++ decimal n))))

abbrev pub verdict_shown : Verdict → Option (List ℕ)
verdict_shown v = found_shown v.job v.race v.events

-- `refused 15 layer order place 4`
abbrev pub refusal_text : Refusal → List ℕ
refusal_text r = codes "refused " ++ (decimal (number_of r.fault) ++ (codes " layer " ++ (layer_text (layer_of r.fault) ++ (codes " place " ++ decimal r.place))))

-- a race of cells
abbrev pub cell_race_shown : Race Cell → Option (List ℕ)
cell_race_shown r = race_shown (λ c. Some (cell_text c)) r

-- `taken`, `taken raced wr cell 1/5 first 1 second 2`, or `stopped wr cell 1/5 first 1 second 2`
abbrev pub answer_shown : Answer → Option (List ℕ)
answer_shown (Taken None) = Some (codes "taken")
answer_shown (Taken (Some r)) = option_append (Some (codes "taken raced ")) (cell_race_shown r)
answer_shown (Stopped r) = option_append (Some (codes "stopped ")) (cell_race_shown r)

abbrev pub reply_shown : Reply → Option (List ℕ)
reply_shown (Answered a) = answer_shown a
reply_shown (Sealed v) = verdict_shown v
reply_shown (Refused r) = Some (refusal_text r)
