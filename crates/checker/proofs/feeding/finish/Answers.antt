-- The report, by what was fed and what the seal is answered.
use Rattle.checker.proofs.Sealing.{sealed_at_end, never_turned_away, withdrawn_at_fault}
use Rattle.checker.proofs.feeding.finish.Goals as goal

pub returns-in-Ok-seal : goal.returns-in-Ok-seal
returns-in-Ok-seal g c = record { finished = sealed_at_end c.args.reader.now _ _ _ c.in-Ok.ensures.fed c.in-Ok-seal.ensures.lawful }

-- a run that was only fed is not sealed, and the token is its own
pub returns-in-Err-seal : goal.returns-in-Err-seal
returns-in-Err-seal g c = record {
  finished = λ o l own. absurd (never_turned_away c.args.reader.now _ _ _ _ c.in-Ok.ensures.fed c.in-Err-seal.ensures.lawful o l own);
}

pub returns-in-Err : goal.returns-in-Err
returns-in-Err g c = record { finished = withdrawn_at_fault c.args.reader.now _ _ _ c.in-Err.ensures.fed c.withdraw-in-Err.ensures.job }
