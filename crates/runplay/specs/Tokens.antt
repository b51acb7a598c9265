-- What runs say to each other's tokens.
use Rattle.std.specs.Prelude.{ℕ, List, ◌++◌, Option, Some, None, codes, decimal}
use Rattle.std.specs.Fmt.{option_append}
use Rattle.run.specs.declared.fault.RunFault.TheVariants.{Sealed, OtherJob}
use Rattle.run.specs.Shown.{refusal_text, verdict_shown, withdrawn_text}
use Rattle.runplay.specs.declared.tokens.HandedBack.{HandedBack}
use Rattle.runplay.specs.declared.tokens.Exchange.{Exchange}

-- a new run of the job `own` turns the token of the job `other` away by 12, is sealed by its own, and then turns the other away by 11
abbrev pub exchanged : ℕ → ℕ → Exchange
exchanged own other = record {
  early = record { refusal = record { fault = OtherJob; place = 0 }; job = other };
  own = record { job = own; race = None; events = 0 };
  late = record { refusal = record { fault = Sealed; place = 0 }; job = other };
  withdrawn = record { job = other };
}

-- `refused 12 layer run place 0, token of job 8 back`
abbrev pub handed_text : HandedBack → List ℕ
handed_text h = refusal_text h.refusal ++ (codes ", token of job " ++ (decimal h.job ++ codes " back"))

abbrev pub exchange_shown : Exchange → Option (List ℕ)
exchange_shown e =
    option_append (Some (handed_text e.early)) (option_append (Some (codes "; ")) (option_append (verdict_shown e.own)
    (Some (codes "; " ++ (handed_text e.late ++ (codes "; " ++ withdrawn_text e.withdrawn))))))
