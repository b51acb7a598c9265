-- The token of a run.
use Rattle.std.specs.Prelude.{ℕ, false, Ok, Err, Result, ◌≡◌}
use Rattle.run.specs.declared.fault.Refusal.{Refusal}
use Rattle.run.specs.declared.token.Token.{Token}
use Rattle.run.specs.declared.verdict.Verdict.{Verdict}

-- a new token of a job, which is not spent
abbrev pub token_of : ℕ → Token
token_of job = record { job = job; spent = false }

-- a seal that is refused hands its token back
abbrev pub GivenBack : Token → Result Verdict (Refusal × Token) → Type 0
GivenBack t (Ok v) = Unit {0}
GivenBack t (Err p) = p.1 ≡ t
