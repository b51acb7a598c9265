-- A run by what it was opened with and what it holds; what a call on it is answered, and what it leaves.
use Rattle.std.specs.Prelude.{◌≡◌, ℕ, Result, Ok, Err}
use Rattle.model.specs.declared.Cell.{Cell}
use Rattle.model.specs.declared.History.{History}
use Rattle.model.specs.declared.Call.{Call}
use Rattle.model.specs.Mailboxes.{mailbox_cells}
use Rattle.model.specs.Orders.{Order}
use Rattle.model.specs.Parts.{Keyed}
use Rattle.model.specs.Runs.{Opening, Reply, took, stopped, turned_away, gave_verdict}
use Rattle.model.specs.Holding.{Holding, held_answer, held_by}
use Rattle.run.specs.declared.fault.RunFault.{RunFault}
use Rattle.run.specs.declared.fault.Refusal.{Refusal}
use Rattle.run.specs.declared.token.Token.{Token}
use Rattle.run.specs.declared.verdict.Verdict.{Verdict}
use Rattle.run.specs.declared.run.Answer.{Answer}
use Rattle.run.specs.declared.run.Answer.TheVariants.{Taken, Stopped}
use Rattle.run.specs.declared.run.Run.{Run}
use Rattle.run.specs.declared.run.opening.Opening.{Opening as Opens}
use Rattle.run.specs.declared.log.Reply.{Reply as OwnReply}
use Rattle.run.specs.declared.log.Reply.TheVariants.{Answered as Replied, Sealed as SealedBy, Refused}
use Rattle.run.specs.Faults.{number_of}
use Rattle.run.specs.Parting.{parts_in}

-- what a call is answered, in the words of the rules

-- an event, with the place at which it is turned away
abbrev pub fed_at : ℕ → Result Answer RunFault → Reply Cell
fed_at n (Ok (Taken r)) = took r
fed_at n (Ok (Stopped r)) = stopped r
fed_at n (Err f) = turned_away (number_of f) n

-- a seal, likewise
abbrev pub sealed_at : ℕ → Result Verdict RunFault → Reply Cell
sealed_at n (Ok v) = gave_verdict v.job v.race v.events
sealed_at n (Err f) = turned_away (number_of f) n

abbrev pub fed : Result Answer Refusal → Reply Cell
fed (Ok (Taken r)) = took r
fed (Ok (Stopped r)) = stopped r
fed (Err f) = turned_away (number_of f.fault) f.place

abbrev pub sealed : Result Verdict (Refusal × Token) → Reply Cell
sealed (Ok v) = gave_verdict v.job v.race v.events
sealed (Err p) = turned_away (number_of p.0.fault) p.0.place

module _ {K S N : Type 0} (order : K → Order) (cells : S → Keyed Cell History) (names : N → Keyed ℕ ℕ) where
  -- what a run was opened with
  abbrev pub opened_with : Run K S N → Opening
  opened_with r = record {
    job = r.job;
    limits = record { events = r.limit; steps = (order r.parts.keeper).limit; cells = (cells r.parts.store).limit; names = (names r.parts.names).limit };
  }

  -- what it holds
  abbrev pub held_in : Run K S N → Holding Cell
  held_in r = record { parts = parts_in order cells names r.parts; stage = r.stage }

  -- what a call on it is answered
  abbrev pub answer_of : Run K S N → Call Cell → Reply Cell
  answer_of r c = held_answer mailbox_cells (opened_with r) (held_in r) c

  -- what it holds after the call
  abbrev pub left_by : Run K S N → Call Cell → Holding Cell
  left_by r c = held_by mailbox_cells (held_in r) c (answer_of r c)

  -- a call on a run, its reply, and the run after it
  pub record Answered (was : Run K S N) (c : Call Cell) (reply : Reply Cell) (is : Run K S N) : Type 0 where
    pub told : reply ≡ answer_of was c
    pub kept : held_in is ≡ left_by was c
    pub same : opened_with is ≡ opened_with was

  -- what a run is to be opened with
  abbrev pub opening : ℕ → ℕ → K → S → N → Opening
  opening job events k s n = record {
    job = job;
    limits = record { events = events; steps = (order k).limit; cells = (cells s).limit; names = (names n).limit };
  }

  abbrev pub opening_of : Opens K S N → Opening
  opening_of o = opening o.job o.event_limit o.keeper o.store o.names

-- what a call of a list is answered
abbrev pub reply_of : OwnReply → Reply Cell
reply_of (Replied (Taken r)) = took r
reply_of (Replied (Stopped r)) = stopped r
reply_of (SealedBy v) = gave_verdict v.job v.race v.events
reply_of (Refused f) = turned_away (number_of f.fault) f.place
