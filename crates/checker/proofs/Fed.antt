-- Events fed one by one to a run that was just opened: while each is taken with no race, the next is answered as the rules say after them.
use Rattle.std.proofs.Common.{◌≡◌, ℕ, ◌<◌, [], ◌∷◌, length, Option, Some, None, Result, Ok, Err, IsErrAnd, refl, ap, ◌∙◌}
use Rattle.model.specs.declared.Cell.{Cell}
use Rattle.model.specs.declared.Event.{Event}
use Rattle.model.specs.declared.History.{History}
use Rattle.model.specs.declared.Race.{Race}
use Rattle.model.specs.declared.Call.TheVariants.{Feed}
use Rattle.model.specs.Past.{Past}
use Rattle.model.specs.Mailboxes.{mailbox_cells}
use Rattle.model.specs.Orders.{Order}
use Rattle.model.specs.Parts.{Keyed}
use Rattle.model.specs.Rules.{Answer, taken, refused, judge}
use Rattle.model.specs.Laws.{Clean}
use Rattle.model.specs.Runs.{Opening, Reply, took, stopped, turned_away, answer_reply, answer_to, all_fed}
use Rattle.model.proofs.Verdicts.Fed.{clean_fed}
use Rattle.record.specs.declared.fault.ByteRefusal.{ByteRefusal}
use Rattle.record.specs.declared.reader.Reader.{Reader}
use Rattle.record.specs.Events.{event_form, Writable, EventRefused}
use Rattle.record.specs.Readers.{left_of, Passed}
use Rattle.run.specs.declared.fault.RunFault.{RunFault}
use Rattle.run.specs.declared.run.Answer.{Answer as RunAnswer}
use Rattle.run.specs.declared.run.Answer.TheVariants.{Taken, Stopped}
use Rattle.run.specs.declared.run.Run.{Run}
use Rattle.run.specs.Faults.{number_of}
use Rattle.run.specs.Runs.{fed}
use Rattle.run.specs.Lawful.{Led, Lawful}
use Rattle.checker.specs.declared.fault.FileFault.TheVariants.{Run as ByRun}
use Rattle.checker.specs.declared.fault.FileRefusal.{FileRefusal}
use Rattle.checker.specs.Faults.{refusal_of}
use Rattle.checker.specs.Checks.{RefusedBy}
use Rattle.checker.specs.Feeding.{FedUpTo}
use Rattle.checker.proofs.Between.{Between, one_more, takes}

-- what the rules say to an event, by the reply to it
took_taken : (n : ℕ) (m : Option (Race Cell)) (a : Answer Cell) → took m ≡ answer_reply n a → a ≡ taken m
took_taken n m (taken q) e = cc
took_taken n m (refused k) e = cc

away_refused : (n k p : ℕ) (a : Answer Cell) → turned_away k p ≡ answer_reply n a → a ≡ refused k
away_refused n k p (taken q) e = cc
away_refused n k p (refused j) e = cc

never_stopped : (n : ℕ) (q : Race Cell) (a : Answer Cell) → stopped q ≡ answer_reply n a → ⊥
never_stopped n q (taken m) e = cc
never_stopped n q (refused k) e = cc

module _ {K S N : Type 0} (order : K → Order) (cells : S → Keyed Cell History) (names : N → Keyed ℕ ℕ) where
  -- a run that was opened with o was fed what stands between r and s, with no race
  pub record SoFar (o : Opening) (r s : Reader) (is : Run K S N) : Type 0 where
    pub past : Past Cell
    pub clean : Clean mailbox_cells o.limits past
    pub between : Between r s past
    pub led : Led order cells names o (all_fed past) is

  -- whatever it was opened with
  abbrev pub FedSoFar : Reader → Run K S N → Reader → Run K S N → Type 0
  FedSoFar r was s is = (o : Opening) → Led order cells names o [] was → SoFar o r s is

module _ {K S N : Type 0} {order : K → Order} {cells : S → Keyed Cell History} {names : N → Keyed ℕ ℕ} where
  answered : {o : Opening} {r s : Reader} {is : Run K S N} (q : SoFar order cells names o r s is) (e : Event Cell) (reply : Reply Cell)
      (next : Run K S N) → Lawful order cells names is (Feed e) reply next
      → reply ≡ answer_reply (length q.past) (judge mailbox_cells o.limits q.past e)
  answered {o} q e reply next law =
      (law o (all_fed q.past) q.led).0 ∙ ap (λ x. answer_to mailbox_cells o x (Feed e)) (clean_fed mailbox_cells o q.past q.clean).1

module _ {K S N : Type 0} {order : K → Order} {cells : S → Keyed Cell History} {names : N → Keyed ℕ ℕ}
    {r s : Reader} {was is : Run K S N} (so : FedSoFar order cells names r was s is) where
  pub at_end : left_of s ≡ [] → FedUpTo order cells names r was (Ok tt) is
  at_end none o l = let q = so o l in (q.past, None, left_of s, takes q.between q.clean, none, λ u x. q.led)

  pub at_bytes : (f : ByteRefusal) → f.place ≡ s.place → 0 < length (left_of s) → EventRefused (left_of s) f.fault
      → (result : Result (Unit {0}) FileRefusal) → IsErrAnd result (λ x. x ≡ refusal_of f)
      → FedUpTo order cells names r was result is
  at_bytes f place some why (Ok u) by_f o l = absurd by_f
  at_bytes f place some why (Err x) by_f o l =
      let q = so o l in
      (q.past, None, left_of s, takes q.between q.clean, rw by_f (place ∙ q.between.place, (some, why)), λ u y. absurd cc)

  -- the event e is read, and the run answers it
  module _ (e : Event Cell) (t : Reader) (w : Writable e) (p : Passed s (event_form e) t) (next : Run K S N) where
    abbrev Answers : Reply Cell → Type 0
    Answers reply = Lawful order cells names is (Feed e) reply next

    pub fed_on : Answers (took None) → FedSoFar order cells names r was t next
    fed_on law o l =
        let q = so o l in
        record {
          past = e ∷ q.past;
          clean = (took_taken _ _ _ (answered q e _ _ law), q.clean);
          between = one_more r s t q.past e q.between w p;
          led = (law o (all_fed q.past) q.led).1;
        }

    at_race : (m : Race Cell) → Answers (took (Some m)) → FedUpTo order cells names r was (Ok tt) next
    at_race m law o l =
        let q = so o l in
        let made = took_taken _ _ _ (answered q e _ _ law) in
        let led = (law o (all_fed q.past) q.led).1 in
        (e ∷ q.past, Some m, left_of t, takes (one_more r s t q.past e q.between w p) (made, q.clean), tt, λ u x. led)

    at_stop : (m : Race Cell) → Answers (stopped m) → FedUpTo order cells names r was (Ok tt) next
    at_stop m law o l = absurd (never_stopped _ _ _ (answered (so o l) e _ _ law))

    -- any answer but that it is taken with no race
    pub at_answer : (a : RunAnswer) → (a ≡ Taken None → ⊥) → Answers (fed (Ok a)) → FedUpTo order cells names r was (Ok tt) next
    at_answer (Taken None) other law = absurd (other refl)
    at_answer (Taken (Some m)) other law = at_race m law
    at_answer (Stopped m) other law = at_stop m law

    pub at_event : (f : RunFault) (n : ℕ) → Answers (turned_away (number_of f) n)
        → (x : FileRefusal) → x.fault ≡ ByRun f → x.byte ≡ s.place → FedUpTo order cells names r was (Err x) next
    at_event f n law x fault byte o l =
        let q = so o l in
        let no = away_refused _ _ _ _ (answered q e _ _ law) in
        let why : RefusedBy o.limits q.past (left_of s) x.fault = rw fault (e, left_of t, (w, p.0), no) in
        (q.past, None, left_of s, takes q.between q.clean, (byte ∙ q.between.place, why), λ u y. absurd cc)
