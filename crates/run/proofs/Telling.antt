-- A log that is answered what the rules say tells the events taken and the race named, so that the laws speak of these.
use Rattle.std.proofs.Common.{◌≡◌, ℕ, List, [], ◌∷◌, ◌++◌, map, reverse, Option, Some, refl, ap, sym, ◌∙◌}
use Rattle.std.proofs.lemmas.List.{append-nil}
use Rattle.model.specs.declared.Cell.{Cell}
use Rattle.model.specs.declared.History.{History}
use Rattle.model.specs.declared.Race.{Race}
use Rattle.model.specs.declared.Stage.{Stage}
use Rattle.model.specs.declared.Call.{Call}
use Rattle.model.specs.declared.Call.TheVariants.{Feed, Seal}
use Rattle.model.specs.Past.{Past}
use Rattle.model.specs.Laws.{Outcome}
use Rattle.model.specs.Mailboxes.{mailbox_cells}
use Rattle.model.specs.Orders.{Order}
use Rattle.model.specs.Parts.{Keyed}
use Rattle.model.specs.Runs.{Opening, Standing, Reply, took, gave_verdict, named}
use Rattle.model.specs.Runs.{moved_by, answer_to, after_calls, replies, past_of, race_named}
use Rattle.model.proofs.Whole.{upheld}
use Rattle.model.proofs.Parting.Calls.{answered_by_parts}
use Rattle.run.specs.declared.log.Asked.{Asked}
use Rattle.run.specs.declared.run.Run.{Run}
use Rattle.run.specs.Runs.{held_in}
use Rattle.run.specs.Lawful.{Led}
use Rattle.run.specs.Replays.{calls_in, replies_in, replied, and_taken, taken_among, taken_in, ReplayedOn, Replayed}
use Rattle.run.specs.Laws.{CleanSettled, RacedLatest, RacedBeside, CleanAnyOrder, FirstNamed}

-- a reply tells whether the past grows
and_taken_is : (s : Standing Cell) (c : Call Cell) (r : Reply Cell) → and_taken c (Some r) s.past ≡ (moved_by s c r).past
and_taken_is s (Feed e) (took r) = refl
and_taken_is s (Seal j) (gave_verdict i r n) = refl
and_taken_is s c r = refl

-- the events that replies of the rules tell of are those taken
taken_among_is : (o : Opening) (log : List Asked)
    → map (λ (a : Asked). replied a.reply) log ≡ map Some (replies mailbox_cells o (map (λ (a : Asked). a.call) log))
    → taken_among log ≡ past_of mailbox_cells o (map (λ (a : Asked). a.call) log)
taken_among_is o [] e = refl
taken_among_is o (a ∷ log) e =
    let cs = map (λ (b : Asked). b.call) log in
    let s = after_calls mailbox_cells o cs in
    let here : replied a.reply ≡ Some (answer_to mailbox_cells o s a.call) = cc in
    rw (here, taken_among_is o log cc) (and_taken_is s a.call (answer_to mailbox_cells o s a.call))

module _ {K S N : Type 0} (order : K → Order) (cells : S → Keyed Cell History) (names : N → Keyed ℕ ℕ) where
  pub replayed_on : (o : Opening) (was is : Run K S N) (before after : List Asked) (g : Stage Cell)
      → Led order cells names o [] was → ReplayedOn order cells names was before after is → g ≡ (held_in order cells names is).stage
      → Replayed o (calls_in before) after g
  replayed_on o was is before after g l t e =
      let n = append-nil (calls_in before) in
      let s = t o [] l in
      record {
        asked = s.0;
        answered = sym (append-nil (replies_in after)) ∙ s.1 ∙ ap (λ cs. map Some (replies mailbox_cells o cs)) n;
        stage =
            e ∙ ap (λ h. h.stage) s.2.holds ∙ (answered_by_parts mailbox_cells o (calls_in before ++ [])).stage_is
            ∙ ap (λ cs. (after_calls mailbox_cells o cs).stage) n;
      }

-- what the laws say of the events that were taken and the race that is named
pub record LawsHold (o : Opening) (h : Past Cell) (m : Option (Race Cell)) : Type 0 where
  pub lawful : Outcome mailbox_cells o.limits h m
  pub clean_settled : CleanSettled h m
  pub raced_latest : RacedLatest o h m
  pub raced_beside : RacedBeside h m
  pub clean_any_order : CleanAnyOrder o h m
  pub first_named : FirstNamed h m

laws_hold : (o : Opening) (cs : List (Call Cell)) → LawsHold o (past_of mailbox_cells o cs) (race_named mailbox_cells o cs)
laws_hold o cs =
    let u = upheld mailbox_cells o cs in
    record {
      lawful = u.lawful;
      clean_settled = u.clean_settled;
      raced_latest = λ r e. ((u.race_real r e).latest, (u.race_real r e).clean_before);
      raced_beside = λ r e. (u.race_real r e).beside;
      clean_any_order = u.any_order;
      first_named = u.first_named;
    }

module _ (o : Opening) (cs : List (Call Cell)) (log : List Asked) (g : Stage Cell) (t : Replayed o cs log g) where
  pub taken_is : taken_in log ≡ past_of mailbox_cells o cs
  taken_is =
      taken_among_is o (reverse log) (t.answered ∙ ap (λ ds. map Some (replies mailbox_cells o ds)) (sym t.asked))
      ∙ ap (past_of mailbox_cells o) t.asked

  pub laws_told : LawsHold o (taken_in log) (named g)
  laws_told = rw (taken_is, t.stage) (laws_hold o cs)
