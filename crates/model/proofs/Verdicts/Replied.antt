-- What a reply says of where the run stands: a refusal and a stop leave it as it was, and a verdict tells it.
use Rattle.std.proofs.Math.Facts.{yes_eqb}
use Rattle.std.proofs.Common.{◌≡◌, ℕ, Bool, true, false, cond, not, T, eqb, eqb→eq, ◌∷◌, length, Some, None, Option, sym, refl, ap, ◌∙◌, inl, inr, arith}
use Rattle.model.specs.declared.Event.{Event}
use Rattle.model.specs.declared.Race.{Race}
use Rattle.model.specs.declared.Stage.{Stage}
use Rattle.model.specs.declared.Stage.TheVariants.{Feeding, Raced, Sealed}
use Rattle.model.specs.declared.Call.{Call}
use Rattle.model.specs.declared.Call.TheVariants.{Feed, Seal}
use Rattle.model.specs.Accesses.{CellKind}
use Rattle.model.specs.Rules.{Answer, taken, refused, judge}
use Rattle.model.specs.Runs.{Opening, Standing, Reply, took, stopped, turned_away, gave_verdict, is_sealed, named, stage_with, handed_back}
use Rattle.model.specs.Runs.{answer_reply, seal_reply, reply_by, moved_by, answer_to, EventAnswered, SealAnswered}
use Rattle.model.proofs.Shelf.Tests.{tried, cond_yes, cond_no}

module _ {C : Type 0} where
  turned_still : (s : Standing C) (c : Call C) (n p : ℕ) → moved_by s c (turned_away n p) ≡ s
  turned_still s (Feed e) n p = refl
  turned_still s (Seal j) n p = refl

  stopped_still : (s : Standing C) (c : Call C) (r : Race C) → moved_by s c (stopped r) ≡ s
  stopped_still s (Feed e) r = refl
  stopped_still s (Seal j) r = refl

  -- the place of a refusal; d for other replies
  abbrev place_or : ℕ → Reply C → ℕ
  place_or d (took r) = d
  place_or d (stopped r) = d
  place_or d (turned_away n p) = p
  place_or d (gave_verdict i r n) = d

  -- the race of a stop; d for other replies
  abbrev race_or : Option (Race C) → Reply C → Option (Race C)
  race_or d (took r) = d
  race_or d (stopped r) = Some r
  race_or d (turned_away n p) = d
  race_or d (gave_verdict i r n) = d

  answer_place : (n : ℕ) (a : Answer C) → place_or n (answer_reply n a) ≡ n
  answer_place n (taken r) = refl
  answer_place n (refused m) = refl

  answer_race : (n : ℕ) (d : Option (Race C)) (a : Answer C) → race_or d (answer_reply n a) ≡ d
  answer_race n d (taken r) = refl
  answer_race n d (refused m) = refl

  seal_place : (own n : ℕ) (r : Option (Race C)) (b : Bool) → place_or n (cond b (gave_verdict own r n) (turned_away 12 n)) ≡ n
  seal_place own n r true = refl
  seal_place own n r false = refl

  seal_race : (own n : ℕ) (d r : Option (Race C)) (b : Bool) → race_or d (cond b (gave_verdict own r n) (turned_away 12 n)) ≡ d
  seal_race own n d r true = refl
  seal_race own n d r false = refl

  module _ (says : Event C → Answer C) (own n : ℕ) where
    reply_place : (g : Stage C) (c : Call C) → place_or n (reply_by says own n g c) ≡ n
    reply_place Feeding (Feed e) = answer_place n (says e)
    reply_place Feeding (Seal j) = seal_place own n None (eqb j own)
    reply_place (Raced r) (Feed e) = refl
    reply_place (Raced r) (Seal j) = seal_place own n (Some r) (eqb j own)
    reply_place (Sealed r) (Feed e) = refl
    reply_place (Sealed r) (Seal j) = refl

    reply_race : (g : Stage C) (c : Call C) → race_or (named g) (reply_by says own n g c) ≡ named g
    reply_race Feeding (Feed e) = answer_race n None (says e)
    reply_race Feeding (Seal j) = seal_race own n None None (eqb j own)
    reply_race (Raced r) (Feed e) = refl
    reply_race (Raced r) (Seal j) = seal_race own n (Some r) (Some r) (eqb j own)
    reply_race (Sealed r) (Feed e) = refl
    reply_race (Sealed r) (Seal j) = refl

    -- what a verdict tells: the job of the token and its own, the race that is named, and how many events were taken
    abbrev Tells : Option (Race C) → ℕ → ℕ → Option (Race C) → ℕ → Type 0
    Tells d j i m x = (j ≡ own) × (i ≡ own) × (m ≡ d) × (x ≡ n)

    -- a seal that is answered with a verdict tells these
    seal_tells : (d : Option (Race C)) (j i x : ℕ) (m : Option (Race C)) → seal_reply own n d j ≡ gave_verdict i m x → Tells d j i m x
    seal_tells d j i x m q = grind arith

    reply_tells : (g : Stage C) (j i x : ℕ) (m : Option (Race C))
        → reply_by says own n g (Seal j) ≡ gave_verdict i m x → Tells (named g) j i m x
    reply_tells g j i x m q = grind arith

module _ {C : Type 0} (k : CellKind C) (o : Opening) (s : Standing C) where
  -- what the rules say to an event here
  abbrev says : Event C → Answer C
  says = judge k o.limits s.past

  -- how many events were taken
  abbrev count : ℕ
  count = length s.past

  named_with : (r : Option (Race C)) → named (stage_with r) ≡ r
  named_with None = refl
  named_with (Some r) = refl

  pub taken_tells : (e : Event C) (r : Option (Race C)) → answer_to k o s (Feed e) ≡ took r
      → ((moved_by s (Feed e) (answer_to k o s (Feed e))).past ≡ e ∷ s.past)
      × (named (moved_by s (Feed e) (answer_to k o s (Feed e))).stage ≡ r)
  taken_tells e r q =
      (ap (λ a. (moved_by s (Feed e) a).past) q, ap (λ a. named (moved_by s (Feed e) a).stage) q ∙ named_with r)

  pub unchanged : (c : Call C) (n p : ℕ) → answer_to k o s c ≡ turned_away n p → (moved_by s c (answer_to k o s c) ≡ s) × (p ≡ count)
  unchanged c n p q =
      (ap (moved_by s c) q ∙ turned_still s c n p, sym (ap (place_or count) q) ∙ reply_place says o.job count s.stage c)

  pub after_race : (c : Call C) (r : Race C)
      → answer_to k o s c ≡ stopped r → (moved_by s c (answer_to k o s c) ≡ s) × (named s.stage ≡ Some r)
  after_race c r q =
      (ap (moved_by s c) q ∙ stopped_still s c r, sym (reply_race says o.job count s.stage c) ∙ ap (race_or (named s.stage)) q)

  pub sealed_tells : (j i n : ℕ) (m : Option (Race C)) → answer_to k o s (Seal j) ≡ gave_verdict i m n
      → (moved_by s (Seal j) (answer_to k o s (Seal j)) ≡ record { past = s.past; stage = Sealed (named s.stage) })
      × (j ≡ o.job) × (i ≡ o.job) × (m ≡ named s.stage) × (n ≡ count)
  sealed_tells j i n m q = grind arith

  -- the same events taken, at another stage
  abbrev at_stage : Stage C → Standing C
  at_stage g = record s { stage = g }

  event_at : (g : Stage C) (e : Event C) → EventAnswered k o (at_stage g) e (answer_to k o (at_stage g) (Feed e))
  event_at Feeding e = inr (inr (refl, refl))
  event_at (Raced r) e = inr (inl (r, refl, refl))
  event_at (Sealed m) e = inl (tt, refl)

  pub event_answered : (e : Event C) → EventAnswered k o s e (answer_to k o s (Feed e))
  event_answered e = event_at s.stage e

  -- a run that is not sealed asks for the token's job
  unsealed : (g : Stage C) (j : ℕ) → T (not (is_sealed g)) → answer_to k o (at_stage g) (Seal j) ≡ seal_reply o.job count (named g) j
  unsealed Feeding j u = refl
  unsealed (Raced r) j u = refl
  unsealed (Sealed m) j u = absurd u

  job_asked : (g : Stage C) (j : ℕ) → T (not (is_sealed g)) → SealAnswered k o (at_stage g) j (answer_to k o (at_stage g) (Seal j))
  job_asked g j u =
      elim (tried (eqb j o.job)) [
        | inl y ↦ (let p = unsealed g j u ∙ cond_yes (eqb j o.job) _ _ y in inr (inr (u, eqb→eq j o.job y, p, ap (handed_back j) p)))
        | inr n ↦ (let p = unsealed g j u ∙ cond_no (eqb j o.job) _ _ n in inr (inl (u, (λ e. n (yes_eqb e)), p, ap (handed_back j) p)))
      ]

  seal_at : (g : Stage C) (j : ℕ) → SealAnswered k o (at_stage g) j (answer_to k o (at_stage g) (Seal j))
  seal_at (Sealed m) j = inl (tt, refl, refl)
  seal_at Feeding j = job_asked Feeding j tt
  seal_at (Raced r) j = job_asked (Raced r) j tt

  pub seal_answered : (j : ℕ) → SealAnswered k o s j (answer_to k o s (Seal j))
  seal_answered j = seal_at s.stage j
