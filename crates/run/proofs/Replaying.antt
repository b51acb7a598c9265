-- Calls are made one after the other: those that were made are answered what the rules say, and the others are left as they were.
use Rattle.std.proofs.Common.{◌≡◌, ℕ, ◌+◌, ◌<◌, ◌≤◌, List, [], ◌∷◌, ◌++◌, length, map, get_or, set, take, drop, Some, refl, ap, ◌∙◌, arith}
use Rattle.std.proofs.lemmas.List.{reverse-append, take_more, take_more_set, take_all, drop_more, drop-set-lt}
use Rattle.model.specs.declared.Cell.{Cell}
use Rattle.model.specs.declared.History.{History}
use Rattle.model.specs.Orders.{Order}
use Rattle.model.specs.Parts.{Keyed}
use Rattle.run.specs.declared.log.Reply.{Reply}
use Rattle.run.specs.declared.log.Asked.{Asked}
use Rattle.run.specs.declared.run.Run.{Run}
use Rattle.run.specs.Runs.{reply_of, Answered}
use Rattle.run.specs.Replays.{calls_in, replies_in, replied, ReplayedOn}
use Rattle.run.proofs.Leading.{lawful}

-- an entry at the end of a log is its latest
calls_more : (log : List Asked) (a : Asked) → calls_in (log ++ (a ∷ [])) ≡ a.call ∷ calls_in log
calls_more log a = ap (map (λ (b : Asked). b.call)) (reverse-append log (a ∷ []))

replies_more : (log : List Asked) (a : Asked) → replies_in (log ++ (a ∷ [])) ≡ replied a.reply ∷ replies_in log
replies_more log a = ap (map (λ (b : Asked). replied b.reply)) (reverse-append log (a ∷ []))

-- an entry with what its call was answered
abbrev with_reply : Asked → Reply → Asked
with_reply a r = record { call = a.call; reply = Some r }

module _ {K S N : Type 0} (order : K → Order) (cells : S → Keyed Cell History) (names : N → Keyed ℕ ℕ) where
  -- one more call is made on a run that the others were made on
  replayed_more : (was is then : Run K S N) (before after : List Asked) (a : Asked) (r : Reply)
      → Answered order cells names is a.call (reply_of r) then → ReplayedOn order cells names was before after is
      → ReplayedOn order cells names was (before ++ (a ∷ [])) (after ++ (with_reply a r ∷ [])) then
  replayed_more was is then before after a r w t = λ o cs l.
      let s = t o cs l in
      let n = lawful order cells names is a.call (reply_of r) then w o (calls_in before ++ cs) s.2 in
      let b = with_reply a r in
      rw (calls_more before a, calls_more after b, replies_more after b) (ap (λ x. a.call ∷ x) s.0, cc (n.0, s.1), n.1)

  -- the first i calls of a log were made, and the others are left as they were
  pub record Made (was : Run K S N) (before after : List Asked) (is : Run K S N) (i : ℕ) : Type 0 where
    pub replayed : ReplayedOn order cells names was (take i before) (take i after) is
    pub left : drop i after ≡ drop i before

  pub none_made : (was : Run K S N) (log : List Asked) → Made was log log was 0
  none_made was log = record { replayed = λ o cs l. (refl, refl, l); left = refl }

  pub one_made : (was is then : Run K S N) (before after : List Asked) (i : ℕ) (d : Asked) (r : Reply)
      → i < length before → length after ≡ length before
      → Answered order cells names is (get_or after i d).call (reply_of r) then → Made was before after is i
      → Made was before (set after i (with_reply (get_or after i d) r)) then (i + 1)
  one_made was is then before after i d r l same w m =
      let k : i < length after = omega arith in
      let a = get_or after i d in
      let b = with_reply a r in
      let more = replayed_more was is then (take i before) (take i after) a r w m.replayed in
      let p = drop_more after i d k in
      let q = drop_more before i d l in
      let here : get_or before i d ≡ a = cc in
      let rest : drop (i + 1) after ≡ drop (i + 1) before = cc in
      record {
        replayed = rw (take_more before i d l, here, take_more_set after i b k) more;
        left = drop-set-lt (i + 1) after i b (omega arith) ∙ rest;
      }

  pub all_made : (was is : Run K S N) (before after : List Asked) (i : ℕ) → length before ≤ i → length after ≡ length before
      → Made was before after is i → ReplayedOn order cells names was before after is
  all_made was is before after i l same m =
      let k : length after ≤ i = omega arith in
      let t = m.replayed in rw (take_all i before l, take_all i after k) at t
