-- Parts written one after another.
use Rattle.std.proofs.Common.{◌≡◌, ℕ, ◌+◌, ◌<◌, ◌≤◌, List, [], ◌∷◌, ◌++◌, length, get_or, take, drop, Ok, Err, Result, sym, refl, ap, ◌∙◌, arith, length-append}
use Rattle.std.specs.List.{AllByRecursion}
use Rattle.std.proofs.lemmas.List.{flat_map_more, map_more, map-append, append_assoc, append-nil, drop_more, drop_all, take-append-drop}
use Rattle.std.proofs.ByRecursion.{All-append}
use Rattle.std.proofs.lemmas.List.Folds.{flat_map-map}
use Rattle.std.proofs.lemmas.Grind.{flat_map-append}
use Rattle.model.specs.declared.Cell.{Cell}
use Rattle.model.specs.declared.Event.{Event}
use Rattle.record.specs.declared.fault.ByteFault.{ByteFault}
use Rattle.record.specs.declared.fault.ByteFault.TheVariants.{NoRoom, TooLarge}
use Rattle.record.specs.declared.fault.ByteRefusal.{ByteRefusal}
use Rattle.record.specs.Numbers.{InRange}
use Rattle.record.specs.Events.{numbers_of, event_form, file_form, Writable}
use Rattle.record.specs.Writes.{laid, WriteRefused, Written}
use Rattle.record.proofs.Laying.{laid_none, laid_append, laid_length}
use Rattle.listing.specs.Files.{Part, heading_part, event_part, event_parts, file_parts, parts_form, WriteStopped, PartsWritten, FileWritten}

-- each number in the parts has a form
abbrev AllFit : List Part → Type 0
AllFit ps = AllByRecursion (λ p. InRange p.0) ps

fit_more : (ps : List Part) (p : Part) → AllFit ps → InRange p.0 → AllFit (ps ++ (p ∷ []))
fit_more [] p h k = (k, tt)
fit_more (q ∷ ps) p h k = (h.0, fit_more ps p h.1 k)

-- the form of a part
abbrev part_form : Part → List ℕ
part_form p = p.1

-- all of ps are written, and `end` is the index after them
abbrev pub SoWritten : List Part → List ℕ → ℕ → ℕ → List ℕ → Type 0
SoWritten ps buf from end after = PartsWritten ps buf from (Ok end) after

-- at first none is written
pub so_none : (buf : List ℕ) (from : ℕ) → from ≤ length buf → SoWritten [] buf from from buf
so_none buf from h = (tt, omega arith, omega arith, sym (laid_none buf from))

-- a refusal hangs on how long the buffer is, and not on what it holds
refused_alike : (ns bs a b : List ℕ) (at : ℕ) (f : ByteFault) → length a ≡ length b → WriteRefused ns bs a at f → WriteRefused ns bs b at f
refused_alike ns bs a b at NoRoom e (fit, l) = (fit, omega arith)
refused_alike ns bs a b at _ e h = h

-- some parts, and then the part p
module _ (ps : List Part) (buf : List ℕ) (from end : ℕ) (mid : List ℕ) (so : SoWritten ps buf from end mid) (p : Part) where
  long : length mid ≡ length buf
  long = rw so.3 (laid_length buf from (parts_form ps) so.1)

  pub so_more : (next : ℕ) (after : List ℕ) → Written p.0 p.1 mid end (Ok next) after → SoWritten (ps ++ (p ∷ [])) buf from next after
  so_more next after (fit, room, is, over) =
      let form : parts_form ps ++ p.1 ≡ parts_form (ps ++ (p ∷ [])) = flat_map_more part_form [] ps p in
      let both : length (parts_form ps) + length p.1 ≡ length (parts_form (ps ++ (p ∷ []))) = simp length-append at (ap length form) in
      (fit_more ps p so.0 fit, omega (arith, both, so.2, long), omega (arith, both, so.2), rw (over, so.3, so.2, ← form, laid_append buf from (parts_form ps) p.1 so.1))

  pub so_stopped : (more : List Part) (r : ByteRefusal) (after : List ℕ) → Written p.0 p.1 mid end (Err r) after → WriteStopped (ps ++ (p ∷ more)) buf from r after
  so_stopped more r after (place, same, why) = record {
    done = ps;
    part = p;
    more = more;
    split = refl;
    fit = so.0;
    place = place ∙ so.2;
    room = so.1;
    over = same ∙ so.3;
    why = rw place (refused_alike p.0 p.1 mid buf end r.fault long why);
  }

-- some parts, and then others
module _ (ps qs : List Part) (buf : List ℕ) (from end : ℕ) (mid : List ℕ) (so : SoWritten ps buf from end mid) where
  mid_length : length mid ≡ length buf
  mid_length = long ps buf from end mid so heading_part

  -- what is laid after ps is laid after their form
  over_both : (rs : List Part) (after : List ℕ) → after ≡ laid mid end (parts_form rs) → after ≡ laid buf from (parts_form (ps ++ rs))
  over_both rs after e = rw (e, so.3, so.2, flat_map-append part_form ps rs) (laid_append buf from (parts_form ps) (parts_form rs) so.1)

  long_both : (rs : List Part) → from + length (parts_form (ps ++ rs)) ≡ end + length (parts_form rs)
  long_both rs = rw (flat_map-append part_form ps rs) (omega (arith, so.2, length-append {A = ℕ}))

  pub written_then : (r : Result ℕ ByteRefusal) (after : List ℕ) → PartsWritten qs mid end r after → PartsWritten (ps ++ qs) buf from r after
  written_then (Ok last) after (fit, room, is, over) =
      (All-append (λ p. InRange p.0) ps qs so.0 fit, omega (arith, long_both qs, mid_length), omega (arith, long_both qs), over_both qs after over)
  written_then (Err r) after w = record {
    done = ps ++ w.done;
    part = w.part;
    more = w.more;
    split = rw (w.split, append_assoc);
    fit = All-append (λ p. InRange p.0) ps w.done so.0 w.fit;
    place = w.place ∙ sym (long_both w.done);
    room = omega (arith, long_both w.done, mid_length, w.room);
    over = over_both w.done after w.over;
    why = refused_alike w.part.0 w.part.1 mid buf r.place r.fault mid_length w.why;
  }

-- one part, and then others
module _ (p : Part) (buf : List ℕ) (from end : ℕ) (mid : List ℕ) (w : Written p.0 p.1 buf from (Ok end) mid) where
  pub written_on : (qs : List Part) (r : Result ℕ ByteRefusal) (after : List ℕ) → PartsWritten qs mid end r after → PartsWritten (p ∷ qs) buf from r after
  written_on qs = written_then (p ∷ []) qs buf from end mid (so_more [] buf from from buf (so_none buf from (omega arith)) p end mid w)

  pub room_after : end ≤ length mid
  room_after = omega (arith, ap length w.3, laid_length buf from p.1 w.1)

-- the events of a file, the i-th of them next
module _ (job : ℕ) (es : List (Event Cell)) (i : ℕ) (d : Event Cell) (within : i < length es) (buf : List ℕ) (from end : ℕ) (mid : List ℕ) (so : SoWritten (file_parts job (take i es)) buf from end mid) where
  pub events_more : (next : ℕ) (after : List ℕ) → Written (numbers_of (get_or es i d)) (event_form (get_or es i d)) mid end (Ok next) after → SoWritten (file_parts job (take (i + 1) es)) buf from next after
  events_more next after w = rw (map_more event_part es i d within) (so_more (file_parts job (take i es)) buf from end mid so (event_part (get_or es i d)) next after w)

  whole : event_parts (take i es) ++ (event_part (get_or es i d) ∷ event_parts (drop (i + 1) es)) ≡ event_parts es
  whole = rw (← ap event_parts (drop_more es i d within), ← map-append event_part (take i es) (drop i es), take-append-drop)

  pub events_stop : (r : ByteRefusal) (after : List ℕ) → Written (numbers_of (get_or es i d)) (event_form (get_or es i d)) mid end (Err r) after → PartsWritten (file_parts job es) buf from (Err r) after
  events_stop r after w = rw (← whole) (so_stopped (file_parts job (take i es)) buf from end mid so (event_part (get_or es i d)) (event_parts (drop (i + 1) es)) r after w)

-- the parts of a file are its form
file_parts_form : (job : ℕ) (es : List (Event Cell)) → parts_form (file_parts job es) ≡ file_form job es
file_parts_form job es = rw (flat_map-map part_form event_part es)

-- the numbers of a file are those of its parts
fit_events : (es : List (Event Cell)) → AllFit (event_parts es) → AllByRecursion Writable es
fit_events [] h = tt
fit_events (e ∷ es) h = (h.0, fit_events es h.1)

fit_parts : (es : List (Event Cell)) → AllByRecursion Writable es → AllFit (event_parts es)
fit_parts [] h = tt
fit_parts (e ∷ es) h = (h.0, fit_parts es h.1)

fit_part : (ps : List Part) (p : Part) (qs : List Part) → AllFit (ps ++ (p ∷ qs)) → InRange p.0
fit_part [] p qs h = h.0
fit_part (q ∷ ps) p qs h = fit_part ps p qs h.1

no_room : (ns bs buf : List ℕ) (at : ℕ) (f : ByteFault) → InRange ns → WriteRefused ns bs buf at f → length buf < at + length bs
no_room ns bs buf at NoRoom fit h = h.1
no_room ns bs buf at TooLarge fit h = absurd (h fit)
no_room ns bs buf at _ fit h = absurd h

-- the parts of a file are written as the file is; if its numbers have a form, it is refused only for want of room
pub file_written : (job : ℕ) (es : List (Event Cell)) (buf : List ℕ) (r : Result ℕ ByteRefusal) (after : List ℕ) → PartsWritten (file_parts job es) buf 0 r after → FileWritten job es buf r after
file_written job es buf (Ok end) after (fit, room, is, over) =
    let form : parts_form (file_parts job es) ≡ file_form job es = file_parts_form job es in
    ((fit.1.0.0, fit_events es fit.1.1), omega arith, omega (arith, ap length form), over ∙ ap (laid buf 0) form)
file_written job es buf (Err r) after w = λ fit.
    let whole : parts_form (file_parts job es) ≡ parts_form w.done ++ (w.part.1 ++ parts_form w.more) = ap parts_form w.split ∙ flat_map-append part_form w.done (w.part ∷ w.more) in
    let fits : InRange w.part.0 = fit_part w.done w.part w.more (rw (← w.split) (tt, ((fit.0, tt), fit_parts es fit.1))) in
    let short : length buf < r.place + length w.part.1 = no_room w.part.0 w.part.1 buf r.place r.fault fits w.why in
    omega (arith, w.place, ap length (file_parts_form job es), ap length whole, length-append {A = ℕ})

-- a form laid over a buffer that is as long is all that it holds
pub laid_whole : (buf bs : List ℕ) → length bs ≡ length buf → laid buf 0 bs ≡ bs
laid_whole buf bs e = rw (drop_all (0 + length bs) buf (omega arith), append-nil)
