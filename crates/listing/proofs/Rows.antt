-- Lines of events added one by one.
use Rattle.std.proofs.Common.{◌≡◌, ℕ, ◌+◌, ◌<◌, ◌≤◌, List, [], ◌∷◌, ◌++◌, length, get_or, drop, sym, ◌∙◌, append_assoc, append-nil, add-one}
use Rattle.std.proofs.lemmas.List.{drop_more, drop_all}
use Rattle.model.specs.declared.Cell.{Cell}
use Rattle.model.specs.declared.Event.{Event}
use Rattle.listing.specs.declared.line.Line.{Line}
use Rattle.listing.specs.declared.line.Line.TheVariants.{Entry}
use Rattle.listing.specs.Lines.{event_lines}

-- with the lines of the events from the i-th on, `lines` are all
module _ (all lines : List Line) (es : List (Event Cell)) (i : ℕ) (rest : lines ++ event_lines i (drop i es) ≡ all) where
  pub lines_more : (more : List Line) (d : Event Cell) → i < length es → more ≡ lines ++ (Entry i (get_or es i d) ∷ []) → more ++ event_lines (i + 1) (drop (i + 1) es) ≡ all
  lines_more more d h e = rw (e, append_assoc, add-one) (rw (drop_more es i d h, add-one) at rest)

  pub lines_all : length es ≤ i → lines ≡ all
  lines_all h = sym (append-nil lines) ∙ (rw (drop_all i es h) at rest)
