use Rattle.std.proofs.Common.{◌≡◌, ◌++◌, drop, vec_items}
use Rattle.listing.specs.Lines.{event_lines}
use Rattle.listing.proofs.text.push_events.Given as goal

-- with the lines of the events that are left, all lines are there
abbrev pub invariant-loop-place : goal.invariant-loop-place
invariant-loop-place l = vec_items l.lines ++ event_lines l.place (drop l.place l.events) ≡ vec_items l.initial.lines ++ event_lines 0 l.events
