-- The records that are lent have room for just what the limits say.
use Rattle.std.proofs.Common.{ℕ, ◌+◌, ◌/◌, ap, ◌∙◌, subst}
use Rattle.model.specs.declared.Cell.{Cell}
use Rattle.model.specs.declared.History.{History}
use Rattle.model.specs.Orders.{Order}
use Rattle.model.specs.Parts.{Keyed}
use Rattle.checker.specs.Checks.{Checked, check_limits}
use Rattle.checker.proofs.OneReport.{clauses}
use Rattle.checker.proofs.checking.check.Goals as goal

pub returns : goal.returns
returns c =
    let bytes = c.args.bytes.now in
    let report = c.check_over.result in
    let steps = ap (λ (m : Order). m.limit) c.new.ensures.emptied ∙ ap (λ (n : ℕ). 1 + n / 4) (c.as_mut_slice.ensures.len ∙ c.in_ok-steps.ensures.len) in
    let cells = ap (λ (m : Keyed Cell History). m.limit) c.new-2.ensures.emptied ∙ c.as_mut_slice-2.ensures.len ∙ c.in_ok-cells.ensures.len in
    let names = ap (λ (m : Keyed ℕ ℕ). m.limit) c.new-3.ensures.emptied ∙ c.as_mut_slice-3.ensures.len ∙ c.in_ok-names.ensures.len in
    let checked = subst (λ l. Checked l bytes report) (λ i. record { events = 65535; steps = steps i; cells = cells i; names = names i }) c.check_over.ensures.checked in
    clauses check_limits bytes report checked
