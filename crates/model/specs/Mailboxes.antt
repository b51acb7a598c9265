-- Cells that are named by a mailbox and a block.
use Rattle.std.specs.Prelude.{◌≡◌, Bool, ◌&&◌, T, ◌==◌}
use Rattle.std.proofs.Common.{eqb→eq}
use Rattle.std.proofs.Math.Facts.{and_yes, yes_and}
use Rattle.std.proofs.Math.Dec.{eqb_refl}
use Rattle.model.specs.declared.Cell.{Cell}
use Rattle.model.specs.Accesses.{CellKind}
use Rattle.model.specs.Rules.{within_max}

-- the same mailbox and the same block
abbrev pub same_cell : Cell → Cell → Bool
same_cell a b = a.mailbox == b.mailbox && a.block == b.block

-- both numbers are in range
abbrev pub cell_fits : Cell → Bool
cell_fits c = within_max c.mailbox && within_max c.block

-- only equal cells pass it
pub same_cell_is : (a b : Cell) → T (same_cell a b) → a ≡ b
same_cell_is a b h =
    let (p, q) = and_yes (a.mailbox == b.mailbox) (a.block == b.block) h in
    λ i. record { mailbox = eqb→eq a.mailbox b.mailbox p i; block = eqb→eq a.block b.block q i }

-- and each passes it with itself
pub same_cell_refl : (a : Cell) → T (same_cell a a)
same_cell_refl a = yes_and (a.mailbox == a.mailbox) (a.block == a.block) (eqb_refl a.mailbox) (eqb_refl a.block)

-- mailbox and block as a cell's name
abbrev pub mailbox_cells : CellKind Cell
mailbox_cells = record { same = same_cell; same_is = same_cell_is; same_refl = same_cell_refl; fits = cell_fits }
