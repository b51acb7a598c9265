-- A writer that lays bytes one part after another: what is left to lay shrinks to nothing.
use Rattle.std.proofs.Common.{◌≡◌, ℕ, ◌+◌, ◌≤◌, List, ◌++◌, length, refl, ap, ◌∙◌, arith, length-append}
use Rattle.record.specs.declared.writer.Writer.{Writer}
use Rattle.record.specs.Writes.{laid}
use Rattle.record.specs.Writers.{HasRoom, Laid}
use Rattle.record.proofs.Laying.{laid_append, laid_length}

-- v is w after it laid `all` but for the `rest`, which is left to lay
pub record LaidBut (rest all : List ℕ) (w v : Writer) : Type 0 where
  pub lent : v.buf.ghost_name ≡ w.buf.ghost_name
  pub room : v.place + length rest ≤ length v.buf.now
  pub end : v.place + length rest ≡ w.place + length all
  pub bytes : laid v.buf.now v.place rest ≡ laid w.buf.now w.place all

-- once more bytes are laid
pub laid_but_more : {left all : List ℕ} {w v u : Writer} (bs rest : List ℕ) → left ≡ bs ++ rest → LaidBut left all w v → Laid bs v u → LaidBut rest all w u
laid_but_more {left} {all} {w} {v} {u} bs rest e s h =
    let long : length left ≡ length bs + length rest = ap length e ∙ length-append bs rest in
    let fits : v.place + length bs ≤ length v.buf.now = omega (arith, s.room) in
    record {
      lent = h.lent ∙ s.lent;
      room = omega (arith, s.room, h.next, ap length h.bytes, laid_length v.buf.now v.place bs fits);
      end = omega (arith, s.end, h.next);
      bytes = rw (h.bytes, h.next, laid_append v.buf.now v.place bs rest fits, ← e) s.bytes;
    }

-- at first all is left
pub laid_but_all : (w : Writer) (all : List ℕ) → HasRoom w (length all) → LaidBut all all w w
laid_but_all w all room = record { lent = refl; room = room; end = refl; bytes = refl }
