-- What a writer's calls do to its buffer and its place.
use Rattle.std.specs.Prelude.{◌≡◌, ℕ, ◌+◌, ◌≤◌, List, length, Ok, Err, Result}
use Rattle.record.specs.declared.fault.ByteRefusal.{ByteRefusal}
use Rattle.record.specs.declared.writer.Writer.{Writer}
use Rattle.record.specs.Writes.{laid, Written}

-- v has the buffer that w was lent
abbrev pub SameBuffer : Writer → Writer → Type 0
SameBuffer w v = v.buf.ghost_name ≡ w.buf.ghost_name

-- n bytes fit from the place of w to the end of its buffer
abbrev pub HasRoom : Writer → ℕ → Type 0
HasRoom w n = w.place + n ≤ length w.buf.now

-- v is w after the bytes bs are laid at its place
pub record Laid (bs : List ℕ) (w v : Writer) : Type 0 where
  pub lent : SameBuffer w v
  pub bytes : v.buf.now ≡ laid w.buf.now w.place bs
  pub next : v.place ≡ w.place + length bs

-- a call on the writer w that writes the form bs of the numbers ns, what it answers, and the writer after it: it stands
-- after the form, or it stays where it stood and nothing is written
abbrev pub WriteCall : List ℕ → List ℕ → Writer → Result (Unit {0}) ByteRefusal → Writer → Type 0
WriteCall ns bs w (Ok u) v = SameBuffer w v × Written ns bs w.buf.now w.place (Ok v.place) v.buf.now
WriteCall ns bs w (Err r) v = SameBuffer w v × (v.place ≡ w.place) × Written ns bs w.buf.now w.place (Err r) v.buf.now
