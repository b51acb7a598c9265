-- The byte of each kind of event.
use Rattle.std.specs.Prelude.{◌≡◌, ℕ, ◌<◌, ◌⊎◌, Ok, Err, Result}
use Rattle.record.specs.declared.fault.ByteFault.{ByteFault}
use Rattle.record.specs.declared.fault.ByteFault.TheVariants.{UnknownKind}
use Rattle.record.specs.declared.kind.Kind.{Kind}
use Rattle.record.specs.declared.kind.Kind.TheVariants.{Spawn, End, Open, Close, Read, Write}

-- the byte that an event of the kind begins with
abbrev pub byte_of : Kind → ℕ
byte_of Spawn = 1
byte_of End = 2
byte_of Open = 3
byte_of Close = 4
byte_of Read = 5
byte_of Write = 6

-- the kind that a byte stands for; only a byte from 1 to 6 stands for one
abbrev pub KindRead : ℕ → Result Kind ByteFault → Type 0
KindRead b (Ok kind) = byte_of kind ≡ b
KindRead b (Err f) = (f ≡ UnknownKind) × ((b < 1) ⊎ (6 < b))
