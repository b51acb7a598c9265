-- The four bytes that every record file begins with.
use Rattle.std.specs.Prelude.{◌≡◌, ℕ, ◌<◌, List, [], ◌∷◌, ◌++◌, length, slice_index, slice_index_or}
use Rattle.record.specs.declared.fault.ByteFault.{ByteFault}
use Rattle.record.specs.declared.fault.ByteFault.TheVariants.{WrongHeading, Short, BadNumber, UnknownKind, NoRoom, TooLarge}

-- AFT1
abbrev pub heading : List ℕ
heading = 0x41 ∷ 0x46 ∷ 0x54 ∷ 0x31 ∷ []

-- bs begins with the heading, and rest follows it
abbrev pub HeadingRead : List ℕ → List ℕ → Type 0
HeadingRead bs rest = bs ≡ heading ++ rest

-- a byte that is there is not the heading's
pub record WrongByte (bs : List ℕ) : Type 0 where
  pub at : ℕ
  pub within : at < length heading
  pub there : at < length bs
  pub wrong : slice_index_or bs at 0 ≡ slice_index heading at → ⊥

-- the bytes are the front of the heading, and end before it does
pub record ShortHeading (bs : List ℕ) : Type 0 where
  pub missing : List ℕ
  pub front : heading ≡ bs ++ missing
  pub some : 0 < length missing

-- why no heading is read
abbrev pub HeadingRefused : List ℕ → ByteFault → Type 0
HeadingRefused bs WrongHeading = WrongByte bs
HeadingRefused bs Short = ShortHeading bs
HeadingRefused bs BadNumber = ⊥
HeadingRefused bs UnknownKind = ⊥
HeadingRefused bs NoRoom = ⊥
HeadingRefused bs TooLarge = ⊥
