-- The form of a number, and which bytes begin with numbers.
use Rattle.std.specs.Prelude.{◌≡◌, ℕ, zero, suc, ◌+◌, ◌/◌, ◌%◌, ◌^◌, ◌<◌, ◌≤◌, cond, ◌⊎◌, List, [], ◌∷◌, ◌++◌, length, nat_lt}
use Rattle.std.specs.List.{flat_map, AllByRecursion}
use Rattle.record.specs.declared.fault.ByteFault.{ByteFault}
use Rattle.record.specs.declared.fault.ByteFault.TheVariants.{WrongHeading, Short, BadNumber, UnknownKind, NoRoom, TooLarge}

-- groups of seven bits, the lowest first, each byte but the last with its high bit set: at most k of them
abbrev pub groups : ℕ → ℕ → List ℕ
groups zero n = []
groups (suc k) n = cond (nat_lt n 128) (n ∷ []) ((128 + n % 128) ∷ groups k (n / 128))

-- the form of a number that is at most 2^63 - 1
unfoldable pub number_form : ℕ → List ℕ
number_form n = groups 9 n

-- one number after another
abbrev pub numbers_form : List ℕ → List ℕ
numbers_form ns = flat_map number_form ns

-- each is at most 2^63 - 1
abbrev pub InRange : List ℕ → Type 0
InRange ns = AllByRecursion (λ n. n < 2 ^ 63) ns

-- bs begins with the form of n, and rest follows it
abbrev pub NumberRead : List ℕ → ℕ → List ℕ → Type 0
NumberRead bs n rest = (n < 2 ^ 63) × (bs ≡ number_form n ++ rest)

-- each byte has its high bit set, so that the number goes on after it
abbrev pub GoesOn : List ℕ → Type 0
GoesOn bs = AllByRecursion (λ b. 128 ≤ b) bs

-- a ninth byte goes on, or a last byte after the first is 0
pub record Misformed (bs : List ℕ) : Type 0 where
  pub front : List ℕ
  pub rest : List ℕ
  pub cut : bs ≡ front ++ rest
  pub goes : GoesOn front
  pub bad : (length front ≡ 9) ⊎ ((0 < length front) × (length front < 9) × ((more : List ℕ) × (rest ≡ 0 ∷ more)))

-- the bytes end before a last byte, and before a ninth
abbrev pub CutOff : List ℕ → Type 0
CutOff bs = GoesOn bs × (length bs < 9)

-- why no number is read
abbrev pub NumberRefused : List ℕ → ByteFault → Type 0
NumberRefused bs WrongHeading = ⊥
NumberRefused bs Short = CutOff bs
NumberRefused bs BadNumber = Misformed bs
NumberRefused bs UnknownKind = ⊥
NumberRefused bs NoRoom = ⊥
NumberRefused bs TooLarge = ⊥

-- bs begins with the forms of ns, and rest follows them
abbrev pub NumbersRead : List ℕ → List ℕ → List ℕ → Type 0
NumbersRead bs ns rest = InRange ns × (bs ≡ numbers_form ns ++ rest)

-- why fewer than `count` numbers are read: after some of them one is refused
pub record NumbersRefused (count : ℕ) (bs : List ℕ) (f : ByteFault) : Type 0 where
  pub numbers : List ℕ
  pub rest : List ℕ
  pub read : NumbersRead bs numbers rest
  pub fewer : length numbers < count
  pub why : NumberRefused rest f
