-- Keys and values that are made of numbers.
use Rattle.std.specs.Prelude.{◌≡◌, ℕ, ◌/◌, ◌%◌, ◌^◌, ◌<◌, T, ◌==◌, Some, None}
use Rattle.std.proofs.Common.{ap, arith, eqb→eq}
use Rattle.model.specs.Lists.{some_or}
use Rattle.model.specs.declared.Cell.{Cell}
use Rattle.model.specs.declared.History.{History}
use Rattle.storeplay.specs.declared.numbers.OneHome.{OneHome}

-- 64 blocks to a mailbox
abbrev pub cell_of : ℕ → Cell
cell_of n = record { mailbox = n / 64; block = n % 64 }

-- a write, and a right read, on the step and at the place n
abbrev pub history_of : ℕ → History
history_of n = record {
  write = Some (record { step = n; place = n });
  left = None;
  right = Some (record { step = n; place = n });
}

-- the place of the right read; 0 if there is none
abbrev pub history_told : History → ℕ
history_told x = some_or (λ w. w.place) 0 x.right

-- keys of one home slot

abbrev pub one_home : ℕ → OneHome
one_home n = record { number = n }

pub one_home_exact : (a b : OneHome) → T (a.number == b.number) → a ≡ b
one_home_exact a b h = ap one_home (eqb→eq a.number b.number h)

pub one_home_small : (a : OneHome) → 0 < 2 ^ 64
one_home_small a = omega arith
