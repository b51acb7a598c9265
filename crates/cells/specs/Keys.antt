-- The hashes of keys. Each is a number below 2^64, to be read as a part of 2^64.
use Rattle.std.specs.Prelude.{◌≡◌, ℕ, ◌+◌, ◌*◌, ◌%◌, ◌^◌, ◌<◌}
use Rattle.std.proofs.Common.{arith}
use Rattle.model.specs.declared.Cell.{Cell}

-- 2^64 divided by the golden ratio: its multiples lie as evenly in 2^64 as those of any number can, so numbers in a row are set far
-- apart
abbrev pub number_hash : ℕ → ℕ
number_hash n = n * 11400714819323198485 % 2 ^ 64

-- 2^64 divided by the plastic number and by its square: the same of pairs of numbers, so cells are set apart whether it is their
-- mailboxes that are in a row, or their blocks, or both
abbrev pub cell_hash : Cell → ℕ
cell_hash c = (c.mailbox * 13925035116211876495 + c.block * 10511698010929265437) % 2 ^ 64

-- no two numbers have one hash
abbrev pub NumbersDiffer : Type 0
NumbersDiffer = (a b : ℕ) → a < 2 ^ 64 → b < 2 ^ 64 → number_hash a ≡ number_hash b → a ≡ b

-- nor have two blocks of one mailbox
abbrev pub BlocksDiffer : Type 0
BlocksDiffer =
    (m a b : ℕ) → a < 2 ^ 64 → b < 2 ^ 64
    → cell_hash (record { mailbox = m; block = a }) ≡ cell_hash (record { mailbox = m; block = b }) → a ≡ b

-- nor has one block of two mailboxes
abbrev pub MailboxesDiffer : Type 0
MailboxesDiffer =
    (a b n : ℕ) → a < 2 ^ 64 → b < 2 ^ 64
    → cell_hash (record { mailbox = a; block = n }) ≡ cell_hash (record { mailbox = b; block = n }) → a ≡ b

-- both are below 2^64

pub number_hash_small : (n : ℕ) → number_hash n < 2 ^ 64
number_hash_small n = omega arith

pub cell_hash_small : (c : Cell) → cell_hash c < 2 ^ 64
cell_hash_small c = omega arith
