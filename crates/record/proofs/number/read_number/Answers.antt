-- Each way out is one of the ends of `Scanning`.
use Rattle.std.proofs.Common.{◌≡◌, ℕ, length-take, ◌<◌, ◌⊎◌, Err, get_or, take, inl, inr, arith}
use Rattle.record.specs.declared.fault.ByteFault.TheVariants.{Short, BadNumber}
use Rattle.record.proofs.Only.{number_clauses, read_clauses}
use Rattle.record.proofs.Scanning.{so_far_none, so_far_more, byte_at, value_fits, read_short, read_last, read_zero, read_long}
use Rattle.record.proofs.number.read_number.Goals as goal

pub loop-i-init : goal.loop-i-init
loop-i-init c = so_far_none c.args.bytes.now

pub loop-i-preserved : goal.loop-i-preserved
loop-i-preserved c =
    so_far_more _ _ _ _ c.loop-i.invariant _ (byte_at _ _ _ c.min.ensures c.loop-i-test.true (c.type_inv.bytes c.loop-i.i)) _ (omega (arith, c.from.ensures)) (omega arith) _ (omega arith)

pub overflow_mul-value : goal.overflow_mul-value
overflow_mul-value c =
    omega (arith, value_fits _ _ _ _ c.loop-i.invariant c.from.result (omega (arith, length-take {A = ℕ})) (omega arith))

pub overflow_add-value : goal.overflow_add-value
overflow_add-value c =
    omega (arith, value_fits _ _ _ _ c.loop-i.invariant c.from.result (omega (arith, length-take {A = ℕ})) (omega arith))

pub returns-then-i-gt0 : goal.returns-then-i-gt0
returns-then-i-gt0 c =
    number_clauses c.args.bytes.now (Err BadNumber) (read_zero _ _ _ _ c.loop-i.invariant _ (byte_at _ _ _ c.min.ensures c.loop-i-test.true (c.type_inv.bytes c.loop-i.i)) (omega arith) (omega arith))

pub returns-then-byte-lt-GOES_ON : goal.returns-then-byte-lt-GOES_ON
returns-then-byte-lt-GOES_ON c =
    let whole = elim c.else-byte-eq0.either as (λ _. (c.loop-i.i ≡ 0) ⊎ (0 < get_or (take c.min.result c.args.bytes.now) c.loop-i.i 0)) [ inl e ↦ inl (omega arith) | inr e ↦ inr (omega arith) ] in
    read_clauses _ _ _ (read_last _ _ _ _ c.loop-i.invariant _ (byte_at _ _ _ c.min.ensures c.loop-i-test.true (c.type_inv.bytes c.loop-i.i)) _ (omega (arith, c.from.ensures)) (omega arith) whole)

pub returns-then-bytes-lt-LONGEST : goal.returns-then-bytes-lt-LONGEST
returns-then-bytes-lt-LONGEST c =
    number_clauses c.args.bytes.now (Err Short) (read_short _ _ _ _ c.loop-i.invariant (omega arith) (omega (arith, length-take {A = ℕ})))

pub returns-else-bytes-lt-LONGEST : goal.returns-else-bytes-lt-LONGEST
returns-else-bytes-lt-LONGEST c =
    number_clauses c.args.bytes.now (Err BadNumber) (read_long _ _ _ _ c.loop-i.invariant (omega (arith, length-take {A = ℕ})))
