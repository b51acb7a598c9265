use Rattle.std.proofs.Common.{◌-◌, sym, ◌∙◌, arith}
use Rattle.order.specs.States.{state_of}
use Rattle.order.specs.Graphs.{ways_in}
use Rattle.order.proofs.Graphs.Searching.{outlet_fuel, outlet_on, outlet_done, outlet_past}
use Rattle.order.proofs.graph.search.outlet.Goals as goal

pub loop-y-init : goal.loop-y-init
loop-y-init c =
    let w = ways_in (state_of c.args.book.now) in
    (c.requires.held.0, c.shut-next.ensures.value, outlet_fuel w c.args.b c.args.b (c.args.b - c.args.a) c.args.a (omega arith) (omega arith))

pub loop-y-preserved : goal.loop-y-preserved
loop-y-preserved c =
    let w = ways_in (state_of c.args.book.now) in (
      omega arith,
      c.shut-next-in-loop-y.ensures.value,
      c.loop-y.invariant.2 ∙ outlet_on w c.args.b (c.args.b - c.loop-y.y) c.loop-y.y c.loop-y.next c.loop-y.invariant.1
          (omega arith) (omega arith) (omega arith),
    )

pub returns-else-next-b : goal.returns-else-next-b
returns-else-next-b c =
    let w = ways_in (state_of c.args.book.now) in
    record { value = sym (c.loop-y.invariant.2 ∙ outlet_past w c.args.b (c.args.b - c.loop-y.y) c.loop-y.y c.loop-y.next c.loop-y.invariant.1 (omega arith)) }

pub returns-after-loop-y : goal.returns-after-loop-y
returns-after-loop-y c =
    let w = ways_in (state_of c.args.book.now) in
    record { value = sym (c.loop-y.invariant.2 ∙ outlet_done w c.args.b (c.args.b - c.loop-y.y) c.loop-y.y c.loop-y.next c.loop-y.invariant.1 (omega arith)) }
