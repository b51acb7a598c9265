use Rattle.std.proofs.Common.{◌≡◌, ◌/◌, ap, sym, ◌∙◌, arith}
use Rattle.order.specs.States.{state_of}
use Rattle.order.specs.Graphs.{ways_in}
use Rattle.order.proofs.Graphs.Searching.{met_back, met_done}
use Rattle.order.proofs.graph.search.met.Goals as goal

pub loop-x-preserved : goal.loop-x-preserved
loop-x-preserved c =
    let st = state_of c.args.book.now in
    let e : c.link-x.result.up / 2 ≡ (ways_in st).from c.loop-x.x = ap (λ l. l.up / 2) c.link-x.ensures.value in
    let falls = c.requires.searchable.falls c.loop-x.x (omega arith) c.loop-x.invariant.0 in (
      omega arith,
      c.loop-x.invariant.1 ∙ met_back (ways_in st) st.steps c.requires.searchable.falls c.args.y c.loop-x.x c.loop-x.x (c.link-x.result.up / 2)
          e (omega arith) c.loop-x.invariant.0 (omega arith),
    )

pub returns : goal.returns
returns c =
    let w = ways_in (state_of c.args.book.now) in
    record { value = sym (c.loop-x.invariant.1 ∙ met_done w c.args.y c.loop-x.x c.loop-x.x (omega arith)) }
