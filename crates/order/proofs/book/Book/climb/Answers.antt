use Rattle.std.proofs.Common.{ap, arith}
use Rattle.order.specs.declared.record.Link.{Link}
use Rattle.order.specs.States.{state_of}
use Rattle.order.proofs.Climbs.Climbing.{climb_start, stepped_a, stepped_b, climb_end}
use Rattle.order.proofs.book.Book.climb.Goals as goal
use Rattle.order.proofs.book.Book.climb.Goals.{then-x-y, else-x-y}

pub loop-x-init : goal.loop-x-init
loop-x-init c = climb_start (state_of c.args.self.now).link c.args.a c.args.b

pub link-link-requires : goal.link-link-requires
link-link-requires c = let m = c.loop-x.invariant.side_a.at_most in (omega arith, omega arith)

pub link-link-requires-else-x-y : goal.link-link-requires-else-x-y
link-link-requires-else-x-y c = let m = c.loop-x.invariant.side_b.at_most in (omega arith, omega arith)

pub loop-x-preserved : goal.loop-x-preserved
loop-x-preserved c =
    let link = (state_of c.args.self.now).link in
    let l = c.loop-x in
    let j = c.if-x-y in
    elim j.branch [
      | then-x-y w ↦ (let m = l.invariant.side_a.at_most in
          let d = c.requires.plain.hung l.x (omega arith) (omega arith) in
          stepped_a link c.args.a c.args.b l.x l.y l.fork l.invariant w.if-x-y.true d w.link-link.result
          w.link-link.ensures.value j.x j.y j.fork w.x-is w.y-is w.fork-is)
      | else-x-y w ↦ (let m = l.invariant.side_b.at_most in
          let d = c.requires.plain.hung l.y (omega arith) (omega arith) in
          stepped_b link c.args.a c.args.b l.x l.y l.fork l.invariant (omega arith) d w.link-link-else-x-y.result
          w.link-link-else-x-y.ensures.value j.x j.y j.fork w.x-is w.y-is w.fork-is)
    ]

pub loop-x-smaller : goal.loop-x-smaller
loop-x-smaller c =
    let l = c.loop-x in
    elim c.if-x-y.branch [
      | then-x-y w ↦ (let m = l.invariant.side_a.at_most in
          let d = c.requires.plain.hung l.x (omega arith) (omega arith) in
          let e = ap (λ (k : Link). k.up) w.link-link.ensures.value in
          omega arith)
      | else-x-y w ↦ (let m = l.invariant.side_b.at_most in
          let d = c.requires.plain.hung l.y (omega arith) (omega arith) in
          let e = ap (λ (k : Link). k.up) w.link-link-else-x-y.ensures.value in
          omega arith)
    ]

pub overflow_add-fork : goal.overflow_add-fork
overflow_add-fork c = let n = (loop-x-preserved c).fewer in omega arith

pub returns : goal.returns
returns c = record {
  forked = climb_end (state_of c.args.self.now).link c.args.a c.args.b c.loop-x.x c.loop-x.y c.loop-x.fork c.loop-x.invariant
      c.loop-x-test.false;
}
