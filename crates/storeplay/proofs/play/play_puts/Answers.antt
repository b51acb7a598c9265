-- One more number is put and told.
use Rattle.std.proofs.Common.{ap, ◌∙◌}
use Rattle.storeplay.proofs.Told.{meant_more, told_more}
use Rattle.storeplay.proofs.play.play_puts.Goals as goal

pub loop-i-preserved : goal.loop-i-preserved
loop-i-preserved g c =
    let same = g.K.PartialEq.eq in
    let key = g.K.FromNumber.made in
    let value = g.V.FromNumber.made in
    let n = (g.S.Store.meaning c.args.store.now).limit in
    let k = c.of.ensures.value ∙ ap key c.number.ensures.value in
    let v = c.of-in-loop-i.ensures.value ∙ ap value c.from.ensures in (
      meant_more same key value n c.args.row c.loop-i.i _ _ c.of.result c.of-in-loop-i.result k v c.loop-i.invariant.0
          c.put-answer.ensures.kept,
      told_more same key value n c.args.row c.loop-i.i _ c.of.result c.put-answer.result c.loop-i.tally _ _ k c.loop-i.invariant.0
          c.put-answer.ensures.answered c.loop-i.invariant.1 c.put.ensures.told,
    )
