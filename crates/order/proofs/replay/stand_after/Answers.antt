use Rattle.std.proofs.Common.{◌∙◌}
use Rattle.model.specs.Orders.{emptied}
use Rattle.model.specs.Reached.{start}
use Rattle.order.proofs.Replays.Reaching.{calls_reached, says_no}
use Rattle.order.proofs.Replays.Replaying.{standing_by}
use Rattle.order.proofs.replay.stand_after.Goals as goal

pub returns-clause-reached : goal.returns-clause-reached
returns-clause-reached g c =
    let limit = (g.K.HappensBefore.meaning c.args.keeper.now).limit in (
      calls_reached limit (emptied limit) start c.args.calls.now,
      standing_by _ _ c.args.a c.args.b _ _ c.make_all.ensures.kept c.before-2.ensures.told c.earlier.ensures.told,
    )

pub returns-clause-no : goal.returns-clause-no
returns-clause-no g c = λ why.
    let limit = (g.K.HappensBefore.meaning c.args.keeper.now).limit in
    standing_by _ _ c.args.a c.args.b _ _ c.make_all.ensures.kept c.before-2.ensures.told c.earlier.ensures.told
    ∙ says_no limit _ (calls_reached limit (emptied limit) start c.args.calls.now) c.args.a c.args.b why
