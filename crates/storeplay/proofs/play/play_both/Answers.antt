-- The records that are lent are as many as there are, or as are asked for; a new tally tells nothing.
use Rattle.std.proofs.Common.{rules, ◌≡◌, ap, ◌∙◌, length, take, min}
use Rattle.storeplay.specs.Plays.{played}
use Rattle.storeplay.proofs.play.play_both.Goals as goal

pub returns-clause-table : goal.returns-clause-table
returns-clause-table g c =
    let told = played g.K.PartialEq.eq g.K.FromNumber.made g.V.FromNumber.made g.V.Numbered.told in
    let n = min c.args.lent (length c.args.records.now) in
    let most : length (take c.min-most.result c.args.records.now) ≡ n = search rules in
    c.play_table.ensures.told ∙ ap (λ m. told m c.args.row c.new-table.result) most ∙ ap (told n c.args.row) c.new-table.ensures.value
