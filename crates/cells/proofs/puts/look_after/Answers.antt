use Rattle.std.proofs.Common.{ap, ◌∙◌}
use Rattle.cells.specs.Puts.{last_put}
use Rattle.cells.proofs.Lasting.{all_taken}
use Rattle.cells.proofs.puts.look_after.Goals as goal

pub returns : goal.returns
returns g c =
    let last = c.look.ensures.value ∙ ap (λ t. t.find c.args.key) c.put_all.ensures.kept in
    record {
      last = last;
      kept = c.put_all.ensures.kept;
      roomy = λ l.
          last ∙ ap (λ ps. last_put g.S.Key.PartialEq.eq ps c.args.key) (all_taken g.S.Key.PartialEq.eq _ c.args.puts.now l);
    }
