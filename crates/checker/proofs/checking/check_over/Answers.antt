-- A report that fits the file is the only one.
use Rattle.std.proofs.Common.{ap, ◌∙◌}
use Rattle.run.specs.Runs.{opening}
use Rattle.checker.proofs.Opening.{no_job, opened}
use Rattle.checker.proofs.Meaning.{too_long, shut, told}
use Rattle.checker.proofs.OneReport.{clauses}
use Rattle.checker.proofs.checking.check_over.Goals as goal

pub returns-then-bytes-gt-LIMIT : goal.returns-then-bytes-gt-LIMIT
returns-then-bytes-gt-LIMIT g c =
    let bytes = c.args.bytes.now in
    clauses _ bytes _ (too_long _ bytes c.if-bytes-gt-LIMIT.true c.at.result (c.at.ensures.fault ∙ c.from.ensures) c.at.ensures.byte)

pub returns-in-Err : goal.returns-in-Err
returns-in-Err g c =
    let bytes = c.args.bytes.now in
    let at = c.new-reader.ensures in
    let none = no_job bytes c.new-reader.result c.read_job.new.reader at.before at.place c.in-Err.refusal c.in-Err.ensures in
    clauses _ bytes _ (shut _ bytes c.if-bytes-gt-LIMIT.false _ (c.in-Err.refusal, c.into.ensures, none))

pub returns-in-Ok : goal.returns-in-Ok
returns-in-Ok g c =
    let bytes = c.args.bytes.now in
    let report = c.finish.result in
    let at = c.new-reader.ensures in
    let start = opening g.K.HappensBefore.meaning g.S.Store.meaning g.N.Store.meaning c.in-Ok.job c.args.event_limit c.args.keeper c.args.store c.args.names in
    let (h, race, rest, takes, ends) = c.finish.ensures.finished start c.open-run.ensures.led (ap (λ t. t.job) c.open-run.ensures.token) in
    let o = opened bytes c.new-reader.result c.read_job.new.reader at.before at.place start.limits c.in-Ok.job h race rest report c.in-Ok.ensures takes ends in
    clauses start.limits bytes report (told start.limits bytes c.if-bytes-gt-LIMIT.false report o)
