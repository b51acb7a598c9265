use Rattle.std.proofs.Common.{Ok, rules}
use Rattle.listing.proofs.Parts.{file_written}
use Rattle.listing.proofs.file.Recording.write.Goals as goal

pub returns-in_err-write_on-clause-written : goal.returns-in_err-write_on-clause-written
returns-in_err-write_on-clause-written c = file_written _ _ _ _ _ (search rules)

pub returns-clause-written : goal.returns-clause-written
returns-clause-written c = file_written _ _ c.args.buf.now (Ok c.place.result) _ (search rules)
