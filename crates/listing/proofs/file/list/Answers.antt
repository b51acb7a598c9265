-- What is listed is the only listing, and so the laws of whole files hold of it.
use Rattle.std.proofs.Common.{rules}
use Rattle.listing.proofs.OneListing.{only_listing, reads_back, only_told, read_back_told}
use Rattle.listing.proofs.file.list.Goals as goal

pub returns-in_err-heading-clause-only : goal.returns-in_err-heading-clause-only
returns-in_err-heading-clause-only c = search (rules, only_told)

pub returns-in_err-heading-clause-read_back : goal.returns-in_err-heading-clause-read_back
returns-in_err-heading-clause-read_back c = search (rules, read_back_told)

pub returns-in_err-job-clause-only : goal.returns-in_err-job-clause-only
returns-in_err-job-clause-only c = search (rules, only_told)

pub returns-in_err-job-clause-read_back : goal.returns-in_err-job-clause-read_back
returns-in_err-job-clause-read_back c = search (rules, read_back_told)

pub returns-clause-only : goal.returns-clause-only
returns-clause-only c = only_listing _ _ _ _ (search rules)

pub returns-clause-read_back : goal.returns-clause-read_back
returns-clause-read_back c = reads_back _ _ _ _ (search rules)
