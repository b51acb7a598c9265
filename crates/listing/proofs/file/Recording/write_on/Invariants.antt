use Rattle.std.proofs.Common.{take}
use Rattle.record.specs.Writers.{SameBuffer}
use Rattle.listing.specs.Files.{file_parts}
use Rattle.listing.proofs.Parts.{SoWritten}
use Rattle.listing.proofs.file.Recording.write_on.Given as goal

-- the file as far as the events so far is written
abbrev pub invariant-loop-event : goal.invariant-loop-event
invariant-loop-event l = SameBuffer l.fn.writer l.writer × SoWritten (file_parts l.self.job (take l.event-index l.self.events.now)) l.fn.writer.buf.now l.fn.writer.place l.writer.place l.writer.buf.now
