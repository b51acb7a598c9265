-- Before the end of what was written stands the form; it is compared with the bytes.
use Rattle.std.proofs.Common.{◌≡◌, take, sym, ◌∙◌, arith}
use Rattle.std.proofs.lemmas.List.{take_at}
use Rattle.std.proofs.lemmas.Slice.Eq.{slice_eq-Decides}
use Rattle.std.proofs.lemmas.Bool.Decides.{Decides-eqb}
use Rattle.record.specs.Events.{file_form}
use Rattle.listing.proofs.file.Recording.written_again.Goals as goal

pub returns-in-Ok : goal.returns-in-Ok
returns-in-Ok c =
    let end = c.in-Ok.end in
    let written = c.in-Ok.ensures.written in
    let same = slice_eq-Decides Decides-eqb (take end c.deref.result.now) c.args.bytes.now c.eq.result c.eq.ensures in
    let whole : c.deref.result.now ≡ c.write.new.buf = c.deref.ensures.value ∙ take_at c.write.new.buf _ c.in_ok-buf.buf.len (omega arith) in
    let form : take end c.deref.result.now ≡ file_form c.args.self.job c.args.self.events.now = rw (whole, written.3) (take_at (file_form c.args.self.job c.args.self.events.now) _ end (sym written.2)) in
    record { decided = (λ e. (written.0, sym (same.0 e) ∙ form), λ h. same.1 (form ∙ sym h.1)) }
