-- The number and the layer of each fault of a file, and how a refusal and a report are shown.
use Rattle.std.specs.Prelude.{ℕ, List, ◌++◌, Option, Some, codes, decimal}
use Rattle.model.specs.declared.Layer.{Layer}
use Rattle.model.specs.Shown.{layer_text}
use Rattle.record.specs.declared.fault.ByteRefusal.{ByteRefusal}
use Rattle.record.specs.Faults as bytes
use Rattle.run.specs.Faults as run
use Rattle.run.specs.Shown.{verdict_shown, withdrawn_text}
use Rattle.checker.specs.declared.fault.FileFault.{FileFault}
use Rattle.checker.specs.declared.fault.FileFault.TheVariants.{Bytes, Run}
use Rattle.checker.specs.declared.fault.FileRefusal.{FileRefusal}
use Rattle.checker.specs.declared.report.Report.{Report}
use Rattle.checker.specs.declared.report.Report.TheVariants.{Sealed, Withdrawn, Unopened}

-- the bytes' and the run's faults keep their own

abbrev pub number_of : FileFault → ℕ
number_of (Bytes f) = bytes.number_of f
number_of (Run f) = run.number_of f

abbrev pub layer_of : FileFault → Layer
layer_of (Bytes f) = bytes.layer_of f
layer_of (Run f) = run.layer_of f

-- a refusal of bytes is one of the file, at the same byte
abbrev pub refusal_of : ByteRefusal → FileRefusal
refusal_of r = record { fault = Bytes r.fault; byte = r.place }

-- refused 15 layer order byte 15
abbrev pub refusal_text : FileRefusal → List ℕ
refusal_text r = codes "refused " ++ (decimal (number_of r.fault) ++ (codes " layer " ++ (layer_text (layer_of r.fault) ++ (codes " byte " ++ decimal r.byte))))

-- a verdict; or job 7 withdrawn refused 15 layer order byte 15; or a refusal alone
abbrev pub report_shown : Report → Option (List ℕ)
report_shown (Sealed v) = verdict_shown v
report_shown (Withdrawn w r) = Some (withdrawn_text w ++ (codes " " ++ refusal_text r))
report_shown (Unopened r) = Some (refusal_text r)
