use Rattle.std.proofs.Common.{◌≡◌, ◌++◌, drop, map}
use Rattle.pt_types.specs.Ty.{entry_of}
use Rattle.pt_types.proofs.+copies.Given as goal

abbrev pub invariant-record::RecordTy::copy-loop-field : goal.invariant-record::RecordTy::copy-loop-field
invariant-record::RecordTy::copy-loop-field l = map entry_of l.fields.items ++ map entry_of (drop l.field-index l.field-items) ≡ l.self
