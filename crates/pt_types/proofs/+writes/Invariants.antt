use Rattle.std.proofs.Common.{◌≡◌, ◌++◌, take, map}
use Rattle.pt_types.specs.Ty.{entry_of}
use Rattle.pt_types.proofs.Texts.{record_body}
use Rattle.pt_types.proofs.+writes.Given as goal

abbrev pub invariant-record::RecordTy::write-loop-index : goal.invariant-record::RecordTy::write-loop-index
invariant-record::RecordTy::write-loop-index l =
    (map entry_of l.field-items ≡ l.self) × (l.out.items ≡ l.initial.out.items ++ record_body (take l.index l.field-items))
