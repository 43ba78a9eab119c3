use Rattle.std.proofs.Common.{arith}
use Rattle.pt_datatypes.proofs.Fields.{same_names-length}
use Rattle.pt_types.proofs.FieldLists.{length-view}
use Rattle.pt_types.proofs.record.RecordTy.same_names.Goals as goal

pub returns-then-len : goal.returns-then-len
returns-then-len c =
    same_names-length c.args.self.now c.args.other.now (λ e. absurd (omega (arith, e, c.if-len.true, c.len.ensures, c.len-2.ensures, length-view _ _ c.self.view_is, length-view _ _ c.other.view_is)))
