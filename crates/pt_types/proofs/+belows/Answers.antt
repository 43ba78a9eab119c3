use Rattle.std.proofs.Common.{arith}
use Rattle.pt_datatypes.proofs.Fields.{are_below-length}
use Rattle.pt_types.proofs.FieldLists.{length-view}
use Rattle.pt_types.proofs.+belows.Goals as goal

pub record::RecordTy::are_below-returns-then-len : goal.record::RecordTy::are_below-returns-then-len
record::RecordTy::are_below-returns-then-len t c =
    are_below-length c.args.self.now c.args.other.now (λ e. absurd (omega (arith, e, c.if-len.true, c.len.ensures, c.len-2.ensures, length-view _ _ c.self.view_is, length-view _ _ c.other.view_is)))
