use Rattle.std.proofs.Common.{Some, None, Bool, cond, sym, ap}
use Rattle.pt_said.proofs.SaidNames.{no_field_name}
use Rattle.pt_said.proofs.words.field_name.Goals as goal

pub returns-in-Err : goal.returns-in-Err
returns-in-Err c = sym (ap (λ (b : Bool). cond b (Some c.args.bytes.now) None) (no_field_name c.args.bytes.now c.in-Err.ensures.cases.0))
