use Rattle.std.proofs.Common.{inr, map}
use Rattle.pt_language.proofs.Making.{make_record-repeated, make_record-no_name}
use Rattle.pt_expr_type.proofs.RecordTypes.{recorded-gives, recorded-clash}
use Rattle.pt_expr_type.proofs.operators.record_of.Goals as goal

pub returns-in-Ok-clause-ok : goal.returns-in-Ok-clause-ok
returns-in-Ok-clause-ok c = recorded-gives c.args.fields.items c.in-Ok.fields c.in-Ok.ensures.ok c.in-Ok.ensures.lawful c.record.result c.record.ensures

pub returns-in-Err-Repeated-clause-err : goal.returns-in-Err-Repeated-clause-err
returns-in-Err-Repeated-clause-err c =
    let stands = rw c.in-Err-Repeated.field-0-is at c.in-Err-Repeated.ensures.err in
    inr (recorded-clash c.args.fields.items (make_record-repeated (map (λ f. f.0) c.args.fields.items) c.in-Err-Repeated.field-0-0 stands))

pub returns-clause-err : goal.returns-clause-err
returns-clause-err c =
    let stands = rw c.in-Err-Name.field-0-is at c.in-Err-Name.ensures.err in
    inr (recorded-clash c.args.fields.items (make_record-no_name (map (λ f. f.0) c.args.fields.items) c.in-Err-Name.field-0-0 stands.0 stands.1))
