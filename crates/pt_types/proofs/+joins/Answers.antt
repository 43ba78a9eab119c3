use Rattle.std.proofs.Common.{◌≡◌, ◌<◌, ◌++◌, [], ◌∷◌, length, arith, rules, ap, sym, ◌∙◌, subst}
use Rattle.pt_datatypes.specs.Datatype.{types_of, fields_of-types_of, types_of-fields_of}
use Rattle.pt_datatypes.specs.Join.{joined_fields}
use Rattle.pt_datatypes.specs.RecordType.{names, AreRecordNames}
use Rattle.pt_datatypes.proofs.Fields.{length-same_names, names-joined}
use Rattle.pt_types.proofs.FieldLists.{length-view, joined-step, joined-end}
use Rattle.pt_types.proofs.+joins.Goals as goal

pub record::RecordTy::joined-index-requires-in-loop-index : goal.record::RecordTy::joined-index-requires-in-loop-index
record::RecordTy::joined-index-requires-in-loop-index t c =
    omega (arith, c.loop-index-test.true, c.len.ensures, length-same_names c.args.self.now c.args.other.now c.requires, length-view _ _ c.self.view_is, length-view _ _ c.other.view_is)

pub record::RecordTy::joined-loop-index-preserved : goal.record::RecordTy::joined-loop-index-preserved
record::RecordTy::joined-loop-index-preserved t c =
    let short : c.loop-index.index < length c.self.inside.fields.items = search rules in
    let short2 : c.loop-index.index < length c.other.inside.fields.items = omega (arith, short, length-same_names c.args.self.now c.args.other.now c.requires, length-view _ _ c.self.view_is, length-view _ _ c.other.view_is) in
    let e : c.push.new.self.items ≡ c.loop-index.fields.items ++ c.in_ok-field.field ∷ [] = search rules in
    rw e (joined-step c.loop-index.fields.items c.self.inside.fields.items c.other.inside.fields.items c.loop-index.index c.index.result.now c.index-in-loop-index.result.now _ _ short short2 (search rules) (search rules) (search rules) c.loop-index.invariant)

all_joined : goal.record::RecordTy::joined-returns
all_joined t c =
    let e = joined-end c.loop-index.fields.items c.self.inside.fields.items c.loop-index.index _ (joined_fields (types_of c.args.self.now) (types_of c.args.other.now)) (omega (arith, c.loop-index-test.false, c.len.ensures)) c.loop-index.invariant in
    ap types_of e ∙ types_of-fields_of _

pub record::RecordTy::joined-invariant_of-result : goal.record::RecordTy::joined-invariant_of-result
record::RecordTy::joined-invariant_of-result t c =
    let e = joined-end c.loop-index.fields.items c.self.inside.fields.items c.loop-index.index _ (joined_fields (types_of c.args.self.now) (types_of c.args.other.now)) (omega (arith, c.loop-index-test.false, c.len.ensures)) c.loop-index.invariant in
    let n = ap names e ∙ names-joined (types_of c.args.self.now) _ ∙ ap names (fields_of-types_of c.args.self.now) ∙ ap names (sym c.self.view_is) in
    subst AreRecordNames (sym n) c.self.invariant

pub record::RecordTy::joined-returns : goal.record::RecordTy::joined-returns
record::RecordTy::joined-returns t c = all_joined t c
