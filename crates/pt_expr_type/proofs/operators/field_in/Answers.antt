use Rattle.std.proofs.Common.{◌≡◌, ◌+◌, rules, true, Bool, drop, map, if◌then◌else◌, sym, ap, ◌∙◌}
use Rattle.std.specs.Str.{bytes_eq}
use Rattle.pt_datatypes.specs.Datatype.{types_of}
use Rattle.pt_datatypes.specs.Normal.{normal, IsType}
use Rattle.pt_types.specs.Ty.{type_of, written, entry_of}
use Rattle.pt_types.proofs.FieldLists.{drop-at}
use Rattle.pt_language.specs.Typing.{Has}
use Rattle.pt_language.specs.Answer.{Gives, judged}
use Rattle.pt_language.specs.TreeType.{type_in}
use Rattle.pt_expr_type.proofs.Parts.{field_is_type}
use Rattle.pt_expr_type.proofs.operators.field_in.Goals as goal

pub returns-then-eq-clause-ok : goal.returns-then-eq-clause-ok
returns-then-eq-clause-ok c =
    let f = c.field-item.result in
    let items = c.as_slice-field-items.result.now in
    let name = c.args.name.now in
    let same : bytes_eq f.name name ≡ true = search rules in
    let is : IsType (written f.ty) = field_is_type items c.loop-field.field-index f c.args.fields.now c.as_slice-field-items.ensures.fields c.requires c.loop-field-test.true c.field-item.is in
    let found : type_in (types_of c.args.fields.now) name ≡ Has (written f.ty) =
    c.loop-field.invariant
    ∙ ap (λ xs. type_in (types_of (map entry_of xs)) name) (drop-at items c.loop-field.field-index f c.loop-field-test.true c.field-item.is)
    ∙ ap (λ (b : Bool). if b then Has (written f.ty) else type_in (types_of (map entry_of (drop (c.loop-field.field-index + 1) items))) name) same in
    let kept : type_of c.in_ok-copy.field-0 ≡ written f.ty = ap normal c.in_ok-copy.ensures ∙ is in
    ap judged found ∙ ap Gives (sym kept)
