use Rattle.std.proofs.Common.{◌≡◌, ◌<◌, false, length, sym, ap, ◌∙◌, arith}
use Rattle.pt_value.specs.Value as value
use Rattle.pt_value.specs.Value.{named_of, values_of}
use Rattle.pt_value.specs.declared.token.Token.{Token}
use Rattle.pt_value.specs.Token.{value_of}
use Rattle.pt_types.specs.declared.ty.Ty.{Ty}
use Rattle.pt_datatypes.specs.Datatype.{Array, Record, types_of}
use Rattle.pt_datatypes.specs.Normal.{is_proper}
use Rattle.pt_datatypes.specs.Order.{is_below, are_below}
use Rattle.pt_datatypes.specs.Token.{type_of_value, field_types}
use Rattle.pt_types.specs.Ty.{written}
use Rattle.pt_datatypes.proofs.Parts.{element-proper}
use Rattle.pt_types.proofs.TokenTypes.{height-item, height-held, array-within, record-within, proper-field, fields-apart}
use Rattle.pt_types.proofs.token.+withins.Goals as goal

pub are_within-is_within-requires : goal.are_within-is_within-requires
are_within-is_within-requires t c =
    let h = height-item c.as_slice-token-items.result.now _ c.loop-token.token-index c.token-item.result c.as_slice-token-items.ensures.values c.loop-token-test.true c.token-item.is in
    (omega (arith, h), c.requires)

pub fields_within-returns-then-fields-types : goal.fields_within-returns-then-fields-types
fields_within-returns-then-fields-types t c =
    fields-apart c.as_slice-fields.result.now c.as_slice-types.result.now c.args.fields.now c.args.types.now c.as_slice-fields.ensures.fields c.as_slice-types.ensures.fields (λ e. absurd (omega (arith, e, c.if-fields-types.true)))

pub fields_within-is_within-requires : goal.fields_within-is_within-requires
fields_within-is_within-requires t c =
    let h = height-held c.as_slice-fields.result.now _ c.loop-index.index c.index-fields-index.result c.as_slice-fields.ensures.fields c.loop-index-test.true c.index-fields-index.is in
    let short : c.loop-index.index < length c.as_slice-types.result.now = omega (arith, c.loop-index-test.true, c.if-fields-types.false) in
    (omega (arith, h), proper-field c.as_slice-types.result.now c.args.types.now c.loop-index.index c.index-types-index.result c.as_slice-types.ensures.fields short c.index-types-index.is c.requires)

pub is_within-returns-in-Array-Array : goal.is_within-returns-in-Array-Array
is_within-returns-in-Array-Array t c =
    let vs = values_of c.in-Array-Array.items in
    let e = c.get.ensures in
    let ty = ap (λ (u : Ty). written u) c.in-Array-Array.is-1 in
    c.are_within.ensures ∙ sym (ap (λ (u : Token). is_below (type_of_value (value_of u)) (written c.args.ty.now)) c.in-Array-Array.is-0 ∙ ap (is_below (type_of_value (value.Array vs))) ty ∙ ap (λ u. is_below (type_of_value (value.Array vs)) (Array u)) (sym e) ∙ array-within vs (written c.get.result.now) (ap (λ u. is_proper (Array u)) e ∙ sym (ap is_proper ty) ∙ c.requires))

pub is_within-returns-in-Record-Record : goal.is_within-returns-in-Record-Record
is_within-returns-in-Record-Record t c =
    let fs = named_of c.in-Record-Record.fields in
    let ty = ap (λ (u : Ty). written u) c.in-Record-Record.is-1 in
    c.fields_within.ensures ∙ sym (ap (λ (u : Token). is_below (type_of_value (value_of u)) (written c.args.ty.now)) c.in-Record-Record.is-0 ∙ ap (is_below (type_of_value (value.Record fs))) ty ∙ record-within fs (types_of c.in-Record-Record.types) (sym (ap is_proper ty) ∙ c.requires))
