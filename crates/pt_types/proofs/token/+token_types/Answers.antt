use Rattle.std.proofs.Common.{◌≡◌, ℕ, ◌≤◌, ◌<◌, ◌+◌, ◌-◌, List, length, get_or, drop, map, refl, sym, ap, ◌∙◌, arith}
use Rattle.pt_value.specs.Value.{values_of}
use Rattle.pt_value.specs.Token.{value_of}
use Rattle.pt_value.specs.declared.token.Token.{Token}
use Rattle.pt_datatypes.specs.Datatype.{types_of}
use Rattle.pt_datatypes.specs.Join.{join}
use Rattle.pt_datatypes.specs.Normal.{normal, record_of}
use Rattle.pt_datatypes.specs.Token.{type_of_value, join_of, typed_fields}
use Rattle.pt_types.specs.Ty.{written, type_of}
use Rattle.pt_types.specs.declared.ty.Ty.{Ty}
use Rattle.pt_types.proofs.TokenTypes.{height-item, height-held, join-next, typed-lawful, typed-types, all-taken}
use Rattle.pt_types.proofs.token.+token_types.Goals as goal

-- one part more joined
one_more : (ts : List Token) (left : ℕ) (token : Token) (joined more : Ty) → 0 < left → left ≤ length ts → written joined ≡ join_of (values_of (map value_of (drop left ts))) → token ≡ get_or ts (left - 1) token → written more ≡ join (normal (type_of_value (value_of token))) (type_of joined) → (written more ≡ join_of (values_of (map value_of (drop (left - 1) ts)))) × (left - 1 ≤ length ts)
one_more ts left token joined more some within rest is joins =
    let n = left - 1 in
    let short : n < length ts = omega (arith, within, some) in
    let up : left ≡ n + 1 = omega (arith, some) in
    (join-next ts n token _ _ _ short is refl (rest ∙ ap (λ k. join_of (values_of (map value_of (drop k ts)))) up) joins, omega (arith, short))

pub join_of-joined_with-requires : goal.join_of-joined_with-requires
join_of-joined_with-requires t c =
    let short : c.loop-left.left - 1 < length c.as_slice-tokens.result.now = omega (arith, c.loop-left.invariant.within, c.loop-left-test.true) in
    let h = height-item c.as_slice-tokens.result.now _ (c.loop-left.left - 1) c.index-tokens-left.result c.as_slice-tokens.ensures.values short c.index-tokens-left.is in
    (omega (arith, h), tt)

pub types_of_fields-typed_field-requires : goal.types_of_fields-typed_field-requires
types_of_fields-typed_field-requires t c =
    let h = height-held c.as_slice-field-items.result.now _ c.loop-field.field-index c.field-item.result c.as_slice-field-items.ensures.fields c.loop-field-test.true c.field-item.is in
    (omega (arith, h), tt)

pub join_of-loop-left-preserved : goal.join_of-loop-left-preserved
join_of-loop-left-preserved t c =
    let more = one_more c.as_slice-tokens.result.now c.loop-left.left _ c.loop-left.joined c.in_ok-joined.joined c.loop-left-test.true c.loop-left.invariant.within c.loop-left.invariant.rest c.index-tokens-left.is c.in_ok-joined.ensures in
    record { rest = more.0; within = more.1 }

pub type_of_token-returns-in_ok-types_of_fields-in-Record : goal.type_of_token-returns-in_ok-types_of_fields-in-Record
type_of_token-returns-in_ok-types_of_fields-in-Record t c =
    c.record.ensures ∙ ap (λ ts. record_of (types_of ts)) c.in_ok-types_of_fields-in-Record.ensures ∙ ap record_of (typed-types c.in-Record.fields) ∙ ap (λ (tok : Token). type_of_value (value_of tok)) (sym c.in-Record.is)

pub types_of_fields-sorted-requires : goal.types_of_fields-sorted-requires
types_of_fields-sorted-requires t c =
    typed-lawful c.args.fields.now _ (c.loop-field.invariant ∙ ap typed_fields (all-taken _ _ _ c.loop-field-test.false c.as_slice-field-items.ensures.fields)) c.as_slice-field-items.ensures.lawful
