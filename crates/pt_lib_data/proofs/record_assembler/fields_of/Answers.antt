use Rattle.std.proofs.Common.{◌≡◌, ◌<◌, ◌+◌, ◌++◌, [], drop, length, map, sym, ap, ◌∙◌, append-nil, arith}
use Rattle.pt_firing.specs.Row.{token_at}
use Rattle.pt_value.specs.Token.{entry_of_pair}
use Rattle.pt_lib_data.specs.RecordAssembler.{fields}
use Rattle.pt_lib_data.proofs.Assembled.{fields-next, no-fields, field-append}
use Rattle.pt_lib_data.proofs.record_assembler.fields_of.Goals as goal

pub loop-place-preserved : goal.loop-place-preserved
loop-place-preserved c =
    let ns = c.as_slice-names.result.now in
    let X = c.args.inputs.now in
    let n = c.loop-place.place in
    let name = c.index-names-place.result in
    let before = map entry_of_pair c.loop-place.pairs.items in
    let rest = fields (drop (n + 1) ns) (drop (n + 1) X) in
    let short : n < length ns = omega arith in
    ap (λ fs. fs ++ rest) c.in_ok-push_field.ensures ∙ field-append name (token_at X n) before rest ∙ ap (λ fs. before ++ fs) (sym (fields-next ns X n name short c.index-names-place.is)) ∙ c.loop-place.invariant

pub returns : goal.returns
returns c =
    let ns = c.as_slice-names.result.now in
    let X = c.args.inputs.now in
    let all = map entry_of_pair c.loop-place.pairs.items in
    sym (append-nil all) ∙ ap (λ fs. all ++ fs) (sym (no-fields ns X c.loop-place.place (omega arith))) ∙ c.loop-place.invariant ∙ ap (λ ks. fields ks X) c.as_slice-names.ensures
