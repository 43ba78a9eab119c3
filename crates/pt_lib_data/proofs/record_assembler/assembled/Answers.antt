use Rattle.std.proofs.Common.{map, sym, subst, Contains}
use Rattle.pt_value.specs.Value.{fields_of-named_of}
use Rattle.pt_value.specs.Token.{entry_of_pair}
use Rattle.pt_value.specs.Record.{IsRepeated, names}
use Rattle.pt_value.specs.Name.{IsName}
use Rattle.pt_value.specs.declared.token.Token.TheVariants as token
use Rattle.pt_lib_data.specs.Reply.{Tells, sized}
use Rattle.pt_lib_data.specs.RecordAssembler.{made}
use Rattle.pt_lib_data.proofs.Assembled.{makes, unmade-repeated, unmade-no_name, names-of}
use Rattle.pt_lib_data.proofs.record_assembler.assembled.Goals as goal

pub returns-in-Ok : goal.returns-in-Ok
returns-in-Ok c =
    let ps = map entry_of_pair c.args.fields.items in
    let fs = c.in-Ok.fields in
    let told = subst (λ gs. Tells (sized (token.Record gs)) c.sized.result) (sym (fields_of-named_of fs)) c.sized.ensures in
    subst (λ o. Tells (made o) c.sized.result) (sym (makes ps fs c.in-Ok.ensures.ok c.in-Ok.ensures.lawful)) told

pub returns-in-Err-Repeated : goal.returns-in-Err-Repeated
returns-in-Err-Repeated c =
    let ps = map entry_of_pair c.args.fields.items in
    let n = c.in-Err-Repeated.field-0-0 in
    let stands : IsRepeated (map (λ f. f.0) c.args.fields.items) n = rw c.in-Err-Repeated.field-0-is at c.in-Err-Repeated.ensures.err in
    let here : IsRepeated (names ps) n = subst (λ ns. IsRepeated ns n) (sym (names-of c.args.fields.items)) stands in
    subst (λ o. Tells (made o) c.nothing.result) (sym (unmade-repeated ps n here)) c.nothing.ensures

pub returns-in-Err-Name : goal.returns-in-Err-Name
returns-in-Err-Name c =
    let ps = map entry_of_pair c.args.fields.items in
    let n = c.in-Err-Name.field-0-0 in
    let stands : Contains (map (λ f. f.0) c.args.fields.items) n × ¬ IsName n = rw c.in-Err-Name.field-0-is at c.in-Err-Name.ensures.err in
    let here : Contains (names ps) n = subst (λ ns. Contains ns n) (sym (names-of c.args.fields.items)) stands.0 in
    subst (λ o. Tells (made o) c.nothing-in-Err-Name.result) (sym (unmade-no_name ps n here stands.1)) c.nothing-in-Err-Name.ensures
