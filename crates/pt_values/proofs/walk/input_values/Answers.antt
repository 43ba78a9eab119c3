use Rattle.std.proofs.Common.{◌≡◌, ◌+◌, ℕ, List, map, take, sym, subst, IfErr, rules}
use Rattle.std.specs.Prelude.{option_map, Option, Vec}
use Rattle.std.specs.Global.{Global}
use Rattle.std.specs.List.{AllZip}
use Rattle.std.proofs.lemmas.Result.{IfErr-weaker}
use Rattle.pt_value.specs.declared.token.Token.{Token}
use Rattle.pt_value.specs.Value.{Value}
use Rattle.pt_value.specs.Token.{value_of}
use Rattle.pt_document.specs.declared.refusal.DocFault.{DocFault}
use Rattle.pt_document.specs.View.{input_view}
use Rattle.pt_scopes.specs.Scopes.{NetTree}
use Rattle.pt_scopes.specs.Valued.{IsInputValued, IsFaultOf}
use Rattle.pt_scopes.proofs.Pushed.{zip-more}
use Rattle.pt_values.proofs.Walking.{input-fault}
use Rattle.pt_values.proofs.walk.input_values.Goals as goal

pub returns-in_err-input_tokens-clause-told : goal.returns-in_err-input_tokens-clause-told
returns-in_err-input_tokens-clause-told c =
    let fault = c.in_err-input_tokens.field-0.0 in
    let P : DocFault → Type 0 = λ f. (net : NetTree) → net.inputs ≡ map input_view c.args.inputs.now → IsFaultOf net f in
    let told : P fault = λ net is. input-fault net c.args.inputs.now is c.loop-input.input-index c.input-item.result c.loop-input-test.true c.input-item.is fault c.in_err-input_tokens.ensures.told in
    let h = c.from_residual-in_err-input_tokens.ensures in
    let same : IfErr c.from_residual-in_err-input_tokens.result (λ f. f ≡ fault) = search (rules, h) in
    IfErr-weaker c.from_residual-in_err-input_tokens.result (λ f. f ≡ fault) P (λ f e. subst P (sym e) told) same

pub loop-input-preserved : goal.loop-input-preserved
loop-input-preserved c =
    let view : Vec (Option Token) Global → List (Option Value) = λ ts. map (option_map value_of) ts.items in
    let more = zip-more IsInputValued input_view view c.args.inputs.now c.loop-input.input-index c.input-item.result c.loop-input-test.true c.input-item.is c.loop-input.values.items c.in_ok-input_tokens.field-0 c.loop-input.invariant c.in_ok-input_tokens.ensures.ok in
    subst (λ (ts : List (Vec (Option Token) Global)). AllZip IsInputValued (map input_view (take (c.loop-input.input-index + 1) c.args.inputs.now)) (map view ts)) (sym c.in_ok-push.ensures.items) more
