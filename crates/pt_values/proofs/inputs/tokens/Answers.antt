use Rattle.std.proofs.Common.{◌+◌, take, map, sym, subst, List}
use Rattle.std.specs.Prelude.{option_map, Option}
use Rattle.std.specs.List.{AllZip}
use Rattle.pt_value.specs.declared.token.Token.{Token}
use Rattle.pt_value.specs.Token.{value_of}
use Rattle.pt_scopes.specs.Valued.{IsSupplied}
use Rattle.pt_scopes.proofs.Pushed.{zip-next}
use Rattle.pt_values.proofs.inputs.tokens.Goals as goal

pub loop-text-preserved : goal.loop-text-preserved
loop-text-preserved c =
    let more = zip-next IsSupplied (option_map value_of) c.args.texts.now c.loop-text.text-index c.text-item.result c.loop-text-test.true c.text-item.is c.loop-text.tokens.items c.in_ok-token.field-0 c.loop-text.invariant c.in_ok-token.ensures.ok in
    subst (λ (ts : List (Option Token)). AllZip IsSupplied (take (c.loop-text.text-index + 1) c.args.texts.now) (map (option_map value_of) ts)) (sym c.in_ok-push.ensures.items) more
