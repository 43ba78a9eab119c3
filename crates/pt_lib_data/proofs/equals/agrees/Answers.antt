use Rattle.std.proofs.Common.{◌≡◌, Some, ap, ◌∙◌, rules}
use Rattle.pt_firing.specs.Row.{token_at}
use Rattle.pt_lib_data.specs.Equals.{is_this}
use Rattle.pt_lib_data.proofs.Tokens.{same-is}
use Rattle.pt_lib_data.proofs.equals.agrees.Goals as goal

pub returns-in-Some : goal.returns-in-Some
returns-in-Some c =
    let here : Some c.in-Some.other.now ≡ token_at c.args.inputs.now c.args.place = search rules in
    same-is c.same.result c.args.token.now c.in-Some.other.now c.same.ensures ∙ ap (is_this c.args.token.now) here
