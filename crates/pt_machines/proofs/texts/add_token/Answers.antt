use Rattle.std.proofs.Common.{◌≡◌, ◌++◌, ◌∷◌, [], ℕ, List, Option, Some, option_to_list, sym, ap, ◌∙◌}
use Rattle.pt_value.specs.declared.token.Token.{Token}
use Rattle.pt_machine.specs.Machines.{seen_token}
use Rattle.pt_inequalities.proofs.Steps.{append-none}
use Rattle.pt_machines.specs.Sites.{scope_at}
use Rattle.pt_machines.proofs.TextLaws.{token-there, none-there}
use Rattle.pt_machines.proofs.texts.add_token.Goals as goal

pub returns-in_ok-push-in-Some : goal.returns-in_ok-push-in-Some
returns-in_ok-push-in-Some c =
    let name = c.args.name.now in
    let old = c.args.seen.now.items in
    let around = (scope_at c.args.site.now).around in
    let held = c.seen.ensures ∙ ap around c.as_str-key.ensures in
    let there : Some (name, c.in-Some.token.now) ≡ seen_token around name = token-there name c.seen.result (around name) c.in-Some.token held c.in-Some.is in
    c.in_ok-push-in-Some.ensures.items
    ∙ (λ j. old ++ (c.in_ok-name-in-Some.ensures j, c.in_ok-token-in-Some.ensures.value j) ∷ [])
    ∙ ap (λ (o : Option (List ℕ × Token)). old ++ option_to_list o) there

pub returns-in-None : goal.returns-in-None
returns-in-None c =
    let name = c.args.name.now in
    let old = c.args.seen.now.items in
    let around = (scope_at c.args.site.now).around in
    let held = c.seen.ensures ∙ ap around c.as_str-key.ensures in
    sym (append-none old) ∙ ap (λ (o : Option (List ℕ × Token)). old ++ option_to_list o) (none-there name c.seen.result (around name) held c.in-None.is)
