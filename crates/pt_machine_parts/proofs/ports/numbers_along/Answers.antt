use Rattle.std.proofs.Common.{◌≡◌, ℕ, List, map, ap, subst, ◌∙◌}
use Rattle.std.proofs.lemmas.Result.{IfOk-weaker, IfErr-weaker}
use Rattle.pt_net.specs.Net.{entity_view}
use Rattle.pt_machine.specs.Names.{names_along}
use Rattle.pt_machine_parts.specs.Told.{IsTold}
use Rattle.pt_machine_parts.specs.Texts.{Name, texts}
use Rattle.pt_machine_parts.specs.Numbered.{numbers_view, IsStrange}
use Rattle.pt_machine_parts.proofs.ports.numbers_along.Goals as goal

pub returns-clause-ok : goal.returns-clause-ok
returns-clause-ok c =
    let same : texts c.deref.result.now ≡ names_along c.args.direction (entity_view c.args.child.now).ports = ap (λ (ns : List Name). texts ns) c.deref.ensures.value ∙ c.in_ok-names.ensures in
    IfOk-weaker c.all_numbers.result _ _ (λ found h. h ∙ ap (λ (ns : List (List ℕ)). map (numbers_view c.args.numbers.now) ns) same) c.all_numbers.ensures.ok

pub returns-clause-told : goal.returns-clause-told
returns-clause-told c =
    let same : texts c.deref.result.now ≡ names_along c.args.direction (entity_view c.args.child.now).ports = ap (λ (ns : List Name). texts ns) c.deref.ensures.value ∙ c.in_ok-names.ensures in
    IfErr-weaker c.all_numbers.result _ _ (λ fault h. subst (λ (ns : List (List ℕ)). IsTold (IsStrange (numbers_view c.args.numbers.now) ns) fault) same h) c.all_numbers.ensures.told
