use Rattle.std.proofs.Common.{◌≡◌, ℕ, List, map, ap, ◌∙◌}
use Rattle.std.proofs.lemmas.Result.{IfOk-weaker}
use Rattle.pt_document.specs.declared.job.Direction.TheVariants.{Output}
use Rattle.pt_net.specs.Net.{entity_view}
use Rattle.pt_machine.specs.Numbers.{Numbers, number_of}
use Rattle.pt_machine.specs.Names.{names_along}
use Rattle.pt_machine_parts.specs.Texts.{Name, texts}
use Rattle.pt_machine_parts.specs.Numbered.{numbers_view}
use Rattle.pt_machine_parts.proofs.ports.gives_of.Goals as goal

pub returns : goal.returns
returns c =
    let own = names_along Output (entity_view c.args.child.now).ports in
    let named : texts c.deref.result.now ≡ own = ap (λ (ns : List Name). texts ns) c.deref.ensures.value ∙ c.in_ok-names.ensures in
    let same : numbers_view c.in_ok-numbers.numbers ≡ number_of own = λ j name. (c.in_ok-numbers.ensures name ∙ ap (λ (ns : List (List ℕ)). number_of ns name) named) j in
    IfOk-weaker c.numbers_of.result _ _ (λ gives h. h ∙ ap (λ (g : Numbers). map g (texts c.args.output_names.now)) same) c.numbers_of.ensures
