use Rattle.std.proofs.Common.{ℕ, List, ap, ◌∙◌}
use Rattle.std.proofs.lemmas.Result.{IfOk-weaker}
use Rattle.pt_machine.specs.Numbers.{number_of}
use Rattle.pt_machine_parts.specs.Texts.{Name, texts}
use Rattle.pt_machine_parts.proofs.modal.numbers_of_variables.Goals as goal

pub returns : goal.returns
returns c =
    IfOk-weaker c.of.result _ _
    (λ numbers h name. h name ∙ ap (λ (ns : List (List ℕ)). number_of ns name) (ap (λ (ns : List Name). texts ns) c.deref.ensures.value ∙ c.in_ok-found.ensures))
    c.of.ensures
