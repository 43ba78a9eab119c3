use Rattle.std.proofs.Common.{◌≡◌, ◌++◌, ◌∷◌, [], sym, ap, ◌∙◌}
use Rattle.std.proofs.lemmas.Result.{IfOk-weaker}
use Rattle.pt_types.specs.Ty.{type_of}
use Rattle.pt_said.specs.declared.said.Next.{Next}
use Rattle.pt_said.specs.SaidWords.{go_on, stack_view, next_view}
use Rattle.pt_said.proofs.SaidWords.{behind-record}
use Rattle.pt_said.proofs.said.go_on.Goals as goal

pub returns : goal.returns
returns c =
    let t = type_of c.args.ty in
    let text = c.args.text.now in
    IfOk-weaker c.behind_part.result _ (λ (next : Next). next_view next ≡ go_on t (stack_view c.args.around.items) text)
    (λ next e. e ∙ sym (behind-record t c.args.around.items c.pop.new.self.items c.in-Some-Record.unclosed text (c.in-Some-Record.ensures.items ∙ ap (λ o. c.pop.new.self.items ++ o ∷ []) c.in-Some-Record.field-0-is))) c.behind_part.ensures
