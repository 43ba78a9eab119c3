use Rattle.std.proofs.Common.{◌≡◌, ◌++◌, ◌∷◌, [], sym, ap, ◌∙◌}
use Rattle.std.proofs.lemmas.Result.{IfOk-weaker}
use Rattle.pt_document.specs.declared.type_text.Next.{Next}
use Rattle.pt_document.specs.TypeWords.{go_on, stack_view, next_view}
use Rattle.pt_document.proofs.TypeWords.{behind-array, behind-record}
use Rattle.pt_document.proofs.type_text.go_on.Goals as goal

pub returns-in-Some-Array : goal.returns-in-Some-Array
returns-in-Some-Array c =
    c.behind_element.ensures ∙ sym (behind-array c.args.around.items c.pop.new.self.items c.args.text.now (c.in-Some-Array.ensures.items ∙ ap (λ o. c.pop.new.self.items ++ o ∷ []) c.in-Some-Array.field-0-is))

pub returns : goal.returns
returns c =
    IfOk-weaker c.behind_field.result _ (λ (next : Next). next_view next ≡ go_on (stack_view c.args.around.items) c.args.text.now)
    (λ next e. e ∙ sym (behind-record c.args.around.items c.pop.new.self.items c.in-Some-Record.names c.args.text.now (c.in-Some-Record.ensures.items ∙ ap (λ o. c.pop.new.self.items ++ o ∷ []) c.in-Some-Record.field-0-is))) c.behind_field.ensures
