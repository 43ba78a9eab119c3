use Rattle.std.proofs.Common.{◌≡◌, IfOk, List, ℕ, map, sym, subst}
use Rattle.pt_types.specs.Ty as ty
use Rattle.pt_language.specs.Typing.{or_general}
use Rattle.pt_language.specs.TreeType as trees
use Rattle.pt_typing.specs.declared.variable.Variable.{Variable}
use Rattle.pt_typing.specs.declared.term.Term.{Term}
use Rattle.pt_typing.specs.Terms.{meaning, entry_in}
use Rattle.pt_typing.specs.Views.{term_view, assigned}
use Rattle.pt_typing.proofs.term.Term.value.Goals as goal

pub returns-in-RecordOf : goal.returns-in-RecordOf
returns-in-RecordOf c =
    let f = assigned c.args.numbers.now (map ty.type_of c.args.types.now) in
    let P : Term → Type 0 = λ s. IfOk c.record.result (λ t. ty.type_of t ≡ meaning f (term_view s)) in
    let Q : List (List ℕ × Variable) → Type 0 = λ xs. IfOk c.record.result (λ t. ty.type_of t ≡ or_general (trees.recorded (map (entry_in f) xs))) in
    subst P (sym c.in-RecordOf.is) (subst Q c.as_slice.ensures.value c.record.ensures)
