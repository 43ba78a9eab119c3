-- Which texts say types.
use Rattle.std.proofs.Common.{◌≡◌, ℕ, List, Option, Some, None, sym, ap, ◌∙◌}
use Rattle.std.specs.Prelude.{option_map, MatchOption}
use Rattle.std.specs.Option.{is_some}
use Rattle.pt_document.specs.TypeTexts.{TypeTree, IsTextOf}
use Rattle.pt_document.proofs.TypeSound.{taken_is_text}
use Rattle.pt_types.specs.declared.ty.Ty.{Ty}
use Rattle.pt_datatypes.specs.Datatype.{Datatype}
use Rattle.pt_types.specs.Ty.{type_of}
use Rattle.pt_inequalities.specs.Typing.{said}
use Rattle.pt_said.specs.SaidWords.{Says, type_in}
use Rattle.pt_inequalities.proofs.Steps.{some-same}
use Rattle.pt_said.proofs.SaidLaws.{read_is_said}
use Rattle.pt_said.proofs.SaidChecked.{type_in-taken}

pub no_type : (text : List ℕ) → type_in text ≡ None → (read : TypeTree) → IsTextOf text read → ⊥
no_type text none read is = let e : Some (said read) ≡ None = sym (read_is_said text read is) ∙ none in cc

pub one_type : (text : List ℕ) (t : Datatype) → type_in text ≡ Some t → Says text t
one_type text t one =
    let there = taken_is_text text (sym (type_in-taken text) ∙ ap is_some one) in
    record { read = there.0; reads = there.1; says = some-same t (said there.0) (sym one ∙ read_is_said text there.0 there.1) }

-- the answer of the program
pub told : (text : List ℕ) (t : Option Ty) → option_map type_of t ≡ type_in text → MatchOption t ((read : TypeTree) → IsTextOf text read → ⊥) (λ ty. Says text (type_of ty))
told text None e = no_type text (sym e)
told text (Some t) e = one_type text (type_of t) (sym e)
