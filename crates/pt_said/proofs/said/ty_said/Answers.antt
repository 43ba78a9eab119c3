use Rattle.std.proofs.Common.{◌≡◌, Option}
use Rattle.std.specs.Prelude.{option_map, MatchOption}
use Rattle.std.proofs.lemmas.Result.{IfOk-weaker}
use Rattle.pt_types.specs.declared.ty.Ty.{Ty}
use Rattle.pt_types.specs.Ty.{type_of}
use Rattle.pt_document.specs.TypeTexts.{TypeTree, IsTextOf}
use Rattle.pt_said.specs.SaidWords.{Says, type_in}
use Rattle.pt_said.proofs.SaidTexts.{told}
use Rattle.pt_said.proofs.said.ty_said.Goals as goal

pub returns : goal.returns
returns c =
    IfOk-weaker c.type_in.result (λ (t : Option Ty). option_map type_of t ≡ type_in c.args.text.now) (λ (t : Option Ty). MatchOption t ((read : TypeTree) → IsTextOf c.args.text.now read → ⊥) (λ ty. Says c.args.text.now (type_of ty)))
    (λ t e. told c.args.text.now t e) c.type_in.ensures
