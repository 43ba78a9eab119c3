use Rattle.std.proofs.Common.{◌≡◌, List, [], ◌∷◌, length, ◌-◌, refl, ◌∙◌, arith}
use Rattle.std.specs.List.{slice_get}
use Rattle.pt_meaning.specs.Transitions.{last_of}
use Rattle.pt_guards.proofs.NameLaws.{last-index}
use Rattle.pt_guards.proofs.names.last.Goals as goal

last-is : {T : Type 0} (ts : List T) → slice_get ts (length ts - 1) ≡ last_of ts
last-is [] = refl
last-is (t ∷ ts) = last-index (t ∷ ts) (length (t ∷ ts) - 1) (omega arith)

pub returns : goal.returns
returns c = c.last.ensures.value ∙ last-is c.args.tokens.now
