use Rattle.std.proofs.Common.{◌≡◌, ℕ, List, map, take}
use Rattle.pt_types.specs.Ty as ty
use Rattle.pt_language.specs.Types.{or_else}
use Rattle.pt_expr_type.specs.TypeEnv.{types_in}
use Rattle.pt_typing.specs.Terms.{named, itself}
use Rattle.pt_typing.specs.Views.{known_entry, assigned}
use Rattle.pt_typing.proofs.term.TreeTerm.names.Given as goal

abbrev pub invariant-loop-name : goal.invariant-loop-name
invariant-loop-name l = (name : List ℕ) → types_in l.env name ≡ named itself (map known_entry (take l.name-index l.name-items)) name

abbrev pub invariant-loop-name-2 : goal.invariant-loop-name-2
invariant-loop-name-2 l =
    (name : List ℕ) → types_in l.env name ≡ or_else (named (assigned l.numbers (map ty.type_of l.types)) (take l.name-index l.name-items) name) (named itself (map known_entry l.self.known.items) name)
