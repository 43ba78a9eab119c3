-- Why an expression has no type.
use Rattle.std.specs.Prelude.{◌≡◌, IsFalse}
use Rattle.pt_language.specs.Tree.{Tree}
use Rattle.pt_language.specs.declared.type_fault.TypeFault.{TypeFault}
use Rattle.pt_language.specs.declared.type_fault.TypeFault.TheVariants as fault
use Rattle.pt_language.specs.Typing as typing
use Rattle.pt_language.specs.Types.{Types}
use Rattle.pt_language.specs.TreeType.{tree_type, are_bound}

-- what stands of a tree, by the fault that is told: some name isn't bound, or there is a clash whichever types such names have
abbrev pub Stands : Types → Tree → TypeFault → Type 0
Stands types tree fault.Name = IsFalse (are_bound types tree)
Stands types tree fault.Clash = tree_type types tree ≡ typing.Clash
Stands types tree fault.Memory = Unit {0}
