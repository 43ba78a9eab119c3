use Rattle.std.proofs.Common.{◌≡◌, Bool, true, false, if◌then◌else◌, refl}
use Rattle.pt_datatypes.specs.Datatype.{Datatype, General}
use Rattle.pt_language.specs.Comparable.{is_general}
use Rattle.pt_language.specs.Tree.{Tree}
use Rattle.pt_language.specs.Typing.{Typing, Has, Clash, or_general}
use Rattle.pt_language.specs.Types.{Types}
use Rattle.pt_language.specs.TreeType.{tree_type, are_bound, IsTyped}
use Rattle.pt_expr_type.proofs.laws.proper_trees_are_typed.Goals as goal

typed-by : (types : Types) (tree : Tree) (b : Bool) (p : Typing Datatype) → are_bound types tree ≡ b → tree_type types tree ≡ p → is_general (if b then or_general p else General) ≡ false → IsTyped types tree (if b then or_general p else General)
typed-by types tree true (Has t) e h k = record { bound = e; typed = h }
typed-by types tree true Clash e h k = cc
typed-by types tree false p e h k = cc

pub returns : goal.returns
returns c types tree = typed-by types tree (are_bound types tree) (tree_type types tree) refl refl
