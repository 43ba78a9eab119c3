use Rattle.std.proofs.Common.{◌≡◌, ℕ, ◌++◌, map, get_or, []}
use Rattle.pt_net.specs.declared.net.NetEntity.{NetEntity}
use Rattle.pt_typing.specs.Least.{assignment}
use Rattle.pt_facts.specs.CheckText.{typed}
use Rattle.pt_check.specs.Marked.{marked_types, all_marked}
use Rattle.pt_check.proofs.TypeLaws.{rest_of}
use Rattle.pt_check.proofs.types.types_by.Given as goal

abbrev pub invariant-loop-number : goal.invariant-loop-number
invariant-loop-number l =
    map typed l.types.items ++ rest_of (λ (e : ℕ × NetEntity). marked_types (assignment l.typing) e (get_or l.rows e.0 [])) l.entities l.number ≡ all_marked (assignment l.typing) l.entities l.rows
