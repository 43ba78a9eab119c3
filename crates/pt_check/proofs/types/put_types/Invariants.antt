use Rattle.std.proofs.Common.{◌≡◌, ℕ, ◌++◌, ◌||◌, map, get_or, false}
use Rattle.pt_document.specs.declared.job.Port.{Port}
use Rattle.pt_typing.specs.Least.{assignment}
use Rattle.pt_net.specs.Inside.{is_output}
use Rattle.pt_facts.specs.CheckText.{typed}
use Rattle.pt_check.specs.Types.{port_type, told_if}
use Rattle.pt_check.specs.Marked.{marked_types}
use Rattle.pt_check.proofs.TypeLaws.{rest_of}
use Rattle.pt_check.proofs.types.put_types.Given as goal

abbrev pub invariant-loop-index : goal.invariant-loop-index
invariant-loop-index l =
    map typed l.out.items ++ rest_of (λ (p : ℕ × Port). told_if (get_or l.marks p.0 false || is_output p.1) (port_type (assignment l.typing) l.number l.entity p.0 p.1)) l.entity.ports.items l.index
    ≡ map typed l.fn.out.items ++ marked_types (assignment l.typing) (l.number, l.entity) l.marks
