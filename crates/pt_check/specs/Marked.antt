-- The types that are told where ports are marked.
use Rattle.std.specs.Prelude.{ℕ, List, [], get_or, flat_map, Bool, false, ◌||◌}
use Rattle.std.specs.List.{enumerate_from}
use Rattle.pt_datatypes.specs.Datatype.{Datatype}
use Rattle.pt_typing.specs.Least.{Assignment}
use Rattle.pt_net.specs.declared.net.NetEntity.{NetEntity}
use Rattle.pt_net.specs.Inside.{is_output}
use Rattle.pt_check.specs.Types.{port_type, told_if}

-- of an entity with its number, the types of the ports that are marked or outputs
abbrev pub marked_types : Assignment → ℕ × NetEntity → List Bool → List (List ℕ × Datatype)
marked_types typing e marks = flat_map (λ p. told_if (get_or marks p.0 false || is_output p.1) (port_type typing e.0 e.1 p.0 p.1)) (enumerate_from 0 e.1.ports.items)

-- of some entities, with a row of marks for each
abbrev pub all_marked : Assignment → List NetEntity → List (List Bool) → List (List ℕ × Datatype)
all_marked typing es rows = flat_map (λ e. marked_types typing e (get_or rows e.0 [])) (enumerate_from 0 es)
