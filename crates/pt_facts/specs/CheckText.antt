-- The text of a check: the types of ports, the repetitions of the children of SDF composites, the depths of those of DE composites, and the end.
use Rattle.std.specs.Prelude.{ℕ, List, ◌++◌, flat_map, codes, decimal}
use Rattle.pt_datatypes.specs.Datatype.{Datatype}
use Rattle.pt_types.specs.declared.ty.Ty.{Ty}
use Rattle.pt_types.specs.Ty.{type_of}
use Rattle.pt_types.specs.Printed.{printed}

-- a word with a blank behind it, a path and a number
abbrev pub number_line : (word path : List ℕ) → ℕ → List ℕ
number_line word path n = word ++ (path ++ (codes " " ++ (decimal n ++ codes "\n")))

-- the type of a port
abbrev pub type_line : List ℕ → Datatype → List ℕ
type_line port type = codes "type " ++ (port ++ (codes " " ++ (printed type ++ codes "\n")))

abbrev pub type_lines : List (List ℕ × Datatype) → List ℕ
type_lines types = flat_map (λ t. type_line t.0 t.1) types

-- how often a child fires in an iteration of its composite
abbrev pub repetitions_lines : List (List ℕ × ℕ) → List ℕ
repetitions_lines repetitions = flat_map (λ r. number_line (codes "repetitions ") r.0 r.1) repetitions

-- the depth of a child
abbrev pub depths_lines : List (List ℕ × ℕ) → List ℕ
depths_lines depths = flat_map (λ d. number_line (codes "depth ") d.0 d.1) depths

abbrev pub check_text : List (List ℕ × Datatype) → (repetitions depths : List (List ℕ × ℕ)) → List ℕ
check_text types repetitions depths = ((type_lines types ++ repetitions_lines repetitions) ++ depths_lines depths) ++ codes "end accepted\n"

-- ---- what the program holds

-- a port with its type
abbrev pub typed : List ℕ × Ty → List ℕ × Datatype
typed t = (t.0, type_of t.1)
