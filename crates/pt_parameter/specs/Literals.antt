-- Trees that come to the same wherever they stand.
use Rattle.std.specs.Prelude.{Option, Some, None}
use Rattle.pt_value.specs.Value.{Value, Int}
use Rattle.pt_language.specs.Tree as tree
use Rattle.pt_language.specs.Tree.{Tree}

-- the value of a literal of an integer
abbrev pub literal_of : Tree → Option Value
literal_of (tree.Int n) = Some (Int n)
literal_of _ = None
