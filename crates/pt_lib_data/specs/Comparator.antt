-- Comparator: whether its left input is in a relation to its right one.
use Rattle.std.specs.Prelude.{ℕ, ℤ, int_lt, int_le, List, Bool, Option, Some, None, codes, bytes_eq, if◌then◌else◌}
use Rattle.std.specs.Ordering.{int_eq}
use Rattle.pt_meaning.specs.Basics.{Streams}
use Rattle.pt_value.specs.declared.token.Token.{Token}
use Rattle.pt_value.specs.declared.token.Token.TheVariants as token
use Rattle.pt_firing.specs.Row.{number_at}
use Rattle.pt_lib_data.specs.declared.comparator.Relation.{Relation}
use Rattle.pt_lib_data.specs.declared.comparator.Relation.TheVariants.{Less, LessEqual, Greater, GreaterEqual, Equal}
use Rattle.pt_lib_data.specs.Params.{text_or}
use Rattle.pt_lib_data.specs.Reply.{Reply, one, nothing}

abbrev pub holds : Relation → ℤ → ℤ → Bool
holds Less a b = int_lt a b
holds LessEqual a b = int_le a b
holds Greater a b = int_lt b a
holds GreaterEqual a b = int_le b a
holds Equal a b = int_eq a b

abbrev pub compared : Relation → Option ℤ → Option ℤ → Reply
compared relation (Some a) (Some b) = one (token.Bool (holds relation a b))
compared relation (Some a) None = nothing
compared relation None b = nothing

abbrev pub give : Relation → Streams Token → Reply
give relation X = compared relation (number_at X 0) (number_at X 1)

abbrev pub relation_of : List ℕ → Option Relation
relation_of text = if bytes_eq text (codes "<") then Some Less else (if bytes_eq text (codes "<=") then Some LessEqual else (if bytes_eq text (codes ">") then Some Greater else (if bytes_eq text (codes ">=") then Some GreaterEqual else (if bytes_eq text (codes "==") then Some Equal else None))))

abbrev pub relation_by : Option (List ℕ) → Option Relation
relation_by None = None
relation_by (Some text) = relation_of text

-- by its parameter comparison, else the greater
abbrev pub start : List (List ℕ × Token) → Option Relation
start values = relation_by (text_or (codes "comparison") (codes ">") values)
