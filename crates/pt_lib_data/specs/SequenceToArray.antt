-- SequenceToArray: the array of so many tokens.
use Rattle.std.specs.Prelude.{ℕ, nat_le, pos, unsigned_abs, length, take, List, Option, option_map, codes, if◌then◌else◌}
use Rattle.pt_meaning.specs.Basics.{Streams, at}
use Rattle.pt_value.specs.declared.token.Token.{Token}
use Rattle.pt_firing.specs.Params.{int_within}
use Rattle.pt_lib_data.specs.ElementsToArray.{array_of}
use Rattle.pt_lib_data.specs.Reply.{Reply, nothing, sized}

abbrev pub give : ℕ → Streams Token → Reply
give count X = if nat_le count (length (at X 0)) then sized (array_of (take count (at X 0))) else nothing

-- a length from 1 to 1,000,000
abbrev pub start : List (List ℕ × Token) → Option ℕ
start values = option_map unsigned_abs (int_within (codes "arrayLength") (pos 1) (pos 1) (pos 1000000) values)
