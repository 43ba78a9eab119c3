-- The bytes of a text.
use Rattle.std.specs.Prelude.{ℕ, List, string_bytes}
use Rattle.pt_value.specs.declared.text.Held.{Held}
use Rattle.pt_value.specs.declared.text.Held.TheVariants.{Few, Many}

abbrev pub held_bytes : Held → List ℕ
held_bytes (Few s) = s.bytes
held_bytes (Many s) = string_bytes s
