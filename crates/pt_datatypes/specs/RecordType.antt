-- Record types: types under names, ascending by name.
use Rattle.std.specs.Prelude.{ℕ, ◌<◌, List, length, map, All, AllPairs}
use Rattle.pt_value.specs.Name.{IsName}
use Rattle.pt_value.specs.Record.{IsBelow}
use Rattle.pt_datatypes.specs.Datatype.{Datatype}

-- the names of some fields
abbrev pub names : List (List ℕ × Datatype) → List (List ℕ)
names fs = map (λ f. f.0) fs

-- names of a record: one at least, each a name, each below all later ones
pub record AreRecordNames (ns : List (List ℕ)) : Type 0 where
  pub some : 0 < length ns
  pub named : All IsName ns
  pub ascending : AllPairs IsBelow ns

-- the fields of a record type
abbrev pub IsRecordType : List (List ℕ × Datatype) → Type 0
IsRecordType fs = AreRecordNames (names fs)
