-- What a map from names to values holds.
use Rattle.std.specs.Prelude.{ℕ, zero, suc, List, [], ◌∷◌, Option, Some, None, Box, String, true, false, ◌≡◌, if◌then◌else◌, box_value}
use Rattle.std.specs.Global.{Global}
use Rattle.std.specs.HashMap.{HashMap}
use Rattle.std.specs.Str.{bytes_eq}
use Rattle.indexmap.specs.IndexMap.{get_by_text}
use Rattle.pt_name_map.specs.declared.name_map.Entry.{Entry}
use Rattle.pt_name_map.specs.declared.name_map.NameMap.{NameMap}

-- the value of the first entry with the name
abbrev pub listed : {V : Type 0} → List (Entry V) → List ℕ → Option V
listed [] name = None
listed (entry ∷ entries) name = if bytes_eq entry.name name then Some entry.value else listed entries name

-- the first entry with the name stands at this place
abbrev pub IsPlace : {V : Type 0} → List (Entry V) → List ℕ → ℕ → Type 0
IsPlace [] name place = ⊥
IsPlace (entry ∷ entries) name zero = bytes_eq entry.name name ≡ true
IsPlace (entry ∷ entries) name (suc place) = (bytes_eq entry.name name ≡ false) × IsPlace entries name place

abbrev pub or_else : {V : Type 0} → Option V → Option V → Option V
or_else (Some value) other = Some value
or_else None other = other

-- the value under a name in a table by hash, where there is a table
abbrev pub hashed : {V S A B : Type 0} → Option (Box (HashMap (String A) V S) B) → List ℕ → Option V
hashed None name = None
hashed (Some table) name = get_by_text (box_value table) name

-- the value under a name: that of the list, or else the one that is found by the hash of the name
abbrev pub held : {V : Type 0} → NameMap V → List ℕ → Option V
held map name = or_else (listed map.few.items name) (hashed map.others name)
