-- Records: values under names, ascending by name.
use Rattle.std.specs.Prelude.{◌≡◌, ℕ, ◌<◌, List, [], ◌∷◌, length, map, All, AllPairs, count_by, Option, Some, None, if◌then◌else◌}
use Rattle.std.specs.Str.{bytes_eq}
use Rattle.std.specs.Ordering.{nat_cmp}
use Rattle.std.specs.Cmp.Lexicographic.{slice_cmp}
use Rattle.std.specs.declared.cmp.Ordering.TheVariants.{Less}
use Rattle.pt_value.specs.Name.{IsName}
use Rattle.pt_value.specs.Value.{Value}

-- the names of some fields
abbrev pub names : List (List ℕ × Value) → List (List ℕ)
names fs = map (λ f. f.0) fs

-- the first name comes before the second, byte by byte
abbrev pub IsBelow : List ℕ → List ℕ → Type 0
IsBelow m n = slice_cmp nat_cmp m n ≡ Less

-- the fields of a record: one at least, each under a name, each name below all later ones
pub record IsRecord (fs : List (List ℕ × Value)) : Type 0 where
  pub some : 0 < length fs
  pub named : All IsName (names fs)
  pub ascending : AllPairs IsBelow (names fs)

-- the name stands there more than once
abbrev pub IsRepeated : List (List ℕ) → List ℕ → Type 0
IsRepeated ns n = 1 < count_by (bytes_eq n) ns

-- the value under a name
abbrev pub field_at : List (List ℕ × Value) → List ℕ → Option Value
field_at [] n = None
field_at (f ∷ fs) n = if bytes_eq f.0 n then Some f.1 else field_at fs n
