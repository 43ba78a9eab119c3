-- Parameters and tokens of actors that take or give several tokens in a firing. Their numbers are from 1 to 1,000,000.
use Rattle.std.specs.Prelude.{ℕ, zero, suc, ◌*◌, ◌≤◌, nat_le, ℤ, pos, int_le, int_lt, unsigned_abs, ◌&&◌, List, [], ◌++◌, Option, Some, None, codes, if◌then◌else◌}
use Rattle.std.specs.List.{AllByRecursion}
use Rattle.pt_meaning.specs.Machine.{Need, Over, Counts, Any}
use Rattle.pt_value.specs.declared.token.Token.{Token}
use Rattle.pt_firing.specs.Params.{int_or, int_within}

-- a factor, and a phase from 0 to the factor minus 1
abbrev pub phased : Option ℤ → Option ℤ → Option (ℕ × ℕ)
phased (Some factor) (Some phase) = if int_le (pos 0) phase && int_lt phase factor then Some (unsigned_abs factor, unsigned_abs phase) else None
phased (Some factor) None = None
phased None phase = None

abbrev pub factor_and_phase : List (List ℕ × Token) → Option (ℕ × ℕ)
factor_and_phase values = phased (int_within (codes "factor") (pos 2) (pos 1) (pos 1000000) values) (int_or (codes "phase") (pos 0) values)

-- how often a block is given, and its size; at most 1,000,000 tokens in all
abbrev pub repeated_block : Option ℤ → Option ℤ → Option (ℕ × ℕ)
repeated_block (Some times) (Some size) = if nat_le (unsigned_abs times * unsigned_abs size) 1000000 then Some (unsigned_abs times, unsigned_abs size) else None
repeated_block (Some times) None = None
repeated_block None size = None

abbrev pub times_and_size : List (List ℕ × Token) → Option (ℕ × ℕ)
times_and_size values = repeated_block (int_within (codes "numberOfTimes") (pos 2) (pos 1) (pos 1000000) values) (int_within (codes "blockSize") (pos 1) (pos 1) (pos 1000000) values)

-- a list so many times
abbrev pub repeated : {T : Type 0} → ℕ → List T → List T
repeated zero xs = []
repeated (suc n) xs = xs ++ repeated n xs

-- a number of tokens that an actor takes or gives in a firing
pub record IsCount (n : ℕ) : Type 0 where
  pub least : 1 ≤ n
  pub most : n ≤ 1000000

-- what a need counts are such numbers
abbrev pub IsCounted : Need → Type 0
IsCounted Over = Unit {0}
IsCounted (Counts counts) = AllByRecursion IsCount counts
IsCounted Any = Unit {0}
