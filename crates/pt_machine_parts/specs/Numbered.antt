-- What the program holds of names with their numbers.
use Rattle.std.specs.Prelude.{◌≡◌, ℕ, List, map, Option, Some, None}
use Rattle.std.specs.List.{Contains}
use Rattle.indexmap.specs.IndexMap.{get_by_text}
use Rattle.pt_machine.specs.declared.cause.Cause.{Cause}
use Rattle.pt_machine.specs.declared.cause.Cause.TheVariants.{Port}
use Rattle.pt_machine.specs.Numbers.{Numbers, number_of}
use Rattle.pt_machine_parts.specs.declared.numbers.Numbers.{Numbers as GivenNumbers}

abbrev pub numbers_view : GivenNumbers → Numbers
numbers_view n name = get_by_text n.numbers name

-- these are the numbers of these names
abbrev pub AreNumbersOf : List (List ℕ) → GivenNumbers → Type 0
AreNumbersOf names n = (name : List ℕ) → numbers_view n name ≡ number_of names name

abbrev pub some_numbers : List ℕ → List (Option ℕ)
some_numbers is = map (λ i. Some i) is

-- one of these names has no number, and the cause is that of a port
pub record IsStrange (numbers : Numbers) (names : List (List ℕ)) (why : Cause) : Type 0 where
  pub cause : why ≡ Port
  pub name : List ℕ
  pub there : Contains names name
  pub none : numbers name ≡ None
