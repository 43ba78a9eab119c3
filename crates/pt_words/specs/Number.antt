-- Numbers among the words of the command line.
use Rattle.std.specs.Prelude.{◌≡◌, ℕ, ◌≤◌, List, length}
use Rattle.std.specs.Str.Parse.{IsNumeral, digits_value}

-- the budget where no word gives one
abbrev pub usual_budget : ℕ
usual_budget = 1000000

abbrev pub greatest_budget : ℕ
greatest_budget = 1000000000

-- 1 to 10 decimal digits without a sign, which write this number
pub record IsNumber (text : List ℕ) (n : ℕ) : Type 0 where
  pub digits : IsNumeral 10 text
  pub few : length text ≤ 10
  pub value : n ≡ digits_value 10 text

-- a budget: such a number in its range
pub record IsBudget (text : List ℕ) (n : ℕ) : Type 0 where
  pub number : IsNumber text n
  pub positive : 1 ≤ n
  pub within : n ≤ greatest_budget
