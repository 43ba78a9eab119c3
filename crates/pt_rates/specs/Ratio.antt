-- Ratios in lowest terms, and greatest common divisors.
use Rattle.std.specs.Prelude.{◌≡◌, ℕ, ◌*◌, ◌<◌, ◌≤◌}
use Rattle.std.specs.Int.{◌∣◌}

-- g divides x and y, and what divides a multiple of both divides the same multiple of g
pub record IsGreatestDivisor (x y g : ℕ) : Type 0 where
  pub first : g ∣ x
  pub second : g ∣ y
  pub multiples : (times d : ℕ) → d ∣ times * x → d ∣ times * y → d ∣ times * g

-- a to b is the ratio of x to y in lowest terms: it is the same ratio, and what makes x and y equal is a multiple of b and a
pub record IsLowest (x y a b : ℕ) : Type 0 where
  pub first : (0 < a) × (a ≤ x)
  pub second : (0 < b) × (b ≤ y)
  pub same : b * x ≡ a * y
  pub multiples : (c d : ℕ) → c * x ≡ d * y → (times : ℕ) × (c ≡ times * b) × (d ≡ times * a)
