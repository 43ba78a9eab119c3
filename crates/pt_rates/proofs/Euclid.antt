-- Euclid's algorithm, and what it says of two ratios.
use Rattle.std.proofs.Common.{◌≡◌, ℕ, zero, suc, ◌+◌, ◌*◌, ◌/◌, ◌%◌, ◌<◌, sym, ap, subst, ◌∙◌, arith}
use Rattle.std.specs.Int.{◌∣◌}
use Rattle.std.proofs.lemmas.Nat.Gcd.{dvd_refl, dvd-zero}
use Rattle.std.proofs.Math.Nat.{dvd-mul_left, dvd-mul_right_of_dvd, dvd-add_iff_right, dvd-mod_iff, dvd_of_mul-dvd-mul_right, div-mul_cancel, div-add-mod, div-le_self, eq_of_mul-eq-mul_right}
use Rattle.pt_rates.specs.Ratio.{IsGreatestDivisor, IsLowest}

-- a and b have the common divisors of x and y, and what divides a multiple of x and y divides that of a and b
pub record AreReduced (x y a b : ℕ) : Type 0 where
  pub down : (times d : ℕ) → d ∣ times * x → d ∣ times * y → (d ∣ times * a) × (d ∣ times * b)
  pub up : (d : ℕ) → d ∣ a → d ∣ b → (d ∣ x) × (d ∣ y)

pub reduced-start : (x y : ℕ) → AreReduced x y x y
reduced-start x y = record { down = λ t d p q. (p, q); up = λ d p q. (p, q) }

rest-divides : (t a b d : ℕ) → d ∣ t * a → d ∣ t * b → d ∣ t * (a % b)
rest-divides t a b d p q =
    let split : t * b * (a / b) + t * (a % b) ≡ t * a = omega (arith, ap (λ n. t * n) (div-add-mod a b)) in
    let whole : d ∣ t * b * (a / b) = dvd-mul_right_of_dvd _ q (a / b) in
    (dvd-add_iff_right _ whole).1 (subst (λ n. d ∣ n) (sym split) p)

pub reduced-step : (x y a b : ℕ) → AreReduced x y a b → AreReduced x y b (a % b)
reduced-step x y a b h = record {
  down = λ t d p q. let r = h.down t d p q in (r.1, rest-divides t a b d r.0 r.1);
  up = λ d p q. h.up d ((dvd-mod_iff _ p).0 q) p;
}

pub reduced-end : (x y a b : ℕ) → b ≡ 0 → AreReduced x y a b → IsGreatestDivisor x y a
reduced-end x y a b e h = record {
  first = (h.up a (dvd_refl a) (subst (λ n. a ∣ n) (sym e) (dvd-zero a))).0;
  second = (h.up a (dvd_refl a) (subst (λ n. a ∣ n) (sym e) (dvd-zero a))).1;
  multiples = λ t d p q. (h.down t d p q).0;
}

-- a divisor of a positive number, and the quotient, are positive
factors_positive : (q g n : ℕ) → q * g ≡ n → 0 < n → (0 < q) × (0 < g)
factors_positive zero g n e p = absurd (omega (arith, e))
factors_positive (suc q) zero n e p = absurd (omega (arith, e))
factors_positive (suc q) (suc g) n e p = (omega arith, omega arith)

rearranged : (c p q g : ℕ) → c * q * (p * g) ≡ c * p * (q * g)
rearranged c p q g = omega arith

-- numbers whose multiples by x and y are equal are multiples of the reduced y and x by one number
equal_multiples : (g x y a b : ℕ) → IsGreatestDivisor x y g → 0 < x → 0 < y → a * x ≡ b * y → (c : ℕ) × (a ≡ c * (y / g)) × (b ≡ c * (x / g))
equal_multiples g x y a b h px py e =
    let ex : x / g * g ≡ x = div-mul_cancel g h.first in
    let ey : y / g * g ≡ y = div-mul_cancel g h.second in
    let py' = factors_positive (y / g) g y ey py in
    let divides : y ∣ a * g = h.multiples a y (subst (λ n. y ∣ n) (sym e) (dvd-mul_left y b)) (dvd-mul_left y a) in
    let reduced : y / g ∣ a = dvd_of_mul-dvd-mul_right (y / g) py'.1 (subst (λ n. n ∣ a * g) (sym ey) divides) in
    let c : ℕ = a / (y / g) in
    let ea : c * (y / g) ≡ a = div-mul_cancel (y / g) reduced in
    (c, sym ea, cancel c (x / g) (y / g) g x y a b ex ey py (sym ea) e)
  where
    cancel : (c p q g x y a b : ℕ) → p * g ≡ x → q * g ≡ y → 0 < y → a ≡ c * q → a * x ≡ b * y → b ≡ c * p
    cancel c p q g x y a b ex ey py ea e =
        eq_of_mul-eq-mul_right y py b (c * p)
        (sym e ∙ ap (λ n. n * x) ea ∙ ap (λ n. c * q * n) (sym ex) ∙ rearranged c p q g ∙ ap (λ n. c * p * n) ey)

-- each of two numbers by the other's reduced one comes to the same
crosswise : (g x y : ℕ) → IsGreatestDivisor x y g → y / g * x ≡ x / g * y
crosswise g x y h = same (x / g) (y / g) g x y (div-mul_cancel g h.first) (div-mul_cancel g h.second)
  where
    same : (p q g x y : ℕ) → p * g ≡ x → q * g ≡ y → q * x ≡ p * y
    same p q g x y ex ey = omega (arith, ap (λ n. q * n) ex, ap (λ n. p * n) ey)

-- the divisor, and the ratio that it gives
pub divisor_positive : (g x y : ℕ) → IsGreatestDivisor x y g → 0 < x → 0 < g
divisor_positive g x y h px = (factors_positive (x / g) g x (div-mul_cancel g h.first) px).1

pub divided-lowest : (g x y : ℕ) → IsGreatestDivisor x y g → 0 < x → 0 < y → IsLowest x y (x / g) (y / g)
divided-lowest g x y h px py = record {
  first = ((factors_positive (x / g) g x (div-mul_cancel g h.first) px).0, div-le_self x g);
  second = ((factors_positive (y / g) g y (div-mul_cancel g h.second) py).0, div-le_self y g);
  same = crosswise g x y h;
  multiples = λ c d e. equal_multiples g x y c d h px py e;
}
