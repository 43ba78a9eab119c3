-- A list with a spare: the room for so many more.
use Rattle.std.specs.Prelude.{ℕ, List, refl}
use Rattle.std.specs.Coded.{Coded, code_by, coded×, coded_ℕ, coded_list}

pub record Spared (T : Type 0) : Type 0 where
  pub list : List T
  pub spare : ℕ

abbrev pub spared_code : {T : Type 0} → Coded T → Coded (Spared T)
spared_code {T} c = code_by (List T × ℕ) (coded× (coded_list c) coded_ℕ) (λ s. (s.list, s.spare)) (λ p. record { list = p.0; spare = p.1 }) (λ _. refl)
