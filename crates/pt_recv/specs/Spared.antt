-- What a contract sees of a queue.
use Rattle.std.specs.Prelude.{ℕ, List, refl}
use Rattle.std.specs.Coded.{Coded, code_by, coded×, coded_ℕ, coded_list}

-- the items from front to back, and how many more have room
pub record Spared (T : Type 0) : Type 0 where
  pub list : List T
  pub spare : ℕ

-- a queue is stored as the pair of its fields
abbrev pub spared_code : {T : Type 0} → Coded T → Coded (Spared T)
spared_code {T} code =
    code_by (List T × ℕ) (coded× (coded_list code) coded_ℕ) (λ q. (q.list, q.spare)) (λ p. record { list = p.0; spare = p.1 }) (λ _. refl)
