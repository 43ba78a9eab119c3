-- What a contract sees of the channels of a composite.
use Rattle.std.specs.Prelude.{ℕ, List, refl}
use Rattle.std.specs.Coded.{Coded, code_by, coded×, coded_ℕ, coded_list}
pub use Rattle.pt_pool.specs.Queues.{list_at, spare_at, pushed, popped, moved, raised, lowered}

-- the tokens of each channel from front to back, and how many more each has room for
pub record Lines (T : Type 0) : Type 0 where
  pub lists : List (List T)
  pub spares : List ℕ

-- channels are stored as the pair of their fields
abbrev pub lines_code : {T : Type 0} → Coded T → Coded (Lines T)
lines_code {T} code =
    code_by (List (List T) × List ℕ) (coded× (coded_list (coded_list code)) (coded_list coded_ℕ)) (λ l. (l.lists, l.spares)) (λ p. record { lists = p.0; spares = p.1 }) (λ _. refl)
