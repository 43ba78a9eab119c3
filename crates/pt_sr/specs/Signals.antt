-- What is known of each channel, as flags and lists of tokens.
use Rattle.std.specs.Prelude.{◌≡◌, ℕ, suc, List, [], ◌∷◌, Bool, true, false, length}
use Rattle.pt_meaning.specs.Streams.{Streams}
use Rattle.pt_meaning.specs.Machine.{Partial, Unknown, Known}
use Rattle.pt_meaning.specs.Valuation.{tokens_of}

-- where its flag is raised a channel is known
abbrev pub signals_of : {T : Type 0} → List Bool → Streams T → List (Partial T)
signals_of [] X = []
signals_of (flag ∷ flags) [] = []
signals_of (true ∷ flags) (xs ∷ X) = Known xs ∷ signals_of flags X
signals_of (false ∷ flags) (xs ∷ X) = Unknown ∷ signals_of flags X

-- each channel has a flag and a list, and one that is unknown has no tokens
pub record AreSignals {T : Type 0} (flags : List Bool) (X : Streams T) : Type 0 where
  pub counted : length flags ≡ length X
  pub clear : tokens_of (signals_of flags X) ≡ X

-- how many flags are lowered
abbrev pub count_lowered : List Bool → ℕ
count_lowered [] = 0
count_lowered (true ∷ flags) = count_lowered flags
count_lowered (false ∷ flags) = suc (count_lowered flags)
