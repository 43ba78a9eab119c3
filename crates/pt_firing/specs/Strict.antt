-- A strict actor gives nothing early while an input is unknown, and once all are known what its step gives (the book, "Synchronous-Reactive Models").
use Rattle.std.specs.Prelude.{ℕ, List, Option, Some, None, map, replicate}
use Rattle.pt_meaning.specs.Basics.{Tag, Streams}
use Rattle.pt_meaning.specs.Machine.{Partial, Unknown, Known}
use Rattle.pt_meaning.specs.Valuation.{known}
use Rattle.pt_meaning.specs.Node.{Answer, Gives, Fails}

-- what an answer lets know of so many outputs: where the firing is stuck, nothing
abbrev pub told_by : {T A : Type 0} → ℕ → Answer T A → List (Partial T)
told_by ports (Gives next out) = map Known out
told_by ports (Fails code) = replicate ports Unknown

-- the same of a step whose inputs may not all be known
abbrev pub once_known : {T A : Type 0} → ℕ → (Streams T → Answer T A) → Option (Streams T) → List (Partial T)
once_known ports step None = replicate ports Unknown
once_known ports step (Some X) = told_by ports (step X)

-- the early answer of a strict actor with so many outputs, by its step
abbrev pub strict : {T A : Type 0} → ℕ → (Tag → A → Streams T → Answer T A) → Tag → A → List (Partial T) → List (Partial T)
strict ports step tag a vs = once_known ports (step tag a) (known vs)
