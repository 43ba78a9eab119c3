-- A top that fires once: the firing, and the end after it.
use Rattle.std.proofs.Common.{◌≡◌, ℕ, zero, suc, ◌<◌, ◌≤◌, Option, refl, arith}
use Rattle.pt_meaning.specs.Basics.{Tag, Streams}
use Rattle.pt_meaning.specs.Tag.{origin}
use Rattle.pt_meaning.specs.Job.{Deadlock, Fire, Ends}
use Rattle.pt_meaning.specs.Schedule.{once_top}
use Rattle.pt_value.specs.declared.token.Token.{Token}
use Rattle.pt_node.specs.View.{Tree}

pub fires-first : (X : Streams Token) (n : ℕ) → n ≤ 0 → (last : Option Tag) (top : Tree) → once_top X n last top ≡ Fire origin X
fires-first X zero few last top = refl
fires-first X (suc n) few last top = absurd (omega (arith, few))

pub then-ends : (X : Streams Token) (n : ℕ) → 0 < n → (last : Option Tag) (top : Tree) → once_top X n last top ≡ Ends Deadlock
then-ends X zero some last top = absurd (omega (arith, some))
then-ends X (suc n) some last top = refl
