-- A job comes to one outcome: its meaning has one end at most, and none beside a stuck place, at whatever fuel each is seen. So no report of a job that ends tells a fault, or another end.
use Rattle.std.specs.Prelude.{◌≡◌, ℕ, List}
use Rattle.pt_meaning.specs.Tag.{Tag}
use Rattle.pt_meaning.specs.Log.{Log, Path}
use Rattle.pt_meaning.specs.Machine.{Fault}
use Rattle.pt_meaning.specs.Meetings.{Meets}
use Rattle.pt_meaning.specs.Tree.{Rows, Node}
use Rattle.pt_meaning.specs.Job.{Schedule, End, IsMeaning, EndsBy, IsStuckPlace}
use Rattle.pt_meaning.specs.Headline.{Port, Defined, Faulty, IsReportOf}
use Rattle.pt_meaning.specs.Lawful.{LawfulRows}

-- a meaning that ends has no other end, no stuck place, and one whole log
pub record OneOutcome (T A : Type 0) : Type 0 where
  pub one_end : (rows : Rows T A) → LawfulRows rows → (m : Meets) (plan : Schedule T A) (top : Node T A) (e e' : End) → EndsBy rows m plan top e → EndsBy rows m plan top e' → e' ≡ e
  pub no_place : (rows : Rows T A) → LawfulRows rows → (m : Meets) (plan : Schedule T A) (top : Node T A) (e : End) (f : Fault) → EndsBy rows m plan top e → IsStuckPlace rows m plan top f → ⊥
  pub one_log : (rows : Rows T A) (m : Meets) (plan : Schedule T A) (top : Node T A) (l l' : Log T) → IsMeaning rows m plan top l → IsMeaning rows m plan top l' → (p : Path) → l' p ≡ l p

-- a report of a job that ends, under the meetings that it tells, tells no fault, and no other end; and one of a job without stuck places tells no fault
pub record ReportsAgree (T A : Type 0) : Type 0 where
  pub no_fault : (rows : Rows T A) → LawfulRows rows → (m : Meets) (plan : Schedule T A) (top : Node T A) (e : End) (recorded : List Port) (budget : ℕ) (maximum counts : Path → ℕ) (traces : List (List (Tag × T))) (f : Fault) → EndsBy rows m plan top e → IsReportOf rows m plan top recorded budget maximum counts traces (Faulty f) → ⊥
  pub its_end : (rows : Rows T A) → LawfulRows rows → (m : Meets) (plan : Schedule T A) (top : Node T A) (e e' : End) (recorded : List Port) (budget : ℕ) (maximum counts : Path → ℕ) (traces : List (List (Tag × T))) → EndsBy rows m plan top e → IsReportOf rows m plan top recorded budget maximum counts traces (Defined e') → e' ≡ e
  pub never_told : (rows : Rows T A) (m : Meets) (plan : Schedule T A) (top : Node T A) (recorded : List Port) (budget : ℕ) (maximum counts : Path → ℕ) (traces : List (List (Tag × T))) (f : Fault) → ((g : Fault) → IsStuckPlace rows m plan top g → ⊥) → IsReportOf rows m plan top recorded budget maximum counts traces (Faulty f) → ⊥
