-- The wakes of the children, and which of them are due.
use Rattle.std.specs.Prelude.{◌≡◌, List, length, Option, refl}
use Rattle.std.specs.Coded.{Coded, code_by, coded×}
use Rattle.pt_meaning.specs.Tag.{Tag}
use Rattle.pt_wakes.specs.Codes.{coded_wakes, coded_due}
use Rattle.pt_wakes.specs.Due.{DueSet}
use Rattle.pt_de_parts.specs.declared.agenda.Agenda.TheInside.{Inside}

-- the wake of each child, and which children are due
pub record Dates : Type 0 where
  pub wakes : List (Option Tag)
  pub set : DueSet

abbrev pub coded_dates : Coded Dates
coded_dates = code_by (List (Option Tag) × DueSet) (coded× coded_wakes coded_due) (λ s. (s.wakes, s.set)) (λ p. record { wakes = p.0; set = p.1 }) (λ _. refl)

abbrev pub dates_in : Inside → Dates
dates_in a = record { wakes = a.wakes; set = a.due }

-- each child has a wake, which may be none, and is due or isn't
abbrev pub IsAgenda : List (Option Tag) → DueSet → Type 0
IsAgenda wakes due = length due.due ≡ length wakes
