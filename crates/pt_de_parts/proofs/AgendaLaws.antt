-- What is seen of the wakes of children, and of which are due.
use Rattle.std.proofs.Common.{◌≡◌, ℕ, ◌<◌, List, Bool, length, Option, sym, ap, ◌∙◌, arith, length-set}
use Rattle.pt_meaning.specs.Tag.{Tag}
use Rattle.pt_wakes.specs.Due.{DueSet, with_due}
use Rattle.pt_wakes.specs.Moved.{with_woken}
use Rattle.pt_wakes.proofs.MovedLaws.{woken-long}
use Rattle.pt_de_parts.specs.Agenda.{Dates, IsAgenda}

-- children become due
pub woken-agenda : (tag : Tag) (wakes : List (Option Tag)) (due due' : DueSet) → IsAgenda wakes due → due' ≡ with_woken tag wakes due → IsAgenda wakes due'
woken-agenda tag wakes due due' a d = ap (λ (s : DueSet). length s.due) d ∙ woken-long tag wakes due.due (sym a) ∙ a

-- a child becomes due, or is due no more
pub set-agenda : (wakes : List (Option Tag)) (due due' : DueSet) (child : ℕ) (b : Bool) → IsAgenda wakes due → due' ≡ with_due due child b → IsAgenda wakes due'
set-agenda wakes due due' child b a d = ap (λ (s : DueSet). length s.due) d ∙ length-set due.due child b ∙ a

module _ (wakes : List (Option Tag)) (due due' : DueSet) (now : Dates) (v : (let d : Dates = record { wakes = wakes; set = due } in d) ≡ now) where
  pub there-seen : (child : ℕ) → child < length now.wakes → child < length wakes
  there-seen child h = let e = ap (λ (n : Dates). length n.wakes) v in omega (arith, h, e)

  pub woken-seen : (tag : Tag) → due' ≡ with_woken tag wakes due → (let d : Dates = record { wakes = wakes; set = due' } in d) ≡ record { wakes = now.wakes; set = with_woken tag now.wakes now.set }
  woken-seen tag e = ap (λ (s : DueSet). let d : Dates = record { wakes = wakes; set = s } in d) e ∙ ap (λ (n : Dates). let d : Dates = record { wakes = n.wakes; set = with_woken tag n.wakes n.set } in d) v

  pub set-seen : (child : ℕ) (b : Bool) → due' ≡ with_due due child b → (let d : Dates = record { wakes = wakes; set = due' } in d) ≡ record { wakes = now.wakes; set = with_due now.set child b }
  set-seen child b e = ap (λ (s : DueSet). let d : Dates = record { wakes = wakes; set = s } in d) e ∙ ap (λ (n : Dates). let d : Dates = record { wakes = n.wakes; set = with_due n.set child b } in d) v
