-- How the state of a core is told apart from others, where its machine is.
use Rattle.std.specs.Prelude.{◌≡◌, ℕ, zero, suc, List, Option, refl}
use Rattle.std.specs.Coded.{Coded, code_by, coded×, coded_ℕ, coded_list, coded_option}
use Rattle.pt_meaning.specs.Tag.{Tag}
use Rattle.pt_meaning.specs.Streams.{Streams}
use Rattle.pt_meaning.specs.Modal.{Modes, Stay}
use Rattle.pt_value.specs.Token.{coded_token}
use Rattle.pt_value.specs.declared.token.Token.{Token}
use Rattle.pt_modal_laws.specs.State.{ModalPlan, Stage, Idle, Due, Asked, Resets, Over, Closed, Failed, ModalState}

abbrev coded_tag : Coded Tag
coded_tag = code_by (ℕ × ℕ) (coded× coded_ℕ coded_ℕ) (λ t. (t.time, t.step)) (λ p. record { time = p.0; step = p.1 }) (λ _. refl)

abbrev coded_wakes : Coded (List (Option Tag))
coded_wakes = coded_list (coded_option coded_tag)

abbrev coded_streams : Coded (Streams Token)
coded_streams = coded_list (coded_list coded_token)

abbrev coded_stay : Coded Stay
coded_stay = code_by (ℕ × ℕ) (coded× coded_ℕ coded_ℕ) (λ r. (r.standing, r.lag)) (λ p. record { standing = p.0; lag = p.1 }) (λ _. refl)

abbrev pub coded_modes : Coded (Modes Token)
coded_modes =
    code_by
    (ℕ × (List Token × List Stay))
    (coded× coded_ℕ (coded× (coded_list coded_token) (coded_list coded_stay)))
    (λ m. (m.mode, (m.values, m.stays)))
    (λ c. record { mode = c.0; values = c.1.0; stays = c.1.1 })
    (λ _. refl)

abbrev from_stage : Stage → ℕ × ℕ
from_stage Idle = (0, 0)
from_stage (Due i) = (1, i)
from_stage (Asked i) = (2, i)
from_stage (Resets i) = (3, i)
from_stage Over = (4, 0)
from_stage Closed = (5, 0)
from_stage (Failed code) = (6, code)

abbrev stage_at : ℕ → ℕ → Stage
stage_at zero i = Idle
stage_at (suc zero) i = Due i
stage_at (suc (suc zero)) i = Asked i
stage_at (suc (suc (suc zero))) i = Resets i
stage_at (suc (suc (suc (suc zero)))) i = Over
stage_at (suc (suc (suc (suc (suc zero))))) i = Closed
stage_at (suc (suc (suc (suc (suc (suc k)))))) i = Failed i

abbrev to_stage : ℕ × ℕ → Stage
to_stage p = stage_at p.0 p.1

pub to_stage-from_stage : (s : Stage) → to_stage (from_stage s) ≡ s
to_stage-from_stage Idle = refl
to_stage-from_stage (Due i) = refl
to_stage-from_stage (Asked i) = refl
to_stage-from_stage (Resets i) = refl
to_stage-from_stage Over = refl
to_stage-from_stage Closed = refl
to_stage-from_stage (Failed code) = refl

abbrev pub coded_stage : Coded Stage
coded_stage = code_by (ℕ × ℕ) (coded× coded_ℕ coded_ℕ) from_stage to_stage to_stage-from_stage

module _ {M : Type 0} (coded : Coded M) where
  abbrev pub coded_plan : Coded (ModalPlan M)
  coded_plan = code_by (M × List (Option Tag)) (coded× coded coded_wakes) (λ p. (p.machine, p.starts)) (λ c. record { machine = c.0; starts = c.1 }) (λ _. refl)

  abbrev pub coded_state : Coded (ModalState Token M)
  coded_state =
      code_by
      (ModalPlan M × (Modes Token × (List (Option Tag) × (Tag × (Streams Token × (Streams Token × Stage))))))
      (coded× coded_plan (coded× coded_modes (coded× coded_wakes (coded× coded_tag (coded× coded_streams (coded× coded_streams coded_stage))))))
      (λ s. (s.plan, (s.modes, (s.wakes, (s.tag, (s.inputs, (s.outputs, s.stage)))))))
      (λ c. record { plan = c.0; modes = c.1.0; wakes = c.1.1.0; tag = c.1.1.1.0; inputs = c.1.1.1.1.0; outputs = c.1.1.1.1.1.0; stage = c.1.1.1.1.1.1 })
      (λ _. refl)
