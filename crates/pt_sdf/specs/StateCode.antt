-- How the state of a core is told apart from others.
use Rattle.std.specs.Prelude.{◌≡◌, ℕ, zero, suc, List, [], refl}
use Rattle.std.specs.Coded.{Coded, code_by, coded×, coded_ℕ, coded_list}
use Rattle.pt_meaning.specs.Tag.{Tag}
use Rattle.pt_meaning.specs.Streams.{Streams}
use Rattle.pt_meaning.specs.Net.{Source, Own, Output}
use Rattle.pt_meaning.specs.Sdf.{SdfPlan}
use Rattle.pt_sdf.specs.State.{Stage, Idle, Open, Asked, Handed, Wrong, Closed, SdfState}

abbrev from_source : Source → ℕ × (ℕ × ℕ)
from_source (Own port) = (0, (0, port))
from_source (Output child port) = (1, (child, port))

abbrev source_at : ℕ → ℕ → ℕ → Source
source_at zero child port = Own port
source_at (suc k) child port = Output child port

abbrev to_source : ℕ × (ℕ × ℕ) → Source
to_source p = source_at p.0 p.1.0 p.1.1

pub to_source-from_source : (s : Source) → to_source (from_source s) ≡ s
to_source-from_source (Own port) = refl
to_source-from_source (Output child port) = refl

abbrev pub coded_source : Coded Source
coded_source = code_by (ℕ × (ℕ × ℕ)) (coded× coded_ℕ (coded× coded_ℕ coded_ℕ)) from_source to_source to_source-from_source

abbrev numbers : Coded (List ℕ)
numbers = coded_list coded_ℕ

abbrev pub coded_plan : Coded SdfPlan
coded_plan =
    code_by
    (List Source × (List ℕ × (List ℕ × (List ℕ × (List ℕ × List (List ℕ))))))
    (coded× (coded_list coded_source) (coded× numbers (coded× numbers (coded× numbers (coded× numbers (coded_list numbers))))))
    (λ p. (p.net.sources, (p.net.places, (p.repetitions, (p.takes, (p.gives, p.rates))))))
    (λ c. record { net = record { sources = c.0; places = c.1.0 }; repetitions = c.1.1.0; takes = c.1.1.1.0; gives = c.1.1.1.1.0; rates = c.1.1.1.1.1 })
    (λ _. refl)

abbrev pub coded_tag : Coded Tag
coded_tag = code_by (ℕ × ℕ) (coded× coded_ℕ coded_ℕ) (λ t. (t.time, t.step)) (λ p. record { time = p.0; step = p.1 }) (λ _. refl)

module _ {T : Type 0} where
  abbrev from_stage : Stage T → ℕ × (ℕ × Streams T)
  from_stage Idle = (0, (0, []))
  from_stage Open = (1, (0, []))
  from_stage (Asked child inputs) = (2, (child, inputs))
  from_stage (Handed child inputs) = (3, (child, inputs))
  from_stage (Wrong child) = (4, (child, []))
  from_stage Closed = (5, (0, []))

  abbrev stage_at : ℕ → ℕ → Streams T → Stage T
  stage_at zero child inputs = Idle
  stage_at (suc zero) child inputs = Open
  stage_at (suc (suc zero)) child inputs = Asked child inputs
  stage_at (suc (suc (suc zero))) child inputs = Handed child inputs
  stage_at (suc (suc (suc (suc zero)))) child inputs = Wrong child
  stage_at (suc (suc (suc (suc (suc k))))) child inputs = Closed

  abbrev to_stage : ℕ × (ℕ × Streams T) → Stage T
  to_stage p = stage_at p.0 p.1.0 p.1.1

  pub to_stage-from_stage : (s : Stage T) → to_stage (from_stage s) ≡ s
  to_stage-from_stage Idle = refl
  to_stage-from_stage Open = refl
  to_stage-from_stage (Asked child inputs) = refl
  to_stage-from_stage (Handed child inputs) = refl
  to_stage-from_stage (Wrong child) = refl
  to_stage-from_stage Closed = refl

  abbrev pub coded_stage : Coded T → Coded (Stage T)
  coded_stage code = code_by (ℕ × (ℕ × Streams T)) (coded× coded_ℕ (coded× coded_ℕ (coded_list (coded_list code)))) from_stage to_stage to_stage-from_stage

  abbrev pub coded_state : Coded T → Coded (SdfState T)
  coded_state code =
      code_by
      (SdfPlan × (List ℕ × (Streams T × (Streams T × (List ℕ × (ℕ × (Tag × Stage T)))))))
      (coded× coded_plan (coded× numbers (coded× (coded_list (coded_list code)) (coded× (coded_list (coded_list code)) (coded× numbers (coded× coded_ℕ (coded× coded_tag (coded_stage code))))))))
      (λ s. (s.plan, (s.needs, (s.first, (s.held, (s.fired, (s.turns, (s.tag, s.stage))))))))
      (λ c. record { plan = c.0; needs = c.1.0; first = c.1.1.0; held = c.1.1.1.0; fired = c.1.1.1.1.0; turns = c.1.1.1.1.1.0; tag = c.1.1.1.1.1.1.0; stage = c.1.1.1.1.1.1.1 })
      (λ _. refl)
