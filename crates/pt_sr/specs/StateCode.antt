-- How the state of a core is told apart from others.
use Rattle.std.specs.Prelude.{◌≡◌, ℕ, zero, suc, List, Bool, refl}
use Rattle.std.specs.Coded.{Coded, code_by, coded×, coded_ℕ, coded_list, coded_bool}
use Rattle.pt_meaning.specs.Tag.{Tag}
use Rattle.pt_meaning.specs.Machine.{Partial}
use Rattle.pt_meaning.specs.Net.{Source, Own, Output}
use Rattle.pt_meaning.specs.Valuation.{TickPlan}
use Rattle.pt_value.specs.declared.token.Token.{Token}
use Rattle.pt_firing.specs.PartialCode.{coded_partial}
use Rattle.pt_sr.specs.State.{Stage, Idle, Open, Asked, Listens, Wrong, Closed, TickState, SrState}

abbrev from_source : Source → ℕ × (ℕ × ℕ)
from_source (Own port) = (0, (0, port))
from_source (Output child port) = (1, (child, port))

abbrev source_at : ℕ → ℕ → ℕ → Source
source_at zero child port = Own port
source_at (suc k) child port = Output child port

abbrev to_source : ℕ × (ℕ × ℕ) → Source
to_source p = source_at p.0 p.1.0 p.1.1

pub to_source-from_source : (s : Source) → to_source (from_source s) ≡ s
to_source-from_source (Own port) = refl
to_source-from_source (Output child port) = refl

abbrev pub coded_source : Coded Source
coded_source = code_by (ℕ × (ℕ × ℕ)) (coded× coded_ℕ (coded× coded_ℕ coded_ℕ)) from_source to_source to_source-from_source

abbrev numbers : Coded (List ℕ)
numbers = coded_list coded_ℕ

abbrev pub coded_plan : Coded TickPlan
coded_plan =
    code_by
    (List Source × (List ℕ × ℕ))
    (coded× (coded_list coded_source) (coded× numbers coded_ℕ))
    (λ p. (p.net.sources, (p.net.places, p.inputs)))
    (λ c. record { net = record { sources = c.0; places = c.1.0 }; inputs = c.1.1 })
    (λ _. refl)

abbrev pub coded_tag : Coded Tag
coded_tag = code_by (ℕ × ℕ) (coded× coded_ℕ coded_ℕ) (λ t. (t.time, t.step)) (λ p. record { time = p.0; step = p.1 }) (λ _. refl)

abbrev from_stage : Stage → ℕ × ℕ
from_stage Idle = (0, 0)
from_stage Open = (1, 0)
from_stage (Asked child) = (2, child)
from_stage (Listens child) = (3, child)
from_stage (Wrong child) = (4, child)
from_stage Closed = (5, 0)

abbrev stage_at : ℕ → ℕ → Stage
stage_at zero child = Idle
stage_at (suc zero) child = Open
stage_at (suc (suc zero)) child = Asked child
stage_at (suc (suc (suc zero))) child = Listens child
stage_at (suc (suc (suc (suc zero)))) child = Wrong child
stage_at (suc (suc (suc (suc (suc k))))) child = Closed

abbrev to_stage : ℕ × ℕ → Stage
to_stage p = stage_at p.0 p.1

pub to_stage-from_stage : (s : Stage) → to_stage (from_stage s) ≡ s
to_stage-from_stage Idle = refl
to_stage-from_stage Open = refl
to_stage-from_stage (Asked child) = refl
to_stage-from_stage (Listens child) = refl
to_stage-from_stage (Wrong child) = refl
to_stage-from_stage Closed = refl

abbrev pub coded_stage : Coded Stage
coded_stage = code_by (ℕ × ℕ) (coded× coded_ℕ coded_ℕ) from_stage to_stage to_stage-from_stage

abbrev pub coded_tick : Coded (TickState Token)
coded_tick =
    code_by
    (TickPlan × (List Bool × (List (Partial Token) × (List Bool × List ℕ))))
    (coded× coded_plan (coded× (coded_list coded_bool) (coded× (coded_list coded_partial) (coded× (coded_list coded_bool) numbers))))
    (λ s. (s.plan, (s.nonstrict, (s.known, (s.fired, s.heard)))))
    (λ c. record { plan = c.0; nonstrict = c.1.0; known = c.1.1.0; fired = c.1.1.1.0; heard = c.1.1.1.1 })
    (λ _. refl)

abbrev pub coded_state : Coded (SrState Token)
coded_state =
    code_by
    (TickState Token × (Tag × Stage))
    (coded× coded_tick (coded× coded_tag coded_stage))
    (λ s. (s.tick, (s.tag, s.stage)))
    (λ c. record { tick = c.0; tag = c.1.0; stage = c.1.1 })
    (λ _. refl)
