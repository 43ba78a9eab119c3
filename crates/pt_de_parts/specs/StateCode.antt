-- How the state of a core is told apart from others.
use Rattle.std.specs.Prelude.{◌≡◌, ℕ, zero, suc, List, [], Bool, Option, refl}
use Rattle.std.specs.Coded.{Coded, code_by, coded×, coded_ℕ, coded_list, coded_bool, coded_option}
use Rattle.pt_meaning.specs.Tag.{Tag}
use Rattle.pt_meaning.specs.Streams.{Streams}
use Rattle.pt_meaning.specs.Net.{Source, Own, Output}
use Rattle.pt_meaning.specs.Valuation.{TickPlan}
use Rattle.pt_value.specs.declared.token.Token.{Token}
use Rattle.pt_value.specs.Token.{coded_token}
use Rattle.pt_de_laws.specs.State.{Roles, Turn, Stage, Idle, Open, Listens, Asked, Between, Closed, DeState}
use Rattle.pt_de_parts.specs.Turns.{coded_turns}

abbrev from_source : Source → ℕ × (ℕ × ℕ)
from_source (Own port) = (0, (0, port))
from_source (Output child port) = (1, (child, port))

abbrev source_at : ℕ → ℕ → ℕ → Source
source_at zero child port = Own port
source_at (suc k) child port = Output child port

abbrev to_source : ℕ × (ℕ × ℕ) → Source
to_source p = source_at p.0 p.1.0 p.1.1

pub to_source-from_source : (s : Source) → to_source (from_source s) ≡ s
to_source-from_source (Own port) = refl
to_source-from_source (Output child port) = refl

abbrev coded_source : Coded Source
coded_source = code_by (ℕ × (ℕ × ℕ)) (coded× coded_ℕ (coded× coded_ℕ coded_ℕ)) from_source to_source to_source-from_source

abbrev numbers : Coded (List ℕ)
numbers = coded_list coded_ℕ

abbrev flags : Coded (List Bool)
flags = coded_list coded_bool

abbrev pub coded_plan : Coded TickPlan
coded_plan =
    code_by
    (List Source × (List ℕ × ℕ))
    (coded× (coded_list coded_source) (coded× numbers coded_ℕ))
    (λ p. (p.net.sources, (p.net.places, p.inputs)))
    (λ c. record { net = record { sources = c.0; places = c.1.0 }; inputs = c.1.1 })
    (λ _. refl)

abbrev coded_tag : Coded Tag
coded_tag = code_by (ℕ × ℕ) (coded× coded_ℕ coded_ℕ) (λ t. (t.time, t.step)) (λ p. record { time = p.0; step = p.1 }) (λ _. refl)

abbrev wakes : Coded (List (Option Tag))
wakes = coded_list (coded_option coded_tag)

abbrev pub coded_roles : Coded Roles
coded_roles =
    code_by
    (List ℕ × (List Bool × (List Bool × (List Bool × List (Option Tag)))))
    (coded× numbers (coded× flags (coded× flags (coded× flags wakes))))
    (λ r. (r.depths, (r.delayed, (r.early, (r.whole, r.starts)))))
    (λ c. record { depths = c.0; delayed = c.1.0; early = c.1.1.0; whole = c.1.1.1.0; starts = c.1.1.1.1 })
    (λ _. refl)

abbrev streams : Coded (Streams Token)
streams = coded_list (coded_list coded_token)

abbrev from_stage : Stage Token → ℕ × (ℕ × List (Streams Token))
from_stage Idle = (0, (0, []))
from_stage Open = (1, (0, []))
from_stage (Listens child) = (2, (child, []))
from_stage (Asked child rows) = (3, (child, rows))
from_stage (Between child rows) = (4, (child, rows))
from_stage Closed = (5, (0, []))

abbrev stage_at : ℕ → ℕ → List (Streams Token) → Stage Token
stage_at zero child rows = Idle
stage_at (suc zero) child rows = Open
stage_at (suc (suc zero)) child rows = Listens child
stage_at (suc (suc (suc zero))) child rows = Asked child rows
stage_at (suc (suc (suc (suc zero)))) child rows = Between child rows
stage_at (suc (suc (suc (suc (suc k))))) child rows = Closed

abbrev to_stage : ℕ × (ℕ × List (Streams Token)) → Stage Token
to_stage p = stage_at p.0 p.1.0 p.1.1

pub to_stage-from_stage : (s : Stage Token) → to_stage (from_stage s) ≡ s
to_stage-from_stage Idle = refl
to_stage-from_stage Open = refl
to_stage-from_stage (Listens child) = refl
to_stage-from_stage (Asked child rows) = refl
to_stage-from_stage (Between child rows) = refl
to_stage-from_stage Closed = refl

abbrev coded_stage : Coded (Stage Token)
coded_stage = code_by (ℕ × (ℕ × List (Streams Token))) (coded× coded_ℕ (coded× coded_ℕ (coded_list streams))) from_stage to_stage to_stage-from_stage

abbrev pub coded_state : Coded (DeState Token)
coded_state =
    code_by
    (TickPlan × (Roles × (List (Option Tag) × (Streams Token × (List Turn × (Tag × Stage Token))))))
    (coded× coded_plan (coded× coded_roles (coded× wakes (coded× streams (coded× coded_turns (coded× coded_tag coded_stage))))))
    (λ s. (s.plan, (s.roles, (s.wakes, (s.tokens, (s.turns, (s.tag, s.stage)))))))
    (λ c. record { plan = c.0; roles = c.1.0; wakes = c.1.1.0; tokens = c.1.1.1.0; turns = c.1.1.1.1.0; tag = c.1.1.1.1.1.0; stage = c.1.1.1.1.1.1 })
    (λ _. refl)
