-- How the state of a core is told apart from others.
use Rattle.std.specs.Prelude.{◌≡◌, ℕ, zero, suc, List, refl}
use Rattle.std.specs.Coded.{Coded, code_by, coded×, coded_ℕ, coded_list}
use Rattle.pt_meaning.specs.Tag.{Tag}
use Rattle.pt_meaning.specs.Streams.{Streams}
use Rattle.pt_meaning.specs.Log.{Meeting}
use Rattle.pt_meaning.specs.Machine.{Need}
use Rattle.pt_meaning.specs.Process.{Put}
use Rattle.pt_meaning.specs.Rendezvous.{Places}
use Rattle.pt_value.specs.declared.token.Token.{Token}
use Rattle.pt_puts.specs.Codes.{coded_streams, coded_need, coded_put}
use Rattle.pt_rv_laws.specs.State.{Processes, Stage, Idle, Open, Asked, Closed, RvState}
use Rattle.pt_rv_plan.specs.Codes.{coded_meeting, coded_processes}

abbrev coded_tag : Coded Tag
coded_tag = code_by (ℕ × ℕ) (coded× coded_ℕ coded_ℕ) (λ t. (t.time, t.step)) (λ p. record { time = p.0; step = p.1 }) (λ _. refl)

abbrev from_stage : Stage → ℕ × ℕ
from_stage Idle = (0, 0)
from_stage Open = (1, 0)
from_stage (Asked process) = (2, process)
from_stage Closed = (3, 0)

abbrev stage_at : ℕ → ℕ → Stage
stage_at zero process = Idle
stage_at (suc zero) process = Open
stage_at (suc (suc zero)) process = Asked process
stage_at (suc (suc (suc k))) process = Closed

abbrev to_stage : ℕ × ℕ → Stage
to_stage p = stage_at p.0 p.1

pub to_stage-from_stage : (s : Stage) → to_stage (from_stage s) ≡ s
to_stage-from_stage Idle = refl
to_stage-from_stage Open = refl
to_stage-from_stage (Asked process) = refl
to_stage-from_stage Closed = refl

abbrev coded_stage : Coded Stage
coded_stage = code_by (ℕ × ℕ) (coded× coded_ℕ coded_ℕ) from_stage to_stage to_stage-from_stage

abbrev coded_puts : Coded (List (List (Put Token)))
coded_puts = coded_list (coded_list coded_put)

abbrev coded_places : Coded (Places Token)
coded_places =
    code_by
    (List (Streams Token) × (List (List (Put Token)) × List (List (Put Token))))
    (coded× (coded_list coded_streams) (coded× coded_puts coded_puts))
    (λ h. (h.got, (h.puts, h.inputs)))
    (λ c. record { got = c.0; puts = c.1.0; inputs = c.1.1 })
    (λ _. refl)

abbrev pub coded_state : Coded (RvState Token)
coded_state =
    code_by
    (Processes × (List Need × (Places Token × (Streams Token × (List Meeting × (Tag × Stage))))))
    (coded× coded_processes (coded× (coded_list coded_need) (coded× coded_places (coded× coded_streams (coded× (coded_list coded_meeting) (coded× coded_tag coded_stage))))))
    (λ s. (s.processes, (s.needs, (s.places, (s.outputs, (s.met, (s.tag, s.stage)))))))
    (λ c. record { processes = c.0; needs = c.1.0; places = c.1.1.0; outputs = c.1.1.1.0; met = c.1.1.1.1.0; tag = c.1.1.1.1.1.0; stage = c.1.1.1.1.1.1 })
    (λ _. refl)
