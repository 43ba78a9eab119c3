-- How the state of a core is told apart from others.
use Rattle.std.specs.Prelude.{◌≡◌, ℕ, zero, suc, List, refl}
use Rattle.std.specs.Coded.{Coded, code_by, coded×, coded_ℕ, coded_list}
use Rattle.pt_meaning.specs.Tag.{Tag}
use Rattle.pt_meaning.specs.Streams.{Streams}
use Rattle.pt_meaning.specs.Machine.{Need}
use Rattle.pt_meaning.specs.Process.{Put}
use Rattle.pt_meaning.specs.Places.{Halfway}
use Rattle.pt_value.specs.declared.token.Token.{Token}
use Rattle.pt_pn_laws.specs.State.{Network, Stage, Idle, Open, Asked, Closed, Blocked, PnState}
use Rattle.pt_puts.specs.Codes.{coded_streams, coded_need, coded_put}
use Rattle.pt_process.specs.Codes.{coded_network}

abbrev coded_tag : Coded Tag
coded_tag = code_by (ℕ × ℕ) (coded× coded_ℕ coded_ℕ) (λ t. (t.time, t.step)) (λ p. record { time = p.0; step = p.1 }) (λ _. refl)

abbrev from_stage : Stage → ℕ × ℕ
from_stage Idle = (0, 0)
from_stage Open = (1, 0)
from_stage (Asked process) = (2, process)
from_stage Closed = (3, 0)
from_stage Blocked = (4, 0)

abbrev stage_at : ℕ → ℕ → Stage
stage_at zero process = Idle
stage_at (suc zero) process = Open
stage_at (suc (suc zero)) process = Asked process
stage_at (suc (suc (suc zero))) process = Closed
stage_at (suc (suc (suc (suc k)))) process = Blocked

abbrev to_stage : ℕ × ℕ → Stage
to_stage p = stage_at p.0 p.1

pub to_stage-from_stage : (s : Stage) → to_stage (from_stage s) ≡ s
to_stage-from_stage Idle = refl
to_stage-from_stage Open = refl
to_stage-from_stage (Asked process) = refl
to_stage-from_stage Closed = refl
to_stage-from_stage Blocked = refl

abbrev coded_stage : Coded Stage
coded_stage = code_by (ℕ × ℕ) (coded× coded_ℕ coded_ℕ) from_stage to_stage to_stage-from_stage

abbrev coded_halfway : Coded (Halfway Token)
coded_halfway =
    code_by
    (Streams Token × (Streams Token × List (List (Put Token))))
    (coded× coded_streams (coded× coded_streams (coded_list (coded_list coded_put))))
    (λ h. (h.gathered, (h.queued, h.puts)))
    (λ c. record { gathered = c.0; queued = c.1.0; puts = c.1.1 })
    (λ _. refl)

abbrev pub coded_state : Coded (PnState Token)
coded_state =
    code_by
    (Network Token × (List Need × (List ℕ × (Halfway Token × (Tag × Stage)))))
    (coded× coded_network (coded× (coded_list coded_need) (coded× (coded_list coded_ℕ) (coded× coded_halfway (coded× coded_tag coded_stage)))))
    (λ s. (s.network, (s.needs, (s.capacity, (s.halfway, (s.tag, s.stage))))))
    (λ c. record { network = c.0; needs = c.1.0; capacity = c.1.1.0; halfway = c.1.1.1.0; tag = c.1.1.1.1.0; stage = c.1.1.1.1.1 })
    (λ _. refl)
