-- How meetings, and what contracts see of the plan of a Rendezvous composite, are told apart from others.
use Rattle.std.specs.Prelude.{◌≡◌, ℕ, zero, suc, List, Bool, refl}
use Rattle.std.specs.Coded.{Coded, code_by, coded×, coded_bool, coded_ℕ, coded_list}
use Rattle.pt_meaning.specs.Log.{Meeting, Channel, Barrier}
use Rattle.pt_meaning.specs.Machine.{Need}
use Rattle.pt_meaning.specs.Net.{Source, Own, Output}
use Rattle.pt_meaning.specs.Rendezvous.{RvPlan}
use Rattle.pt_puts.specs.Codes.{coded_need}
use Rattle.pt_rv_laws.specs.State.{Processes}

abbrev from_meeting : Meeting → ℕ × ℕ
from_meeting (Channel c) = (0, c)
from_meeting (Barrier b) = (1, b)

abbrev meeting_at : ℕ → ℕ → Meeting
meeting_at zero n = Channel n
meeting_at (suc k) n = Barrier n

abbrev to_meeting : ℕ × ℕ → Meeting
to_meeting p = meeting_at p.0 p.1

pub to_meeting-from_meeting : (m : Meeting) → to_meeting (from_meeting m) ≡ m
to_meeting-from_meeting (Channel c) = refl
to_meeting-from_meeting (Barrier b) = refl

abbrev pub coded_meeting : Coded Meeting
coded_meeting = code_by (ℕ × ℕ) (coded× coded_ℕ coded_ℕ) from_meeting to_meeting to_meeting-from_meeting

abbrev from_source : Source → ℕ × (ℕ × ℕ)
from_source (Own port) = (0, (0, port))
from_source (Output child port) = (1, (child, port))

abbrev source_at : ℕ → ℕ → ℕ → Source
source_at zero child port = Own port
source_at (suc k) child port = Output child port

abbrev to_source : ℕ × (ℕ × ℕ) → Source
to_source p = source_at p.0 p.1.0 p.1.1

pub to_source-from_source : (s : Source) → to_source (from_source s) ≡ s
to_source-from_source (Own port) = refl
to_source-from_source (Output child port) = refl

abbrev coded_source : Coded Source
coded_source = code_by (ℕ × (ℕ × ℕ)) (coded× coded_ℕ (coded× coded_ℕ coded_ℕ)) from_source to_source to_source-from_source

abbrev numbers : Coded (List ℕ)
numbers = coded_list coded_ℕ

abbrev coded_plan : Coded RvPlan
coded_plan =
    code_by
    (List Source × (List ℕ × (List Bool × List ℕ)))
    (coded× (coded_list coded_source) (coded× numbers (coded× (coded_list coded_bool) numbers)))
    (λ p. (p.net.sources, (p.net.places, (p.barriers, p.takes))))
    (λ c. record { net = record { sources = c.0; places = c.1.0 }; barriers = c.1.1.0; takes = c.1.1.1 })
    (λ _. refl)

abbrev pub coded_processes : Coded Processes
coded_processes = code_by (RvPlan × List Need) (coded× coded_plan (coded_list coded_need)) (λ p. (p.plan, p.starts)) (λ c. record { plan = c.0; starts = c.1 }) (λ _. refl)
