-- How what contracts see of a network is told apart from others.
use Rattle.std.specs.Prelude.{◌≡◌, ℕ, zero, suc, List, refl}
use Rattle.std.specs.Coded.{Coded, code_by, coded×, coded_ℕ, coded_list}
use Rattle.pt_meaning.specs.Machine.{Need}
use Rattle.pt_meaning.specs.Streams.{Streams}
use Rattle.pt_meaning.specs.Net.{Source, Own, Output}
use Rattle.pt_meaning.specs.Pn.{PnPlan}
use Rattle.pt_pn_laws.specs.State.{Network}
use Rattle.pt_value.specs.declared.token.Token.{Token}
use Rattle.pt_puts.specs.Codes.{coded_need, coded_streams}

abbrev numbers : Coded (List ℕ)
numbers = coded_list coded_ℕ

abbrev from_source : Source → ℕ × (ℕ × ℕ)
from_source (Own port) = (0, (0, port))
from_source (Output child port) = (1, (child, port))

abbrev source_at : ℕ → ℕ → ℕ → Source
source_at zero child port = Own port
source_at (suc k) child port = Output child port

abbrev to_source : ℕ × (ℕ × ℕ) → Source
to_source p = source_at p.0 p.1.0 p.1.1

pub to_source-from_source : (s : Source) → to_source (from_source s) ≡ s
to_source-from_source (Own port) = refl
to_source-from_source (Output child port) = refl

abbrev coded_source : Coded Source
coded_source = code_by (ℕ × (ℕ × ℕ)) (coded× coded_ℕ (coded× coded_ℕ coded_ℕ)) from_source to_source to_source-from_source

abbrev coded_plan : Coded PnPlan
coded_plan =
    code_by
    (List Source × (List ℕ × List ℕ))
    (coded× (coded_list coded_source) (coded× numbers numbers))
    (λ p. (p.net.sources, (p.net.places, p.takes)))
    (λ c. record { net = record { sources = c.0; places = c.1.0 }; takes = c.1.1 })
    (λ _. refl)

abbrev pub coded_network : Coded (Network Token)
coded_network =
    code_by
    (PnPlan × (ℕ × (ℕ × (Streams Token × List Need))))
    (coded× coded_plan (coded× coded_ℕ (coded× coded_ℕ (coded× coded_streams (coded_list coded_need)))))
    (λ n. (n.plan, (n.initial, (n.maximum, (n.first, n.starts)))))
    (λ c. record { plan = c.0; initial = c.1.0; maximum = c.1.1.0; first = c.1.1.1.0; starts = c.1.1.1.1 })
    (λ _. refl)
