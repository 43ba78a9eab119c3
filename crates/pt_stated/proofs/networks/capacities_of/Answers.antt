use Rattle.std.proofs.Common.{◌≡◌, sym, ap, ◌∙◌, if◌then◌else◌}
use Rattle.std.specs.Prelude.{Bool, Option, Some, None, codes}
use Rattle.pt_net.specs.Net.{director_view}
use Rattle.pt_stated.specs.declared.capacities.Capacities.{Capacities}
use Rattle.pt_stated.specs.Numbers.{capacity}
use Rattle.pt_stated.proofs.networks.capacities_of.Goals as goal

pub returns-then-is_network : goal.returns-then-is_network
returns-then-is_network c =
    let d = director_view c.args.director.now in
    let vs = c.args.values.now.director.items in
    let initial : c.capacity.result ≡ capacity d vs (codes "initialQueueCapacity") = c.capacity.ensures ∙ ap (λ xs. capacity d xs (codes "initialQueueCapacity")) c.deref.ensures.value in
    let maximum : c.capacity-then-is_network.result ≡ capacity d vs (codes "maximumQueueCapacity") = c.capacity-then-is_network.ensures ∙ ap (λ xs. capacity d xs (codes "maximumQueueCapacity")) c.deref-then-is_network.ensures.value in
    let k : Capacities = record { initial = capacity d vs (codes "initialQueueCapacity"); maximum = capacity d vs (codes "maximumQueueCapacity") } in
    (λ i. Some (record { initial = initial i; maximum = maximum i })) ∙ ap (λ (b : Bool). if b then Some k else None) (sym c.if-is_network.true ∙ c.is_network.ensures)
