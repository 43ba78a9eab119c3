use Rattle.std.proofs.Common.{◌≡◌, ◌++◌, drop, map}
use Rattle.std.specs.List.{enumerate_from}
use Rattle.pt_net.specs.Net.{entity_view}
use Rattle.pt_stated.specs.Networks.{stated_of}
use Rattle.pt_stated.proofs.networks.stated_among.Given as goal

abbrev pub invariant-loop-number : goal.invariant-loop-number
invariant-loop-number l =
    l.stated.items ++ map (λ q. stated_of l.values q.0 q.1) (enumerate_from l.number (map entity_view (drop l.number l.entities))) ≡ map (λ q. stated_of l.values q.0 q.1) (enumerate_from 0 (map entity_view l.entities))
