use Rattle.std.proofs.Common.{◌≡◌, ◌++◌, drop, map}
use Rattle.std.specs.List.{enumerate_from, filter_map}
use Rattle.pt_document.specs.View.{port_view}
use Rattle.pt_stated.specs.Numbers.{rate_along}
use Rattle.pt_stated.proofs.rates.rates_along.Given as goal

abbrev pub invariant-loop-number : goal.invariant-loop-number
invariant-loop-number l =
    l.counts.items ++ filter_map (rate_along l.direction l.rates) (enumerate_from l.number (map port_view (drop l.number l.ports))) ≡ filter_map (rate_along l.direction l.rates) (enumerate_from 0 (map port_view l.ports))
