use Rattle.std.proofs.Common.{◌≡◌, map, ap, ◌∙◌}
use Rattle.pt_document.specs.declared.job.Direction.TheVariants.{Input, Output}
use Rattle.pt_document.specs.View.{port_view}
use Rattle.pt_stated.specs.Numbers.{rates_along}
use Rattle.pt_stated.proofs.networks.numbers_of.Goals as goal

pub returns : goal.returns
returns c =
    let ps = map port_view c.args.ports.now in
    let rs = c.args.values.now.rates.items in
    let takes : c.of.result ≡ rates_along Input ps rs = c.of.ensures ∙ c.in_ok-takes.ensures ∙ ap (rates_along Input ps) c.deref.ensures.value in
    let gives : c.of-2.result ≡ rates_along Output ps rs = c.of-2.ensures ∙ c.in_ok-gives.ensures ∙ ap (rates_along Output ps) c.deref-2.ensures.value in
    let capacities = c.capacities_of.ensures in
    λ i. record { takes = takes i; gives = gives i; capacities = capacities i }
