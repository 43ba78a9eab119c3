use Rattle.pt_rates.proofs.Euclid.{divisor_positive, divided-lowest}
use Rattle.pt_rates.proofs.ratio.lowest_terms.Goals as goal

pub nonzero_div-result : goal.nonzero_div-result
nonzero_div-result c = divisor_positive c.greatest_divisor-divisor.result c.args.x c.args.y c.greatest_divisor-divisor.ensures c.requires.first

pub nonzero_div-result-2 : goal.nonzero_div-result-2
nonzero_div-result-2 c = divisor_positive c.greatest_divisor-divisor.result c.args.x c.args.y c.greatest_divisor-divisor.ensures c.requires.first

pub returns : goal.returns
returns c = divided-lowest c.greatest_divisor-divisor.result c.args.x c.args.y c.greatest_divisor-divisor.ensures c.requires.first c.requires.second
