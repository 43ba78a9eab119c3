use Rattle.pt_flow_numbers.proofs.Quotients.{quotient-is}
use Rattle.pt_flow_numbers.proofs.multiply_divide.quotient.Goals as goal

pub returns : goal.returns
returns g c = quotient-is (g.I.Numbered.streams c.args.inputs.now) c.args.middle c.places.result c.places.ensures c.of_places-product.result c.of_places.result c.of_places-product.ensures c.of_places.ensures
