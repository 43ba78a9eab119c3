use Rattle.pt_lib_data.proofs.Tokens.{as-token}
use Rattle.pt_lib_data.proofs.array_element.nth.Goals as goal

pub returns : goal.returns
returns c = as-token c.get.result _ c.get.ensures
