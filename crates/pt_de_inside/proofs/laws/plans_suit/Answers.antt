use Rattle.pt_de_inside.proofs.SuitLaws as suit_laws
use Rattle.pt_de_inside.proofs.laws.plans_suit.Goals as goal

pub returns : goal.returns
returns c = suit_laws.plans-suit
