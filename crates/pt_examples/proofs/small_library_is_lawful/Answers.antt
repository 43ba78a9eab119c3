use Rattle.pt_examples.proofs.SmallLaws.{small_is_lawful}
use Rattle.pt_examples.proofs.small_library_is_lawful.Goals as goal

pub returns : goal.returns
returns c = small_is_lawful
