-- Where a channel begins, among the definitions.
use Rattle.pt_meaning.specs.Net as net
use Rattle.pt_core.specs.declared.source.Source.{Source}
use Rattle.pt_core.specs.declared.source.Source.TheVariants.{Own, Output}

abbrev pub source_of : Source → net.Source
source_of (Own port) = net.Own port
source_of (Output child port) = net.Output child port
