use Rattle.std.proofs.Common.{◌≡◌, take, map}
use Rattle.pt_core.specs.Source.{source_of}
use Rattle.pt_wiring.specs.Channels.{source_view}
use Rattle.pt_within.proofs.wiring.narrow_sources.Given as goal

abbrev pub invariant-loop-source : goal.invariant-loop-source
invariant-loop-source l = map source_of l.narrowed.items ≡ map source_view (take l.source-index l.sources)
