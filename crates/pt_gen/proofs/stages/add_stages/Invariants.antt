use Rattle.std.proofs.Common.{◌≡◌, ◌++◌}
use Rattle.pt_document.specs.View.{entities_view}
use Rattle.pt_gen.specs.Generated.{stages}
use Rattle.pt_gen.proofs.stages.add_stages.Given as goal

abbrev pub invariant-loop-i : goal.invariant-loop-i
invariant-loop-i l = entities_view l.entities.items ≡ entities_view l.initial.entities.items ++ stages l.i
