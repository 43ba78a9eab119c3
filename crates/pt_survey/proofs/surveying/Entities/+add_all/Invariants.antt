use Rattle.std.proofs.Common.{◌≡◌, drop}
use Rattle.pt_document.specs.Document.{to_entities}
use Rattle.pt_document.specs.View.{entities_view}
use Rattle.pt_net.specs.Standing.{with_entities}
use Rattle.pt_survey.specs.Survey.{table_view, round_view, IsCounted}
use Rattle.pt_survey.proofs.surveying.Entities.+add_all.Given as goal

abbrev pub invariant-loop-child : goal.invariant-loop-child
invariant-loop-child l =
    IsCounted l.self
    × (with_entities (table_view l.self.table.items) (round_view l.inside) l.here (to_entities (entities_view (drop l.child-index l.child-items)))
    ≡ with_entities (table_view l.initial.self.table.items) (round_view l.inside) l.here (to_entities (entities_view l.child-items)))
