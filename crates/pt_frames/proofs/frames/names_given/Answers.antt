use Rattle.std.proofs.Common.{map, sym, ap, ◌∙◌}
use Rattle.std.specs.Prelude.{slice_get, option_map}
use Rattle.pt_value.specs.Token.{value_of}
use Rattle.pt_scopes.specs.Names.{held}
use Rattle.pt_document.specs.View.{properties_view}
use Rattle.pt_inequalities.specs.Frames.{joined, with_given, no_names, values_held}
use Rattle.pt_inequalities.proofs.Steps.{first-drop}
use Rattle.pt_frames.proofs.Parts.{given-more, held-joined}
use Rattle.pt_frames.proofs.frames.names_given.Goals as goal

pub loop-index-preserved : goal.loop-index-preserved
loop-index-preserved c =
    given-more values_held c.args.properties.now c.args.values.now c.loop-index.index c.index-properties-index.result c.name_of.result.now (option_map (λ t. value_of t.now) c.token_at.result) (held c.loop-index.names) (held c.add_value.new.names) (with_given no_names (properties_view c.args.properties.now) (map values_held c.args.values.now)) c.loop-index-test.true c.index-properties-index.is c.name_of.ensures (ap joined (first-drop values_held c.args.values.now c.loop-index.index) ∙ held-joined (slice_get c.args.values.now c.loop-index.index) ∙ sym c.token_at.ensures) c.loop-index.invariant c.in_ok-add_value.ensures
