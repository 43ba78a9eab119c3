use Rattle.std.proofs.Common.{map, sym, ◌∙◌}
use Rattle.std.specs.Prelude.{option_map}
use Rattle.pt_value.specs.Token.{value_of}
use Rattle.pt_scopes.specs.Names.{held}
use Rattle.pt_document.specs.View.{properties_view}
use Rattle.pt_inequalities.specs.Frames.{with_given, no_names, some_value}
use Rattle.pt_frames.proofs.Parts.{given-more, token-joined}
use Rattle.pt_frames.proofs.frames.names_of_tokens.Goals as goal

pub loop-index-preserved : goal.loop-index-preserved
loop-index-preserved c =
    given-more some_value c.args.properties.now c.args.tokens.now c.loop-index.index c.index-properties-index.result c.name_of.result.now (option_map (λ t. value_of t.now) c.token_in.result) (held c.loop-index.names) (held c.add_value.new.names) (with_given no_names (properties_view c.args.properties.now) (map some_value c.args.tokens.now)) c.loop-index-test.true c.index-properties-index.is c.name_of.ensures (token-joined c.args.tokens.now c.loop-index.index ∙ sym c.token_in.ensures) c.loop-index.invariant c.in_ok-add_value.ensures
