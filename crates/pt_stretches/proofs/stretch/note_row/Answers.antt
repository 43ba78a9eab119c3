use Rattle.std.proofs.Common.{[], ◌∷◌, map, sym, ◌∙◌}
use Rattle.std.proofs.lemmas.Bool.{eqb-true}
use Rattle.std.proofs.lemmas.List.{nil_from_length}
use Rattle.pt_value.specs.declared.token.Token.TheVariants.{Int}
use Rattle.pt_node.specs.Shown.{shown_node}
use Rattle.pt_turns.proofs.Quickly.{none-noted}
use Rattle.pt_stretches.proofs.stretch.note_row.Goals as goal

pub returns-then-is_empty-clause-noted : goal.returns-then-is_empty-clause-noted
returns-then-is_empty-clause-noted c = sym (none-noted c.args.tag (map Int c.args.given.now ∷ []) (shown_node c.args.child.now) (sym c.as_slice.ensures ∙ nil_from_length _ (eqb-true _ _ (sym c.is_empty.ensures ∙ c.if-is_empty.true))))
