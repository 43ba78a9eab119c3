use Rattle.std.proofs.Common.{◌≡◌, [], ◌∷◌, sym, ap, ◌∙◌}
use Rattle.std.proofs.lemmas.Bool.{eqb-true}
use Rattle.std.proofs.lemmas.List.{nil_from_length}
use Rattle.pt_library.specs.LibraryActor.{signal_of}
use Rattle.pt_node.specs.declared.node.Node.{out-Node}
use Rattle.pt_node.specs.Firing.{noted, recorded}
use Rattle.pt_node.specs.Shown.{shown_node}
use Rattle.pt_turns.proofs.Quickly.{none-noted}
use Rattle.pt_event_rows.proofs.Signalling.{in-slice}
use Rattle.pt_event_rows.proofs.events.record_signal.Goals as goal

pub record_alone-requires-clause-alone : goal.record_alone-requires-clause-alone
record_alone-requires-clause-alone c = sym c.as_slice.ensures ∙ nil_from_length _ (eqb-true _ _ (sym c.is_empty.ensures ∙ c.if-is_empty.true))

pub returns-then-is_empty-clause-recorded : goal.returns-then-is_empty-clause-recorded
returns-then-is_empty-clause-recorded c =
    let none : (out-Node c.args.node.now).records ≡ [] = sym c.as_slice.ensures ∙ nil_from_length _ (eqb-true _ _ (sym c.is_empty.ensures ∙ c.if-is_empty.true)) in
    c.record_alone.ensures ∙ ap (λ s. recorded c.args.tag s) (sym (none-noted c.args.tag (signal_of c.args.given ∷ []) (shown_node c.args.node.now) none))

pub returns-clause-recorded : goal.returns-clause-recorded
returns-clause-recorded c =
    c.record.ensures ∙ ap (λ s. recorded c.args.tag s) (c.in_ok-note_numbers.ensures.noted ∙ ap (λ ts. noted c.args.tag (ts ∷ []) (shown_node c.args.node.now)) (in-slice c.args.given c.as_slice-2.result.now c.as_slice-2.ensures))
