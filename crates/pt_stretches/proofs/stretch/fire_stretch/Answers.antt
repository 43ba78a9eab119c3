use Rattle.std.proofs.Common.{ℕ, [], ◌∷◌, map, arith, refl, ap, subst, ◌∙◌}
use Rattle.pt_meaning.specs.Basics.{Streams}
use Rattle.pt_value.specs.declared.token.Token.{Token}
use Rattle.pt_value.specs.declared.token.Token.TheVariants.{Int}
use Rattle.pt_sdf.specs.InARow.{TellsInTurn, given_by}
use Rattle.pt_node.specs.Firing.{noted, recorded_times}
use Rattle.pt_node.specs.Shown.{shown_node}
use Rattle.pt_stretches.proofs.Together.{row-fired, keeps-noted, err-so}
use Rattle.pt_stretches.proofs.stretch.fire_stretch.Goals as goal

pub returns-in_default-clause-made : goal.returns-in_default-clause-made
returns-in_default-clause-made c = (refl, c.in_default.ensures.goes, refl)

pub returns-in_err-note_row-clause-records : goal.returns-in_err-note_row-clause-records
returns-in_err-note_row-clause-records c = err-so _ (keeps-noted (shown_node c.args.child.now) (shown_node c.make_row.new.child) (shown_node c.note_row.new.child) c.in-Some.ensures.goes.keeps c.note_row.ensures.kept)

pub returns-in_err-told_rows-clause-records : goal.returns-in_err-told_rows-clause-records
returns-in_err-told_rows-clause-records c = err-so _ (keeps-noted (shown_node c.args.child.now) (shown_node c.make_row.new.child) (shown_node c.note_row.new.child) c.in-Some.ensures.goes.keeps c.note_row.ensures.kept)

pub returns-clause-made : goal.returns-clause-made
returns-clause-made c =
    row-fired c.args.core.now c.told_rows.new.self c.args.number c.min-most.result c.in-Some.firings c.in-Some.rate c.make_row.new.given.items c.args.tag (shown_node c.args.child.now) (shown_node c.make_row.new.child) (shown_node c.record_row.new.self) c.args.left.now _ c.in-Some.ensures.goes
    (subst (λ ns. (inputs : ℕ → Streams Token) × TellsInTurn c.args.number inputs (given_by c.in-Some.rate ns) c.in-Some.firings c.args.core.now c.told_rows.new.self) c.deref-2.ensures.value c.in_ok-told_rows.ensures.told)
    (c.record_row.ensures ∙ ap (λ v. recorded_times c.args.tag c.in-Some.firings v) (c.in_ok-note_row.ensures.noted ∙ ap (λ ns. noted c.args.tag (map Int ns ∷ []) (shown_node c.make_row.new.child)) c.deref.ensures.value))
    (omega (arith, c.in-Some.ensures.goes.within, c.min-most.ensures))
