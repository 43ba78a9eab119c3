use Rattle.std.proofs.Common.{sym, ap, ◌∙◌, refl}
use Rattle.pt_node.specs.Shown.{shown_node}
use Rattle.pt_node.specs.Firing.{recorded}
use Rattle.pt_node.specs.View.{outline_of}
use Rattle.pt_node.proofs.OutlineLaws.{outline_recorded}
use Rattle.pt_turns.proofs.Answering.{seq-fault, seq-full, seq-off, seq-spent, seq-spent-done, seq-memory-done, seq-done}
use Rattle.pt_turns.proofs.Quickly.{none-noted}
use Rattle.pt_alone.proofs.alone.fire_bare.Goals as goal

pub returns-in-Fault-clause-answers : goal.returns-in-Fault-clause-answers
returns-in-Fault-clause-answers g c = seq-fault (shown_node c.args.node.now) (shown_node c.fire_untaken.new.node) c.args.tag c.args.inputs.now c.args.left.now c.in-Fault.place c.in-Fault.ensures.goes

pub returns-in-Spent-clause-answers : goal.returns-in-Spent-clause-answers
returns-in-Spent-clause-answers g c = seq-spent (shown_node c.args.node.now) (shown_node c.fire_untaken.new.node) c.args.tag c.args.inputs.now c.args.left.now c.fire_untaken.new.left c.in-Spent.ensures.goes c.in-Spent.ensures.spends c.in-Spent.ensures.counted

pub returns-in-Full-clause-answers : goal.returns-in-Full-clause-answers
returns-in-Full-clause-answers g c = seq-full (shown_node c.args.node.now) (shown_node c.fire_untaken.new.node) c.args.tag c.args.inputs.now c.args.left.now c.in-Full.blocked c.in-Full.ensures.goes

pub returns-in-Memory-clause-answers : goal.returns-in-Memory-clause-answers
returns-in-Memory-clause-answers g c = seq-off (shown_node c.args.node.now) (shown_node c.fire_untaken.new.node) c.args.tag c.args.inputs.now c.args.left.now c.in-Memory.ensures.goes

pub returns-then-left-eq0-clause-answers : goal.returns-then-left-eq0-clause-answers
returns-then-left-eq0-clause-answers g c = seq-spent-done (shown_node c.args.node.now) (shown_node c.fire_untaken.new.node) c.args.tag c.args.inputs.now c.args.left.now c.in-Done.ensures.goes.0 c.fire_untaken.new.left c.in-Done.ensures.goes.1 c.if-left-eq0.true c.in-Done.ensures.counted

pub returns-then-node-clause-answers : goal.returns-then-node-clause-answers
returns-then-node-clause-answers g c = seq-memory-done (shown_node c.args.node.now) (shown_node c.fire_untaken.new.node) c.args.tag c.args.inputs.now c.args.left.now c.in-Done.ensures.goes.0 (shown_node c.fire_untaken.new.node) c.in-Done.ensures.goes.1 refl

-- nothing of it is recorded
pub record_alone-requires-clause-alone : goal.record_alone-requires-clause-alone
record_alone-requires-clause-alone g c = c.in-Done.ensures.records ∙ c.requires.bare

pub returns-clause-answers : goal.returns-clause-answers
returns-clause-answers g c = (
  c.in-Done.ensures.goes.0,
  seq-done (shown_node c.args.node.now) (shown_node c.fire_untaken.new.node) c.args.tag c.args.inputs.now c.args.left.now c.in-Done.ensures.goes.0 (shown_node c.record_alone.new.self) c.in-Done.ensures.goes.1 c.in-Done.ensures.fit
      (c.record_alone.ensures ∙ ap (λ s. recorded c.args.tag s) (sym (none-noted c.args.tag c.in-Done.ensures.goes.0 (shown_node c.fire_untaken.new.node) (c.in-Done.ensures.records ∙ c.requires.bare)))),
)

pub returns-clause-outline : goal.returns-clause-outline
returns-clause-outline g c = ap (λ s. outline_of s) c.record_alone.ensures ∙ outline_recorded c.args.tag (shown_node c.fire_untaken.new.node) ∙ c.in-Done.ensures.outline
