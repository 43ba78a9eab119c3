use Rattle.std.proofs.Common.{◌≡◌, sym, ap, ◌∙◌, refl}
use Rattle.pt_node.specs.Shown.{shown_node}
use Rattle.pt_node.specs.Firing.{noted, recorded}
use Rattle.pt_node.specs.Live.{is_live}
use Rattle.pt_node.specs.View.{outline_of}
use Rattle.pt_node.proofs.OutlineLaws.{outline_bare, outline_recorded}
use Rattle.pt_turns.proofs.Answering.{if-ok, seq-fault, seq-full, seq-off, seq-spent, seq-spent-done, seq-memory-done, seq-done}
use Rattle.pt_turns.proofs.Recording.{live-bare}
use Rattle.pt_seq.proofs.fire.fire_within.Goals as goal

pub returns-in-Fault-clause-answers : goal.returns-in-Fault-clause-answers
returns-in-Fault-clause-answers c = seq-fault (shown_node c.args.node.now) (shown_node c.fire.new.node) c.args.tag c.args.inputs.now c.args.left.now c.in-Fault.place c.in-Fault.ensures.goes

pub returns-in-Spent-clause-answers : goal.returns-in-Spent-clause-answers
returns-in-Spent-clause-answers c = seq-spent (shown_node c.args.node.now) (shown_node c.fire.new.node) c.args.tag c.args.inputs.now c.args.left.now c.fire.new.left c.in-Spent.ensures.goes c.in-Spent.ensures.spends c.in-Spent.ensures.counted

pub returns-in-Full-clause-answers : goal.returns-in-Full-clause-answers
returns-in-Full-clause-answers c = seq-full (shown_node c.args.node.now) (shown_node c.fire.new.node) c.args.tag c.args.inputs.now c.args.left.now c.in-Full.blocked c.in-Full.ensures.goes

pub returns-in-Memory-clause-answers : goal.returns-in-Memory-clause-answers
returns-in-Memory-clause-answers c = seq-off (shown_node c.args.node.now) (shown_node c.fire.new.node) c.args.tag c.args.inputs.now c.args.left.now c.in-Memory.ensures.goes

pub returns-then-left-eq0-clause-answers : goal.returns-then-left-eq0-clause-answers
returns-then-left-eq0-clause-answers c = seq-spent-done (shown_node c.args.node.now) (shown_node c.fire.new.node) c.args.tag c.args.inputs.now c.args.left.now c.in-Done.outputs c.fire.new.left c.in-Done.ensures.goes c.if-left-eq0.true c.in-Done.ensures.counted

pub returns-then-node-clause-answers : goal.returns-then-node-clause-answers
returns-then-node-clause-answers c = seq-memory-done (shown_node c.args.node.now) (shown_node c.fire.new.node) c.args.tag c.args.inputs.now c.args.left.now c.in-Done.outputs (shown_node c.fire.new.node) c.in-Done.ensures.goes refl

pub returns-then-is_err-clause-answers : goal.returns-then-is_err-clause-answers
returns-then-is_err-clause-answers c = seq-memory-done (shown_node c.args.node.now) (shown_node c.fire.new.node) c.args.tag c.args.inputs.now c.args.left.now c.in-Done.outputs (shown_node c.note.new.self) c.in-Done.ensures.goes c.note.ensures.kept

pub returns-clause-answers : goal.returns-clause-answers
returns-clause-answers c =
    seq-done (shown_node c.args.node.now) (shown_node c.fire.new.node) c.args.tag c.args.inputs.now c.args.left.now c.in-Done.outputs (shown_node c.record.new.self) c.in-Done.ensures.goes c.in-Done.ensures.fit
    (c.record.ensures ∙ ap (λ s. recorded c.args.tag s) (if-ok c.note.result (shown_node c.note.new.self ≡ noted c.args.tag c.in-Done.outputs (shown_node c.fire.new.node)) (sym c.is_err.ensures.value ∙ c.if-is_err.false) c.note.ensures.noted))

pub returns-then-is_err-clause-outline : goal.returns-then-is_err-clause-outline
returns-then-is_err-clause-outline c = outline_bare (shown_node c.note.new.self) (shown_node c.fire.new.node) c.note.ensures.kept ∙ c.in-Done.ensures.outline

pub returns-clause-outline : goal.returns-clause-outline
returns-clause-outline c = ap (λ s. outline_of s) c.record.ensures ∙ outline_recorded c.args.tag (shown_node c.note.new.self) ∙ outline_bare (shown_node c.note.new.self) (shown_node c.fire.new.node) c.note.ensures.kept ∙ c.in-Done.ensures.outline

pub returns-then-is_err-clause-live : goal.returns-then-is_err-clause-live
returns-then-is_err-clause-live c = live-bare (shown_node c.note.new.self) (shown_node c.fire.new.node) c.note.ensures.kept ∙ c.in-Done.ensures.live

pub returns-clause-live : goal.returns-clause-live
returns-clause-live c = ap (λ s. is_live s) c.record.ensures
