use Rattle.std.proofs.Common.{arith, [], None, ◌∙◌, ap, sym, subst}
use Rattle.pt_meaning.specs.Job as job
use Rattle.pt_records.specs.Made.{meets_of}
use Rattle.pt_node.specs.Shown.{shown_node}
use Rattle.pt_node.specs.View.{node_of, kept_of}
use Rattle.pt_agenda.specs.Turn.{turn_of}
use Rattle.pt_trees.specs.declared.ended.Ended.TheVariants as ended
use Rattle.pt_trees.specs.declared.top.Top.TheVariants.{De}
use Rattle.pt_next.specs.declared.turn.End.TheVariants as end
use Rattle.pt_going.specs.Going.{Going}
use Rattle.pt_going.proofs.Beginning.{begins}
use Rattle.pt_going.proofs.Completing.{completes, ends-defined, ends-spent, ends-past, takes-inputs, ends-fault, ends-full, ends-within, falls, goes-on, its-own}
use Rattle.pt_next.proofs.AloneTurns.{reaction-turn, reaction-fires}
use Rattle.pt_run.proofs.reactions.run_reactions.Goals as goal

-- the whole budget is left
pub loop-left-init : goal.loop-left-init
loop-left-init c = subst (λ left. Going (De c.args.job.now) (shown_node c.args.top.now) c.args.budget 0 None (shown_node c.args.top.now) left) (sym c.requires.whole) (begins (De c.args.job.now) c.args.budget (shown_node c.args.top.now) c.requires.runnable)

-- the top is live
pub next-requires : goal.next-requires
next-requires c = c.loop-left.invariant.live.1

-- what isn't left was counted
pub returns-in-Stop-clause-counted : goal.returns-in-Stop-clause-counted
returns-in-Stop-clause-counted c = c.loop-left.invariant.counted

pub returns-in-Idle-clause-counted : goal.returns-in-Idle-clause-counted
returns-in-Idle-clause-counted c = c.loop-left.invariant.counted

pub returns-in-Limit-clause-counted : goal.returns-in-Limit-clause-counted
returns-in-Limit-clause-counted c = c.loop-left.invariant.counted

pub returns-in-Fault-clause-counted : goal.returns-in-Fault-clause-counted
returns-in-Fault-clause-counted c = omega (arith, c.loop-left.invariant.counted, c.fire_alone.ensures.counted)

pub returns-in-Full-clause-counted : goal.returns-in-Full-clause-counted
returns-in-Full-clause-counted c = omega (arith, c.loop-left.invariant.counted, c.fire_alone.ensures.counted)

pub returns-in-Spent-clause-counted : goal.returns-in-Spent-clause-counted
returns-in-Spent-clause-counted c = omega (arith, c.loop-left.invariant.counted, c.fire_alone.ensures.counted)

pub returns-clause-counted : goal.returns-clause-counted
returns-clause-counted c = c.loop-left.invariant.counted

-- each firing takes some of the budget
pub overflow_add-fired : goal.overflow_add-fired
overflow_add-fired c = omega (arith, c.loop-left.invariant.few, c.loop-left.invariant.counted, c.loop-left-test.true, c.ranges.budget.fits)

pub fire_alone-requires-clause-inputs : goal.fire_alone-requires-clause-inputs
fire_alone-requires-clause-inputs c = takes-inputs (De c.args.job.now) c.args.budget (shown_node c.args.top.now) c.requires.runnable c.loop-left.fired c.loop-left.last (shown_node c.loop-left.top) c.loop-left.left c.loop-left.invariant c.in-Fire.tag c.of.result (reaction-fires c.args.job.now c.requires.alone c.loop-left.fired c.loop-left.last (node_of (shown_node c.loop-left.top)) c.next.result c.next.ensures c.next_turn.result c.next_turn.ensures c.in-Fire.tag c.in-Fire.is ∙ ap (λ X. job.Fire c.in-Fire.tag X) (sym (c.of.ensures ∙ c.deref.ensures.value ∙ c.new-none.ensures.items)))

pub returns-in-Stop-clause-report : goal.returns-in-Stop-clause-report
returns-in-Stop-clause-report c = ends-defined (De c.args.job.now) c.args.budget (shown_node c.args.top.now) c.requires.runnable c.loop-left.fired c.loop-left.last (shown_node c.loop-left.top) c.loop-left.left c.loop-left.invariant c.loop-left-test.true end.Stop (reaction-turn c.args.job.now c.requires.alone c.loop-left.fired c.loop-left.last (node_of (shown_node c.loop-left.top)) c.next.result c.next.ensures c.next_turn.result c.next_turn.ensures ∙ ap (λ u. turn_of [] u) c.in-Stop.is) (meets_of (kept_of (shown_node c.loop-left.top))) (its-own (shown_node c.loop-left.top))

pub returns-in-Stop-clause-complete : goal.returns-in-Stop-clause-complete
returns-in-Stop-clause-complete c = λ a. completes (De c.args.job.now) c.args.budget (shown_node c.args.top.now) (shown_node c.loop-left.top) ended.Stop (λ m those. ends-defined (De c.args.job.now) c.args.budget (shown_node c.args.top.now) c.requires.runnable c.loop-left.fired c.loop-left.last (shown_node c.loop-left.top) c.loop-left.left c.loop-left.invariant c.loop-left-test.true end.Stop (reaction-turn c.args.job.now c.requires.alone c.loop-left.fired c.loop-left.last (node_of (shown_node c.loop-left.top)) c.next.result c.next.ensures c.next_turn.result c.next_turn.ensures ∙ ap (λ u. turn_of [] u) c.in-Stop.is) m those) a

pub returns-in-Idle-clause-report : goal.returns-in-Idle-clause-report
returns-in-Idle-clause-report c = ends-defined (De c.args.job.now) c.args.budget (shown_node c.args.top.now) c.requires.runnable c.loop-left.fired c.loop-left.last (shown_node c.loop-left.top) c.loop-left.left c.loop-left.invariant c.loop-left-test.true end.Idle (reaction-turn c.args.job.now c.requires.alone c.loop-left.fired c.loop-left.last (node_of (shown_node c.loop-left.top)) c.next.result c.next.ensures c.next_turn.result c.next_turn.ensures ∙ ap (λ u. turn_of [] u) c.in-Idle.is) (meets_of (kept_of (shown_node c.loop-left.top))) (its-own (shown_node c.loop-left.top))

pub returns-in-Idle-clause-complete : goal.returns-in-Idle-clause-complete
returns-in-Idle-clause-complete c = λ a. completes (De c.args.job.now) c.args.budget (shown_node c.args.top.now) (shown_node c.loop-left.top) ended.Idle (λ m those. ends-defined (De c.args.job.now) c.args.budget (shown_node c.args.top.now) c.requires.runnable c.loop-left.fired c.loop-left.last (shown_node c.loop-left.top) c.loop-left.left c.loop-left.invariant c.loop-left-test.true end.Idle (reaction-turn c.args.job.now c.requires.alone c.loop-left.fired c.loop-left.last (node_of (shown_node c.loop-left.top)) c.next.result c.next.ensures c.next_turn.result c.next_turn.ensures ∙ ap (λ u. turn_of [] u) c.in-Idle.is) m those) a

pub returns-in-Limit-clause-report : goal.returns-in-Limit-clause-report
returns-in-Limit-clause-report c = ends-past (De c.args.job.now) c.args.budget (shown_node c.args.top.now) c.requires.runnable c.loop-left.fired c.loop-left.last (shown_node c.loop-left.top) c.loop-left.left c.loop-left.invariant (reaction-turn c.args.job.now c.requires.alone c.loop-left.fired c.loop-left.last (node_of (shown_node c.loop-left.top)) c.next.result c.next.ensures c.next_turn.result c.next_turn.ensures ∙ ap (λ u. turn_of [] u) c.in-Limit.is) c.in_ok-past_limit-in-Limit.field-0 c.in_ok-past_limit-in-Limit.ensures (meets_of (kept_of (shown_node c.loop-left.top))) (its-own (shown_node c.loop-left.top))

pub returns-in-Limit-clause-complete : goal.returns-in-Limit-clause-complete
returns-in-Limit-clause-complete c = λ a. completes (De c.args.job.now) c.args.budget (shown_node c.args.top.now) (shown_node c.loop-left.top) (ended.Fault c.in_ok-past_limit-in-Limit.field-0) (λ m those. ends-past (De c.args.job.now) c.args.budget (shown_node c.args.top.now) c.requires.runnable c.loop-left.fired c.loop-left.last (shown_node c.loop-left.top) c.loop-left.left c.loop-left.invariant (reaction-turn c.args.job.now c.requires.alone c.loop-left.fired c.loop-left.last (node_of (shown_node c.loop-left.top)) c.next.result c.next.ensures c.next_turn.result c.next_turn.ensures ∙ ap (λ u. turn_of [] u) c.in-Limit.is) c.in_ok-past_limit-in-Limit.field-0 c.in_ok-past_limit-in-Limit.ensures m those) a

pub returns-in-Fault-clause-report : goal.returns-in-Fault-clause-report
returns-in-Fault-clause-report c = ends-fault (De c.args.job.now) c.args.budget (shown_node c.args.top.now) c.requires.runnable c.loop-left.fired c.loop-left.last (shown_node c.loop-left.top) c.loop-left.left c.loop-left.invariant c.in-Fire.tag c.of.result (reaction-fires c.args.job.now c.requires.alone c.loop-left.fired c.loop-left.last (node_of (shown_node c.loop-left.top)) c.next.result c.next.ensures c.next_turn.result c.next_turn.ensures c.in-Fire.tag c.in-Fire.is ∙ ap (λ X. job.Fire c.in-Fire.tag X) (sym (c.of.ensures ∙ c.deref.ensures.value ∙ c.new-none.ensures.items))) (shown_node c.fire_alone.new.node) c.in-Fault.ensures.outline c.in-Fault.place c.in-Fault.ensures.answers (meets_of (kept_of (shown_node c.fire_alone.new.node))) (its-own (shown_node c.fire_alone.new.node))

pub returns-in-Fault-clause-complete : goal.returns-in-Fault-clause-complete
returns-in-Fault-clause-complete c = λ a. completes (De c.args.job.now) c.args.budget (shown_node c.args.top.now) (shown_node c.fire_alone.new.node) (ended.Fault c.in-Fault.place) (λ m those. ends-fault (De c.args.job.now) c.args.budget (shown_node c.args.top.now) c.requires.runnable c.loop-left.fired c.loop-left.last (shown_node c.loop-left.top) c.loop-left.left c.loop-left.invariant c.in-Fire.tag c.of.result (reaction-fires c.args.job.now c.requires.alone c.loop-left.fired c.loop-left.last (node_of (shown_node c.loop-left.top)) c.next.result c.next.ensures c.next_turn.result c.next_turn.ensures c.in-Fire.tag c.in-Fire.is ∙ ap (λ X. job.Fire c.in-Fire.tag X) (sym (c.of.ensures ∙ c.deref.ensures.value ∙ c.new-none.ensures.items))) (shown_node c.fire_alone.new.node) c.in-Fault.ensures.outline c.in-Fault.place c.in-Fault.ensures.answers m those) a

pub returns-in-Full-clause-report : goal.returns-in-Full-clause-report
returns-in-Full-clause-report c = ends-full (De c.args.job.now) c.args.budget (shown_node c.args.top.now) c.requires.runnable c.loop-left.fired c.loop-left.last (shown_node c.loop-left.top) c.loop-left.left c.loop-left.invariant c.in-Fire.tag c.of.result (reaction-fires c.args.job.now c.requires.alone c.loop-left.fired c.loop-left.last (node_of (shown_node c.loop-left.top)) c.next.result c.next.ensures c.next_turn.result c.next_turn.ensures c.in-Fire.tag c.in-Fire.is ∙ ap (λ X. job.Fire c.in-Fire.tag X) (sym (c.of.ensures ∙ c.deref.ensures.value ∙ c.new-none.ensures.items))) (shown_node c.fire_alone.new.node) c.in-Full.ensures.outline c.in-Full.blocked c.in-Full.ensures.answers (meets_of (kept_of (shown_node c.fire_alone.new.node))) (its-own (shown_node c.fire_alone.new.node))

pub returns-in-Full-clause-complete : goal.returns-in-Full-clause-complete
returns-in-Full-clause-complete c = λ a. completes (De c.args.job.now) c.args.budget (shown_node c.args.top.now) (shown_node c.fire_alone.new.node) (ended.Full c.in-Full.blocked) (λ m those. ends-full (De c.args.job.now) c.args.budget (shown_node c.args.top.now) c.requires.runnable c.loop-left.fired c.loop-left.last (shown_node c.loop-left.top) c.loop-left.left c.loop-left.invariant c.in-Fire.tag c.of.result (reaction-fires c.args.job.now c.requires.alone c.loop-left.fired c.loop-left.last (node_of (shown_node c.loop-left.top)) c.next.result c.next.ensures c.next_turn.result c.next_turn.ensures c.in-Fire.tag c.in-Fire.is ∙ ap (λ X. job.Fire c.in-Fire.tag X) (sym (c.of.ensures ∙ c.deref.ensures.value ∙ c.new-none.ensures.items))) (shown_node c.fire_alone.new.node) c.in-Full.ensures.outline c.in-Full.blocked c.in-Full.ensures.answers m those) a

pub returns-in-Spent-clause-report : goal.returns-in-Spent-clause-report
returns-in-Spent-clause-report c = ends-within (De c.args.job.now) c.args.budget (shown_node c.args.top.now) c.requires.runnable c.loop-left.fired c.loop-left.last (shown_node c.loop-left.top) c.loop-left.left c.loop-left.invariant c.in-Fire.tag c.of.result (reaction-fires c.args.job.now c.requires.alone c.loop-left.fired c.loop-left.last (node_of (shown_node c.loop-left.top)) c.next.result c.next.ensures c.next_turn.result c.next_turn.ensures c.in-Fire.tag c.in-Fire.is ∙ ap (λ X. job.Fire c.in-Fire.tag X) (sym (c.of.ensures ∙ c.deref.ensures.value ∙ c.new-none.ensures.items))) (shown_node c.fire_alone.new.node) c.in-Spent.ensures.outline c.fire_alone.new.left c.in-Spent.ensures.counted c.in-Spent.field-0 c.in-Spent.ensures.answers (meets_of (kept_of (shown_node c.fire_alone.new.node))) (its-own (shown_node c.fire_alone.new.node))

pub returns-in-Spent-clause-complete : goal.returns-in-Spent-clause-complete
returns-in-Spent-clause-complete c = λ a. completes (De c.args.job.now) c.args.budget (shown_node c.args.top.now) (shown_node c.fire_alone.new.node) (ended.Spent c.args.budget) (λ m those. ends-within (De c.args.job.now) c.args.budget (shown_node c.args.top.now) c.requires.runnable c.loop-left.fired c.loop-left.last (shown_node c.loop-left.top) c.loop-left.left c.loop-left.invariant c.in-Fire.tag c.of.result (reaction-fires c.args.job.now c.requires.alone c.loop-left.fired c.loop-left.last (node_of (shown_node c.loop-left.top)) c.next.result c.next.ensures c.next_turn.result c.next_turn.ensures c.in-Fire.tag c.in-Fire.is ∙ ap (λ X. job.Fire c.in-Fire.tag X) (sym (c.of.ensures ∙ c.deref.ensures.value ∙ c.new-none.ensures.items))) (shown_node c.fire_alone.new.node) c.in-Spent.ensures.outline c.fire_alone.new.left c.in-Spent.ensures.counted c.in-Spent.field-0 c.in-Spent.ensures.answers m those) a

pub loop-left-smaller : goal.loop-left-smaller
loop-left-smaller c = falls (De c.args.job.now) c.args.budget (shown_node c.args.top.now) c.requires.runnable c.loop-left.fired c.loop-left.last (shown_node c.loop-left.top) c.loop-left.left c.loop-left.invariant c.in-Fire.tag c.of.result (reaction-fires c.args.job.now c.requires.alone c.loop-left.fired c.loop-left.last (node_of (shown_node c.loop-left.top)) c.next.result c.next.ensures c.next_turn.result c.next_turn.ensures c.in-Fire.tag c.in-Fire.is ∙ ap (λ X. job.Fire c.in-Fire.tag X) (sym (c.of.ensures ∙ c.deref.ensures.value ∙ c.new-none.ensures.items))) (shown_node c.fire_alone.new.node) c.in-Done.ensures.outline c.fire_alone.new.left c.in-Done.ensures.counted c.in-Done.ensures.answers.0 c.in-Done.ensures.answers.1

pub loop-left-preserved : goal.loop-left-preserved
loop-left-preserved c = goes-on (De c.args.job.now) c.args.budget (shown_node c.args.top.now) c.requires.runnable c.loop-left.fired c.loop-left.last (shown_node c.loop-left.top) c.loop-left.left c.loop-left.invariant c.in-Fire.tag c.of.result (reaction-fires c.args.job.now c.requires.alone c.loop-left.fired c.loop-left.last (node_of (shown_node c.loop-left.top)) c.next.result c.next.ensures c.next_turn.result c.next_turn.ensures c.in-Fire.tag c.in-Fire.is ∙ ap (λ X. job.Fire c.in-Fire.tag X) (sym (c.of.ensures ∙ c.deref.ensures.value ∙ c.new-none.ensures.items))) (shown_node c.fire_alone.new.node) c.in-Done.ensures.outline c.fire_alone.new.left c.in-Done.ensures.counted c.in-Done.ensures.answers.0 c.in-Done.ensures.answers.1

pub returns-clause-report : goal.returns-clause-report
returns-clause-report c = ends-spent (De c.args.job.now) c.args.budget (shown_node c.args.top.now) c.requires.runnable c.loop-left.fired c.loop-left.last (shown_node c.loop-left.top) c.loop-left.left c.loop-left.invariant (omega (arith, c.loop-left-test.false)) (meets_of (kept_of (shown_node c.loop-left.top))) (its-own (shown_node c.loop-left.top))

pub returns-clause-complete : goal.returns-clause-complete
returns-clause-complete c = λ a. completes (De c.args.job.now) c.args.budget (shown_node c.args.top.now) (shown_node c.loop-left.top) (ended.Spent c.args.budget) (λ m those. ends-spent (De c.args.job.now) c.args.budget (shown_node c.args.top.now) c.requires.runnable c.loop-left.fired c.loop-left.last (shown_node c.loop-left.top) c.loop-left.left c.loop-left.invariant (omega (arith, c.loop-left-test.false)) m those) a
