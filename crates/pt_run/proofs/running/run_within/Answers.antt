use Rattle.std.proofs.Common.{Option, arith, ◌∙◌, sym, subst}
use Rattle.pt_meaning.specs.Basics.{Tag}
use Rattle.pt_records.specs.Made.{meets_of}
use Rattle.pt_node.specs.Shown.{shown_node}
use Rattle.pt_node.specs.View.{node_of, kept_of}
use Rattle.pt_trees.specs.declared.ended.Ended.{Ended}
use Rattle.pt_trees.specs.declared.ended.Ended.TheVariants as ended
use Rattle.pt_trees.specs.Run.{schedule, IsRun, IsDefined}
use Rattle.pt_going.specs.Going.{Going, last_after}
use Rattle.pt_next.specs.Turn.{ended_by}
use Rattle.pt_going.proofs.Completing.{completes, turn-fires, turn-ends, turn-past, whole, ends-defined, ends-spent, ends-past, takes-inputs, ends-fault, ends-full, ends-within, falls, goes-on, its-own}
use Rattle.pt_run.proofs.running.run_within.Goals as goal

-- so far it has come by the firings that were made ahead
pub loop-left-init : goal.loop-left-init
loop-left-init c =
    subst (λ (last : Option Tag). Going c.args.job.now (shown_node c.args.top.now) c.args.budget c.in_ok-fired.fired last (shown_node c.run_ahead.new.top) c.run_ahead.new.left) (sym c.last_after-last.ensures)
    (subst (λ budget. Going c.args.job.now (shown_node c.args.top.now) budget c.in_ok-fired.fired (last_after c.in_ok-fired.fired) (shown_node c.run_ahead.new.top) c.run_ahead.new.left) c.requires.whole c.in_ok-fired.ensures.going)

pub next_turn-requires-clause-whole : goal.next_turn-requires-clause-whole
next_turn-requires-clause-whole c = whole c.args.job.now c.args.budget (shown_node c.args.top.now) c.requires.runnable

-- what isn't left was counted
pub returns-in-Ends-clause-counted : goal.returns-in-Ends-clause-counted
returns-in-Ends-clause-counted c = c.loop-left.invariant.counted

pub returns-in-Fault-clause-counted : goal.returns-in-Fault-clause-counted
returns-in-Fault-clause-counted c = omega (arith, c.loop-left.invariant.counted, c.fire_within.ensures.counted)

pub returns-in-Full-clause-counted : goal.returns-in-Full-clause-counted
returns-in-Full-clause-counted c = omega (arith, c.loop-left.invariant.counted, c.fire_within.ensures.counted)

pub returns-in-Spent-clause-counted : goal.returns-in-Spent-clause-counted
returns-in-Spent-clause-counted c = omega (arith, c.loop-left.invariant.counted, c.fire_within.ensures.counted)

pub returns-clause-counted : goal.returns-clause-counted
returns-clause-counted c = c.loop-left.invariant.counted

-- each firing takes some of the budget
pub next_turn-requires-clause-number : goal.next_turn-requires-clause-number
next_turn-requires-clause-number c = omega (arith, c.loop-left.invariant.few, c.loop-left.invariant.counted, c.loop-left-test.true, c.ranges.budget.fits)

pub fire_within-requires-clause-inputs : goal.fire_within-requires-clause-inputs
fire_within-requires-clause-inputs c =
    takes-inputs c.args.job.now c.args.budget (shown_node c.args.top.now) c.requires.runnable c.loop-left.fired c.loop-left.last (shown_node c.loop-left.top) c.loop-left.left c.loop-left.invariant c.in-Fire.firing.tag c.of.result
    (turn-fires (schedule c.args.job.now) c.loop-left.fired c.loop-left.last (node_of (shown_node c.loop-left.top)) c.in_ok-firing.field-0 c.in_ok-firing.ensures c.in-Fire.firing c.in-Fire.is c.of.result (c.of.ensures ∙ c.deref.ensures.value))

pub returns-in-Ends-clause-report : goal.returns-in-Ends-clause-report
returns-in-Ends-clause-report c =
    subst (λ (e : Ended). IsRun (meets_of (kept_of (shown_node c.loop-left.top))) c.args.job.now c.args.budget (shown_node c.args.top.now) (shown_node c.loop-left.top) e) (sym c.end_told.ensures)
    (ends-defined c.args.job.now c.args.budget (shown_node c.args.top.now) c.requires.runnable c.loop-left.fired c.loop-left.last (shown_node c.loop-left.top) c.loop-left.left c.loop-left.invariant c.loop-left-test.true c.in-Ends.end (turn-ends (schedule c.args.job.now) c.loop-left.fired c.loop-left.last (node_of (shown_node c.loop-left.top)) c.in_ok-firing.field-0 c.in_ok-firing.ensures c.in-Ends.end c.in-Ends.is) (meets_of (kept_of (shown_node c.loop-left.top))) (its-own (shown_node c.loop-left.top)))

pub returns-in-Ends-clause-complete : goal.returns-in-Ends-clause-complete
returns-in-Ends-clause-complete c = λ a.
    subst (λ (e : Ended). IsDefined e) (sym c.end_told.ensures)
    (completes c.args.job.now c.args.budget (shown_node c.args.top.now) (shown_node c.loop-left.top) (ended_by c.in-Ends.end)
    (λ m those. ends-defined c.args.job.now c.args.budget (shown_node c.args.top.now) c.requires.runnable c.loop-left.fired c.loop-left.last (shown_node c.loop-left.top) c.loop-left.left c.loop-left.invariant c.loop-left-test.true c.in-Ends.end (turn-ends (schedule c.args.job.now) c.loop-left.fired c.loop-left.last (node_of (shown_node c.loop-left.top)) c.in_ok-firing.field-0 c.in_ok-firing.ensures c.in-Ends.end c.in-Ends.is) m those) a)

pub returns-in-Limit-clause-report : goal.returns-in-Limit-clause-report
returns-in-Limit-clause-report c =
    ends-past c.args.job.now c.args.budget (shown_node c.args.top.now) c.requires.runnable c.loop-left.fired c.loop-left.last (shown_node c.loop-left.top) c.loop-left.left c.loop-left.invariant
    (turn-past (schedule c.args.job.now) c.loop-left.fired c.loop-left.last (node_of (shown_node c.loop-left.top)) c.in_ok-firing.field-0 c.in_ok-firing.ensures c.in-Limit.is)
    c.in_ok-past_limit-in-Limit.field-0 c.in_ok-past_limit-in-Limit.ensures (meets_of (kept_of (shown_node c.loop-left.top))) (its-own (shown_node c.loop-left.top))

pub returns-in-Limit-clause-complete : goal.returns-in-Limit-clause-complete
returns-in-Limit-clause-complete c = λ a. completes c.args.job.now c.args.budget (shown_node c.args.top.now) (shown_node c.loop-left.top) (ended.Fault c.in_ok-past_limit-in-Limit.field-0)
    (λ m those. ends-past c.args.job.now c.args.budget (shown_node c.args.top.now) c.requires.runnable c.loop-left.fired c.loop-left.last (shown_node c.loop-left.top) c.loop-left.left c.loop-left.invariant
    (turn-past (schedule c.args.job.now) c.loop-left.fired c.loop-left.last (node_of (shown_node c.loop-left.top)) c.in_ok-firing.field-0 c.in_ok-firing.ensures c.in-Limit.is)
    c.in_ok-past_limit-in-Limit.field-0 c.in_ok-past_limit-in-Limit.ensures m those) a

pub returns-in-Fault-clause-report : goal.returns-in-Fault-clause-report
returns-in-Fault-clause-report c =
    ends-fault c.args.job.now c.args.budget (shown_node c.args.top.now) c.requires.runnable c.loop-left.fired c.loop-left.last (shown_node c.loop-left.top) c.loop-left.left c.loop-left.invariant c.in-Fire.firing.tag c.of.result
    (turn-fires (schedule c.args.job.now) c.loop-left.fired c.loop-left.last (node_of (shown_node c.loop-left.top)) c.in_ok-firing.field-0 c.in_ok-firing.ensures c.in-Fire.firing c.in-Fire.is c.of.result (c.of.ensures ∙ c.deref.ensures.value))
    (shown_node c.fire_within.new.node) c.in-Fault.ensures.outline c.in-Fault.place c.in-Fault.ensures.answers (meets_of (kept_of (shown_node c.fire_within.new.node))) (its-own (shown_node c.fire_within.new.node))

pub returns-in-Fault-clause-complete : goal.returns-in-Fault-clause-complete
returns-in-Fault-clause-complete c = λ a. completes c.args.job.now c.args.budget (shown_node c.args.top.now) (shown_node c.fire_within.new.node) (ended.Fault c.in-Fault.place)
    (λ m those. ends-fault c.args.job.now c.args.budget (shown_node c.args.top.now) c.requires.runnable c.loop-left.fired c.loop-left.last (shown_node c.loop-left.top) c.loop-left.left c.loop-left.invariant c.in-Fire.firing.tag c.of.result
    (turn-fires (schedule c.args.job.now) c.loop-left.fired c.loop-left.last (node_of (shown_node c.loop-left.top)) c.in_ok-firing.field-0 c.in_ok-firing.ensures c.in-Fire.firing c.in-Fire.is c.of.result (c.of.ensures ∙ c.deref.ensures.value))
    (shown_node c.fire_within.new.node) c.in-Fault.ensures.outline c.in-Fault.place c.in-Fault.ensures.answers m those) a

pub returns-in-Full-clause-report : goal.returns-in-Full-clause-report
returns-in-Full-clause-report c =
    ends-full c.args.job.now c.args.budget (shown_node c.args.top.now) c.requires.runnable c.loop-left.fired c.loop-left.last (shown_node c.loop-left.top) c.loop-left.left c.loop-left.invariant c.in-Fire.firing.tag c.of.result
    (turn-fires (schedule c.args.job.now) c.loop-left.fired c.loop-left.last (node_of (shown_node c.loop-left.top)) c.in_ok-firing.field-0 c.in_ok-firing.ensures c.in-Fire.firing c.in-Fire.is c.of.result (c.of.ensures ∙ c.deref.ensures.value))
    (shown_node c.fire_within.new.node) c.in-Full.ensures.outline c.in-Full.blocked c.in-Full.ensures.answers (meets_of (kept_of (shown_node c.fire_within.new.node))) (its-own (shown_node c.fire_within.new.node))

pub returns-in-Full-clause-complete : goal.returns-in-Full-clause-complete
returns-in-Full-clause-complete c = λ a. completes c.args.job.now c.args.budget (shown_node c.args.top.now) (shown_node c.fire_within.new.node) (ended.Full c.in-Full.blocked)
    (λ m those. ends-full c.args.job.now c.args.budget (shown_node c.args.top.now) c.requires.runnable c.loop-left.fired c.loop-left.last (shown_node c.loop-left.top) c.loop-left.left c.loop-left.invariant c.in-Fire.firing.tag c.of.result
    (turn-fires (schedule c.args.job.now) c.loop-left.fired c.loop-left.last (node_of (shown_node c.loop-left.top)) c.in_ok-firing.field-0 c.in_ok-firing.ensures c.in-Fire.firing c.in-Fire.is c.of.result (c.of.ensures ∙ c.deref.ensures.value))
    (shown_node c.fire_within.new.node) c.in-Full.ensures.outline c.in-Full.blocked c.in-Full.ensures.answers m those) a

pub returns-in-Spent-clause-report : goal.returns-in-Spent-clause-report
returns-in-Spent-clause-report c =
    ends-within c.args.job.now c.args.budget (shown_node c.args.top.now) c.requires.runnable c.loop-left.fired c.loop-left.last (shown_node c.loop-left.top) c.loop-left.left c.loop-left.invariant c.in-Fire.firing.tag c.of.result
    (turn-fires (schedule c.args.job.now) c.loop-left.fired c.loop-left.last (node_of (shown_node c.loop-left.top)) c.in_ok-firing.field-0 c.in_ok-firing.ensures c.in-Fire.firing c.in-Fire.is c.of.result (c.of.ensures ∙ c.deref.ensures.value))
    (shown_node c.fire_within.new.node) c.in-Spent.ensures.outline c.fire_within.new.left c.in-Spent.ensures.counted c.in-Spent.field-0 c.in-Spent.ensures.answers (meets_of (kept_of (shown_node c.fire_within.new.node))) (its-own (shown_node c.fire_within.new.node))

pub returns-in-Spent-clause-complete : goal.returns-in-Spent-clause-complete
returns-in-Spent-clause-complete c = λ a. completes c.args.job.now c.args.budget (shown_node c.args.top.now) (shown_node c.fire_within.new.node) (ended.Spent c.args.budget)
    (λ m those. ends-within c.args.job.now c.args.budget (shown_node c.args.top.now) c.requires.runnable c.loop-left.fired c.loop-left.last (shown_node c.loop-left.top) c.loop-left.left c.loop-left.invariant c.in-Fire.firing.tag c.of.result
    (turn-fires (schedule c.args.job.now) c.loop-left.fired c.loop-left.last (node_of (shown_node c.loop-left.top)) c.in_ok-firing.field-0 c.in_ok-firing.ensures c.in-Fire.firing c.in-Fire.is c.of.result (c.of.ensures ∙ c.deref.ensures.value))
    (shown_node c.fire_within.new.node) c.in-Spent.ensures.outline c.fire_within.new.left c.in-Spent.ensures.counted c.in-Spent.field-0 c.in-Spent.ensures.answers m those) a

pub loop-left-smaller : goal.loop-left-smaller
loop-left-smaller c =
    falls c.args.job.now c.args.budget (shown_node c.args.top.now) c.requires.runnable c.loop-left.fired c.loop-left.last (shown_node c.loop-left.top) c.loop-left.left c.loop-left.invariant c.in-Fire.firing.tag c.of.result
    (turn-fires (schedule c.args.job.now) c.loop-left.fired c.loop-left.last (node_of (shown_node c.loop-left.top)) c.in_ok-firing.field-0 c.in_ok-firing.ensures c.in-Fire.firing c.in-Fire.is c.of.result (c.of.ensures ∙ c.deref.ensures.value))
    (shown_node c.fire_within.new.node) c.in-Done.ensures.outline c.fire_within.new.left c.in-Done.ensures.counted c.in-Done.field-0 c.in-Done.ensures.answers

pub loop-left-preserved : goal.loop-left-preserved
loop-left-preserved c =
    goes-on c.args.job.now c.args.budget (shown_node c.args.top.now) c.requires.runnable c.loop-left.fired c.loop-left.last (shown_node c.loop-left.top) c.loop-left.left c.loop-left.invariant c.in-Fire.firing.tag c.of.result
    (turn-fires (schedule c.args.job.now) c.loop-left.fired c.loop-left.last (node_of (shown_node c.loop-left.top)) c.in_ok-firing.field-0 c.in_ok-firing.ensures c.in-Fire.firing c.in-Fire.is c.of.result (c.of.ensures ∙ c.deref.ensures.value))
    (shown_node c.fire_within.new.node) c.in-Done.ensures.outline c.fire_within.new.left c.in-Done.ensures.counted c.in-Done.field-0 c.in-Done.ensures.answers

pub returns-clause-report : goal.returns-clause-report
returns-clause-report c =
    ends-spent c.args.job.now c.args.budget (shown_node c.args.top.now) c.requires.runnable c.loop-left.fired c.loop-left.last (shown_node c.loop-left.top) c.loop-left.left c.loop-left.invariant (omega (arith, c.loop-left-test.false)) (meets_of (kept_of (shown_node c.loop-left.top))) (its-own (shown_node c.loop-left.top))

pub returns-clause-complete : goal.returns-clause-complete
returns-clause-complete c = λ a. completes c.args.job.now c.args.budget (shown_node c.args.top.now) (shown_node c.loop-left.top) (ended.Spent c.args.budget)
    (λ m those. ends-spent c.args.job.now c.args.budget (shown_node c.args.top.now) c.requires.runnable c.loop-left.fired c.loop-left.last (shown_node c.loop-left.top) c.loop-left.left c.loop-left.invariant (omega (arith, c.loop-left-test.false)) m those) a
