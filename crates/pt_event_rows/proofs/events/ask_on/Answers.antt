use Rattle.std.proofs.Common.{map, refl, sym, ap, subst, arith}
use Rattle.pt_firing.specs.declared.ask.Ask.TheVariants as ask
use Rattle.pt_node.specs.Acts.{acts}
use Rattle.pt_node.specs.Shown.{shown}
use Rattle.pt_directors.specs.Directors.{of_de}
use Rattle.pt_turns.specs.Between.{Between}
use Rattle.pt_turns.proofs.Acting.{acts-law}
use Rattle.pt_turns.proofs.Firing.{may-ask}
use Rattle.pt_turns.proofs.Loop.{once-asked, listen-in, listen-asked, listen-learns, listen-next}
use Rattle.pt_event_rows.proofs.events.ask_on.Goals as goal

pub ask-requires : goal.ask-requires
ask-requires c = let r = c.requires.1.1 in may-ask acts acts-law (c.loop-number.invariant r.before r.olds c.requires.1.0 r.inputs r.allowance r.own c.requires.0 r.at)

pub returns-in_default : goal.returns-in_default
returns-in_default c before olds tag X allowance own left a = once-asked acts acts-law (c.loop-number.invariant before olds tag X allowance own left a) c.ask.result (of_de c.ask.new.self) c.ask.ensures.gives (ap (λ v. of_de v) c.ask.ensures.state)

pub index-child-requires : goal.index-child-requires
index-child-requires c =
    let r = c.requires.1.1 in
    let h = listen-in acts acts-law c.args.children.now.items (c.loop-number.invariant r.before r.olds c.requires.1.0 r.inputs r.allowance r.own c.requires.0 r.at) c.in-Early.number c.in-Early.when c.in-Early.ensures.gives (of_de c.ask.new.self) (ap (λ v. of_de v) c.in-Early.ensures.state) in
    grind (arith, h)

pub hear_signal-requires : goal.hear_signal-requires
hear_signal-requires c =
    let r = c.requires.1.1 in
    listen-asked acts acts-law c.args.children.now.items (c.loop-number.invariant r.before r.olds c.requires.1.0 r.inputs r.allowance r.own c.requires.0 r.at) c.in-Early.number c.in-Early.when c.in-Early.ensures.gives (of_de c.ask.new.self) (ap (λ v. of_de v) c.in-Early.ensures.state)

pub returns-then-not-hear_signal : goal.returns-then-not-hear_signal
returns-then-not-hear_signal c before olds tag X allowance own left a =
    subst (λ s. Between acts before olds tag X allowance own (ask.Early c.in-Early.number c.in-Early.when) (of_de s) (map shown c.args.children.now.items) left) (sym (c.if-not-hear_signal.ensures.kept refl))
    (once-asked acts acts-law (c.loop-number.invariant before olds tag X allowance own left a) (ask.Early c.in-Early.number c.in-Early.when) (of_de c.ask.new.self) c.in-Early.ensures.gives (ap (λ v. of_de v) c.in-Early.ensures.state))

pub loop-number-preserved : goal.loop-number-preserved
loop-number-preserved c before olds tag X allowance own left a =
    listen-next acts acts-law c.args.children.now.items (c.loop-number.invariant before olds tag X allowance own left a) c.in-Early.number c.in-Early.when c.in-Early.ensures.gives (of_de c.ask.new.self) (ap (λ v. of_de v) c.in-Early.ensures.state) c.index-child.result.now c.index-child.ensures (of_de c.hear_signal.new.core) (c.if-not-hear_signal.ensures.heard refl)

pub loop-number-smaller : goal.loop-number-smaller
loop-number-smaller c =
    let r = c.requires.1.1 in
    listen-learns acts acts-law c.args.children.now.items (c.loop-number.invariant r.before r.olds c.requires.1.0 r.inputs r.allowance r.own c.requires.0 r.at) c.in-Early.number c.in-Early.when c.in-Early.ensures.gives (of_de c.ask.new.self) (ap (λ v. of_de v) c.in-Early.ensures.state) c.index-child.result.now c.index-child.ensures (of_de c.hear_signal.new.core) (c.if-not-hear_signal.ensures.heard refl)
