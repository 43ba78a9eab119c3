use Rattle.pt_node.specs.Acts.{acts}
use Rattle.pt_turns.proofs.Acting.{acts-law}
use Rattle.pt_turns.proofs.Firing.{may-ask}
use Rattle.pt_turns.proofs.Loop.{once-asked}
use Rattle.pt_pause.proofs.pause.wait.Goals as goal

pub ask-asked-requires : goal.ask-asked-requires
ask-asked-requires c = let r = c.requires.1 in may-ask acts acts-law (c.loop-pause.invariant r.before r.olds c.requires.0 r.inputs r.allowance r.start r.at)

pub heed-requires : goal.heed-requires
heed-requires c =
    let r = c.requires.1 in (
      c.requires.0,
      record { before = r.before; olds = r.olds; inputs = r.inputs; allowance = r.allowance; start = r.start; between = once-asked acts acts-law (c.loop-pause.invariant r.before r.olds c.requires.0 r.inputs r.allowance r.start r.at) c.ask-asked.result c.ask-asked.new.self c.ask-asked.ensures.gives c.ask-asked.ensures.state },
    )

pub returns-in-Some : goal.returns-in-Some
returns-in-Some c before olds tag X allowance start a = c.in-Some.ensures before olds tag X allowance start c.loop-pause.director (c.loop-pause.invariant before olds tag X allowance start a) c.ask-asked.ensures.gives c.ask-asked.ensures.state

pub loop-pause-smaller : goal.loop-pause-smaller
loop-pause-smaller c = let r = c.requires.1 in (c.in_default.ensures r.before r.olds c.requires.0 r.inputs r.allowance r.start c.loop-pause.director (c.loop-pause.invariant r.before r.olds c.requires.0 r.inputs r.allowance r.start r.at) c.ask-asked.ensures.gives c.ask-asked.ensures.state).1

pub loop-pause-preserved : goal.loop-pause-preserved
loop-pause-preserved c before olds tag X allowance start a = (c.in_default.ensures before olds tag X allowance start c.loop-pause.director (c.loop-pause.invariant before olds tag X allowance start a) c.ask-asked.ensures.gives c.ask-asked.ensures.state).0
