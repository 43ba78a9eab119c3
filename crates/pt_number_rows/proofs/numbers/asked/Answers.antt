use Rattle.std.proofs.Common.{arith}
use Rattle.pt_directors.specs.Directors.{director_calls}
use Rattle.pt_node.specs.Acts.{acts}
use Rattle.pt_turns.proofs.Acting.{acts-law}
use Rattle.pt_turns.proofs.Firing.{may-ask, at-moved, move-lessens}
use Rattle.pt_turns.proofs.Loop.{once-asked, is-move, no-meeting}
use Rattle.pt_number_rows.proofs.Moving.{at-moves, moves-lessen}
use Rattle.pt_number_rows.proofs.numbers.asked.Goals as goal

pub ask_on-requires : goal.ask_on-requires
ask_on-requires g c = let r = c.requires.1.1.1 in may-ask acts acts-law (c.loop-next.invariant r.before r.olds c.requires.1.1.0 r.inputs r.allowance r.own c.requires.0 c.requires.1.0 r.at)

pub returns-in_default : goal.returns-in_default
returns-in_default g c before olds tag X allowance own now left a =
    once-asked acts acts-law (at-moves acts acts-law c.ask_on.ensures.moved (c.loop-next.invariant before olds tag X allowance own now left a)) c.ask_on.result (g.C.NumberCore.director c.ask_on.new.self) c.ask_on.ensures.gives c.ask_on.ensures.state

pub loop-next-smaller : goal.loop-next-smaller
loop-next-smaller g c =
    let r = c.requires.1.1.1 in
    let at = c.loop-next.invariant r.before r.olds c.requires.1.1.0 r.inputs r.allowance r.own c.requires.0 c.requires.1.0 r.at in
    let some = moves-lessen acts acts-law c.ask_on.ensures.moved at in
    let less = move-lessens acts acts-law (at-moves acts acts-law c.ask_on.ensures.moved at) c.ask_on.result (is-move c.ask_on.result c.in-Get.is) c.ask_on.ensures.gives (g.C.NumberCore.director c.ask_on.new.self) c.ask_on.ensures.state in
    omega (arith, some, less)

pub loop-next-preserved : goal.loop-next-preserved
loop-next-preserved g c before olds tag X allowance own now left a =
    at-moved acts acts-law (at-moves acts acts-law c.ask_on.ensures.moved (c.loop-next.invariant before olds tag X allowance own now left a)) c.ask_on.result (is-move c.ask_on.result c.in-Get.is) c.ask_on.ensures.gives (g.C.NumberCore.director c.ask_on.new.self) c.ask_on.ensures.state
    (no-meeting c.ask_on.result c.in-Get.is (director_calls.met c.ask_on.ensures.mid))
