use Rattle.std.proofs.Common.{arith}
use Rattle.pt_node.specs.Acts.{acts}
use Rattle.pt_turns.proofs.Acting.{acts-law}
use Rattle.pt_turns.proofs.Firing.{may-ask}
use Rattle.pt_turns.proofs.Loop.{once-asked}
use Rattle.pt_rows.proofs.rows.ask_next.Goals as goal

pub ask-asked-requires : goal.ask-asked-requires
ask-asked-requires c = may-ask acts acts-law c.requires.1.at

pub returns-then-left-eq0 : goal.returns-then-left-eq0
returns-then-left-eq0 c before olds tag X allowance own a = (omega (arith, c.if-left-eq0.true), a)

pub returns : goal.returns
returns c before olds tag X allowance own a = once-asked acts acts-law a c.ask-asked.result c.ask-asked.new.self c.ask-asked.ensures.gives c.ask-asked.ensures.state
