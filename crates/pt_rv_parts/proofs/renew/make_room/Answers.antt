use Rattle.std.proofs.Common.{◌∙◌, arith}
use Rattle.pt_puts.proofs.LineLaws.{list-set, list-other, spare-set, spare-other}
use Rattle.pt_rv_parts.proofs.renew.make_room.Goals as goal

pub returns-clause-empty : goal.returns-clause-empty
returns-clause-empty c = list-set c.args.lines.now.items c.args.place c.reserve.new.self c.requires ∙ c.in_ok-reserve.ensures.list ∙ c.empty.ensures

pub returns-clause-room : goal.returns-clause-room
returns-clause-room c = let e = spare-set c.args.lines.now.items c.args.place c.reserve.new.self c.requires in let l = c.in_ok-reserve.ensures.room in omega (arith, e, l)

pub returns-clause-others : goal.returns-clause-others
returns-clause-others c q z = (list-other c.args.lines.now.items c.args.place q c.reserve.new.self z, spare-other c.args.lines.now.items c.args.place q c.reserve.new.self z)
