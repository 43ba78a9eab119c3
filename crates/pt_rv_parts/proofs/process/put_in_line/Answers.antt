use Rattle.std.proofs.Common.{arith}
use Rattle.pt_puts.proofs.LineLaws.{line-spare, line-more, spare-set, spare-other}
use Rattle.pt_rv_parts.proofs.process.put_in_line.Goals as goal

pub put-requires : goal.put-requires
put-requires c = let e = line-spare c.args.lines.now.items c.args.place c.index_mut-line.result.now c.requires.there c.index_mut-line.ensures.value in omega (arith, e, c.requires.room)

pub returns-clause-lists : goal.returns-clause-lists
returns-clause-lists c = line-more c.args.lines.now.items c.args.place c.index_mut-line.result.now c.put.new.self c.args.token c.requires.there c.index_mut-line.ensures.value c.put.ensures.list

pub returns-clause-room : goal.returns-clause-room
returns-clause-room c =
    let e = line-spare c.args.lines.now.items c.args.place c.index_mut-line.result.now c.requires.there c.index_mut-line.ensures.value in
    let f = spare-set c.args.lines.now.items c.args.place c.put.new.self c.requires.there in
    omega (arith, e, f, c.put.ensures.spare)

pub returns-clause-others : goal.returns-clause-others
returns-clause-others c q z = spare-other c.args.lines.now.items c.args.place q c.put.new.self z
