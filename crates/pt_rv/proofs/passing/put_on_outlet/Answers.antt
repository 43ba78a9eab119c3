use Rattle.std.proofs.Common.{arith}
use Rattle.pt_rv.proofs.EndLaws.{output-put, spare-is, spare-less}
use Rattle.pt_rv.proofs.passing.put_on_outlet.Goals as goal

pub put-requires : goal.put-requires
put-requires c = let e = spare-is c.args.outlets.now.items c.args.outlet c.index_mut.result.now c.requires.there c.index_mut.ensures.value in omega (arith, e, c.requires.room)

pub returns-clause-lists : goal.returns-clause-lists
returns-clause-lists c = output-put c.args.outlets.now.items c.args.outlet c.index_mut.result.now c.put.new.self c.args.token c.requires.there c.index_mut.ensures.value c.put.ensures.list

pub returns-clause-room : goal.returns-clause-room
returns-clause-room c o = spare-less c.args.outlets.now.items c.args.outlet c.index_mut.result.now c.put.new.self c.requires.there c.index_mut.ensures.value c.put.ensures.spare o
