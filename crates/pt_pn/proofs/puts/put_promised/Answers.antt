use Rattle.std.proofs.Common.{arith}
use Rattle.pt_pn.proofs.puts.put_promised.Goals as goal

pub put-requires-clause-spare : goal.put-requires-clause-spare
put-requires-clause-spare c = let r = c.requires.room c.args.put.channel in omega (arith, r, c.requires.promised)
