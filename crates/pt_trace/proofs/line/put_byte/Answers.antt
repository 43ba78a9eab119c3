use Rattle.std.proofs.Common.{◌≡◌, ◌+◌, ◌-◌, arith}
use Rattle.std.proofs.lemmas.List.{drop-set}
use Rattle.pt_trace.proofs.line.put_byte.Goals as goal

pub returns-clause-written : goal.returns-clause-written
returns-clause-written c =
    let e : c.args.end - 1 + 1 ≡ c.args.end = omega arith in
    rw (drop-set c.args.line.now (c.args.end - 1) _ (omega arith), e)
