use Rattle.std.proofs.Common.{arith, to_z-of_z, append_assoc}
use Rattle.std.proofs.lemmas.List.{drop_all}
use Rattle.pt_trace.proofs.line.put_line.Goals as goal

pub returns-clause-written : goal.returns-clause-written
returns-clause-written c =
    rw (c.put_head.ensures.written, c.put_integer-value.ensures.written, c.put_byte-end.ensures.written, drop_all 96 c.args.line.now (omega arith), to_z-of_z c.ranges.value) (simp append_assoc)
