use Rattle.std.proofs.Common.{arith}
use Rattle.std.proofs.lemmas.Fmt.{decimal_digit, length-decimal-le}
use Rattle.pt_trace.proofs.line.put_number.Goals as goal

pub returns-then-n-lt10-clause-written : goal.returns-then-n-lt10-clause-written
returns-then-n-lt10-clause-written c = rw (c.put_byte.ensures.written, decimal_digit c.args.n c.if-n-lt10.true)

pub write_digits-requires : goal.write_digits-requires
write_digits-requires c = omega (arith, length-decimal-le 20 c.args.n (omega arith) (omega arith) c.ranges.n.fits)

pub returns-clause-near : goal.returns-clause-near
returns-clause-near c = omega (arith, length-decimal-le 20 c.args.n (omega arith) (omega arith) c.ranges.n.fits)
