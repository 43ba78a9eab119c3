use Rattle.std.proofs.Common.{arith, ◌-◌, length-set}
use Rattle.std.proofs.lemmas.Fmt.{length-decimal-le}
use Rattle.pt_meeting_text.proofs.head.put_number.Goals as goal

pub write_digits-requires : goal.write_digits-requires
write_digits-requires c = omega (arith, length-decimal-le 20 c.args.n (omega arith) (omega arith) c.ranges.n.fits, length-set c.args.head.now (c.args.end - 1) 32)

pub returns-clause-near : goal.returns-clause-near
returns-clause-near c = omega (arith, c.write_digits.ensures.start, length-decimal-le 20 c.args.n (omega arith) (omega arith) c.ranges.n.fits)
