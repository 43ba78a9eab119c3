use Rattle.std.proofs.lemmas.Fmt.{decimal_digit}
use Rattle.pt_trace.proofs.writing.write_number.Goals as goal

pub returns-then-n-lt10 : goal.returns-then-n-lt10
returns-then-n-lt10 c = rw (c.in_ok-push.ensures.items, decimal_digit c.args.n c.if-n-lt10.true)
