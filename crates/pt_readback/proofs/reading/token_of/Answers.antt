use Rattle.std.proofs.Common.{rules}
use Rattle.std.proofs.lemmas.Result.{err_from_is_err_and}
use Rattle.pt_readback.proofs.reading.token_of.Goals as goal

pub returns-in_err-read : goal.returns-in_err-read
returns-in_err-read c = λ v h.
    let p = err_from_is_err_and c.from_residual.result c.from_residual.ensures.1 in
    rw (p.1, p.2) (c.in_err-read.ensures.ends v (c.loop-rest.invariant v h))
