use Rattle.std.proofs.Common.{◌≡◌, [], replicate, ap, ◌∙◌, arith}
use Rattle.std.proofs.lemmas.List.{replicate_more}
use Rattle.pt_recv.proofs.channels.empty_runs.Goals as goal

pub loop-preserved : goal.loop-preserved
loop-preserved c = rw (c.push_reserved.ensures.items, c.loop.invariant, c.new.ensures) (replicate_more c.loop.counter [])

pub returns : goal.returns
returns c =
    let all : c.loop.counter ≡ c.args.n = omega arith in
    c.loop.invariant ∙ ap (λ n. replicate n []) all
