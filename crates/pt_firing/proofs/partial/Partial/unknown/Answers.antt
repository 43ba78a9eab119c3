use Rattle.std.proofs.Common.{◌≡◌, replicate, ap, ◌∙◌, arith}
use Rattle.std.proofs.lemmas.List.{map-append, replicate_more}
use Rattle.pt_meaning.specs.Machine as machine
use Rattle.pt_firing.proofs.partial.Partial.unknown.Goals as goal

pub loop-preserved : goal.loop-preserved
loop-preserved c = rw (c.in_ok-push.ensures.items, map-append, c.loop.invariant) (replicate_more c.loop.counter machine.Unknown)

pub returns : goal.returns
returns c =
    let e : c.loop.counter ≡ c.args.places = omega arith in
    c.loop.invariant ∙ ap (λ n. replicate n machine.Unknown) e
