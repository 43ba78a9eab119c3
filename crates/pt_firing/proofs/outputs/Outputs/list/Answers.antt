use Rattle.std.proofs.Common.{◌≡◌, ◌<◌, length, subst, sym, ap, ◌∙◌, arith}
use Rattle.pt_firing.specs.Outputs.{on_first, streams_in}
use Rattle.pt_firing.proofs.Streams.{at-on_first, at-read}
use Rattle.pt_firing.proofs.outputs.Outputs.list.Goals as goal

pub returns-else-port-eq0 : goal.returns-else-port-eq0
returns-else-port-eq0 c =
    let e : c.args.self.now ≡ on_first c.in-OnFirst.ports c.in-OnFirst.first = sym c.self.view_is ∙ ap streams_in c.in-OnFirst.is in
    rw e (sym (at-on_first c.in-OnFirst.ports c.in-OnFirst.first c.args.port (omega arith)))

pub returns-in-All : goal.returns-in-All
returns-in-All c =
    let e : c.args.self.now ≡ c.in-All.lists.items = sym c.self.view_is ∙ ap streams_in c.in-All.is in
    let short : c.args.port < length c.in-All.lists.items = subst (λ X. c.args.port < length X) e c.requires in
    rw (e, c.as_slice-in-All.ensures) (sym (at-read c.in-All.lists.items c.args.port c.index.result.now short c.index.ensures))
