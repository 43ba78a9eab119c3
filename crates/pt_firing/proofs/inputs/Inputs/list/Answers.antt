use Rattle.std.proofs.Common.{sym, ap, ◌∙◌}
use Rattle.pt_meaning.specs.Basics.{at}
use Rattle.pt_firing.proofs.Streams.{at-read}
use Rattle.pt_firing.proofs.inputs.Inputs.list.Goals as goal

pub returns-in-Some : goal.returns-in-Some
returns-in-Some c =
    let found = c.in-Some.ensures.lookup.3 in
    c.as_slice.ensures ∙ sym (at-read c.self.inside.lists.now c.args.place c.in-Some.list.now found.0 (found.1 c.in-Some.list.now)) ∙ ap (λ X. at X c.args.place) c.self.view_is
