use Rattle.std.proofs.Common.{length, take, drop, ap, ◌∙◌, sym, subst}
use Rattle.pt_sdf_parts.specs.Feeds.{AreThere}
use Rattle.pt_sdf_parts.proofs.Lists.{skip-long}
use Rattle.pt_sdf_parts.proofs.scattering.scatter.Goals as goal

pub deliver-requires-clause-there : goal.deliver-requires-clause-there
deliver-requires-clause-there c =
    subst (λ v. AreThere v (length c.args.outputs) c.args.feeds.now)
    (sym (ap (λ v. length v) c.skip_places.ensures.lists ∙ skip-long c.args.from (take c.args.n (drop c.args.from c.args.needs.now)) c.prepare.new.channels.lists ∙ ap (λ v. length v) c.prepare.ensures.lists)) c.requires.there
