use Rattle.std.proofs.Common.{◌≡◌, take, drop, ap, ◌∙◌, sym, subst}
use Rattle.pt_sdf_parts.specs.ByNeed.{skip_at}
use Rattle.pt_sdf_parts.specs.Lanes.{IsInlet, FitsInlet}
use Rattle.pt_sdf_parts.proofs.Lists.{skip-zero}
use Rattle.pt_sdf_parts.proofs.LaneLaws.{inlet-left}
use Rattle.pt_sdf_parts.proofs.number.skip_inlet.Goals as goal

pub returns-in-Alone : goal.returns-in-Alone
returns-in-Alone c =
    let f : IsInlet c.args.needs.now c.args.from c.args.n c.in-Alone.c c.in-Alone.need = subst (λ v. FitsInlet c.args.needs.now c.args.from c.args.n v) c.in-Alone.is c.requires.fits in
    record { lists = c.skip.ensures.lists ∙ inlet-left c.args.needs.now c.args.channels.now.lists c.args.from c.args.n c.in-Alone.c c.in-Alone.need f c.requires.places c.requires.needed }

pub returns-in-Nothing : goal.returns-in-Nothing
returns-in-Nothing c =
    let f : c.args.n ≡ 0 = subst (λ v. FitsInlet c.args.needs.now c.args.from c.args.n v) c.in-Nothing.is c.requires.fits in
    record { lists = sym (ap (λ n. skip_at c.args.from (take n (drop c.args.from c.args.needs.now)) c.args.channels.now.lists) f ∙ skip-zero c.args.from c.args.channels.now.lists) }
