use Rattle.std.proofs.Common.{◌≡◌, ◌+◌, length}
use Rattle.pt_readback.proofs.Fronts.{strip_is}
use Rattle.pt_readback.proofs.cuts.without.Goals as goal

pub returns : goal.returns
returns c = strip_is (λ x. x.now) (λ x. length x.now + length c.args.front.now ≡ length c.args.text.now) c.args.front.now c.args.text.now c.strip_prefix.result c.strip_prefix.ensures.cases
