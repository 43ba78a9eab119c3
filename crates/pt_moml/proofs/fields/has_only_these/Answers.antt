use Rattle.std.proofs.Common.{map, sym}
use Rattle.pt_moml.proofs.Members.{only-are_among}
use Rattle.pt_moml.proofs.fields.has_only_these.Goals as goal

pub loop-member-init : goal.loop-member-init
loop-member-init c = sym (only-are_among (map (λ k. k.now) c.args.keys.now) c.args.members.now)
