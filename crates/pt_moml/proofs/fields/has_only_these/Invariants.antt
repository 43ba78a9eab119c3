use Rattle.std.proofs.Common.{◌≡◌, map, drop}
use Rattle.pt_json.specs.View.{members_view}
use Rattle.pt_moml.specs.Fields.{has_only}
use Rattle.pt_moml.proofs.Members.{are_among}
use Rattle.pt_moml.proofs.fields.has_only_these.Given as goal

abbrev pub invariant-loop-member : goal.invariant-loop-member
invariant-loop-member l = are_among (map (λ k. k.now) l.keys) (drop l.member-index l.members) ≡ has_only (map (λ k. k.now) l.keys) (members_view l.members)
