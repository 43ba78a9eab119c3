use Rattle.std.proofs.Common.{◌≡◌, List, None, subst}
use Rattle.std.specs.Prelude.{slice_get}
use Rattle.pt_net.specs.declared.net.NetEntity.{NetEntity}
use Rattle.pt_builder.proofs.NestedLaws.{absent-at}
use Rattle.pt_builder.specs.Starts.{starts_in}
use Rattle.pt_builder.proofs.builder.Builder.entity_at.Goals as goal

pub returns-in_default-clause-stands : goal.returns-in_default-clause-stands
returns-in_default-clause-stands c =
    absent-at c.args.self.now.net.now (starts_in c.args.self.now) c.args.k c.requires.0 c.requires.1 (subst (λ (v : List NetEntity). slice_get v c.args.k ≡ None) c.deref.ensures.value c.in_default.ensures.none)
