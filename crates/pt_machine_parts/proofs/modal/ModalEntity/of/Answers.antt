use Rattle.std.proofs.Common.{List, subst, Bor}
use Rattle.pt_net.specs.Net.{entity_view}
use Rattle.pt_net.specs.declared.net.NetEntity.{NetEntity}
use Rattle.pt_machine_parts.specs.Views.{kids_view}
use Rattle.pt_machine_parts.specs.Own.{IsOwn}
use Rattle.pt_machine_parts.proofs.modal.ModalEntity.of.Goals as goal

pub returns-clause-numbered : goal.returns-clause-numbered
returns-clause-numbered c = subst (λ (es : List (Bor NetEntity)). IsOwn (entity_view c.args.entity.now) (kids_view es) c.in_ok-own.own) c.deref.ensures.value c.in_ok-own.ensures
