use Rattle.std.proofs.Common.{ap, subst, ◌∙◌, sym}
use Rattle.pt_agenda.specs.Events.{Ascend}
use Rattle.pt_agenda.proofs.InputLaws.{one-ascends}
use Rattle.pt_agenda.proofs.events.tokens_at.Goals as goal

pub token_at-requires : goal.token_at-requires
token_at-requires c = subst Ascend (ap (λ v. v.items) (sym c.events-item.is) ∙ sym c.deref.ensures.value) (one-ascends c.args.inputs.now c.loop-events.events-index c.events-item.result c.requires c.loop-events-test.true)
