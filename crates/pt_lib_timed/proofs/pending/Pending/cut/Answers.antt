use Rattle.std.proofs.Common.{subst, sym}
use Rattle.pt_lib_timed.specs.PendingStore.{IsMarked}
use Rattle.pt_lib_timed.proofs.PendingLaws.{marked-take}
use Rattle.pt_lib_timed.proofs.pending.Pending.cut.Goals as goal

pub invariant_of-self : goal.invariant_of-self
invariant_of-self c = subst (λ es. IsMarked c.self.inside.ascending es) (sym c.truncate.ensures.items) (marked-take c.self.inside.ascending c.args.n c.self.inside.events.items c.self.invariant)
