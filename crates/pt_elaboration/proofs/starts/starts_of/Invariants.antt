use Rattle.pt_typing.specs.Least.{assignment}
use Rattle.pt_elaboration.proofs.StartLaws.{AreFirst}
use Rattle.pt_elaboration.proofs.starts.starts_of.Given as goal

abbrev pub invariant-loop-number : goal.invariant-loop-number
invariant-loop-number l = AreFirst l.net l.values (assignment l.typing) l.number l.starts.items
