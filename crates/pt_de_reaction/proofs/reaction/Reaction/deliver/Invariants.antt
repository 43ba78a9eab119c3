use Rattle.std.proofs.Common.{ℕ, List, length}
use Rattle.pt_value.specs.declared.token.Token.{Token}
use Rattle.pt_reaction.specs.Feeds.{targets}
use Rattle.pt_de_reaction.specs.Reaction.{IsStaged}
use Rattle.pt_de_reaction.proofs.DeliverLaws.{SoFar}
use Rattle.pt_de_reaction.proofs.reaction.Reaction.deliver.Given as goal

abbrev pub invariant-loop-k : goal.invariant-loop-k
invariant-loop-k l =
    (given : ℕ → List Token) → IsStaged given (targets (length l.fn.self.state.plan.net.places) l.row 0 l.fn.self.state.plan.net.sources) l.fn.staged.items l.fn.self.spares → SoFar given (targets (length l.fn.self.state.plan.net.places) l.row 0 l.fn.self.state.plan.net.sources) l.fn.self.state l.self.state l.k l.staged.items l.self.spares
