use Rattle.std.proofs.Common.{[], ◌∷◌, length}
use Rattle.pt_meaning.specs.Streams.{at}
use Rattle.pt_value.specs.declared.token.Token.TheVariants.{Int}
use Rattle.pt_reaction.specs.Feeds.{targets}
use Rattle.pt_de_reaction.proofs.SignalLaws.{GivenSoFar}
use Rattle.pt_de_reaction.proofs.reaction.Reaction.give.Given as goal

abbrev pub invariant-loop-k : goal.invariant-loop-k
invariant-loop-k l = GivenSoFar (at ((Int l.number ∷ []) ∷ [])) (targets (length l.fn.self.state.plan.net.places) l.child 0 l.fn.self.state.plan.net.sources) l.fn.self.state l.self.state l.k
