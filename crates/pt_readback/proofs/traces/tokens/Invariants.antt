use Rattle.std.proofs.Common.{length}
use Rattle.std.specs.Char.{is_ascii_digit}
use Rattle.pt_meaning.specs.Basics.{Tag}
use Rattle.pt_value.specs.declared.token.Token.{Token}
use Rattle.pt_readback.specs.Report.{FitsTagged}
use Rattle.pt_readback.specs.Lines.{never, say_token}
use Rattle.pt_readback.specs.Listed.{SoFar}
use Rattle.pt_readback.proofs.traces.tokens.Given as goal

abbrev pub invariant-loop-alloc : goal.invariant-loop-alloc
invariant-loop-alloc l = SoFar say_token FitsTagged (λ (t : Tag × Token). Unit {0}) is_ascii_digit never l.fn.text l.tokens.items l.rest

abbrev pub decreases-loop-alloc : goal.decreases-loop-alloc
decreases-loop-alloc l = length l.rest
