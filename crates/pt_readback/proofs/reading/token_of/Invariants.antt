use Rattle.std.proofs.Common.{length, option_map, [], None}
use Rattle.pt_value.specs.Value.{Value}
use Rattle.pt_value.specs.Token.{value_of}
use Rattle.pt_readback.specs.Reading.{Ends}
use Rattle.pt_readback.proofs.reading.token_of.Given as goal

abbrev pub invariant-loop-rest : goal.invariant-loop-rest
invariant-loop-rest l = (v : Value) → Ends v [] None l.fn.words → Ends v l.pending.items (option_map value_of l.read) l.rest

abbrev pub decreases-loop-rest : goal.decreases-loop-rest
decreases-loop-rest l = length l.rest
