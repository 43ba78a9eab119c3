use Rattle.std.proofs.Common.{◌≡◌, ◌+◌, ◌++◌, drop}
use Rattle.pt_trace.specs.TraceText.{token_lines}
use Rattle.pt_trace.proofs.trace.write_rest.Given as goal

-- the lines so far, and those of what is left
abbrev pub invariant-loop-k : goal.invariant-loop-k
invariant-loop-k l = l.out.items ++ token_lines (l.first + l.k) (drop l.k l.tokens) ≡ l.initial.out.items ++ token_lines l.first l.tokens
