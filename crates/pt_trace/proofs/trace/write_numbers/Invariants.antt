use Rattle.std.proofs.Common.{◌≡◌, ◌++◌, map, drop}
use Rattle.pt_meaning.specs.Basics.{with_tag}
use Rattle.pt_value.specs.declared.token.Token.TheVariants.{Int}
use Rattle.pt_trace.specs.TraceText.{token_lines}
use Rattle.pt_trace.proofs.trace.write_numbers.Given as goal

-- the lines so far, and those of what is left
abbrev pub invariant-loop-number : goal.invariant-loop-number
invariant-loop-number l = l.out.items ++ token_lines l.number (with_tag l.tag (map Int (drop l.number l.numbers))) ≡ l.initial.out.items ++ token_lines 0 (with_tag l.tag (map Int l.numbers))
