use Rattle.std.proofs.Common.{◌≡◌, map, take}
use Rattle.pt_value.specs.declared.token.Token.TheVariants.{Int}
use Rattle.pt_turns.proofs.tokens.as_tokens.Given as goal

-- the tokens of the numbers so far
abbrev pub invariant-loop-number : goal.invariant-loop-number
invariant-loop-number l = l.tokens ≡ map Int (take l.number-index l.numbers)
