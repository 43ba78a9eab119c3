use Rattle.std.proofs.Common.{◌≡◌, ◌++◌, map, take}
use Rattle.pt_meaning.specs.Basics.{with_tag}
use Rattle.pt_value.specs.declared.token.Token.TheVariants.{Int}
use Rattle.pt_tagged.proofs.tagged.push_each.Given as goal

-- the integers so far, each with the tag
abbrev pub invariant-loop-number : goal.invariant-loop-number
invariant-loop-number l = l.rest.items ≡ l.fn.rest.items ++ with_tag l.tag (take l.number-index (map Int l.numbers))
