use Rattle.std.proofs.Common.{◌≡◌, ◌++◌, take}
use Rattle.pt_meaning.specs.Basics.{with_tag}
use Rattle.pt_past.proofs.recorded.note_all.Given as goal

-- the tokens so far, each with the tag
abbrev pub invariant-loop-token : goal.invariant-loop-token
invariant-loop-token l = l.noted ≡ l.fn.noted ++ with_tag l.tag (take l.token-index l.tokens)
