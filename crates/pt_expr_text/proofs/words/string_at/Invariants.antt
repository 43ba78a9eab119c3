use Rattle.std.proofs.Common.{◌≡◌, ◌≤◌, length, string_bytes}
use Rattle.std.specs.Str.{IsUtf8}
use Rattle.pt_language.specs.Words.{string_at}
use Rattle.pt_expr_text.proofs.Strings.{behind_all}
use Rattle.pt_expr_text.proofs.words.string_at.Given as goal

abbrev pub invariant-loop-content : goal.invariant-loop-content
invariant-loop-content l = (string_at l.fn.text ≡ behind_all (string_bytes l.content) (string_at l.rest)) × (length l.rest ≤ length l.fn.text) × IsUtf8 l.rest

abbrev pub decreases-loop-content : goal.decreases-loop-content
decreases-loop-content l = length l.rest
