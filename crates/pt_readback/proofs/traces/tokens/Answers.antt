use Rattle.std.proofs.Common.{◌≡◌, ◌++◌, ◌∷◌, ◌∙◌, [], true, false, sym, ap, rules}
use Rattle.std.specs.Char.{is_ascii_digit}
use Rattle.std.proofs.lemmas.Bool.{false_from_ne_true}
use Rattle.std.proofs.lemmas.Bool.Decides.{Decides-eqb}
use Rattle.pt_meaning.specs.Basics.{Tag}
use Rattle.pt_value.specs.declared.token.Token.{Token}
use Rattle.pt_readback.specs.Report.{FitsTagged}
use Rattle.pt_readback.specs.Lines.{never, say_token}
use Rattle.pt_readback.proofs.Lines.{token_starts, token_stops}
use Rattle.pt_readback.specs.Listed.{front}
use Rattle.pt_readback.proofs.Listed.{same_fault, so_far_none, so_far_more, so_far_fails, so_far_all}
use Rattle.pt_readback.proofs.traces.tokens.Goals as goal

pub loop-alloc-preserved : goal.loop-alloc-preserved
loop-alloc-preserved c =
    let b : c.push.new.self.items ≡ c.loop-alloc.tokens.items ++ c.in_ok-tagged.tagged ∷ [] = search rules in
    let t : is_ascii_digit (front c.loop-alloc.rest.now) ≡ true = ap is_ascii_digit (sym c.front.ensures) ∙ sym c.is_ascii_digit.ensures.value ∙ c.loop-alloc-test.true in
    rw b (so_far_more say_token FitsTagged (λ (t : Tag × Token). Unit {0}) is_ascii_digit never token_starts token_stops c.args.text.now c.loop-alloc.rest.now c.in_ok-tagged.behind.now c.loop-alloc.tokens.items c.in_ok-tagged.tagged c.loop-alloc.invariant t c.in_ok-tagged.ensures.found tt c.in_ok-tagged.ensures.shorter)

pub returns-in_err-tagged-clause-found : goal.returns-in_err-tagged-clause-found
returns-in_err-tagged-clause-found c = λ all after h n s e.
    let t : is_ascii_digit (front c.loop-alloc.rest.now) ≡ true = ap is_ascii_digit (sym c.front.ensures) ∙ sym c.is_ascii_digit.ensures.value ∙ c.loop-alloc-test.true in
    same_fault _ c.from_residual.result c.in_err-tagged.field-0.0 (all, after) c.from_residual.ensures.1 (so_far_fails say_token FitsTagged (λ (t : Tag × Token). Unit {0}) is_ascii_digit never token_starts token_stops _ c.args.text.now c.loop-alloc.rest.now c.loop-alloc.tokens.items c.loop-alloc.invariant t c.in_err-tagged.ensures.found all after h n s e)

pub returns-clause-found : goal.returns-clause-found
returns-clause-found c = λ all after h n s e.
    let t : is_ascii_digit (front c.loop-alloc.rest.now) ≡ false = ap is_ascii_digit (sym c.front.ensures) ∙ sym c.is_ascii_digit.ensures.value ∙ c.loop-alloc-test.false in
    so_far_all say_token FitsTagged (λ (t : Tag × Token). Unit {0}) is_ascii_digit never token_starts token_stops c.args.text.now c.loop-alloc.rest.now c.loop-alloc.tokens.items c.loop-alloc.invariant t all after h n s e
