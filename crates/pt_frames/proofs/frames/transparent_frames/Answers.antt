use Rattle.std.proofs.Common.{◌≡◌, ℕ, List, ap, ◌∙◌}
use Rattle.std.specs.Prelude.{slice_get}
use Rattle.pt_document.specs.View.{properties_view}
use Rattle.pt_scopes.specs.Names.{held}
use Rattle.pt_inequalities.specs.Frames.{with_given, no_names, values_of_tokens, transparent_frames}
use Rattle.pt_frames.proofs.Parts.{transparent_frames-more}
use Rattle.pt_frames.proofs.frames.transparent_frames.Goals as goal

pub loop-number-preserved : goal.loop-number-preserved
loop-number-preserved c =
    let i : ℕ = c.loop-number.number in
    let e = c.index-composites-number.result in
    let h : (name : List ℕ) → held c.in_ok-names.names name ≡ with_given no_names (properties_view e.parameters.items) (values_of_tokens (slice_get c.args.tokens.now i)) name =
    λ name. c.in_ok-names.ensures name ∙ ap (λ ps. with_given no_names (properties_view ps) (values_of_tokens (slice_get c.args.tokens.now i)) name) c.deref.ensures.value in
    transparent_frames-more c.args.composites.now c.args.tokens.now i e (record { within = e.within; parent = e.parent; names = c.in_ok-names.names }) c.loop-number.frames.items c.push.new.self.items (transparent_frames c.args.composites.now c.args.tokens.now) c.loop-number-test.true c.index-composites-number.is
    (λ j. record { within = e.within; parent = e.parent; values = λ name. h name j }) c.in_ok-push.ensures.items c.loop-number.invariant
