-- A sequence that gives a value.
use Rattle.std.proofs.Common.{◌≡◌, ℕ, [], ◌∷◌, true, Some, length, sym, ap, ◌∙◌, subst, slice_get, if◌then◌else◌}
use Rattle.pt_meaning.specs.Basics.{Streams, Tag}
use Rattle.pt_value.specs.Token.{token_of, value_of, token_of-value_of}
use Rattle.pt_value.specs.declared.token.Token.{Token}
use Rattle.pt_firing.specs.Step.{Makes}
use Rattle.pt_firing.specs.declared.step.Step.TheVariants as made
use Rattle.pt_flow_streams.specs.declared.sequence.Sequence.{Sequence}
use Rattle.pt_flow_base.specs.Row.{gives, rests}
use Rattle.pt_flow_base.specs.Limit.{is_called}
use Rattle.pt_flow_streams.specs.Sequence.{given, step, moved, index_after}

pub sequence-gives : (tag : Tag) (a : Sequence) (X : Streams Token) (t : Token) (out : Streams Token) (n : ℕ) → Some (value_of t) ≡ slice_get a.values a.index → is_called X ≡ true → out ≡ (t ∷ []) ∷ [] → n ≡ index_after a.cyclic (length a.values) a.index →
    Makes (step tag a X) a (made.Done out) (record { values = a.values; cyclic = a.cyclic; index = n; places = a.places })
sequence-gives tag a X t out n due called given_is moved_is =
    let after : Sequence = record { values = a.values; cyclic = a.cyclic; index = n; places = a.places } in
    subst (λ o. Makes (given a X o) a (made.Done out) after) due (
    subst (λ b. Makes (if b then gives (moved a) (token_of (value_of t)) else rests a) a (made.Done out) after) (sym called)
    (given_is ∙ ap (λ u. (u ∷ []) ∷ []) (sym (token_of-value_of t)), ap (λ k. (let at_k : Sequence = record { values = a.values; cyclic = a.cyclic; index = k; places = a.places } in at_k)) moved_is))
