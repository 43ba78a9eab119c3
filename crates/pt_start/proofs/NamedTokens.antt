-- The parameter of a name, one by one.
use Rattle.std.proofs.Common.{◌≡◌, ℕ, ◌+◌, ◌<◌, List, [], ◌∷◌, length, get_or, drop, Bool, true, false, refl, sym, ap, ap₂, ◌∙◌, if◌then◌else◌}
use Rattle.std.specs.Prelude.{Option, Some, None, slice_get}
use Rattle.std.specs.Str.{bytes_eq}
use Rattle.pt_value.specs.declared.token.Token.{Token}
use Rattle.pt_document.specs.declared.job.Property.{Property}
use Rattle.pt_document.specs.Document.{PropertyTree, property_name}
use Rattle.pt_document.specs.View.{property_view, properties_view}
use Rattle.pt_scopes.specs.declared.parameter_value.ParameterValue.{ParameterValue}
use Rattle.pt_start.specs.Frames.{token_in}
use Rattle.pt_start.specs.Places.{token_named}
use Rattle.pt_start.proofs.Loops.{drop-at, drop-read, drop-unread}

named-none : (ps : List PropertyTree) (name : List ℕ) → token_named ps [] name ≡ None
named-none [] name = refl
named-none (p ∷ ps) name = refl

-- the parameter of this number, and those behind it
pub named-by : (ps : List Property) (vs : List ParameterValue) (i : ℕ) (p : Property) (name : List ℕ) (o : Option ParameterValue) → drop i ps ≡ p ∷ drop (i + 1) ps → slice_get vs i ≡ o → token_named (properties_view (drop i ps)) (drop i vs) name ≡ (if bytes_eq (property_name (property_view p)) name then token_in o else token_named (properties_view (drop (i + 1) ps)) (drop (i + 1) vs) name)
named-by ps vs i p name None here at =
    let none = drop-unread vs i at in
    ap (λ us. token_named (properties_view (drop i ps)) us name) none.0 ∙ named-none (properties_view (drop i ps)) name ∙ either (bytes_eq (property_name (property_view p)) name) (token_named (properties_view (drop (i + 1) ps)) (drop (i + 1) vs) name) (sym (ap (λ us. token_named (properties_view (drop (i + 1) ps)) us name) none.1 ∙ named-none (properties_view (drop (i + 1) ps)) name))
  where
    either : (b : Bool) (other : Option Token) → None ≡ other → None ≡ (if b then None else other)
    either true other e = refl
    either false other e = e
named-by ps vs i p name (Some v) here at = ap₂ (λ qs us. token_named (properties_view qs) us name) here (drop-read vs i v at)

pub named-step : (ps : List Property) (vs : List ParameterValue) (i : ℕ) (p : Property) (name : List ℕ) (b : Bool) → i < length ps → p ≡ get_or ps i p → bytes_eq (property_name (property_view p)) name ≡ b → token_named (properties_view (drop i ps)) (drop i vs) name ≡ (if b then token_in (slice_get vs i) else token_named (properties_view (drop (i + 1) ps)) (drop (i + 1) vs) name)
named-step ps vs i p name b short is test = named-by ps vs i p name (slice_get vs i) (drop-at ps i p short is) refl ∙ ap (λ c. if c then token_in (slice_get vs i) else token_named (properties_view (drop (i + 1) ps)) (drop (i + 1) vs) name) test
