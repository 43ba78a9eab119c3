-- Parameters that have tokens, one by one.
use Rattle.std.proofs.Common.{◌≡◌, ℕ, ◌+◌, ◌<◌, ◌≤◌, List, [], ◌∷◌, ◌++◌, length, get_or, drop, refl, sym, ap, ap₂, ◌∙◌, append_assoc}
use Rattle.std.specs.Prelude.{Option, Some, None, option_map, slice_get}
use Rattle.std.specs.List.{filter_map, cons_option}
use Rattle.pt_value.specs.declared.token.Token.{Token}
use Rattle.pt_value.specs.Token.{value_of, token_of-value_of}
use Rattle.pt_document.specs.declared.job.Property.{Property}
use Rattle.pt_document.specs.Document.{PropertyTree, property_name}
use Rattle.pt_document.specs.View.{property_view, properties_view}
use Rattle.pt_scopes.specs.declared.parameter_value.ParameterValue.{ParameterValue}
use Rattle.pt_scopes.specs.declared.parameter_value.ParameterValue.TheVariants as parameter
use Rattle.pt_scopes.specs.Scopes.{Bindings, bound}
use Rattle.pt_start.specs.Started.{given_tokens, own_tokens, given_tree, token_under, seen_token}
use Rattle.pt_start.specs.Own.{own_token}
use Rattle.pt_start.specs.Frames.{with_token, token_in, named_tokens}
use Rattle.pt_start.proofs.Loops.{drop-at, drop-read, drop-unread, drop-all}

given-none : (ps : List PropertyTree) → given_tokens ps [] ≡ []
given-none [] = refl
given-none (p ∷ ps) = refl

one-given : (p : PropertyTree) (ps : List PropertyTree) (v : ParameterValue) (vs : List ParameterValue) → given_tokens (p ∷ ps) (v ∷ vs) ≡ with_token (property_name p) (token_in (Some v)) ++ given_tokens ps vs
one-given p ps (parameter.Token t) vs = refl
one-given p ps (parameter.Tree e) vs = refl
one-given p ps parameter.Word vs = refl

given-by : (ps : List Property) (vs : List ParameterValue) (i : ℕ) (p : Property) (o : Option ParameterValue) → drop i ps ≡ p ∷ drop (i + 1) ps → slice_get vs i ≡ o → given_tokens (properties_view (drop i ps)) (drop i vs) ≡ with_token (property_name (property_view p)) (token_in o) ++ given_tokens (properties_view (drop (i + 1) ps)) (drop (i + 1) vs)
given-by ps vs i p None here at =
    let none = drop-unread vs i at in
    ap (λ us. given_tokens (properties_view (drop i ps)) us) none.0 ∙ given-none (properties_view (drop i ps)) ∙ sym (given-none (properties_view (drop (i + 1) ps))) ∙ ap (λ us. given_tokens (properties_view (drop (i + 1) ps)) us) (sym none.1)
given-by ps vs i p (Some v) here at =
    ap₂ (λ qs us. given_tokens (properties_view qs) us) here (drop-read vs i v at) ∙ one-given (property_view p) (properties_view (drop (i + 1) ps)) v (drop (i + 1) vs)

pub given-step : (ps : List Property) (vs : List ParameterValue) (i : ℕ) (p : Property) → i < length ps → p ≡ get_or ps i p → given_tokens (properties_view (drop i ps)) (drop i vs) ≡ with_token (property_name (property_view p)) (token_in (slice_get vs i)) ++ given_tokens (properties_view (drop (i + 1) ps)) (drop (i + 1) vs)
given-step ps vs i p short is = given-by ps vs i p (slice_get vs i) (drop-at ps i p short is) refl

pub given-all : (ps : List Property) (vs : List ParameterValue) (i : ℕ) → length ps ≤ i → given_tokens (properties_view (drop i ps)) (drop i vs) ≡ []
given-all ps vs i h = ap (λ qs. given_tokens (properties_view qs) (drop i vs)) (drop-all ps i h)

-- ---- the own parameters of an actor

own-none : (ps : List PropertyTree) → own_tokens ps [] ≡ []
own-none [] = refl
own-none (p ∷ ps) = refl

one-own : (p : PropertyTree) (ps : List PropertyTree) (v : ParameterValue) (vs : List ParameterValue) → own_tokens (p ∷ ps) (v ∷ vs) ≡ own_token p (Some v) ++ own_tokens ps vs
one-own p ps (parameter.Token t) vs = refl
one-own p ps (parameter.Tree e) vs = refl
one-own p ps parameter.Word vs = refl

own-by : (ps : List Property) (vs : List ParameterValue) (i : ℕ) (p : Property) (o : Option ParameterValue) → drop i ps ≡ p ∷ drop (i + 1) ps → slice_get vs i ≡ o → own_tokens (properties_view (drop i ps)) (drop i vs) ≡ own_token (property_view p) o ++ own_tokens (properties_view (drop (i + 1) ps)) (drop (i + 1) vs)
own-by ps vs i p None here at =
    let none = drop-unread vs i at in
    ap (λ us. own_tokens (properties_view (drop i ps)) us) none.0 ∙ own-none (properties_view (drop i ps)) ∙ sym (own-none (properties_view (drop (i + 1) ps))) ∙ ap (λ us. own_tokens (properties_view (drop (i + 1) ps)) us) (sym none.1)
own-by ps vs i p (Some v) here at =
    ap₂ (λ qs us. own_tokens (properties_view qs) us) here (drop-read vs i v at) ∙ one-own (property_view p) (properties_view (drop (i + 1) ps)) v (drop (i + 1) vs)

pub own-step : (ps : List Property) (vs : List ParameterValue) (i : ℕ) (p : Property) → i < length ps → p ≡ get_or ps i p → own_tokens (properties_view (drop i ps)) (drop i vs) ≡ own_token (property_view p) (slice_get vs i) ++ own_tokens (properties_view (drop (i + 1) ps)) (drop (i + 1) vs)
own-step ps vs i p short is = own-by ps vs i p (slice_get vs i) (drop-at ps i p short is) refl

pub own-all : (ps : List Property) (vs : List ParameterValue) (i : ℕ) → length ps ≤ i → own_tokens (properties_view (drop i ps)) (drop i vs) ≡ []
own-all ps vs i h = ap (λ qs. own_tokens (properties_view qs) (drop i vs)) (drop-all ps i h)

-- ---- the parameters of a transparent composite

named-none : (ps : List PropertyTree) → named_tokens ps [] ≡ []
named-none [] = refl
named-none (p ∷ ps) = refl

named-by : (ps : List Property) (ts : List Token) (i : ℕ) (p : Property) (o : Option Token) → drop i ps ≡ p ∷ drop (i + 1) ps → slice_get ts i ≡ o → named_tokens (properties_view (drop i ps)) (drop i ts) ≡ with_token (property_name (property_view p)) o ++ named_tokens (properties_view (drop (i + 1) ps)) (drop (i + 1) ts)
named-by ps ts i p None here at =
    let none = drop-unread ts i at in
    ap (λ us. named_tokens (properties_view (drop i ps)) us) none.0 ∙ named-none (properties_view (drop i ps)) ∙ sym (named-none (properties_view (drop (i + 1) ps))) ∙ ap (λ us. named_tokens (properties_view (drop (i + 1) ps)) us) (sym none.1)
named-by ps ts i p (Some t) here at = ap₂ (λ qs us. named_tokens (properties_view qs) us) here (drop-read ts i t at)

pub named-step : (ps : List Property) (ts : List Token) (i : ℕ) (p : Property) → i < length ps → p ≡ get_or ps i p → named_tokens (properties_view (drop i ps)) (drop i ts) ≡ with_token (property_name (property_view p)) (slice_get ts i) ++ named_tokens (properties_view (drop (i + 1) ps)) (drop (i + 1) ts)
named-step ps ts i p short is = named-by ps ts i p (slice_get ts i) (drop-at ps i p short is) refl

pub named-all : (ps : List Property) (ts : List Token) (i : ℕ) → length ps ≤ i → named_tokens (properties_view (drop i ps)) (drop i ts) ≡ []
named-all ps ts i h = ap (λ qs. named_tokens (properties_view qs) (drop i ts)) (drop-all ps i h)

-- some are put behind
pub put-some : {A : Type 0} (xs ys some rest more whole : List A) → ys ≡ xs ++ some → rest ≡ some ++ more → xs ++ rest ≡ whole → ys ++ more ≡ whole
put-some xs ys some rest more whole put is h = ap (λ zs. zs ++ more) put ∙ append_assoc xs some more ∙ ap (λ r. xs ++ r) (sym is) ∙ h

-- what a name is found to stand for
pub seen-step : (seen : Bindings) (name : List ℕ) (found : Option Token) (names : List (List ℕ)) → option_map (λ t. Some (value_of t)) found ≡ bound seen name → filter_map (seen_token seen) (name ∷ names) ≡ with_token name found ++ filter_map (seen_token seen) names
seen-step seen name found names is = ap (λ o. cons_option (token_under name o) (filter_map (seen_token seen) names)) (sym is) ∙ by_found found
  where
    by_found : (found : Option Token) → cons_option (token_under name (option_map (λ t. Some (value_of t)) found)) (filter_map (seen_token seen) names) ≡ with_token name found ++ filter_map (seen_token seen) names
    by_found None = refl
    by_found (Some t) = ap (λ u. (name, u) ∷ filter_map (seen_token seen) names) (token_of-value_of t)

-- a parameter without a tree
pub no-tree-step : (vs : List ParameterValue) (i : ℕ) (v : ParameterValue) → i < length vs → v ≡ get_or vs i v → given_tree (v ∷ []) ≡ None → given_tree (drop i vs) ≡ given_tree (drop (i + 1) vs)
no-tree-step vs i v short is none = ap given_tree (drop-at vs i v short is) ∙ by_value v none
  where
    by_value : (v : ParameterValue) → given_tree (v ∷ []) ≡ None → given_tree (v ∷ drop (i + 1) vs) ≡ given_tree (drop (i + 1) vs)
    by_value (parameter.Token t) none = refl
    by_value (parameter.Tree e) none = cc
    by_value parameter.Word none = refl
