-- Ports with their types, one by one.
use Rattle.std.proofs.Common.{◌≡◌, ℕ, ◌+◌, ◌<◌, List, [], ◌∷◌, ◌++◌, length, get_or, drop, map, refl, sym, ap, ap₂, ◌∙◌}
use Rattle.std.specs.Prelude.{Option, Some, None, option_map, slice_get}
use Rattle.pt_types.specs.declared.ty.Ty.{Ty}
use Rattle.pt_datatypes.specs.Normal.{normal}
use Rattle.pt_types.specs.Ty.{written, type_of}
use Rattle.pt_document.specs.declared.job.Port.{Port}
use Rattle.pt_document.specs.Document.{PortTree}
use Rattle.pt_document.specs.View.{port_view}
use Rattle.pt_types.specs.Entry.{typed_entry}
use Rattle.pt_start.specs.PortTypes.{named_types, with_type}
use Rattle.pt_start.proofs.Loops.{drop-at, drop-read, drop-unread}

named-none : (ps : List PortTree) → named_types ps [] ≡ []
named-none [] = refl
named-none (p ∷ ps) = refl

typed-by : (ps : List Port) (ts : List Ty) (i : ℕ) (p : Port) (o : Option Ty) → drop i ps ≡ p ∷ drop (i + 1) ps → slice_get ts i ≡ o → named_types (map port_view (drop i ps)) (map type_of (drop i ts)) ≡ with_type p.name (option_map type_of o) ++ named_types (map port_view (drop (i + 1) ps)) (map type_of (drop (i + 1) ts))
typed-by ps ts i p None here at =
    let none = drop-unread ts i at in
    ap (λ us. named_types (map port_view (drop i ps)) (map type_of us)) none.0 ∙ named-none (map port_view (drop i ps)) ∙ sym (named-none (map port_view (drop (i + 1) ps))) ∙ ap (λ us. named_types (map port_view (drop (i + 1) ps)) (map type_of us)) (sym none.1)
typed-by ps ts i p (Some t) here at = ap₂ (λ qs us. named_types (map port_view qs) (map type_of us)) here (drop-read ts i t at)

pub typed-step : (ps : List Port) (ts : List Ty) (i : ℕ) (p : Port) → i < length ps → p ≡ get_or ps i p → named_types (map port_view (drop i ps)) (map type_of (drop i ts)) ≡ with_type p.name (option_map type_of (slice_get ts i)) ++ named_types (map port_view (drop (i + 1) ps)) (map type_of (drop (i + 1) ts))
typed-step ps ts i p short is = typed-by ps ts i p (slice_get ts i) (drop-at ps i p short is) refl

map-snoc : {A B : Type 0} (f : A → B) (xs : List A) (x : A) → map f (xs ++ x ∷ []) ≡ map f xs ++ f x ∷ []
map-snoc f [] x = refl
map-snoc f (y ∷ ys) x = ap (λ zs. f y ∷ zs) (map-snoc f ys x)

-- a copy is put behind with its name
pub typed-more : (old new : List (List ℕ × Ty)) (name copy : List ℕ) (t u : Ty) → new ≡ old ++ (copy, u) ∷ [] → copy ≡ name → written u ≡ written t → map typed_entry new ≡ map typed_entry old ++ (name, type_of t) ∷ []
typed-more old new name copy t u put e f = ap (map typed_entry) put ∙ map-snoc typed_entry old (copy, u) ∙ ap₂ (λ n w. map typed_entry old ++ (n, normal w) ∷ []) e f
