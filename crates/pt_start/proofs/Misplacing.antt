-- Where an entity is refused for where it stands, from what was looked at.
use Rattle.std.proofs.Common.{◌≡◌, ℕ, ◌+◌, ◌<◌, ◌≤◌, inl, inr, false, Some, List, length, get_or, map, sym, ap, subst, ◌∙◌, arith}
use Rattle.std.proofs.lemmas.Bool.{both_ways, cases_eq}
use Rattle.std.proofs.lemmas.List.{length-map}
use Rattle.std.proofs.lemmas.Option.{slice_get-get_or, slice_get_within}
use Rattle.std.specs.List.{slice_get}
use Rattle.pt_document.specs.declared.code.Code.{Code}
use Rattle.pt_net.specs.declared.net.NetEntity.{NetEntity}
use Rattle.pt_net.specs.Net.{NetEntityTree, entity_view}
use Rattle.pt_scopes.specs.declared.values.Values.{Values}
use Rattle.pt_scopes.specs.Scopes.{NetTree}
use Rattle.pt_start.specs.Places.{IsBarred}
use Rattle.pt_start.specs.Misplaced.{is_undirected_top, is_limited_under_sdf, IsTimedBelow, IsRefusedThere, undirected, barred, limited, timed, IsMisplaced}
use Rattle.pt_start.proofs.Outward.{view-at}

-- none of the causes stands
pub none-there : (net : NetTree) (values : Values) (k : ℕ) (e : NetEntityTree) {cause : Code} → is_undirected_top k e ≡ false → (IsBarred net e → ⊥) → is_limited_under_sdf net values k e ≡ false → (IsTimedBelow net e → ⊥) → IsRefusedThere net values k e cause → ⊥
none-there net values k e a b c d (undirected h) = both_ways (is_undirected_top k e) a h
none-there net values k e a b c d (barred h) = b h
none-there net values k e a b c d (limited h) = both_ways (is_limited_under_sdf net values k e) c h
none-there net values k e a b c d (timed h) = d h

-- an entity that was read
pub entity-at : (es ys : List NetEntity) (k : ℕ) (e : NetEntity) → ys ≡ es → k < length ys → e ≡ get_or ys k e → slice_get (map entity_view es) k ≡ Some (entity_view e)
entity-at es ys k e same short is = view-at entity_view es k e (ap (λ (zs : List NetEntity). slice_get zs k) (sym same) ∙ slice_get-get_or ys k e short ∙ ap Some (sym is))

-- one entity more
pub one-more : (net : NetTree) (values : Values) (n : ℕ) (f : NetEntityTree) → slice_get net.entities n ≡ Some f → ((cause : Code) → IsRefusedThere net values n f cause → ⊥) → ((k : ℕ) (e : NetEntityTree) (cause : Code) → k < n → slice_get net.entities k ≡ Some e → IsRefusedThere net values k e cause → ⊥) → (k : ℕ) (e : NetEntityTree) (cause : Code) → k < n + 1 → slice_get net.entities k ≡ Some e → IsRefusedThere net values k e cause → ⊥
one-more net values n f at here before k e cause below there h = elim (cases_eq k n) [ inl s ↦ newest s | inr ne ↦ before k e cause (omega arith) there h ]
  where
    newest : k ≡ n → ⊥
    newest s =
        let also : slice_get net.entities n ≡ Some e = ap (slice_get net.entities) (sym s) ∙ there in
        let both : Some e ≡ Some f = sym also ∙ at in
        let same : e ≡ f = cc in
        here cause (subst (λ (g : NetEntityTree). IsRefusedThere net values n g cause) same (subst (λ (m : ℕ). IsRefusedThere net values m e cause) s h))

-- all entities were looked at
pub none-misplaced : (net : NetTree) (values : Values) (es ys : List NetEntity) (n : ℕ) → ys ≡ es → net.entities ≡ map entity_view es → length ys ≤ n → ((k : ℕ) (e : NetEntityTree) (cause : Code) → k < n → slice_get net.entities k ≡ Some e → IsRefusedThere net values k e cause → ⊥) → (cause : Code) (k : ℕ) → IsMisplaced net values cause k → ⊥
none-misplaced net values es ys n same is whole none cause k m =
    let a : length ys ≡ length es = ap (λ (zs : List NetEntity). length zs) same in
    let b : length net.entities ≡ length (map entity_view es) = ap (λ (zs : List NetEntityTree). length zs) is in
    none k m.entity cause (omega (arith, slice_get_within net.entities k m.entity m.at, length-map es entity_view, a, b, whole)) m.at m.refused
