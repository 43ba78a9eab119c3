-- The tests tell where the typing of a net breaks.
use Rattle.std.proofs.Common.{◌≡◌, inl, inr, ℕ, zero, suc, ◌+◌, ◌<◌, true, false, ◌||◌, if◌then◌else◌, List, [], ◌∷◌, length, map, drop, get_or, Option, Some, None, refl, sym, ap, subst, ◌∙◌, arith}
use Rattle.std.proofs.lemmas.Bool.{both_ways, or_cases, or_parts, not-true, not-false, cond-true, cond-false}
use Rattle.std.specs.Prelude.{slice_get}
use Rattle.std.specs.List.{Contains, list_any}
use Rattle.pt_document.specs.Document.{PortTree}
use Rattle.pt_datatypes.specs.Datatype.{Datatype, Boolean}
use Rattle.pt_datatypes.specs.Order.{is_below}
use Rattle.pt_datatypes.specs.Token.{type_of_value}
use Rattle.pt_language.specs.Tree.{Tree}
use Rattle.pt_language.specs.Types.{Types}
use Rattle.pt_net.specs.declared.net.Net.{Net}
use Rattle.pt_net.specs.declared.net.NetEntity.{NetEntity}
use Rattle.pt_net.specs.Net.{NetEntityTree, entity_view}
use Rattle.pt_scopes.specs.Texts.{names_in}
use Rattle.pt_scopes.specs.Given as held
use Rattle.pt_scopes.specs.Given.{Held}
use Rattle.pt_scopes.specs.declared.values.EntityValues.{EntityValues}
use Rattle.pt_scopes.specs.declared.values.Values.{Values}
use Rattle.pt_scopes.specs.Valued.{EntityView}
use Rattle.pt_scopes.specs.Valued as valued
use Rattle.pt_typing.specs.declared.variable.Variable.TheVariants.{Port}
use Rattle.pt_typing.specs.Terms.{names_types, has_type}
use Rattle.pt_typing.specs.Least.{Assignment}
use Rattle.pt_inequalities.specs.Rows.{port_type}
use Rattle.pt_inequalities.specs.Frames.{Frames, frames_of, seen_types, first, behind}
use Rattle.pt_inequalities.specs.Inequalities.{inputs_of, known}
use Rattle.pt_inequalities.specs.ModalScopes.{modal_types}
use Rattle.pt_inequalities.specs.Modals.{Chart, AreCharts}
use Rattle.pt_inequalities.specs.Typing.{Declares, scope_of}
use Rattle.pt_resolve.specs.Faults.{is_above, IsBroken, at_port, above_declared, in_tree, guard, set_action, clash_in}
use Rattle.pt_resolve.specs.ModalFaults.{first_failing}
use Rattle.pt_resolve.specs.Broken.{has_port_above, has_port_over, lacks_type, has_untyped, breaks, first_broken}
use Rattle.pt_inequalities.proofs.Steps.{some-same, none-more, from-next, one-more, drop-one, behind-drop}
use Rattle.pt_resolve.proofs.DeclaredBounds.{port-over, no-port-over}
use Rattle.pt_resolve.proofs.Passing.{one-passes, none-passes, some-now, none-now}
use Rattle.pt_resolve.proofs.ModalBreaks.{guards-true, sets-within, texts-typed}

-- ---- numbers

from-none : (j : ℕ) → 0 + j ≡ j
from-none j = omega arith

-- ---- ports

port-above : (a : Assignment) (k : ℕ) (class : List ℕ) (i : ℕ) (ps : List PortTree) → has_port_above a k class i ps ≡ true → (j : ℕ) × (p : PortTree) × (slice_get ps j ≡ Some p) × (is_above (port_type class p) (a.types (Port k (i + j))) ≡ true)
port-above a k class i [] h = cc
port-above a k class i (p ∷ ps) h =
    elim (or_cases (is_above (port_type class p) (a.types (Port k i))) (has_port_above a k class (suc i) ps) h) [
      | inl here ↦ (0, p, refl, subst (λ n. is_above (port_type class p) (a.types (Port k n)) ≡ true) (none-more i) here)
      | inr later ↦ let r = port-above a k class (suc i) ps later in (suc r.0, r.1, r.2, subst (λ n. is_above (port_type class r.1) (a.types (Port k n)) ≡ true) (from-next i r.0) r.3)
    ]

no-port-above : (a : Assignment) (k : ℕ) (class : List ℕ) (i : ℕ) (ps : List PortTree) → has_port_above a k class i ps ≡ false → (j : ℕ) (p : PortTree) → slice_get ps j ≡ Some p → is_above (port_type class p) (a.types (Port k (i + j))) ≡ false
no-port-above a k class i [] h zero p e = cc
no-port-above a k class i [] h (suc j) p e = cc
no-port-above a k class i (q ∷ ps) h zero p e =
    let here = (or_parts (is_above (port_type class q) (a.types (Port k i))) (has_port_above a k class (suc i) ps) h).0 in
    (λ m. is_above (port_type class (sym (some-same q p e) m)) (a.types (Port k (sym (none-more i) m)))) ∙ here
no-port-above a k class i (q ∷ ps) h (suc j) p e =
    let later = (or_parts (is_above (port_type class q) (a.types (Port k i))) (has_port_above a k class (suc i) ps) h).1 in
    ap (λ n. is_above (port_type class p) (a.types (Port k n))) (sym (from-next i j)) ∙ no-port-above a k class (suc i) ps later j p e

-- ---- expressions

untyped-tree : (a : Assignment) (k : ℕ) (e : NetEntityTree) (types : Types) (h : Held) → lacks_type a k e types h ≡ true → (t : Tree) × (h ≡ held.Read t) × (has_type (names_types a.types (inputs_of k e) (known types (names_in t))) t ≡ false)
untyped-tree a k e types (held.Token v) h = cc
untyped-tree a k e types (held.Read t) h = (t, refl, not-true (has_type (names_types a.types (inputs_of k e) (known types (names_in t))) t) h)
untyped-tree a k e types held.Word h = cc

-- ---- entities

first-get : {A : Type 0} (xs : List A) → first xs ≡ slice_get xs 0
first-get [] = refl
first-get (x ∷ xs) = refl

behind-get : {A : Type 0} (xs : List A) (j : ℕ) → slice_get (behind xs) j ≡ slice_get xs (suc j)
behind-get [] zero = refl
behind-get [] (suc j) = refl
behind-get (x ∷ xs) j = refl

record Found (frames : Frames) (a : Assignment) (i : ℕ) (es : List NetEntityTree) (vs : List EntityView) (k : ℕ) : Type 0 where
  at : ℕ
  entity : NetEntityTree
  number : k ≡ i + at
  is : slice_get es at ≡ Some entity
  broken : breaks frames a k entity (slice_get vs at) ≡ true

first-breaks : (frames : Frames) (a : Assignment) (i : ℕ) (es : List NetEntityTree) (vs : List EntityView) (k : ℕ) → first_broken frames a i es vs ≡ Some k → Found frames a i es vs k
first-breaks frames a i [] vs k h = cc
first-breaks frames a i (e ∷ es) vs k h =
    elim (some-now (breaks frames a i e (first vs)) i k (first_broken frames a (suc i) es (behind vs)) h) [
      | inl b ↦ record { at = 0; entity = e; number = sym b.1 ∙ none-more i; is = refl; broken = (λ m. breaks frames a (sym b.1 m) e (sym (first-get vs) m)) ∙ b.0 }
      | inr rest ↦
          let r = first-breaks frames a (suc i) es (behind vs) k rest in
          record { at = suc r.at; entity = r.entity; number = r.number ∙ from-next i r.at; is = r.is; broken = ap (breaks frames a k r.entity) (sym (behind-get vs r.at)) ∙ r.broken }
    ]

none-breaks : (frames : Frames) (a : Assignment) (i : ℕ) (es : List NetEntityTree) (vs : List EntityView) → first_broken frames a i es vs ≡ None → (j : ℕ) (e : NetEntityTree) → slice_get es j ≡ Some e → breaks frames a (i + j) e (slice_get vs j) ≡ false
none-breaks frames a i [] vs h zero e is = cc
none-breaks frames a i [] vs h (suc j) e is = cc
none-breaks frames a i (f ∷ es) vs h zero e is =
    let n = none-now (breaks frames a i f (first vs)) i (first_broken frames a (suc i) es (behind vs)) h in
    (λ m. breaks frames a (sym (none-more i) m) (sym (some-same f e is) m) (sym (first-get vs) m)) ∙ n.0
none-breaks frames a i (f ∷ es) vs h (suc j) e is =
    let n = none-now (breaks frames a i f (first vs)) i (first_broken frames a (suc i) es (behind vs)) h in
    (λ m. breaks frames a (sym (from-next i j) m) e (sym (behind-get vs j) m)) ∙ none-breaks frames a (suc i) es (behind vs) n.1 j e is

-- ---- one entity after the other

-- the first of those from this number on
abbrev pub first_from : Frames → Assignment → List NetEntity → List EntityValues → ℕ → Option ℕ
first_from frames a es vs i = first_broken frames a i (map entity_view (drop i es)) (map valued.entity_view (drop i vs))

first_from-split : (frames : Frames) (a : Assignment) (es : List NetEntity) (vs : List EntityValues) (i : ℕ) (e : NetEntity) (o : Option EntityView) → i < length es → e ≡ get_or es i e → first (map valued.entity_view (drop i vs)) ≡ o → first_from frames a es vs i ≡ (if breaks frames a i (entity_view e) o then Some i else first_from frames a es vs (i + 1))
first_from-split frames a es vs i e o short is oe =
    ap (λ fs. first_broken frames a i (map entity_view fs) (map valued.entity_view (drop i vs))) (drop-one es i e short is)
    ∙ (λ j. if breaks frames a i (entity_view e) (oe j) then Some i else first_broken frames a (one-more i j) (map entity_view (drop (i + 1) es)) (behind-drop valued.entity_view vs i j))

pub first-here : (frames : Frames) (a : Assignment) (es : List NetEntity) (vs : List EntityValues) (i : ℕ) (e : NetEntity) (o : Option EntityView) (whole : Option ℕ) → i < length es → e ≡ get_or es i e → first (map valued.entity_view (drop i vs)) ≡ o → whole ≡ first_from frames a es vs i → breaks frames a i (entity_view e) o ≡ true → Some i ≡ whole
first-here frames a es vs i e o whole short is oe h b =
    sym (h ∙ first_from-split frames a es vs i e o short is oe ∙ cond-true (breaks frames a i (entity_view e) o) (Some i) (first_from frames a es vs (i + 1)) b)

pub first-later : (frames : Frames) (a : Assignment) (es : List NetEntity) (vs : List EntityValues) (i : ℕ) (e : NetEntity) (o : Option EntityView) (whole : Option ℕ) → i < length es → e ≡ get_or es i e → first (map valued.entity_view (drop i vs)) ≡ o → whole ≡ first_from frames a es vs i → breaks frames a i (entity_view e) o ≡ false → whole ≡ first_from frames a es vs (i + 1)
first-later frames a es vs i e o whole short is oe h b =
    h ∙ first_from-split frames a es vs i e o short is oe ∙ cond-false (breaks frames a i (entity_view e) o) (Some i) (first_from frames a es vs (i + 1)) b

-- ---- the net

module _ (net : Net) (values : Values) (a : Assignment) where
  abbrev entities : List NetEntityTree
  entities = map entity_view net.entities.items

  abbrev given : List EntityView
  given = map valued.entity_view values.entities.items

  abbrev types_round : NetEntityTree → Types
  types_round e = seen_types (frames_of net values) e.within e.parent

  untyped-broken : (k : ℕ) (e : NetEntityTree) (o : Option EntityView) → slice_get entities k ≡ Some e → slice_get given k ≡ o → has_untyped a k e (types_round e) o ≡ true → IsBroken net values a e
  untyped-broken k e None at there h = cc
  untyped-broken k e (Some v) at there h =
      let r = one-passes (lacks_type a k e (types_round e)) v.parameters h in
      let t = untyped-tree a k e (types_round e) r.0 r.2 in
      in_tree k e v t.0 at there (subst (Contains v.parameters) t.1 r.1) t.2

  port-broken : (k : ℕ) (e : NetEntityTree) → slice_get entities k ≡ Some e → (has_port_above a k e.class 0 e.ports || has_port_over a k 0 e.ports) ≡ true → IsBroken net values a e
  port-broken k e at h =
      elim (or_cases (has_port_above a k e.class 0 e.ports) (has_port_over a k 0 e.ports) h) [
        | inl above ↦
            let r = port-above a k e.class 0 e.ports above in
            at_port k r.0 e r.1 at r.2 (subst (λ n. is_above (port_type e.class r.1) (a.types (Port k n)) ≡ true) (from-none r.0) r.3)
        | inr over ↦
            let r = port-over a k 0 e.ports over in
            above_declared k r.at e r.port r.over.bound at r.is r.over.declares (ap (λ n. is_below (a.types (Port k n)) r.over.bound) (sym (from-none r.at)) ∙ r.over.over)
      ]

  breaks-broken : (k : ℕ) (e : NetEntityTree) → slice_get entities k ≡ Some e → breaks (frames_of net values) a k e (slice_get given k) ≡ true → IsBroken net values a e
  breaks-broken k e at h =
      elim (or_cases (has_port_above a k e.class 0 e.ports || has_port_over a k 0 e.ports) (has_untyped a k e (types_round e) (slice_get given k)) h) [
        | inl port ↦ port-broken k e at port
        | inr tree ↦ untyped-broken k e (slice_get given k) at refl tree
      ]

  -- the first that is told of what the program holds is the first of the net
  pub first-told : (frames : Frames) (es : List NetEntity) (vs : List EntityValues) → frames ≡ frames_of net values → es ≡ net.entities.items → vs ≡ values.entities.items → first_broken frames a 0 (map entity_view es) (map valued.entity_view vs) ≡ first_broken (frames_of net values) a 0 entities given
  first-told frames es vs f e v = λ j. first_broken (f j) a 0 (map entity_view (e j)) (map valued.entity_view (v j))

  -- the entity that is found is broken
  pub found-broken : (k : ℕ) → first_broken (frames_of net values) a 0 entities given ≡ Some k → (e : NetEntityTree) × (slice_get entities k ≡ Some e) × IsBroken net values a e
  found-broken k h =
      let r = first-breaks (frames_of net values) a 0 entities given k h in
      let same : r.at ≡ k = sym (r.number ∙ from-none r.at) in
      let is : slice_get entities k ≡ Some r.entity = ap (slice_get entities) (sym same) ∙ r.is in
      (r.entity, is, breaks-broken k r.entity is (ap (λ n. breaks (frames_of net values) a k r.entity (slice_get given n)) (sym same) ∙ r.broken))

  whole-at : (k : ℕ) (e : NetEntityTree) → first_broken (frames_of net values) a 0 entities given ≡ None → slice_get entities k ≡ Some e → breaks (frames_of net values) a k e (slice_get given k) ≡ false
  whole-at k e h at = ap (λ n. breaks (frames_of net values) a n e (slice_get given k)) (sym (from-none k)) ∙ none-breaks (frames_of net values) a 0 entities given h k e at

  -- neither its ports nor its expressions break the typing
  ports-whole : (k : ℕ) (e : NetEntityTree) → breaks (frames_of net values) a k e (slice_get given k) ≡ false → (has_port_above a k e.class 0 e.ports ≡ false) × (has_port_over a k 0 e.ports ≡ false)
  ports-whole k e h = or_parts (has_port_above a k e.class 0 e.ports) (has_port_over a k 0 e.ports) (or_parts (has_port_above a k e.class 0 e.ports || has_port_over a k 0 e.ports) (has_untyped a k e (types_round e) (slice_get given k)) h).0

  port-whole : (k i : ℕ) (e : NetEntityTree) (p : PortTree) → breaks (frames_of net values) a k e (slice_get given k) ≡ false → slice_get e.ports i ≡ Some p → is_above (port_type e.class p) (a.types (Port k i)) ≡ false
  port-whole k i e p h there =
      ap (λ n. is_above (port_type e.class p) (a.types (Port k n))) (sym (from-none i)) ∙ no-port-above a k e.class 0 e.ports (ports-whole k e h).0 i p there

  bound-whole : (k i : ℕ) (e : NetEntityTree) (p : PortTree) (t : Datatype) → breaks (frames_of net values) a k e (slice_get given k) ≡ false → slice_get e.ports i ≡ Some p → Declares p t → is_below (a.types (Port k i)) t ≡ true
  bound-whole k i e p t h there d =
      ap (λ n. is_below (a.types (Port k n)) t) (sym (from-none i)) ∙ no-port-over a k 0 e.ports (ports-whole k e h).1 i p t there d

  tree-whole : (k : ℕ) (e : NetEntityTree) (v : EntityView) (t : Tree) → breaks (frames_of net values) a k e (slice_get given k) ≡ false → slice_get given k ≡ Some v → Contains v.parameters (held.Read t) → has_type (names_types a.types (inputs_of k e) (known (types_round e) (names_in t))) t ≡ true
  tree-whole k e v t h there c =
      let typed : has_untyped a k e (types_round e) (slice_get given k) ≡ false = (or_parts (has_port_above a k e.class 0 e.ports || has_port_over a k 0 e.ports) (has_untyped a k e (types_round e) (slice_get given k)) h).1 in
      let each : list_any (lacks_type a k e (types_round e)) v.parameters ≡ false = ap (has_untyped a k e (types_round e)) (sym there) ∙ typed in
      not-false (has_type (names_types a.types (inputs_of k e) (known (types_round e) (names_in t))) t) (none-passes (lacks_type a k e (types_round e)) v.parameters each (held.Read t) c)

  -- where none is found, and no guard or action breaks the typing, no entity is broken
  module _ (cs : List Chart) (are : AreCharts (frames_of net values) entities given (length entities) cs) (none : first_failing a cs ≡ None) (h : first_broken (frames_of net values) a 0 entities given ≡ None) where
    pub none-broken : (e : NetEntityTree) → IsBroken net values a e → ⊥
    none-broken e (at_port k i e' p at there above) = both_ways (is_above (port_type e'.class p) (a.types (Port k i))) (port-whole k i e' p (whole-at k e' h at) there) above
    none-broken e (above_declared k i e' p t at there d wrong) = both_ways (is_below (a.types (Port k i)) t) wrong (bound-whole k i e' p t (whole-at k e' h at) there d)
    none-broken e (in_tree k e' v t at there c wrong) = both_ways (has_type (names_types a.types (inputs_of k e') (known (types_round e') (names_in t))) t) wrong (tree-whole k e' v t (whole-at k e' h at) there c)
    none-broken e (guard m e' v tr t modal c ty wrong) = both_ways (is_below t Boolean) wrong (guards-true a net values cs are none m e' v modal tr t c ty)
    none-broken e (set_action m e' v tr x t first modal c d ty variable wrong) = both_ways (is_below t (type_of_value first)) wrong (sets-within a net values cs are none m e' v modal tr x t first c d ty variable)
    none-broken e (clash_in m e' v text t modal there read wrong) = both_ways (has_type (modal_types a (scope_of net values m e' v) t) t) wrong (texts-typed a net values cs are none m e' v modal text t there read)
