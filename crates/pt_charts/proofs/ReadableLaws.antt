-- What is found in the texts of Modal entities, one after the other.
use Rattle.std.proofs.Common.{◌≡◌, ◌⊎◌, inl, inr, ℕ, ◌+◌, ◌<◌, ◌≤◌, Bool, true, false, if◌then◌else◌, ◌&&◌, List, [], ◌∷◌, ◌++◌, length, map, drop, get_or, Option, Some, None, refl, sym, ap, subst, ◌∙◌, arith}
use Rattle.std.specs.Prelude.{All, slice_get, codes, MatchOption}
use Rattle.std.specs.List.{Contains, list_all}
use Rattle.std.proofs.Math.Nat.{eq-or-lt_of_le}
use Rattle.std.proofs.lemmas.Bool.{both_ways}
use Rattle.std.proofs.lemmas.List.{length-map}
use Rattle.std.proofs.lemmas.List.Sums.{AllPass-from_list_all}
use Rattle.std.proofs.lemmas.Option.{none-some, slice_get_within}
use Rattle.std.proofs.lemmas.List.Elements.{All-nil, All-cons, All-head, All-tail, All-append, All-contains}
use Rattle.pt_document.specs.declared.code.Code.{Code}
use Rattle.pt_document.specs.declared.code.Code.TheVariants as code
use Rattle.pt_language.specs.Tree.{Tree}
use Rattle.pt_language.specs.Text.{ReadsAs}
use Rattle.pt_language.specs.Deep.{IsDeep}
use Rattle.pt_net.specs.declared.net.Net.{Net}
use Rattle.pt_net.specs.declared.net.NetEntity.{NetEntity}
use Rattle.pt_net.specs.Net.{NetEntityTree, entity_view}
use Rattle.pt_net.proofs.Members.{contains_here, contains_later}
use Rattle.pt_scopes.specs.Texts.{names_in}
use Rattle.pt_scopes.specs.declared.values.EntityValues.{EntityValues}
use Rattle.pt_scopes.specs.declared.values.Values.{Values}
use Rattle.pt_scopes.specs.Valued.{EntityView}
use Rattle.pt_scopes.specs.Valued as valued
use Rattle.pt_scopes.proofs.Unique.{one-tree}
use Rattle.pt_inequalities.specs.Frames.{Frames, frames_of}
use Rattle.pt_inequalities.specs.ModalScopes.{ModalScope, is_modal, modal_scope, is_in_scope}
use Rattle.pt_inequalities.specs.Modals.{IsModalAt}
use Rattle.pt_charts.specs.Readable.{IsReadable, IsUnreadable, IsFirstUnreadable, IsFoundIn, texts_of, IsEntityReadable, IsEntityUnreadable, AreReadableBelow, IsFirstOf, AreReadable, IsUnreadableAt, ReadableTextsAreClean}
use Rattle.pt_inequalities.specs.Typing.{scope_of}
use Rattle.pt_inequalities.proofs.Steps.{some-same, drop-one, drop-past}
use Rattle.pt_inequalities.proofs.RefinementLaws.{modal-class}

-- ---- one text

-- a name that doesn't pass, where not all do
strange-name : (test : List ℕ → Bool) (xs : List (List ℕ)) → list_all test xs ≡ false → (x : List ℕ) × Contains xs x × (test x ≡ false)
strange-name test [] h = absurd (both_ways true h refl)
strange-name test (x ∷ xs) h = by_test (test x) refl (λ later. strange-name test xs later)
  where
    by_test : (b : Bool) → test x ≡ b → (list_all test xs ≡ false → (y : List ℕ) × Contains xs y × (test y ≡ false)) → (y : List ℕ) × Contains (x ∷ xs) y × (test y ≡ false)
    by_test false e rest = (x, contains_here x xs, e)
    by_test true e rest =
        let r = rest (ap (λ b. b && list_all test xs) (sym e) ∙ h) in
        (r.0, contains_later x xs r.0 r.1, r.2)

each-named : (test : List ℕ → Bool) (xs : List (List ℕ)) → list_all test xs ≡ true → (x : List ℕ) → Contains xs x → test x ≡ true
each-named test xs h x there = ap test (sym there.2) ∙ AllPass-from_list_all test xs h there.0 x there.1

module _ (s : ModalScope) where
  pub is-found : (text : List ℕ) (t : Tree) → (IsDeep text → ⊥) → ReadsAs text t → (found : Option Code) → found ≡ (if list_all (is_in_scope s) (names_in t) then None else Some code.ExprName) → IsFoundIn s (text ∷ []) found
  is-found text t shallow reads found is = subst (IsFoundIn s (text ∷ [])) (sym is) (by_test (list_all (is_in_scope s) (names_in t)) refl)
    where
      by_test : (b : Bool) → list_all (is_in_scope s) (names_in t) ≡ b → IsFoundIn s (text ∷ []) (if b then None else Some code.ExprName)
      by_test true named = All-cons (IsReadable s) text [] (t, record { is_read = record { shallow = shallow; reads = reads }; named = named }) (All-nil (IsReadable s))
      by_test false strange =
          let w = strange-name (is_in_scope s) (names_in t) strange in
          inl (record { read = t; is_read = record { shallow = shallow; reads = reads }; name = w.0; stands = w.1; strange = λ named. both_ways (is_in_scope s w.0) w.2 named })

  pub readable-clean : (text : List ℕ) (cause : Code) → IsReadable s text → IsUnreadable s text cause → ⊥
  readable-clean text code.Limit r f = r.1.is_read.shallow f
  readable-clean text code.ExprSyntax r f = f.none r.0 r.1.is_read.reads
  readable-clean text code.ExprName r f =
      let same : f.read ≡ r.0 = one-tree text f.read r.0 f.is_read.reads r.1.is_read.reads in
      f.strange (each-named (is_in_scope s) (names_in r.0) r.1.named f.name (subst (λ u. Contains (names_in u) f.name) same f.stands))
  readable-clean text _ r f = absurd f

  -- ---- some texts

  pub first-left : (xs ys : List (List ℕ)) (cause : Code) → IsFirstUnreadable s xs cause → IsFirstUnreadable s (xs ++ ys) cause
  first-left [] ys cause h = absurd h
  first-left (x ∷ xs) ys cause (inl f) = inl f
  first-left (x ∷ xs) ys cause (inr r) = inr (r.0, first-left xs ys cause r.1)

  pub first-right : (xs ys : List (List ℕ)) (cause : Code) → All (IsReadable s) xs → IsFirstUnreadable s ys cause → IsFirstUnreadable s (xs ++ ys) cause
  first-right [] ys cause r h = h
  first-right (x ∷ xs) ys cause r h = inr (All-head (IsReadable s) x xs r, first-right xs ys cause (All-tail (IsReadable s) x xs r) h)

  -- nothing is found in these texts, so what is found behind them is found in all
  pub found-behind : (xs ys : List (List ℕ)) (found : Option Code) → All (IsReadable s) xs → IsFoundIn s ys found → IsFoundIn s (xs ++ ys) found
  found-behind xs ys None r h = All-append (IsReadable s) xs ys r h
  found-behind xs ys (Some cause) r h = first-right xs ys cause r h

-- what is found from this part of a list on is found in the whole
abbrev pub IsFrom : {A : Type 0} → ModalScope → (List A → List (List ℕ)) → List A → ℕ → Type 0
IsFrom s texts xs i = (found : Option Code) → IsFoundIn s (texts (drop i xs)) found → IsFoundIn s (texts xs) found

-- a walk over a list, each part of which has some texts
module _ {A : Type 0} (s : ModalScope) (texts : List A → List (List ℕ)) (f : A → List (List ℕ)) (none : texts [] ≡ []) (split : (x : A) (xs : List A) → texts (x ∷ xs) ≡ f x ++ texts xs) (xs : List A) where
  rest : (i : ℕ) (x : A) → i < length xs → x ≡ get_or xs i x → texts (drop i xs) ≡ f x ++ texts (drop (i + 1) xs)
  rest i x short is = ap texts (drop-one xs i x short is) ∙ split x (drop (i + 1) xs)

  pub from-next : (i : ℕ) (x : A) → i < length xs → x ≡ get_or xs i x → All (IsReadable s) (f x) → IsFrom s texts xs i → IsFrom s texts xs (i + 1)
  from-next i x short is r h = λ found w. h found (subst (λ ts. IsFoundIn s ts found) (sym (rest i x short is)) (found-behind s (f x) (texts (drop (i + 1) xs)) found r w))

  pub found-here : (i : ℕ) (x : A) (cause : Code) → i < length xs → x ≡ get_or xs i x → IsFirstUnreadable s (f x) cause → IsFrom s texts xs i → IsFirstUnreadable s (texts xs) cause
  found-here i x cause short is w h = h (Some cause) (subst (λ ts. IsFirstUnreadable s ts cause) (sym (rest i x short is)) (first-left s (f x) (texts (drop (i + 1) xs)) cause w))

  pub found-none : (i : ℕ) → length xs ≤ i → IsFrom s texts xs i → All (IsReadable s) (texts xs)
  found-none i past h = h None (subst (All (IsReadable s)) (sym (ap texts (drop-past xs i past) ∙ none)) (All-nil (IsReadable s)))

-- ---- entities

module _ (frames : Frames) (m : ℕ) (e : NetEntityTree) where
  pub other-class : (o : Option EntityView) → is_modal e ≡ false → IsEntityReadable frames m e o
  other-class o other = λ v class given. absurd (both_ways (is_modal e) other (modal-class e.class class))

  pub no-values : (o : Option EntityView) → o ≡ None → IsEntityReadable frames m e o
  no-values o none = λ v class given. absurd (none-some v (sym none ∙ given))

  pub entity-found : (v : EntityView) (o : Option EntityView) → e.class ≡ codes "Modal" → o ≡ Some v → (found : Option Code) → IsFoundIn (modal_scope frames m e v) (texts_of e.transitions) found → MatchOption found (IsEntityReadable frames m e o) (IsEntityUnreadable frames m e o)
  entity-found v o class is None r = λ u modal given. subst (λ (w : EntityView). All (IsReadable (modal_scope frames m e w)) (texts_of e.transitions)) (some-same v u (sym is ∙ given)) r
  entity-found v o class is (Some cause) r = record { values = v; is_modal = class; has_values = is; first = r }

before : (m n : ℕ) → m < n + 1 → (m ≡ n) ⊎ (m < n)
before m n h = eq-or-lt_of_le (omega (arith, h))

module _ (frames : Frames) (es : List NetEntityTree) (vs : List EntityView) (n : ℕ) (e : NetEntityTree) (o : Option EntityView) (at : slice_get es n ≡ Some e) (there : slice_get vs n ≡ o) (below : AreReadableBelow frames es vs n) where
  pub readable-more : IsEntityReadable frames n e o → AreReadableBelow frames es vs (n + 1)
  readable-more own = λ m f v short modal. elim (before m n short) [ inl here ↦ newest m f v here modal | inr earlier ↦ below m f v earlier modal ]
    where
      newest : (m : ℕ) (f : NetEntityTree) (v : EntityView) → m ≡ n → IsModalAt es vs m f v → All (IsReadable (modal_scope frames m f v)) (texts_of f.transitions)
      newest m f v here modal =
          let same : e ≡ f = some-same e f (sym at ∙ ap (slice_get es) (sym here) ∙ modal.at) in
          let class : e.class ≡ f.class = ap (λ (g : NetEntityTree). g.class) same in
          let held : o ≡ Some v = sym there ∙ ap (slice_get vs) (sym here) ∙ modal.values_at in
          subst (λ k. All (IsReadable (modal_scope frames k f v)) (texts_of f.transitions)) (sym here)
          (subst (λ (g : NetEntityTree). All (IsReadable (modal_scope frames n g v)) (texts_of g.transitions)) same (own v (class ∙ modal.is_modal) held))

  pub first-of : (cause : Code) → IsEntityUnreadable frames n e o cause → IsFirstOf frames es vs cause n
  first-of cause u = record {
    entity = e;
    values = u.values;
    modal = record { at = at; is_modal = u.is_modal; values_at = there ∙ u.has_values };
    before = below;
    first = u.first;
  }

pub readable-all : (frames : Frames) (es : List NetEntity) (vs : List EntityView) (n : ℕ) → length es ≤ n → AreReadableBelow frames (map entity_view es) vs n → AreReadableBelow frames (map entity_view es) vs (length (map entity_view es))
readable-all frames es vs n past below = λ m e v short modal. below m e v (omega (arith, short, past, length-map es entity_view)) modal

-- ---- a net

module _ (net : Net) (values : Values) where
  abbrev entities : List NetEntityTree
  entities = map entity_view net.entities.items

  abbrev given : List EntityView
  given = map valued.entity_view values.entities.items

  told-here : (found : Option (Code × ℕ)) → MatchOption found (AreReadableBelow (frames_of net values) entities given (length entities)) (λ at. IsFirstOf (frames_of net values) entities given at.0 at.1) → MatchOption found (AreReadable net values) (λ at. IsUnreadableAt net values at.0 at.1)
  told-here None h = λ m e v modal. h m e v (slice_get_within entities m e modal.at) (record { at = modal.at; is_modal = modal.is_modal; values_at = modal.values_at })
  told-here (Some at) h = record {
    entity = h.entity;
    values_of = h.values;
    modal = record { at = h.modal.at; is_modal = h.modal.is_modal; values_at = h.modal.values_at };
    before = λ k e v short modal. h.before k e v short (record { at = modal.at; is_modal = modal.is_modal; values_at = modal.values_at });
    first = h.first;
  }

  pub told : (frames : Frames) (es : List NetEntity) (vs : List EntityValues) (found : Option (Code × ℕ)) → frames ≡ frames_of net values → es ≡ net.entities.items → vs ≡ values.entities.items → MatchOption found (AreReadableBelow frames (map entity_view es) (map valued.entity_view vs) (length (map entity_view es))) (λ at. IsFirstOf frames (map entity_view es) (map valued.entity_view vs) at.0 at.1) → MatchOption found (AreReadable net values) (λ at. IsUnreadableAt net values at.0 at.1)
  told frames es vs found f e v h =
      told-here found
      (subst (λ ws. MatchOption found (AreReadableBelow (frames_of net values) entities (map valued.entity_view ws) (length entities)) (λ at. IsFirstOf (frames_of net values) entities (map valued.entity_view ws) at.0 at.1)) v
      (subst (λ ds. MatchOption found (AreReadableBelow (frames_of net values) (map entity_view ds) (map valued.entity_view vs) (length (map entity_view ds))) (λ at. IsFirstOf (frames_of net values) (map entity_view ds) (map valued.entity_view vs) at.0 at.1)) e
      (subst (λ g. MatchOption found (AreReadableBelow g (map entity_view es) (map valued.entity_view vs) (length (map entity_view es))) (λ at. IsFirstOf g (map entity_view es) (map valued.entity_view vs) at.0 at.1)) f h)))

pub clean : ReadableTextsAreClean
clean net values readable m e v modal text there cause f = readable-clean (scope_of net values m e v) text cause (All-contains (IsReadable (scope_of net values m e v)) (texts_of e.transitions) text (readable m e v modal) there) f
