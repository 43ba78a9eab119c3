-- The top of the net of a document, with the director SDF or SR, has a number of iterations.
use Rattle.std.proofs.Common.{◌≡◌, inl, inr, ◌+◌, ℕ, zero, suc, List, [], ◌∷◌, Bool, true, false, not, cond, Option, Some, None, codes, bytes_eq, map, filter, option_map, refl, sym, ap, subst, ◌∙◌, arith, if◌then◌else◌}
use Rattle.std.specs.Prelude.{pos, int_lt, nat_abs, is_some, IsTrue}
use Rattle.std.specs.Option.{is_none}
use Rattle.std.specs.List.{find, position, position_from, slice_get, AllZip}
use Rattle.std.proofs.lemmas.Bool.{and_parts, and_from}
use Rattle.std.proofs.lemmas.Iterator.Adapters.{position_from-zero}
use Rattle.std.proofs.lemmas.Option.{none-some, same_Some}
use Rattle.std.proofs.lemmas.Slice.Eq.{bytes_eq-Decides}
use Rattle.pt_value.specs.declared.token.Token.{Token}
use Rattle.pt_value.specs.declared.token.Token.TheVariants as token
use Rattle.pt_value.specs.Token.{value_of}
use Rattle.pt_language.specs.Scope.{Scope}
use Rattle.pt_document.specs.Document.{PropertyTree, property_name, property_class, inner_properties}
use Rattle.pt_document.specs.Names.{is_layout}
use Rattle.pt_moml.specs.Stands.{IsIn}
use Rattle.pt_net.specs.Standing.{is_director}
use Rattle.pt_net.specs.Net.{NetEntityTree, DirectorTree, is_parameter, director_tree}
use Rattle.pt_scopes.specs.declared.form.Form.TheVariants as form
use Rattle.pt_scopes.specs.declared.parameter_value.ParameterValue.{ParameterValue}
use Rattle.pt_scopes.specs.declared.parameter_value.ParameterValue.TheVariants as parameter
use Rattle.pt_scopes.specs.declared.values.Values.{Values}
use Rattle.pt_scopes.specs.Forms.{forms, form_of, fits}
use Rattle.pt_scopes.specs.Given.{Held, held_view, names_port, IsGiven}
use Rattle.pt_scopes.specs.Sites.{director_form}
use Rattle.pt_scopes.specs.Scopes.{NetTree, bound, text_of}
use Rattle.pt_scopes.specs.ClassParameters.{IsParameterOf}
use Rattle.pt_scopes.specs.Valued.{EntityView, AreOfDirector, IsEntityValued, IsValued}
use Rattle.pt_scopes.specs.Valued as valued
use Rattle.pt_job.specs.Iterations.{count_of, count_in, value_at, sets, number_in, number_by, number_at, iterations}
use Rattle.pt_buildable.proofs.Directors.{not-true}
use Rattle.pt_buildable.proofs.TopRules.{TakesIterations, IsGivenIn, sdf-takes, sr-takes}

-- ---- lists

find-in : {X : Type 0} (test : X → Bool) (xs : List X) (x : X) → find test xs ≡ Some x → IsIn x xs × (test x ≡ true)
find-in test [] x e = absurd (none-some x e)
find-in test (y ∷ xs) x e = chosen (test y) refl e (λ h. find-in test xs x h)
  where
    chosen : (b : Bool) → test y ≡ b → cond b (Some y) (find test xs) ≡ Some x → (find test xs ≡ Some x → IsIn x xs × (test x ≡ true)) → IsIn x (y ∷ xs) × (test x ≡ true)
    chosen true is e rest = let same : y ≡ x = same_Some y x e in (inl (sym same), ap test (sym same) ∙ is)
    chosen false is e rest = let w = rest e in (inr w.0, w.1)

in-filter : {X : Type 0} (test : X → Bool) (xs : List X) (x : X) → IsIn x xs → test x ≡ true → IsIn x (filter test xs)
in-filter test [] x there passes = absurd there
in-filter test (y ∷ xs) x (inl same) passes = subst (λ (b : Bool). IsIn x (cond b (y ∷ filter test xs) (filter test xs))) (sym (ap test (sym same) ∙ passes)) (inl same)
in-filter test (y ∷ xs) x (inr later) passes = chosen (test y) (in-filter test xs x later passes)
  where
    chosen : (b : Bool) → IsIn x (filter test xs) → IsIn x (cond b (y ∷ filter test xs) (filter test xs))
    chosen true h = inr h
    chosen false h = h

-- the place of the first that passes
record IsPlaced {X : Type 0} (test : X → Bool) (n : ℕ) (xs : List X) : Type 0 where
  place : ℕ
  item : X
  position_is : position_from test n xs ≡ Some (n + place)
  at : slice_get xs place ≡ Some item
  passes : test item ≡ true

first-placed : {X : Type 0} (test : X → Bool) (n : ℕ) (xs : List X) (x : X) → IsIn x xs → test x ≡ true → IsPlaced test n xs
first-placed test n [] x there passes = absurd there
first-placed {X = X} test n (y ∷ xs) x there passes = chosen (test y) refl there (λ later. first-placed test (n + 1) xs x later passes)
  where
    chosen : (b : Bool) → test y ≡ b → IsIn x (y ∷ xs) → (IsIn x xs → IsPlaced test (n + 1) xs) → IsPlaced test n (y ∷ xs)
    chosen true is t rest = record { place = 0; item = y; position_is = ap (λ b. cond b (Some n) (position_from test (n + 1) xs)) is ∙ ap (λ m. Some m) (let e : n ≡ n + 0 = omega arith in e); at = refl; passes = is }
    chosen false is (inl same) rest = absurd (let h : true ≡ false = sym passes ∙ ap test same ∙ is in cc)
    chosen false is (inr later) rest =
        let w = rest later in
        record { place = suc w.place; item = w.item; position_is = ap (λ b. cond b (Some n) (position_from test (n + 1) xs)) is ∙ w.position_is ∙ ap (λ m. Some m) (let e : (n + 1) + w.place ≡ n + suc w.place = omega arith in e); at = w.at; passes = w.passes }

zip-at : {A B : Type 0} (R : A → B → Type 0) (xs : List A) (ys : List B) → AllZip R xs ys → (k : ℕ) (x : A) → slice_get xs k ≡ Some x → (y : B) × (slice_get ys k ≡ Some y) × R x y
zip-at R [] ys h k x at = absurd (none-some x at)
zip-at R (z ∷ xs) [] h k x at = absurd h
zip-at R (z ∷ xs) (y ∷ ys) h zero x at = (y, refl, subst (λ a. R a y) (same_Some z x at) h.0)
zip-at R (z ∷ xs) (y ∷ ys) h (suc k) x at = zip-at R xs ys h.1 k x at

mapped-at : {A B : Type 0} (f : A → B) (xs : List A) (k : ℕ) (y : B) → slice_get (map f xs) k ≡ Some y → (x : A) × (slice_get xs k ≡ Some x) × (f x ≡ y)
mapped-at f [] k y at = absurd (none-some y at)
mapped-at f (x ∷ xs) zero y at = (x, refl, same_Some (f x) y at)
mapped-at f (x ∷ xs) (suc k) y at = mapped-at f xs k y at

-- ---- a parameter with its form

sdf-form : form_of (codes "SDF") (codes "iterations") ≡ form.Integer (pos 0) (pos 1000000000)
unfolding form_of forms
sdf-form = refl

sr-form : form_of (codes "SR") (codes "iterations") ≡ form.Integer (pos 0) (pos 1000000000)
unfolding form_of forms
sr-form = refl

numbered : (is_port : List ℕ → Bool) (scope : Scope) (text : List ℕ) (v : ParameterValue) → IsGiven is_port scope (form.Integer (pos 0) (pos 1000000000)) text (held_view v) → (n : ℕ) × (count_in (Some v) ≡ Some n)
numbered is_port scope text (parameter.Token t) g = by-token t g.1
  where
    by-token : (t : Token) → IsTrue (fits (form.Integer (pos 0) (pos 1000000000)) (value_of t)) → (n : ℕ) × (count_of t ≡ Some n)
    by-token (token.Int n) fit = (nat_abs n, ap (λ b. if b then None else Some (nat_abs n)) (not-true (int_lt n (pos 0)) (and_parts (not (int_lt n (pos 0))) (not (int_lt (pos 1000000000) n)) fit).0))
    by-token (token.Bool b) fit = absurd (let h : false ≡ true = fit in cc)
    by-token (token.Text s) fit = absurd (let h : false ≡ true = fit in cc)
    by-token (token.Array ts) fit = absurd (let h : false ≡ true = fit in cc)
    by-token (token.Record fs) fit = absurd (let h : false ≡ true = fit in cc)
numbered is_port scope text (parameter.Tree e) g = absurd g
numbered is_port scope text parameter.Word g = absurd g

-- ---- the director

-- where a director takes a number of iterations
pub record IsIterating (class : List ℕ) : Type 0 where
  pub takes : TakesIterations class
  pub form_is : form_of class (codes "iterations") ≡ form.Integer (pos 0) (pos 1000000000)

pub sdf-iterates : IsIterating (codes "SDF")
sdf-iterates = record { takes = sdf-takes; form_is = sdf-form }

pub sr-iterates : IsIterating (codes "SR")
sr-iterates = record { takes = sr-takes; form_is = sr-form }

-- a director with such a parameter, at the top, has its number
director-number : (d : DirectorTree) (scope : Scope) (vs : List ParameterValue) → IsIterating d.class → AreOfDirector None (Some d) scope (map held_view vs) → (q : PropertyTree) → IsIn q d.parameters → bytes_eq (property_name q) (codes "iterations") ≡ true → (n : ℕ) × (number_in (codes "iterations") d.parameters vs ≡ Some n)
director-number d scope vs iterates given q there named =
    let w = first-placed (sets (codes "iterations")) 0 d.parameters q there named in
    let z = zip-at (IsParameterOf (names_port []) scope (director_form None d.class)) d.parameters (map held_view vs) given.each w.place w.item w.at in
    let v = mapped-at held_view vs w.place z.0 z.1 in
    let name : property_name w.item ≡ codes "iterations" = (bytes_eq-Decides (property_name w.item) (codes "iterations")).0 w.passes in
    let f = ap (form_of d.class) name ∙ iterates.form_is in
    let held : IsGiven (names_port []) scope (form_of d.class (property_name w.item)) (text_of w.item) (held_view v.0) = subst (λ (h : Held). IsGiven (names_port []) scope (form_of d.class (property_name w.item)) (text_of w.item) h) (sym v.2) z.2 in
    let n = numbered (names_port []) scope (text_of w.item) v.0 (subst (λ g. IsGiven (names_port []) scope g (text_of w.item) (held_view v.0)) f held) in
    let place : position (sets (codes "iterations")) d.parameters ≡ Some w.place = position_from-zero (sets (codes "iterations")) d.parameters ∙ w.position_is ∙ ap (λ m. Some m) (let e : 0 + w.place ≡ w.place = omega arith in e) in
    (n.0, ap (λ o. count_in (value_at vs o)) place ∙ ap count_in v.1 ∙ n.1)

-- ---- the top of a net

-- its number of iterations, where its director is that of this property
pub top-number : (net : NetTree) (values : Values) (e : NetEntityTree) (p : PropertyTree) → IsValued net values → slice_get net.entities 0 ≡ Some e → e.parent ≡ None → e.director ≡ Some (director_tree p) → IsIterating (director_tree p).class → IsGivenIn (inner_properties p) → (n : ℕ) × (iterations net values ≡ Some n)
top-number net values e p is at alone directed iterates given =
    let z = zip-at (IsEntityValued net) net.entities (map valued.entity_view values.entities.items) is.entities 0 e at in
    let v = mapped-at valued.entity_view values.entities.items 0 z.0 z.1 in
    let d = director_tree p in
    let own : AreOfDirector None (Some d) (bound z.2.inner) (map held_view v.0.director.items) =
    subst (λ (w : EntityView). AreOfDirector None (Some d) (bound z.2.inner) w.director) (sym v.2) (subst (λ o. AreOfDirector None o (bound z.2.inner) z.0.director) directed (subst (λ o. AreOfDirector o e.director (bound z.2.inner) z.0.director) alone z.2.director)) in
    let passes : is_parameter given.property ≡ true = and_from (not (is_layout (property_name given.property))) (is_none (property_class given.property)) (ap not given.layout) (bare (property_class given.property) given.bare) in
    let n = director-number d (bound z.2.inner) v.0.director.items iterates own given.property (in-filter is_parameter (inner_properties p) given.property given.there passes) given.named in
    (n.0, ap (λ o. number_at (codes "iterations") o (slice_get values.entities.items 0)) at ∙ ap (number_at (codes "iterations") (Some e)) v.1 ∙ ap (λ o. number_by (codes "iterations") o v.0.director.items) directed ∙ n.1)
  where
    bare : (o : Option (List ℕ)) → is_some o ≡ false → is_none o ≡ true
    bare None h = refl
    bare (Some c) h = absurd (let k : true ≡ false = h in cc)

-- the director of an entity, as a property of it
pub director-property : (ps : List PropertyTree) (d : DirectorTree) → option_map director_tree (find is_director ps) ≡ Some d → (p : PropertyTree) × IsIn p ps × (is_director p ≡ true) × (director_tree p ≡ d)
director-property ps d e = found (find is_director ps) refl e
  where
    found : (o : Option PropertyTree) → find is_director ps ≡ o → option_map director_tree o ≡ Some d → (p : PropertyTree) × IsIn p ps × (is_director p ≡ true) × (director_tree p ≡ d)
    found None is e = absurd (none-some d e)
    found (Some p) is e = let w = find-in is_director ps p is in (p, w.0, w.1, same_Some (director_tree p) d e)
