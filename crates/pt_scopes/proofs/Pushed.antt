-- Parameters of a class, one by one.
use Rattle.std.proofs.Common.{◌≡◌, inl, inr, ℕ, zero, suc, ◌+◌, ◌<◌, ◌≤◌, ◌++◌, List, [], ◌∷◌, length, get_or, take, map, sym, ap, subst, ◌∙◌, add-one, arith}
use Rattle.std.specs.Prelude.{Bool, Option}
use Rattle.std.proofs.lemmas.List.{map-id}
use Rattle.std.specs.List.{Contains, AllZip}
use Rattle.pt_document.specs.declared.code.Code.TheVariants as code
use Rattle.pt_document.specs.declared.job.Property.{Property}
use Rattle.pt_document.specs.declared.refusal.DocFault.{DocFault}
use Rattle.pt_document.specs.declared.refusal.DocFault.TheVariants as faults
use Rattle.pt_document.specs.Document.{PropertyTree, property_name}
use Rattle.pt_document.specs.Outcome.{IsRefusal}
use Rattle.pt_document.specs.View.{property_view, properties_view}
use Rattle.pt_language.specs.Scope.{Scope}
use Rattle.pt_scopes.specs.declared.form.Form.{Form}
use Rattle.pt_scopes.specs.declared.parameter_value.ParameterValue.{ParameterValue}
use Rattle.pt_scopes.specs.Texts.{IsTextFault}
use Rattle.pt_scopes.specs.Given.{Held, held_view, IsGiven, IsGivenFault}
use Rattle.pt_scopes.specs.Scopes.{text_of}
use Rattle.pt_scopes.specs.Sites.{director_form}
use Rattle.pt_scopes.specs.Told.{IsToldAt, IsVariableFault}
use Rattle.pt_scopes.specs.ClassParameters.{IsParameterOf, IsFaultAmong, AreApart, IsClassFault}
use Rattle.pt_scopes.proofs.Turns.{told_weaker, view-take, view-push, view-all}

pushed : {A B : Type 0} (R : A → B → Type 0) (xs : List A) (ys : List B) (x : A) (y : B) → AllZip R xs ys → R x y → AllZip R (xs ++ x ∷ []) (ys ++ y ∷ [])
pushed R [] [] x y h r = (r, tt)
pushed R [] (z ∷ ys) x y h r = absurd h
pushed R (z ∷ xs) [] x y h r = absurd h
pushed R (z ∷ xs) (w ∷ ys) x y h r = (h.0, pushed R xs ys x y h.1 r)

seen-at : (ps : List Property) (i : ℕ) (p : Property) → i < length ps → p ≡ get_or ps i p → Contains (properties_view ps) (property_view p)
seen-at [] i p short is = absurd (omega arith)
seen-at (q ∷ ps) zero p short is = (0, omega arith, ap property_view (sym is))
seen-at (q ∷ ps) (suc i) p short is = let w = seen-at ps i p (omega arith) is in (suc w.0, omega (arith, w.1), w.2)

-- one thing more, of which the same holds
pub zip-more : {A B X Y : Type 0} (R : X → Y → Type 0) (seen : A → X) (view : B → Y) (ps : List A) (i : ℕ) (p : A) → i < length ps → p ≡ get_or ps i p → (xs : List B) (x : B) → AllZip R (map seen (take i ps)) (map view xs) → R (seen p) (view x) → AllZip R (map seen (take (i + 1) ps)) (map view (xs ++ x ∷ []))
zip-more R seen view ps i p short is xs x each here =
    let more : map seen (take (i + 1) ps) ≡ map seen (take i ps) ++ seen p ∷ [] = ap (λ k. map seen (take k ps)) (add-one i) ∙ view-take seen ps i p short is in
    subst (λ us. AllZip R (map seen (take (i + 1) ps)) us) (sym (view-push view xs x))
    (subst (λ qs. AllZip R qs (map view xs ++ view x ∷ [])) (sym more)
    (pushed R (map seen (take i ps)) (map view xs) (seen p) (view x) each here))

-- the same where the things themselves are looked at
pub zip-next : {A B Y : Type 0} (R : A → Y → Type 0) (view : B → Y) (ps : List A) (i : ℕ) (p : A) → i < length ps → p ≡ get_or ps i p → (xs : List B) (x : B) → AllZip R (take i ps) (map view xs) → R p (view x) → AllZip R (take (i + 1) ps) (map view (xs ++ x ∷ []))
zip-next R view ps i p short is xs x each here =
    subst (λ qs. AllZip R qs (map view (xs ++ x ∷ []))) (map-id (take (i + 1) ps))
    (zip-more R (λ q. q) view ps i p short is xs x (subst (λ qs. AllZip R qs (map view xs)) (sym (map-id (take i ps))) each) here)

-- once all things are gone through
pub zip-all : {A X Y : Type 0} (R : X → Y → Type 0) (seen : A → X) (ps : List A) (i : ℕ) (ys : List Y) → length ps ≤ i → AllZip R (map seen (take i ps)) ys → AllZip R (map seen ps) ys
zip-all R seen ps i ys h each = subst (λ qs. AllZip R qs ys) (view-all seen ps i h) each

pub variable-fault : (scope : Scope) (ps : List Property) (i : ℕ) (p : Property) (words : List ℕ) → i < length ps → p ≡ get_or ps i p → words ≡ text_of (property_view p) → (path : List ℕ) (told : DocFault) → IsToldAt path (IsTextFault scope words) told → IsToldAt path (IsVariableFault scope (properties_view ps)) told
variable-fault scope ps i p words short is says path told h =
    told_weaker path (IsTextFault scope words) (IsVariableFault scope (properties_view ps))
    (λ cause w. record { property = property_view p; there = seen-at ps i p short is; fault = subst (λ ws. IsTextFault scope ws cause) says w })
    told h

module _ (is_port : List ℕ → Bool) (scope : Scope) (form_named : List ℕ → Form) (ps : List Property) (i : ℕ) (p : Property) (name words : List ℕ) (f : Form) (short : i < length ps) (is : p ≡ get_or ps i p) (named_so : name ≡ property_name (property_view p)) (says : words ≡ text_of (property_view p)) (formed : f ≡ form_named name) where
  form-is : f ≡ form_named (property_name (property_view p))
  form-is = formed ∙ ap form_named named_so

  pub given-more : (values : List ParameterValue) (value : ParameterValue) → AllZip (IsParameterOf is_port scope form_named) (properties_view (take i ps)) (map held_view values) → IsGiven is_port scope f words (held_view value) → AllZip (IsParameterOf is_port scope form_named) (properties_view (take (i + 1) ps)) (map held_view (values ++ value ∷ []))
  given-more values value each here =
      let q = property_view p in
      let given : IsParameterOf is_port scope form_named q (held_view value) = subst (λ (g : Form). IsGiven is_port scope g (text_of q) (held_view value)) form-is (subst (λ ws. IsGiven is_port scope f ws (held_view value)) says here) in
      let more : properties_view (take (i + 1) ps) ≡ properties_view (take i ps) ++ q ∷ [] = ap (λ k. properties_view (take k ps)) (add-one i) ∙ view-take property_view ps i p short is in
      subst (λ (hs : List Held). AllZip (IsParameterOf is_port scope form_named) (properties_view (take (i + 1) ps)) hs) (sym (view-push held_view values value))
      (subst (λ (qs : List PropertyTree). AllZip (IsParameterOf is_port scope form_named) qs (map held_view values ++ held_view value ∷ [])) (sym more)
      (pushed (IsParameterOf is_port scope form_named) (properties_view (take i ps)) (map held_view values) q (held_view value) each given))

  pub given-fault : (path : List ℕ) (told : DocFault) → IsToldAt path (IsGivenFault is_port scope f words) told → IsToldAt path (IsFaultAmong is_port scope form_named (properties_view ps)) told
  given-fault path told h =
      let q = property_view p in
      told_weaker path (IsGivenFault is_port scope f words) (IsFaultAmong is_port scope form_named (properties_view ps))
      (λ cause w. record { property = q; there = seen-at ps i p short is; fault = subst (λ (g : Form). IsGivenFault is_port scope g (text_of q) cause) form-is (subst (λ ws. IsGivenFault is_port scope f ws cause) says w) })
      told h

-- what is told of one parameter is told of all
pub among_told : (is_port : List ℕ → Bool) (scope : Scope) (parent : Option ℕ) (class : List ℕ) (ps : List PropertyTree) (path : List ℕ) (told : DocFault) → IsToldAt path (IsFaultAmong is_port scope (director_form parent class) ps) told → IsToldAt path (IsClassFault is_port scope parent class ps) told
among_told is_port scope parent class ps path told h = told_weaker path (IsFaultAmong is_port scope (director_form parent class) ps) (IsClassFault is_port scope parent class ps) (λ cause w. inl w) told h

pub apart_told : (is_port : List ℕ → Bool) (scope : Scope) (parent : Option ℕ) (class : List ℕ) (ps : List PropertyTree) (path : List ℕ) (told : DocFault) → AreApart is_port scope parent class ps → IsRefusal told code.Value path → IsToldAt path (IsClassFault is_port scope parent class ps) told
apart_told is_port scope parent class ps path faults.Memory a is = tt
apart_told is_port scope parent class ps path (faults.Refused r) a is = (ap (λ s. s.path) is, inr (ap (λ s. s.code) is, a))
