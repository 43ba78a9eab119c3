-- Parameters that are no expressions name no ports.
use Rattle.std.proofs.Common.{◌≡◌, inl, inr, ℕ, List, [], ◌∷◌, Bool, true, false, not, ◌&&◌, ◌||◌, cond, codes, bytes_eq, refl, sym, ap, subst, ◌∙◌}
use Rattle.std.specs.List.{AllZip}
use Rattle.std.proofs.lemmas.Bool.{and_parts}
use Rattle.std.proofs.lemmas.Slice.Eq.{bytes_eq-Decides}
use Rattle.pt_document.specs.declared.code.Code.{Code}
use Rattle.pt_document.specs.declared.refusal.DocFault.{DocFault}
use Rattle.pt_document.specs.declared.refusal.DocFault.TheVariants as faults
use Rattle.pt_document.specs.Document.{PropertyTree, property_name}
use Rattle.pt_language.specs.Scope.{Scope}
use Rattle.pt_scopes.specs.declared.form.Form.{Form}
use Rattle.pt_scopes.specs.declared.form.Form.TheVariants as form
use Rattle.pt_scopes.specs.Forms.{ParameterForm, forms, form_in, form_of}
use Rattle.pt_scopes.specs.Given.{Held, Read, IsInScope, IsGiven, IsGivenFault}
use Rattle.pt_scopes.specs.Scopes.{text_of}
use Rattle.pt_scopes.specs.Sites.{director_form}
use Rattle.pt_scopes.specs.Texts.{IsTreeOf, IsTreeFault}
use Rattle.pt_scopes.specs.ClassParameters.{IsParameterOf, AreParametersOf, IsClassFault}
use Rattle.pt_scopes.specs.Told.{IsToldAt}
use Rattle.std.specs.Prelude.{None}
use Rattle.pt_values.specs.Ports.{AgreeOnTrees}

-- ---- the table has expressions of one class

abbrev is_tree : Form → Bool
is_tree form.Tree = true
is_tree _ = false

abbrev is_row : ParameterForm → Bool
is_row r = not (is_tree r.form) || bytes_eq r.class (codes "Expression")

abbrev are_rows : List ParameterForm → Bool
are_rows [] = true
are_rows (r ∷ rs) = is_row r && are_rows rs

tree-row : (r : ParameterForm) → r.form ≡ form.Tree → is_row r ≡ true → bytes_eq r.class (codes "Expression") ≡ true
tree-row r is ok = sym (ap (λ (f : Form). not (is_tree f) || bytes_eq r.class (codes "Expression")) is) ∙ ok

among-rows : (rs : List ParameterForm) (class name : List ℕ) → are_rows rs ≡ true → form_in rs class name ≡ form.Tree → bytes_eq class (codes "Expression") ≡ true
among-rows [] class name ok e = let h : form.Any ≡ form.Tree = e in absurd cc
among-rows (r ∷ rs) class name ok e = go (bytes_eq r.class class && bytes_eq r.name name) refl e (λ is. among-rows rs class name (and_parts (is_row r) (are_rows rs) ok).1 is)
  where
    go : (b : Bool) → (bytes_eq r.class class && bytes_eq r.name name) ≡ b → cond b r.form (form_in rs class name) ≡ form.Tree → (form_in rs class name ≡ form.Tree → bytes_eq class (codes "Expression") ≡ true) → bytes_eq class (codes "Expression") ≡ true
    go true m is rest =
        let own : r.class ≡ class = (bytes_eq-Decides r.class class).0 (and_parts (bytes_eq r.class class) (bytes_eq r.name name) m).0 in
        subst (λ (c : List ℕ). bytes_eq c (codes "Expression") ≡ true) own (tree-row r is (and_parts (is_row r) (are_rows rs) ok).0)
    go false m is rest = rest is

the-rows : are_rows forms ≡ true
unfolding forms
the-rows = refl

pub only-expressions : (class name : List ℕ) → form_of class name ≡ form.Tree → bytes_eq class (codes "Expression") ≡ true
unfolding form_of
only-expressions class name e = among-rows forms class name the-rows e

-- ---- parameters by another test of names

module _ (one other : List ℕ → Bool) (scope : Scope) where
  given-same : (f : Form) (text : List ℕ) (h : Held) → (f ≡ form.Tree → one ≡ other) → IsGiven one scope f text h → IsGiven other scope f text h
  given-same form.Tree text (Read t) same g = subst (λ (p : List ℕ → Bool). IsTreeOf (IsInScope p scope) text t) (same refl) g
  given-same _ text _ same g = g

  fault-same : (f : Form) (text : List ℕ) (cause : Code) → (f ≡ form.Tree → one ≡ other) → IsGivenFault one scope f text cause → IsGivenFault other scope f text cause
  fault-same form.Tree text cause same g = subst (λ (p : List ℕ → Bool). IsTreeFault (IsInScope p scope) text cause) (same refl) g
  fault-same _ text cause same g = g

  module _ (class : List ℕ) (agree : AgreeOnTrees class one other) where
    each-same : (ps : List PropertyTree) (hs : List Held) → AllZip (IsParameterOf one scope (director_form None class)) ps hs → AllZip (IsParameterOf other scope (director_form None class)) ps hs
    each-same [] [] all = tt
    each-same [] (h ∷ hs) all = all
    each-same (p ∷ ps) [] all = all
    each-same (p ∷ ps) (h ∷ hs) all = (given-same (form_of class (property_name p)) (text_of p) h (agree (property_name p)) all.0, each-same ps hs all.1)

    pub parameters-same : (ps : List PropertyTree) (hs : List Held) → AreParametersOf one scope None class ps hs → AreParametersOf other scope None class ps hs
    parameters-same ps hs are = record { each = each-same ps hs are.each; agreed = are.agreed }

    class-fault-same : (ps : List PropertyTree) (cause : Code) → IsClassFault one scope None class ps cause → IsClassFault other scope None class ps cause
    class-fault-same ps cause (inl f) = inl (record { property = f.property; there = f.there; fault = fault-same (form_of class (property_name f.property)) (text_of f.property) cause (agree (property_name f.property)) f.fault })
    class-fault-same ps cause (inr a) = inr (a.0, record { held = a.1.held; each = each-same ps a.1.held a.1.each; apart = a.1.apart })

    pub told-same : (path : List ℕ) (ps : List PropertyTree) (fault : DocFault) → IsToldAt path (IsClassFault one scope None class ps) fault → IsToldAt path (IsClassFault other scope None class ps) fault
    told-same path ps faults.Memory h = tt
    told-same path ps (faults.Refused r) h = (h.0, class-fault-same ps r.code h.1)
