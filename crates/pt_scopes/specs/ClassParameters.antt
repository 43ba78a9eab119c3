-- The parameters of an actor or of a director.
use Rattle.std.specs.Prelude.{◌≡◌, ◌⊎◌, ℕ, List, Bool, true, false, Option}
use Rattle.std.specs.List.{Contains, AllZip}
use Rattle.pt_document.specs.declared.code.Code.{Code}
use Rattle.pt_document.specs.declared.code.Code.TheVariants as code
use Rattle.pt_document.specs.Document.{PropertyTree, property_name}
use Rattle.pt_language.specs.Scope.{Scope}
use Rattle.pt_scopes.specs.declared.form.Form.{Form}
use Rattle.pt_scopes.specs.Given.{Held, IsGiven, IsGivenFault}
use Rattle.pt_scopes.specs.Agreement.{agree, named}
use Rattle.pt_scopes.specs.Scopes.{text_of}
use Rattle.pt_scopes.specs.Sites.{director_form}

-- a parameter has what is given, where this is the form of each by its name
abbrev pub IsParameterOf : (List ℕ → Bool) → Scope → (List ℕ → Form) → PropertyTree → Held → Type 0
IsParameterOf is_port scope form_named p h = IsGiven is_port scope (form_named (property_name p)) (text_of p) h

-- one of the parameters is at fault for this cause
pub record IsFaultAmong (is_port : List ℕ → Bool) (scope : Scope) (form_named : List ℕ → Form) (ps : List PropertyTree) (cause : Code) : Type 0 where
  pub property : PropertyTree
  pub there : Contains ps property
  pub fault : IsGivenFault is_port scope (form_named (property_name property)) (text_of property) cause

-- each parameter has what is given, and they agree
pub record AreParametersOf (is_port : List ℕ → Bool) (scope : Scope) (parent : Option ℕ) (class : List ℕ) (ps : List PropertyTree) (hs : List Held) : Type 0 where
  pub each : AllZip (IsParameterOf is_port scope (director_form parent class)) ps hs
  pub agreed : agree class (named ps hs) ≡ true

-- each parameter has what is given, and they don't agree
pub record AreApart (is_port : List ℕ → Bool) (scope : Scope) (parent : Option ℕ) (class : List ℕ) (ps : List PropertyTree) : Type 0 where
  pub held : List Held
  pub each : AllZip (IsParameterOf is_port scope (director_form parent class)) ps held
  pub apart : agree class (named ps held) ≡ false

-- at what the parameters of an actor or a director are at fault
abbrev pub IsClassFault : (List ℕ → Bool) → Scope → Option ℕ → List ℕ → List PropertyTree → Code → Type 0
IsClassFault is_port scope parent class ps cause =
    IsFaultAmong is_port scope (director_form parent class) ps cause ⊎ ((cause ≡ code.Value) × AreApart is_port scope parent class ps)
