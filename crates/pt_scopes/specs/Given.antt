-- What a parameter of each form is given, and where it is at fault.
use Rattle.std.specs.Prelude.{◌≡◌, ◌⊎◌, ℕ, List, Bool, false, IsTrue, ◌||◌, Option, Some, None}
use Rattle.std.specs.List.{Contains}
use Rattle.pt_value.specs.Value.{Value}
use Rattle.pt_document.specs.declared.code.Code.{Code}
use Rattle.pt_document.specs.declared.code.Code.TheVariants as code
use Rattle.pt_document.specs.Names.{is_among}
use Rattle.pt_value.specs.Token.{value_of}
use Rattle.pt_language.specs.Tree.{Tree}
use Rattle.pt_language.specs.Expr.{tree_of}
use Rattle.pt_scopes.specs.declared.parameter_value.ParameterValue.{ParameterValue}
use Rattle.pt_scopes.specs.declared.parameter_value.ParameterValue.TheVariants as parameter
use Rattle.pt_language.specs.Scope.{Scope, port_in}
use Rattle.pt_scopes.specs.declared.form.Form.{Form}
use Rattle.pt_scopes.specs.declared.form.Form.TheVariants as form
use Rattle.pt_scopes.specs.Forms.{fits, comparisons, functions, gates}
use Rattle.pt_scopes.specs.Texts.{HasValue, IsBound, IsTextFault, IsTreeFault, IsTreeOf}

-- what a parameter has: the value that its text comes to, the tree that it reads as, or its text as it is written
pub data Held : Type 0 where
  Token : (value : Value) → Held
  Read : (read : Tree) → Held
  Word : Held

-- what the program holds
abbrev pub held_view : ParameterValue → Held
held_view (parameter.Token t) = Token (value_of t)
held_view (parameter.Tree e) = Read (tree_of e)
held_view parameter.Word = Word

abbrev pub is_presence : List (List ℕ) → Option (List ℕ) → Bool
is_presence ports None = false
is_presence ports (Some port) = is_among ports port

-- a name is that of one of these ports, or asks whether one of them has a token
abbrev pub names_port : List (List ℕ) → List ℕ → Bool
names_port ports name = is_among ports name || is_presence ports (port_in name)

-- what an expression may name, where the test says which names are of ports
abbrev pub IsInScope : (List ℕ → Bool) → Scope → List ℕ → Type 0
IsInScope is_port scope name = IsTrue (is_port name) ⊎ IsBound scope name

-- in this scope, beside these ports, a parameter of this form and text has this
abbrev pub IsGiven : (List ℕ → Bool) → Scope → Form → List ℕ → Held → Type 0
IsGiven is_port scope f text (Token v) = HasValue scope text v × IsTrue (fits f v)
IsGiven is_port scope form.Tree text (Read t) = IsTreeOf (IsInScope is_port scope) text t
IsGiven is_port scope form.Comparison text Word = IsTrue (is_among comparisons text)
IsGiven is_port scope form.Function text Word = IsTrue (is_among functions text)
IsGiven is_port scope form.Gate text Word = IsTrue (is_among gates text)
IsGiven is_port scope form.Ignored text Word = Unit {0}
IsGiven is_port scope f text h = ⊥

-- the text comes to a value that doesn't have the form
pub record IsMisfit (scope : Scope) (f : Form) (text : List ℕ) : Type 0 where
  pub held : Value
  pub comes : HasValue scope text held
  pub misfits : fits f held ≡ false

-- a text that is taken as it is written isn't one of these
abbrev pub IsOther : List (List ℕ) → List ℕ → Code → Type 0
IsOther allowed text cause = (cause ≡ code.Value) × (is_among allowed text ≡ false)

-- at what a text that is evaluated is at fault
abbrev pub IsValueFault : Scope → Form → List ℕ → Code → Type 0
IsValueFault scope f text cause = IsTextFault scope text cause ⊎ ((cause ≡ code.Value) × IsMisfit scope f text)

-- at what a parameter of this form and text is at fault
abbrev pub IsGivenFault : (List ℕ → Bool) → Scope → Form → List ℕ → Code → Type 0
IsGivenFault is_port scope form.Tree text cause = IsTreeFault (IsInScope is_port scope) text cause
IsGivenFault is_port scope form.Comparison text cause = IsOther comparisons text cause
IsGivenFault is_port scope form.Function text cause = IsOther functions text cause
IsGivenFault is_port scope form.Gate text cause = IsOther gates text cause
IsGivenFault is_port scope form.Ignored text cause = ⊥
IsGivenFault is_port scope f text cause = IsValueFault scope f text cause

-- in this scope a text comes to a value of this form
abbrev pub IsGivenValue : Scope → Form → List ℕ → Held → Type 0
IsGivenValue scope f text (Token v) = HasValue scope text v × IsTrue (fits f v)
IsGivenValue scope f text (Read t) = ⊥
IsGivenValue scope f text Word = ⊥

-- one of these names isn't in scope
pub record HasNameOutside (IsIn : List ℕ → Type 0) (names : List (List ℕ)) : Type 0 where
  pub name : List ℕ
  pub stands : Contains names name
  pub outside : IsIn name → ⊥
