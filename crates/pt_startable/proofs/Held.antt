-- What an actor finds under the name of one of its parameters, by the form of that parameter.
use Rattle.std.proofs.Common.{◌≡◌, ℕ, List, [], ◌∷◌, map, Bool, true, false, not, ◌&&◌, ◌||◌, Option, Some, None, IsTrue, refl, sym, ap, subst, ◌∙◌, if◌then◌else◌}
use Rattle.std.specs.Prelude.{codes, bytes_eq, option_map}
use Rattle.std.specs.List.{AllZip, list_all}
use Rattle.std.proofs.lemmas.Bool.{false≢true}
use Rattle.std.proofs.lemmas.Option.{none-some, same_Some}
use Rattle.std.proofs.lemmas.Slice.Eq.{bytes_eq-Decides}
use Rattle.pt_datatypes.proofs.Fields.{and_left, and_right}
use Rattle.pt_value.specs.declared.token.Token.{Token}
use Rattle.pt_value.specs.declared.token.Token.TheVariants as token
use Rattle.pt_value.specs.Token.{value_of}
use Rattle.pt_language.specs.Scope.{Scope}
use Rattle.pt_language.specs.Tree.{Tree}
use Rattle.pt_language.specs.Expr.{tree_of}
use Rattle.pt_document.specs.Document.{PropertyTree, property_name}
use Rattle.pt_document.specs.Names.{is_among}
use Rattle.pt_firing.specs.Params.{value_under}
use Rattle.pt_scopes.specs.declared.form.Form.{Form}
use Rattle.pt_scopes.specs.declared.form.Form.TheVariants as form
use Rattle.pt_scopes.specs.declared.parameter_value.ParameterValue.{ParameterValue}
use Rattle.pt_scopes.specs.declared.parameter_value.ParameterValue.TheVariants as parameter
use Rattle.pt_scopes.specs.Forms.{ParameterForm, forms, form_in, form_of, fits, comparisons, functions, gates}
use Rattle.pt_scopes.specs.Given.{Held, Token as HeldToken, Read, Word, held_view, IsGiven}
use Rattle.pt_scopes.specs.Agreement as agreement
use Rattle.pt_scopes.specs.Agreement.{named, value_in}
use Rattle.pt_scopes.specs.Scopes.{text_of}
use Rattle.pt_scopes.specs.ClassParameters.{IsParameterOf}
use Rattle.pt_start.specs.Started.{own_tokens, given_tree}

-- ---- forms

-- a parameter of this form is evaluated
abbrev pub is_evaluated : Form → Bool
is_evaluated form.Tree = false
is_evaluated form.Comparison = false
is_evaluated form.Function = false
is_evaluated form.Gate = false
is_evaluated form.Ignored = false
is_evaluated f = true

-- it is read as a tree
abbrev pub is_tree : Form → Bool
is_tree form.Tree = true
is_tree f = false

-- the texts of which it is one, where it is taken as it is written
abbrev pub words_of : Form → Option (List (List ℕ))
words_of form.Comparison = Some comparisons
words_of form.Function = Some functions
words_of form.Gate = Some gates
words_of f = None

module _ (is_port : List ℕ → Bool) (scope : Scope) where
  not-word : (f : Form) (text : List ℕ) → is_evaluated f ≡ true → IsGiven is_port scope f text Word → ⊥
  not-word form.Any text e g = g
  not-word form.Truth text e g = g
  not-word (form.Integer least most) text e g = g
  not-word form.Array text e g = g
  not-word form.FullArray text e g = g
  not-word form.Offsets text e g = g
  not-word form.Tree text e g = let h : false ≡ true = e in cc
  not-word form.Comparison text e g = let h : false ≡ true = e in cc
  not-word form.Function text e g = let h : false ≡ true = e in cc
  not-word form.Gate text e g = let h : false ≡ true = e in cc
  not-word form.Ignored text e g = let h : false ≡ true = e in cc

  not-read : (f : Form) (text : List ℕ) (t : Tree) → is_tree f ≡ false → IsGiven is_port scope f text (Read t) → ⊥
  not-read form.Any text t e g = g
  not-read form.Truth text t e g = g
  not-read (form.Integer least most) text t e g = g
  not-read form.Array text t e g = g
  not-read form.FullArray text t e g = g
  not-read form.Offsets text t e g = g
  not-read form.Comparison text t e g = g
  not-read form.Function text t e g = g
  not-read form.Gate text t e g = g
  not-read form.Ignored text t e g = g
  not-read form.Tree text t e g = let h : true ≡ false = e in cc

  -- a text that is taken as it is written is one of these
  is-word : (f : Form) (text : List ℕ) (allowed : List (List ℕ)) (h : Held) → words_of f ≡ Some allowed → IsGiven is_port scope f text h → (h ≡ Word) × (is_among allowed text ≡ true)
  is-word form.Comparison text allowed Word e g = (refl, ap (λ ws. is_among ws text) (sym (same_Some comparisons allowed e)) ∙ g)
  is-word form.Function text allowed Word e g = (refl, ap (λ ws. is_among ws text) (sym (same_Some functions allowed e)) ∙ g)
  is-word form.Gate text allowed Word e g = (refl, ap (λ ws. is_among ws text) (sym (same_Some gates allowed e)) ∙ g)
  is-word form.Comparison text allowed (HeldToken v) e g = absurd (let h : false ≡ true = g.1 in cc)
  is-word form.Function text allowed (HeldToken v) e g = absurd (let h : false ≡ true = g.1 in cc)
  is-word form.Gate text allowed (HeldToken v) e g = absurd (let h : false ≡ true = g.1 in cc)
  is-word form.Comparison text allowed (Read t) e g = absurd g
  is-word form.Function text allowed (Read t) e g = absurd g
  is-word form.Gate text allowed (Read t) e g = absurd g
  is-word form.Any text allowed h e g = absurd (none-some allowed e)
  is-word form.Truth text allowed h e g = absurd (none-some allowed e)
  is-word (form.Integer least most) text allowed h e g = absurd (none-some allowed e)
  is-word form.Array text allowed h e g = absurd (none-some allowed e)
  is-word form.FullArray text allowed h e g = absurd (none-some allowed e)
  is-word form.Offsets text allowed h e g = absurd (none-some allowed e)
  is-word form.Tree text allowed h e g = absurd (none-some allowed e)
  is-word form.Ignored text allowed h e g = absurd (none-some allowed e)

not-tree : (f : Form) → is_evaluated f ≡ true → is_tree f ≡ false
not-tree form.Any e = refl
not-tree form.Truth e = refl
not-tree (form.Integer least most) e = refl
not-tree form.Array e = refl
not-tree form.FullArray e = refl
not-tree form.Offsets e = refl
not-tree form.Tree e = absurd (let h : false ≡ true = e in cc)
not-tree form.Comparison e = refl
not-tree form.Function e = refl
not-tree form.Gate e = refl
not-tree form.Ignored e = refl

-- an Expression alone has a tree
abbrev has_no_tree : ParameterForm → Bool
has_no_tree r = bytes_eq r.class (codes "Expression") || not (is_tree r.form)

plain-in : (rows : List ParameterForm) (class name : List ℕ) → bytes_eq class (codes "Expression") ≡ false → list_all has_no_tree rows ≡ true → is_tree (form_in rows class name) ≡ false
plain-in [] class name other e = refl
plain-in (r ∷ rows) class name other e = chosen (bytes_eq r.class class) refl (bytes_eq r.name name) (and_left (has_no_tree r) (list_all has_no_tree rows) e) (plain-in rows class name other (and_right (has_no_tree r) (list_all has_no_tree rows) e))
  where
    plain : (b c : Bool) → b ≡ false → (b || not c) ≡ true → c ≡ false
    plain true c z h = absurd (let n : true ≡ false = z in cc)
    plain false true z h = absurd (let n : false ≡ true = h in cc)
    plain false false z h = refl

    chosen : (b : Bool) → bytes_eq r.class class ≡ b → (c : Bool) → has_no_tree r ≡ true → is_tree (form_in rows class name) ≡ false → is_tree (if b && c then r.form else form_in rows class name) ≡ false
    chosen true same true h more = plain (bytes_eq r.class (codes "Expression")) (is_tree r.form) (ap (λ c. bytes_eq c (codes "Expression")) ((bytes_eq-Decides r.class class).0 same) ∙ other) h
    chosen true same false h more = more
    chosen false same c h more = more

pub plain-form : (class name : List ℕ) → bytes_eq class (codes "Expression") ≡ false → is_tree (form_of class name) ≡ false
unfolding form_of forms
plain-form class name other = plain-in forms class name other refl

-- ---- what is found

module _ (is_port : List ℕ → Bool) (scope : Scope) (form_named : List ℕ → Form) where
  abbrev pub AreGiven : List PropertyTree → List ParameterValue → Type 0
  AreGiven ps vs = AllZip (IsParameterOf is_port scope form_named) ps (map held_view vs)

  form-same : (p : PropertyTree) (name : List ℕ) → bytes_eq (property_name p) name ≡ true → form_named (property_name p) ≡ form_named name
  form-same p name same = ap form_named ((bytes_eq-Decides (property_name p) name).0 same)

  -- a token has the form of its parameter
  pub token-fits : (name : List ℕ) (ps : List PropertyTree) (vs : List ParameterValue) → AreGiven ps vs → is_evaluated (form_named name) ≡ true → (t : Token) → value_under name (own_tokens ps vs) ≡ Some t → IsTrue (fits (form_named name) (value_of t))
  unfolding value_under
  token-fits name [] vs g e t is = absurd (none-some t is)
  token-fits name (p ∷ ps) [] g e t is = absurd g
  token-fits name (p ∷ ps) (parameter.Token x ∷ vs) g e t is = chosen (bytes_eq (property_name p) name) refl is (λ later. token-fits name ps vs g.1 e t later)
    where
      chosen : (b : Bool) → bytes_eq (property_name p) name ≡ b → (if b then Some x else value_under name (own_tokens ps vs)) ≡ Some t → (value_under name (own_tokens ps vs) ≡ Some t → IsTrue (fits (form_named name) (value_of t))) → IsTrue (fits (form_named name) (value_of t))
      chosen true same h later = subst (λ f. IsTrue (fits f (value_of t))) (form-same p name same) (subst (λ y. IsTrue (fits (form_named (property_name p)) (value_of y))) (same_Some x t h) g.0.1)
      chosen false same h later = later h
  token-fits name (p ∷ ps) (parameter.Tree x ∷ vs) g e t is = token-fits name ps vs g.1 e t is
  token-fits name (p ∷ ps) (parameter.Word ∷ vs) g e t is = chosen (bytes_eq (property_name p) name) refl is (λ later. token-fits name ps vs g.1 e t later)
    where
      chosen : (b : Bool) → bytes_eq (property_name p) name ≡ b → (if b then Some (token.Text (text_of p)) else value_under name (own_tokens ps vs)) ≡ Some t → (value_under name (own_tokens ps vs) ≡ Some t → IsTrue (fits (form_named name) (value_of t))) → IsTrue (fits (form_named name) (value_of t))
      chosen true same h later = absurd (not-word is_port scope (form_named (property_name p)) (text_of p) (ap is_evaluated (form-same p name same) ∙ e) g.0)
      chosen false same h later = later h

  -- a text that is taken as it is written is one of those that its form allows
  pub word-found : (name : List ℕ) (allowed : List (List ℕ)) (ps : List PropertyTree) (vs : List ParameterValue) → AreGiven ps vs → words_of (form_named name) ≡ Some allowed → (t : Token) → value_under name (own_tokens ps vs) ≡ Some t → (text : List ℕ) × (t ≡ token.Text text) × (is_among allowed text ≡ true)
  unfolding value_under
  word-found name allowed [] vs g e t is = absurd (none-some t is)
  word-found name allowed (p ∷ ps) [] g e t is = absurd g
  word-found name allowed (p ∷ ps) (parameter.Token x ∷ vs) g e t is = chosen (bytes_eq (property_name p) name) refl is (λ later. word-found name allowed ps vs g.1 e t later)
    where
      chosen : (b : Bool) → bytes_eq (property_name p) name ≡ b → (if b then Some x else value_under name (own_tokens ps vs)) ≡ Some t → (value_under name (own_tokens ps vs) ≡ Some t → (text : List ℕ) × (t ≡ token.Text text) × (is_among allowed text ≡ true)) → (text : List ℕ) × (t ≡ token.Text text) × (is_among allowed text ≡ true)
      chosen true same h later = let no = (is-word is_port scope (form_named (property_name p)) (text_of p) allowed (HeldToken (value_of x)) (ap words_of (form-same p name same) ∙ e) g.0).0 in absurd (cc)
      chosen false same h later = later h
  word-found name allowed (p ∷ ps) (parameter.Tree x ∷ vs) g e t is = word-found name allowed ps vs g.1 e t is
  word-found name allowed (p ∷ ps) (parameter.Word ∷ vs) g e t is = chosen (bytes_eq (property_name p) name) refl is (λ later. word-found name allowed ps vs g.1 e t later)
    where
      chosen : (b : Bool) → bytes_eq (property_name p) name ≡ b → (if b then Some (token.Text (text_of p)) else value_under name (own_tokens ps vs)) ≡ Some t → (value_under name (own_tokens ps vs) ≡ Some t → (text : List ℕ) × (t ≡ token.Text text) × (is_among allowed text ≡ true)) → (text : List ℕ) × (t ≡ token.Text text) × (is_among allowed text ≡ true)
      chosen true same h later = (text_of p, sym (same_Some (token.Text (text_of p)) t h), (is-word is_port scope (form_named (property_name p)) (text_of p) allowed Word (ap words_of (form-same p name same) ∙ e) g.0).1)
      chosen false same h later = later h

  -- a parameter that is given has a token
  pub token-there : (name : List ℕ) (ps : List PropertyTree) (vs : List ParameterValue) → AreGiven ps vs → is_evaluated (form_named name) ≡ true → is_among (map property_name ps) name ≡ true → (t : Token) × (value_under name (own_tokens ps vs) ≡ Some t)
  unfolding value_under
  token-there name [] vs g e among = absurd (let h : false ≡ true = among in cc)
  token-there name (p ∷ ps) [] g e among = absurd g
  token-there name (p ∷ ps) (parameter.Token x ∷ vs) g e among = chosen (bytes_eq (property_name p) name) among (λ later. token-there name ps vs g.1 e later)
    where
      chosen : (b : Bool) → (if b then true else is_among (map property_name ps) name) ≡ true → (is_among (map property_name ps) name ≡ true → (t : Token) × (value_under name (own_tokens ps vs) ≡ Some t)) → (t : Token) × ((if b then Some x else value_under name (own_tokens ps vs)) ≡ Some t)
      chosen true h later = (x, refl)
      chosen false h later = later h
  token-there name (p ∷ ps) (parameter.Tree x ∷ vs) g e among = chosen (bytes_eq (property_name p) name) refl among (λ later. token-there name ps vs g.1 e later)
    where
      chosen : (b : Bool) → bytes_eq (property_name p) name ≡ b → (if b then true else is_among (map property_name ps) name) ≡ true → (is_among (map property_name ps) name ≡ true → (t : Token) × (value_under name (own_tokens ps vs) ≡ Some t)) → (t : Token) × (value_under name (own_tokens ps vs) ≡ Some t)
      chosen true same h later = absurd (not-read is_port scope (form_named (property_name p)) (text_of p) (tree_of x) (ap is_tree (form-same p name same) ∙ not-tree (form_named name) e) g.0)
      chosen false same h later = later h
  token-there name (p ∷ ps) (parameter.Word ∷ vs) g e among = chosen (bytes_eq (property_name p) name) among (λ later. token-there name ps vs g.1 e later)
    where
      chosen : (b : Bool) → (if b then true else is_among (map property_name ps) name) ≡ true → (is_among (map property_name ps) name ≡ true → (t : Token) × (value_under name (own_tokens ps vs) ≡ Some t)) → (t : Token) × ((if b then Some (token.Text (text_of p)) else value_under name (own_tokens ps vs)) ≡ Some t)
      chosen true h later = (token.Text (text_of p), refl)
      chosen false h later = later h

  -- a parameter that is read as a tree and is given has one
  pub tree-there : (name : List ℕ) (ps : List PropertyTree) (vs : List ParameterValue) → AreGiven ps vs → form_named name ≡ form.Tree → is_among (map property_name ps) name ≡ true → (t : Tree) × (given_tree vs ≡ Some t)
  tree-there name [] vs g e among = absurd (false≢true among)
  tree-there name (p ∷ ps) [] g e among = absurd g
  tree-there name (p ∷ ps) (parameter.Tree x ∷ vs) g e among = (tree_of x, refl)
  tree-there name (p ∷ ps) (parameter.Token x ∷ vs) g e among = chosen (bytes_eq (property_name p) name) refl among (λ later. tree-there name ps vs g.1 e later)
    where
      chosen : (b : Bool) → bytes_eq (property_name p) name ≡ b → (if b then true else is_among (map property_name ps) name) ≡ true → (is_among (map property_name ps) name ≡ true → (t : Tree) × (given_tree vs ≡ Some t)) → (t : Tree) × (given_tree vs ≡ Some t)
      chosen true same h later = absurd (false≢true (subst (λ f. IsTrue (fits f (value_of x))) (form-same p name same ∙ e) g.0.1))
      chosen false same h later = later h
  tree-there name (p ∷ ps) (parameter.Word ∷ vs) g e among = chosen (bytes_eq (property_name p) name) refl among (λ later. tree-there name ps vs g.1 e later)
    where
      chosen : (b : Bool) → bytes_eq (property_name p) name ≡ b → (if b then true else is_among (map property_name ps) name) ≡ true → (is_among (map property_name ps) name ≡ true → (t : Tree) × (given_tree vs ≡ Some t)) → (t : Tree) × (given_tree vs ≡ Some t)
      chosen true same h later = absurd (subst (λ f. IsGiven is_port scope f (text_of p) Word) (form-same p name same ∙ e) g.0)
      chosen false same h later = later h

  -- where no form is that of a tree, there is none
  pub no-tree : (ps : List PropertyTree) (vs : List ParameterValue) → AreGiven ps vs → ((name : List ℕ) → is_tree (form_named name) ≡ false) → given_tree vs ≡ None
  no-tree [] [] g plain = refl
  no-tree [] (v ∷ vs) g plain = absurd g
  no-tree (p ∷ ps) [] g plain = absurd g
  no-tree (p ∷ ps) (parameter.Token x ∷ vs) g plain = no-tree ps vs g.1 plain
  no-tree (p ∷ ps) (parameter.Word ∷ vs) g plain = no-tree ps vs g.1 plain
  no-tree (p ∷ ps) (parameter.Tree x ∷ vs) g plain = absurd (not-read is_port scope (form_named (property_name p)) (text_of p) (tree_of x) (plain (property_name p)) g.0)

  -- what parameters have to agree in is the value of what is found
  pub value-found : (name : List ℕ) (ps : List PropertyTree) (vs : List ParameterValue) → AreGiven ps vs → is_evaluated (form_named name) ≡ true → value_in (agreement.given (named ps (map held_view vs)) name) ≡ option_map value_of (value_under name (own_tokens ps vs))
  unfolding value_under
  value-found name [] vs g e = refl
  value-found name (p ∷ ps) [] g e = absurd g
  value-found name (p ∷ ps) (parameter.Token x ∷ vs) g e = chosen (bytes_eq (property_name p) name) (value-found name ps vs g.1 e)
    where
      chosen : (b : Bool) → value_in (agreement.given (named ps (map held_view vs)) name) ≡ option_map value_of (value_under name (own_tokens ps vs)) → value_in (if b then Some (HeldToken (value_of x)) else agreement.given (named ps (map held_view vs)) name) ≡ option_map value_of (if b then Some x else value_under name (own_tokens ps vs))
      chosen true later = refl
      chosen false later = later
  value-found name (p ∷ ps) (parameter.Tree x ∷ vs) g e = chosen (bytes_eq (property_name p) name) refl (value-found name ps vs g.1 e)
    where
      chosen : (b : Bool) → bytes_eq (property_name p) name ≡ b → value_in (agreement.given (named ps (map held_view vs)) name) ≡ option_map value_of (value_under name (own_tokens ps vs)) → value_in (if b then Some (Read (tree_of x)) else agreement.given (named ps (map held_view vs)) name) ≡ option_map value_of (value_under name (own_tokens ps vs))
      chosen true same later = absurd (not-read is_port scope (form_named (property_name p)) (text_of p) (tree_of x) (ap is_tree (form-same p name same) ∙ not-tree (form_named name) e) g.0)
      chosen false same later = later
  value-found name (p ∷ ps) (parameter.Word ∷ vs) g e = chosen (bytes_eq (property_name p) name) refl (value-found name ps vs g.1 e)
    where
      chosen : (b : Bool) → bytes_eq (property_name p) name ≡ b → value_in (agreement.given (named ps (map held_view vs)) name) ≡ option_map value_of (value_under name (own_tokens ps vs)) → value_in (if b then Some Word else agreement.given (named ps (map held_view vs)) name) ≡ option_map value_of (if b then Some (token.Text (text_of p)) else value_under name (own_tokens ps vs))
      chosen true same later = absurd (not-word is_port scope (form_named (property_name p)) (text_of p) (ap is_evaluated (form-same p name same) ∙ e) g.0)
      chosen false same later = later
