-- Where the ports of an actor matter for its parameters.
use Rattle.std.specs.Prelude.{◌≡◌, ℕ, List, Bool}
use Rattle.pt_scopes.specs.declared.form.Form.TheVariants as form
use Rattle.pt_scopes.specs.Forms.{form_of}

-- the two tests of names say the same, where a parameter of the class is an expression
abbrev pub AgreeOnTrees : List ℕ → (List ℕ → Bool) → (List ℕ → Bool) → Type 0
AgreeOnTrees class one other = (name : List ℕ) → form_of class name ≡ form.Tree → one ≡ other
