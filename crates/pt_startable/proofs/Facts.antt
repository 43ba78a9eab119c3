-- What is known of the parameters that an actor of a class is started from.
use Rattle.std.proofs.Common.{◌≡◌, ℕ, List, true, Some, IsTrue}
use Rattle.std.specs.Prelude.{option_map}
use Rattle.pt_value.specs.declared.token.Token.{Token}
use Rattle.pt_value.specs.declared.token.Token.TheVariants as token
use Rattle.pt_value.specs.Token.{value_of}
use Rattle.pt_document.specs.Names.{is_among}
use Rattle.pt_firing.specs.Params.{value_under}
use Rattle.pt_flow_base.specs.declared.params.Params.{Params}
use Rattle.pt_scopes.specs.Forms.{form_of, fits}
use Rattle.pt_scopes.specs.Agreement.{Parameters, given, value_in, agree}
use Rattle.pt_startable.proofs.Held.{is_evaluated, words_of}
use Rattle.pt_startable.proofs.Required.{IsAsked}

-- Parameters of this class have their forms and agree, and those that have to be given are.
pub record AreOfClass (class : List ℕ) (params : Params) : Type 0 where
  pub fit : (name : List ℕ) → is_evaluated (form_of class name) ≡ true → (t : Token) → value_under name params.values ≡ Some t → IsTrue (fits (form_of class name) (value_of t))
  pub words : (name : List ℕ) (allowed : List (List ℕ)) → words_of (form_of class name) ≡ Some allowed → (t : Token) → value_under name params.values ≡ Some t → (text : List ℕ) × (t ≡ token.Text text) × (is_among allowed text ≡ true)
  pub there : (name : List ℕ) → is_evaluated (form_of class name) ≡ true → IsAsked class name → (t : Token) × (value_under name params.values ≡ Some t)
  pub parameters : Parameters
  pub agreed : agree class parameters ≡ true
  pub same : (name : List ℕ) → is_evaluated (form_of class name) ≡ true → value_in (given parameters name) ≡ option_map value_of (value_under name params.values)
