-- The own parameter of an actor, as what it is started from has it.
use Rattle.std.specs.Prelude.{ℕ, List, [], ◌∷◌, Option, Some, None}
use Rattle.pt_value.specs.declared.token.Token.{Token}
use Rattle.pt_value.specs.declared.token.Token.TheVariants as token
use Rattle.pt_document.specs.Document.{PropertyTree, property_name}
use Rattle.pt_scopes.specs.declared.parameter_value.ParameterValue.{ParameterValue}
use Rattle.pt_scopes.specs.declared.parameter_value.ParameterValue.TheVariants as parameter
use Rattle.pt_scopes.specs.Scopes.{text_of}

-- its name with its token, or with its text where that is taken as it is written
abbrev pub own_token : PropertyTree → Option ParameterValue → List (List ℕ × Token)
own_token p None = []
own_token p (Some (parameter.Token t)) = (property_name p, t) ∷ []
own_token p (Some (parameter.Tree e)) = []
own_token p (Some parameter.Word) = (property_name p, token.Text (text_of p)) ∷ []
