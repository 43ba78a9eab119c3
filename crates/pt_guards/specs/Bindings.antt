-- What is kept of the names in guards and actions from one reaction to the next.
use Rattle.std.specs.Prelude.{◌≡◌, List}
use Rattle.pt_meaning.specs.Streams.{Streams}
use Rattle.pt_value.specs.declared.token.Token.{Token}
use Rattle.pt_language.specs.Scope.{Scope}
use Rattle.pt_expr.specs.Env.{scope_of}
use Rattle.pt_guards.specs.declared.bindings.Bindings.{Bindings}
use Rattle.pt_chart.specs.Machine.{NameTable}
use Rattle.pt_chart.specs.Names.{HasParameters, are_shown, names_in}

-- parameters are bound under all names but those of ports and Variables, and it is known which Variables are shown
pub record Fits (table : NameTable) (b : Bindings) : Type 0 where
  pub parameters : HasParameters table (scope_of b.env)
  pub shown : b.shown.items ≡ are_shown table

-- what the names stand for where the Variables have these values, the own inputs got these tokens, and the refinement gave these
abbrev pub scope_on : NameTable → List Token → (came given : Streams Token) → Scope
scope_on table values came given = names_in table (record { values = values; inputs = came; given = given })

-- the names stand for what is read where the Variables have these values
pub record IsBound (table : NameTable) (values : List Token) (scope : Scope) : Type 0 where
  pub came : Streams Token
  pub given : Streams Token
  pub is : scope ≡ scope_on table values came given

-- as the values of the Variables change, the names stand for what is read then
abbrev pub Follows : NameTable → List Token → Scope → List Token → Scope → Type 0
Follows table old scope new now = (came given : Streams Token) → scope ≡ scope_on table old came given → now ≡ scope_on table new came given
