-- What the names in guards and actions stand for is of the types of the names.
use Rattle.std.proofs.Common.{◌≡◌, ℕ, suc, List, [], ◌∷◌, Bool, true, false, Option, Some, None, refl, if◌then◌else◌}
use Rattle.std.specs.Prelude.{bytes_eq, option_map, IfSome}
use Rattle.pt_meaning.specs.Transitions.{input_in, output_in, variable_in}
use Rattle.pt_meaning.specs.Transitions.{Scope as Reads}
use Rattle.pt_value.specs.Token.{value_of}
use Rattle.pt_value.specs.declared.token.Token.{Token}
use Rattle.pt_datatypes.specs.Datatype.{Datatype}
use Rattle.pt_datatypes.specs.Order.{is_below}
use Rattle.pt_datatypes.specs.Token.{type_of_value}
use Rattle.pt_datatypes.proofs.Order.{below-refl}
use Rattle.pt_language.specs.Scope.{Scope}
use Rattle.pt_language.specs.Types.{Types}
use Rattle.pt_language.specs.Laws.{IsHeld, Keeps}
use Rattle.pt_firing.specs.Params.{value_under}
use Rattle.pt_formula.specs.Formula.{parameters, with_name, parameter_types, with_type, with_types}
use Rattle.pt_chart.specs.Machine.{NameTable}
use Rattle.pt_chart.specs.Names.{of_type, with_names, names_in}
use Rattle.pt_chart.specs.Typed.{types_of}

abbrev Held : Types → Scope → Type 0
Held types scope = (name : List ℕ) → IfSome (types name) (λ t. IsHeld t (scope name))

abbrev Apart : Types → Scope → Type 0
Apart types scope = (name : List ℕ) → types name ≡ None → scope name ≡ None

held-if : (t : Datatype) (x : Token) (b : Bool) → is_below (type_of_value (value_of x)) t ≡ b → IsHeld t (Some (if b then Some (value_of x) else None))
held-if t x true e = e
held-if t x false e = tt

held-one : (t : Datatype) (o : Option Token) → IsHeld t (Some (of_type t o))
held-one t None = tt
held-one t (Some x) = held-if t x (is_below (type_of_value (value_of x)) t) refl

held-names : (k : ℕ) (es : List (List ℕ × Datatype)) (read : ℕ → Option Token) (types : Types) (s : Scope) → Held types s → Held (with_types es types) (with_names k es read s)
held-names k [] read types s h = h
held-names k (e ∷ es) read types s h = held-names (suc k) es read (with_type e.0 e.1 types) (with_name e.0 (of_type e.1 (read k)) s) one
  where
    by_test : (name : List ℕ) (b : Bool) → IfSome (if b then Some e.1 else types name) (λ t. IsHeld t (if b then Some (of_type e.1 (read k)) else s name))
    by_test name true = held-one e.1 (read k)
    by_test name false = h name

    one : Held (with_type e.0 e.1 types) (with_name e.0 (of_type e.1 (read k)) s)
    one name = by_test name (bytes_eq e.0 name)

apart-names : (k : ℕ) (es : List (List ℕ × Datatype)) (read : ℕ → Option Token) (types : Types) (s : Scope) → Apart types s → Apart (with_types es types) (with_names k es read s)
apart-names k [] read types s h = h
apart-names k (e ∷ es) read types s h = apart-names (suc k) es read (with_type e.0 e.1 types) (with_name e.0 (of_type e.1 (read k)) s) one
  where
    by_test : (name : List ℕ) (b : Bool) → (if b then Some e.1 else types name) ≡ None → (if b then Some (of_type e.1 (read k)) else s name) ≡ None
    by_test name true h2 = cc
    by_test name false h2 = h name h2

    one : Apart (with_type e.0 e.1 types) (with_name e.0 (of_type e.1 (read k)) s)
    one name = by_test name (bytes_eq e.0 name)

held-parameters : (values : List (List ℕ × Token)) → Held (parameter_types values) (parameters values)
held-parameters values name = by_value (value_under name values)
  where
    by_value : (o : Option Token) → IfSome (option_map (λ token. type_of_value (value_of token)) o) (λ t. IsHeld t (option_map (λ token. Some (value_of token)) o))
    by_value None = tt
    by_value (Some token) = below-refl (type_of_value (value_of token))

apart-parameters : (values : List (List ℕ × Token)) → Apart (parameter_types values) (parameters values)
apart-parameters values name = by_value (value_under name values)
  where
    by_value : (o : Option Token) → option_map (λ token. type_of_value (value_of token)) o ≡ None → option_map (λ token. Some (value_of token)) o ≡ None
    by_value None e = refl
    by_value (Some token) e = cc

pub keeps : (table : NameTable) (reads : Reads Token) → Keeps (types_of table) (names_in table reads)
keeps table reads =
    let vs = table.variables in
    let os = table.outputs in
    let ps = table.parameters in
    record {
      held = held-names 0 table.inputs (input_in reads) (with_types os (with_types vs (parameter_types ps))) (with_names 0 os (output_in reads) (with_names 0 vs (variable_in reads) (parameters ps))) (held-names 0 os (output_in reads) (with_types vs (parameter_types ps)) (with_names 0 vs (variable_in reads) (parameters ps)) (held-names 0 vs (variable_in reads) (parameter_types ps) (parameters ps) (held-parameters ps)));
      asked = λ name port e. apart-names 0 table.inputs (input_in reads) (with_types os (with_types vs (parameter_types ps))) (with_names 0 os (output_in reads) (with_names 0 vs (variable_in reads) (parameters ps))) (apart-names 0 os (output_in reads) (with_types vs (parameter_types ps)) (with_names 0 vs (variable_in reads) (parameters ps)) (apart-names 0 vs (variable_in reads) (parameter_types ps) (parameters ps) (apart-parameters ps))) name e;
    }
