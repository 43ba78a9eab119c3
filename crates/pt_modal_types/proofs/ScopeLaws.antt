-- What a name stands for has one type in the net and in the machine.
use Rattle.std.proofs.Common.{◌≡◌, ◌⊎◌, inl, inr, ℕ, List, [], ◌∷◌, ◌++◌, length, map, Bool, true, false, Option, Some, None, refl, sym, ap, ◌∙◌, if◌then◌else◌}
use Rattle.std.specs.Prelude.{bytes_eq, option_map}
use Rattle.std.specs.List.{AllByRecursion, filter_map}
use Rattle.std.proofs.lemmas.Option.{none-some, same_Some}
use Rattle.std.proofs.lemmas.Slice.Eq.{bytes_eq-Decides}
use Rattle.pt_value.specs.Value.{Value}
use Rattle.pt_value.specs.Token.{value_of, token_of, value_of-token_of}
use Rattle.pt_value.specs.declared.token.Token.{Token}
use Rattle.pt_datatypes.specs.Datatype.{Datatype, Boolean}
use Rattle.pt_datatypes.specs.Token.{type_of_value}
use Rattle.pt_language.specs.Scope.{port_in}
use Rattle.pt_language.specs.Tree.{Tree}
use Rattle.pt_language.specs.Types.{Types, or_else, presence_type, type_under}
use Rattle.pt_document.specs.declared.job.Direction.TheVariants.{Input, Output}
use Rattle.pt_firing.specs.Params.{value_under}
use Rattle.pt_net.specs.Net.{NetEntityTree}
use Rattle.pt_scopes.specs.Texts.{names_in}
use Rattle.pt_scopes.specs.Valued.{EntityView}
use Rattle.pt_typing.specs.declared.variable.Variable.{Variable}
use Rattle.pt_typing.specs.declared.variable.Variable.TheVariants.{Port}
use Rattle.pt_typing.specs.Least.{Assignment}
use Rattle.pt_typing.specs.Terms.{named, itself, names_types}
use Rattle.pt_inequalities.specs.Frames.{Frames, no_names}
use Rattle.pt_inequalities.specs.Inequalities.{known}
use Rattle.pt_inequalities.specs.ModalScopes.{ModalScope, modal_scope, own_ports, variable_values, value_types, port_at, port_named, port_asked, ports_named, modal_types}
use Rattle.pt_formula.specs.Formula.{parameter_types, with_types}
use Rattle.pt_chart.specs.Machine.{NameTable}
use Rattle.pt_chart.specs.Typed.{types_of}
use Rattle.pt_machine.specs.Machines.{seen_token}
use Rattle.pt_modal_types.specs.Laws.{IsSound}
use Rattle.pt_modal_types.proofs.TreeTypes.{HasAtLeast}
use Rattle.pt_modal_types.proofs.LastLaws.{or-assoc, or-first, or-second, types-last, named-append, named-found, vars, given-types, Among, seen-given, unseen-none, known-among}
use Rattle.pt_modal_types.proofs.NameLaws.{number_from, ports-are, are-own, entries, along, along-none, ports-typed}

-- ---- the ports that names name

-- it is the port of its name
abbrev IsEntry : ModalScope → List ℕ × Variable → Type 0
IsEntry s x = (i : ℕ) × (s.ports x.0 ≡ Some i) × (x.1 ≡ Port s.number i)

all-behind : (P : List ℕ × Variable → Type 0) (xs ys : List (List ℕ × Variable)) → AllByRecursion P xs → AllByRecursion P ys → AllByRecursion P (xs ++ ys)
all-behind P [] ys a b = b
all-behind P (x ∷ xs) ys a b = (a.0, all-behind P xs ys a.1 b)

named-right : (s : ModalScope) (n : List ℕ) → AllByRecursion (IsEntry s) (port_named s n)
named-right s n = by_number (s.ports n) refl
  where
    by_number : (o : Option ℕ) → s.ports n ≡ o → AllByRecursion (IsEntry s) (port_at s.number n o)
    by_number None is = tt
    by_number (Some i) is = ((i, is, refl), tt)

asked-right : (s : ModalScope) (o : Option (List ℕ)) → AllByRecursion (IsEntry s) (port_asked s o)
asked-right s None = tt
asked-right s (Some n) = named-right s n

entries-right : (s : ModalScope) (ns : List (List ℕ)) → AllByRecursion (IsEntry s) (ports_named s ns)
entries-right s [] = tt
entries-right s (n ∷ ns) = all-behind (IsEntry s) (port_named s n ++ port_asked s (port_in n)) (ports_named s ns) (all-behind (IsEntry s) (port_named s n) (port_asked s (port_in n)) (named-right s n) (asked-right s (port_in n))) (entries-right s ns)

module _ (typing : Assignment) (s : ModalScope) where
  abbrev found : List (List ℕ) → List ℕ → Option Datatype
  found ns name = named typing.types (ports_named s ns) name

  -- what is found is the type of the port of that name
  port-found : (ns : List (List ℕ)) (name : List ℕ) (u : Datatype) → found ns name ≡ Some u → (i : ℕ) × (s.ports name ≡ Some i) × (typing.types (Port s.number i) ≡ u)
  port-found ns name u e =
      let w = named-found typing.types (IsEntry s) (ports_named s ns) (entries-right s ns) name u e in
      (w.1.0, ap (λ n. s.ports n) (sym w.2) ∙ w.1.1, ap (λ v. typing.types v) (sym w.1.2) ∙ w.3)

  itself-named : (name : List ℕ) (i : ℕ) → s.ports name ≡ Some i → named typing.types (port_named s name) name ≡ Some (typing.types (Port s.number i))
  itself-named name i is =
      ap (λ o. named typing.types (port_at s.number name o) name) is ∙ ap (λ b. if b then Some (typing.types (Port s.number i)) else None) ((bytes_eq-Decides name name).1 refl)

  -- a port that is named is found
  port-there : (ns : List (List ℕ)) (name : List ℕ) (i : ℕ) → Among name ns → s.ports name ≡ Some i → (u : Datatype) × (found ns name ≡ Some u)
  port-there [] name i a is = absurd a
  port-there (n ∷ ns) name i (inr rest) is =
      let w = port-there ns name i rest is in
      let here = port_named s n ++ port_asked s (port_in n) in
      let r = or-first (named typing.types (ports_named s ns) name) (named typing.types here name) w.0 w.1 in
      (r.0, named-append typing.types here (ports_named s ns) name ∙ r.1)
  port-there (n ∷ ns) name i (inl same) is =
      let here = port_named s n ++ port_asked s (port_in n) in
      let own : named typing.types (port_named s n) name ≡ Some (typing.types (Port s.number i)) = ap (λ k. named typing.types (port_named s k) name) same ∙ itself-named name i is in
      let a = or-second (named typing.types (port_asked s (port_in n)) name) (named typing.types (port_named s n) name) (typing.types (Port s.number i)) own in
      let b = or-second (named typing.types (ports_named s ns) name) (named typing.types here name) a.0 (named-append typing.types (port_named s n) (port_asked s (port_in n)) name ∙ a.1) in
      (b.0, named-append typing.types here (ports_named s ns) name ∙ b.1)

-- ---- a Modal entity

module _ (typing : Assignment) (frames : Frames) (m : ℕ) (e : NetEntityTree) (v : EntityView) (sound : IsSound typing (modal_scope frames m e v) m e v) (ns : List (List ℕ)) (table : NameTable) (inputs : table.inputs ≡ entries typing m Input 0 e.ports) (outputs : table.outputs ≡ entries typing m Output 0 e.ports) (variables : table.variables ≡ vars e.variables v.variables)
    (parameters : table.parameters ≡ filter_map (seen_token (modal_scope frames m e v).around) ns) where
  abbrev s : ModalScope
  s = modal_scope frames m e v

  abbrev rest : List ℕ → Option Datatype
  rest name = or_else (named itself (vars e.variables v.variables) name) (parameter_types (filter_map (seen_token s.around) ns) name)

  -- the type of a name in the machine: of an input, of an output, of a Variable, of a parameter
  table-is : (name : List ℕ) → types_of table name ≡ or_else (or_else (along typing m Input 0 e.ports name) (along typing m Output 0 e.ports name)) (rest name)
  table-is name =
      ap (λ (t : NameTable). types_of t name) (λ i. record { inputs = inputs i; outputs = outputs i; variables = variables i; parameters = parameters i })
      ∙ types-last (entries typing m Input 0 e.ports) (with_types (entries typing m Output 0 e.ports) (with_types (vars e.variables v.variables) (parameter_types (filter_map (seen_token s.around) ns)))) name
      ∙ ap (λ o. or_else (along typing m Input 0 e.ports name) o)
      (types-last (entries typing m Output 0 e.ports) (with_types (vars e.variables v.variables) (parameter_types (filter_map (seen_token s.around) ns))) name
      ∙ ap (λ o. or_else (along typing m Output 0 e.ports name) o) (types-last (vars e.variables v.variables) (parameter_types (filter_map (seen_token s.around) ns)) name))
      ∙ or-assoc (along typing m Input 0 e.ports name) (along typing m Output 0 e.ports name) (rest name)

  port-typed : (name : List ℕ) (i : ℕ) → s.ports name ≡ Some i → types_of table name ≡ Some (typing.types (Port m i))
  port-typed name i is = table-is name ∙ ap (λ o. or_else o (rest name)) (ports-typed typing m 0 e.ports name i (are-own e.ports sound.apart) (sym (ports-are e.ports name) ∙ is))

  no-port : (name : List ℕ) → s.ports name ≡ None → types_of table name ≡ rest name
  no-port name none =
      let not = sym (ports-are e.ports name) ∙ none in
      table-is name ∙ ap (λ o. or_else (or_else o (along typing m Output 0 e.ports name)) (rest name)) (along-none typing m Input 0 e.ports name not) ∙ ap (λ o. or_else o (rest name)) (along-none typing m Output 0 e.ports name not)

  variable-is : (name : List ℕ) → named itself (vars e.variables v.variables) name ≡ option_map type_of_value (s.variables name)
  variable-is name = sym (given-types no_names e.variables v.variables sound.valued name ∙ or-empty (named itself (vars e.variables v.variables) name))
    where
      or-empty : (o : Option Datatype) → or_else o None ≡ o
      or-empty None = refl
      or-empty (Some t) = refl

  value-typed : (name : List ℕ) (u : Datatype) → s.ports name ≡ None → Among name ns → value_types s name ≡ Some u → types_of table name ≡ Some u
  value-typed name u none among e = no-port name none ∙ ap (λ o. or_else o (parameter_types (filter_map (seen_token s.around) ns) name)) (variable-is name) ∙ by_variable (s.variables name) (s.around name) refl e
    where
      by_variable : (a b : Option Value) → s.around name ≡ b → option_map type_of_value (or_else a b) ≡ Some u → or_else (option_map type_of_value a) (parameter_types (filter_map (seen_token s.around) ns) name) ≡ Some u
      by_variable (Some w) b is g = g
      by_variable None None is g = absurd (none-some u g)
      by_variable None (Some w) is g = ap (option_map (λ (x : Token). type_of_value (value_of x))) (seen-given s.around ns name w among is) ∙ ap (λ x. Some (type_of_value x)) (value_of-token_of w) ∙ g

  -- a name that asks about a port stands for nothing
  asks-nothing : (name port : List ℕ) → port_in name ≡ Some port → types_of table name ≡ None
  asks-nothing name port asks =
      let free = sound.free name port asks in
      no-port name free.0 ∙ ap (λ o. or_else o (parameter_types (filter_map (seen_token s.around) ns) name)) (variable-is name ∙ ap (λ (o : Option Value). option_map type_of_value o) free.1)
      ∙ ap (option_map (λ (x : Token). type_of_value (value_of x))) (unseen-none s.around ns name free.2)

  module _ (t : Tree) (some : (name : List ℕ) → Among name (names_in t) → Among name ns) where
    abbrev net_types : Types
    net_types = modal_types typing s t

    named-typed : (name : List ℕ) (u : Datatype) → net_types name ≡ Some u → types_of table name ≡ Some u
    named-typed name u is = by_port (found typing s (names_in t) name) refl is
      where
        by_port : (o : Option Datatype) → found typing s (names_in t) name ≡ o → or_else o (named itself (known (value_types s) (names_in t)) name) ≡ Some u → types_of table name ≡ Some u
        by_port (Some w) at g = let p = port-found typing s (names_in t) name w at in port-typed name p.0 p.1 ∙ ap Some p.2 ∙ g
        by_port None at g =
            let k = known-among (value_types s) (names_in t) name u g in
            value-typed name u (apart (s.ports name) refl k.0) (some name k.0) k.1
          where
            apart : (o : Option ℕ) → s.ports name ≡ o → Among name (names_in t) → s.ports name ≡ None
            apart None none among = none
            apart (Some i) there among = let w = port-there typing s (names_in t) name i among there in absurd (none-some w.0 (sym at ∙ w.1))

    asked : (name : List ℕ) (o : Option (List ℕ)) → port_in name ≡ o → (u : Datatype) → presence_type net_types o ≡ Some u → or_else (types_of table name) (presence_type (types_of table) o) ≡ Some u
    asked name None is u g = absurd (none-some u g)
    asked name (Some port) is u g = ap (λ o. or_else o (presence_type (types_of table) (Some port))) (asks-nothing name port is) ∙ by_type (net_types port) (named-typed port) g
      where
        by_type : (o : Option Datatype) → ((w : Datatype) → o ≡ Some w → types_of table port ≡ Some w) → option_map (λ (x : Datatype). Boolean) o ≡ Some u → option_map (λ (x : Datatype). Boolean) (types_of table port) ≡ Some u
        by_type (Some w) has h = ap (option_map (λ (x : Datatype). Boolean)) (has w refl) ∙ h
        by_type None has h = absurd (none-some u h)

    pub at-least : HasAtLeast net_types (types_of table)
    at-least name u is = by_name (net_types name) refl is
      where
        by_name : (o : Option Datatype) → net_types name ≡ o → or_else o (presence_type net_types (port_in name)) ≡ Some u → or_else (types_of table name) (presence_type (types_of table) (port_in name)) ≡ Some u
        by_name (Some w) at g = ap (λ o. or_else o (presence_type (types_of table) (port_in name))) (named-typed name w at) ∙ g
        by_name None at g = asked name (port_in name) refl u g
