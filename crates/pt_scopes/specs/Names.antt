-- What the program holds under names.
use Rattle.std.specs.Prelude.{ℕ, List, [], ◌∷◌, Option, Some, None, option_map, slice_get}
use Rattle.pt_name_map.specs.NameMap as name_map
use Rattle.pt_value.specs.Value.{Value}
use Rattle.pt_value.specs.Token.{value_of}
use Rattle.pt_language.specs.Scope.{Scope}
use Rattle.pt_scopes.specs.declared.names.Names.{Names}
use Rattle.pt_scopes.specs.declared.scope.Seen.{Seen}

-- the value under each name
abbrev pub held : Names → List ℕ → Option Value
held names name = option_map value_of (name_map.held names.tokens name)

abbrev pub or_else : {A : Type 0} → Option A → Option A → Option A
or_else (Some x) other = Some x
or_else None other = other

abbrev pub held_at : Option Names → List ℕ → Option Value
held_at None name = None
held_at (Some names) name = held names name

-- what the composites of a chain hold under a name, the first that has it
abbrev pub in_chain : List Names → List ℕ → List ℕ → Option Value
in_chain frames [] name = None
in_chain frames (k ∷ ks) name = or_else (held_at (slice_get frames k) name) (in_chain frames ks name)

-- what is seen under a name
abbrev pub seen_value : Seen → List ℕ → Option Value
seen_value seen name = or_else (held seen.own.now name) (in_chain seen.frames.now seen.chain.now name)

-- the same, as the scope of an expression
abbrev pub seen_scope : Seen → Scope
seen_scope seen name = option_map Some (seen_value seen name)
