-- What the names in an expression stand for.
use Rattle.std.specs.Prelude.{ℕ, ◌-◌, List, ◌++◌, length, take, Option, Some, None, is_some, codes, if◌then◌else◌}
use Rattle.std.specs.Str.{bytes_eq}
use Rattle.pt_value.specs.Value.{Value, Bool as Truth}
use Rattle.pt_language.specs.declared.eval_fault.EvalFault.TheVariants.{Absent}
use Rattle.pt_language.specs.Outcome.{Outcome, Gives, Stops, Wrong}

-- under each name: nothing, a port without a token, or a token
abbrev pub Scope : Type 0
Scope = List ℕ → Option (Option Value)

-- what stands behind the name of a port where an expression asks whether it has a token
abbrev pub mark : List ℕ
mark = codes "_isPresent"

-- what stands before the mark, where a name ends with it
abbrev pub port_in : List ℕ → Option (List ℕ)
port_in name =
    let front = take (length name - length mark) name in
    if bytes_eq name (front ++ mark) then Some front else None

-- whether there is a token under a name
abbrev pub presence : Option (Option Value) → Outcome Value
presence None = Wrong
presence (Some held) = Gives (Truth (is_some held))

-- the token under a name; a port without one is absent
abbrev pub held : Option Value → Outcome Value
held None = Stops Absent
held (Some v) = Gives v

abbrev pub presence_in : Scope → Option (List ℕ) → Outcome Value
presence_in scope None = Wrong
presence_in scope (Some port) = presence (scope port)

abbrev pub looked_up : Option (Option Value) → Outcome Value → Outcome Value
looked_up (Some found) otherwise = held found
looked_up None otherwise = otherwise

-- what a name comes to: what is bound under it, or else, for `p_isPresent`, whether the port p has a token
abbrev pub named : Scope → List ℕ → Outcome Value
named scope name = looked_up (scope name) (presence_in scope (port_in name))
