-- A Modal as it is written: its states with their transitions, whose guards and actions are expressions, what these may name, and the ports of its refinements (the book, "Finite State Machines" and "Modal Models").
use Rattle.std.specs.Prelude.{ℕ, List, [], Bool, true, false, Option, Some, None, refl}
use Rattle.std.specs.Coded.{Coded, code_by, coded×, coded_ℕ, coded_list, coded_option, coded_bool}
use Rattle.pt_meaning.specs.Streams.{get}
use Rattle.pt_value.specs.Token.{coded_token}
use Rattle.pt_value.specs.declared.token.Token.{Token}
use Rattle.pt_datatypes.specs.Datatype.{Datatype}
use Rattle.pt_datatypes.specs.DatatypeCode.{coded_type}
use Rattle.pt_language.specs.Tree.{Tree}
use Rattle.pt_formula.specs.TreeCode.{coded_tree}

-- an action: the number of an output or a Variable, and the expression whose value it gives that
pub record ActionTree : Type 0 where
  pub target : ℕ
  pub tree : Tree

-- a transition: its guard, its output and set actions in listed order, the state to which it leads, and whether it keeps history
pub record TransitionTree : Type 0 where
  pub guard : Tree
  pub outputs : List ActionTree
  pub sets : List ActionTree
  pub target : ℕ
  pub history : Bool

-- a state: its refinement, and its transitions, preemptive and not, each kind in listed order
pub record ModeTree : Type 0 where
  pub refinement : Option ℕ
  pub preemptive : List TransitionTree
  pub others : List TransitionTree

-- the ports of a refinement: for each of its inputs the own input of that name, and for each own output its port of that name
pub record PortMap : Type 0 where
  pub inputs : List ℕ
  pub outputs : List (Option ℕ)

-- What guards and actions may name: the own inputs, the own outputs and the Variables, each with its type, and the parameters in scope. A port hides a Variable of its name, and a Variable a parameter.
pub record NameTable : Type 0 where
  pub inputs : List (List ℕ × Datatype)
  pub outputs : List (List ℕ × Datatype)
  pub variables : List (List ℕ × Datatype)
  pub parameters : List (List ℕ × Token)

-- a Modal: what may be named, the first values of its Variables, its initial state, its states, and the ports of each refinement
pub record Machine : Type 0 where
  pub names : NameTable
  pub values : List Token
  pub initial : ℕ
  pub modes : List ModeTree
  pub ports : List PortMap

-- a state in which nothing happens
abbrev pub still : ModeTree
still = record { refinement = None; preemptive = []; others = [] }

abbrev pub or_still : Option ModeTree → ModeTree
or_still None = still
or_still (Some m) = m

abbrev pub mode_at : List ModeTree → ℕ → ModeTree
mode_at modes mode = or_still (get modes mode)

-- the transitions of a kind
abbrev pub kind_of : (early : Bool) → ModeTree → List TransitionTree
kind_of true m = m.preemptive
kind_of false m = m.others

-- ---- how a proof tells such a Modal from others

abbrev coded_action : Coded ActionTree
coded_action = code_by (ℕ × Tree) (coded× coded_ℕ coded_tree) (λ a. (a.target, a.tree)) (λ p. record { target = p.0; tree = p.1 }) (λ _. refl)

abbrev coded_transition : Coded TransitionTree
coded_transition =
    code_by
    (Tree × (List ActionTree × (List ActionTree × (ℕ × Bool))))
    (coded× coded_tree (coded× (coded_list coded_action) (coded× (coded_list coded_action) (coded× coded_ℕ coded_bool))))
    (λ t. (t.guard, (t.outputs, (t.sets, (t.target, t.history)))))
    (λ p. record { guard = p.0; outputs = p.1.0; sets = p.1.1.0; target = p.1.1.1.0; history = p.1.1.1.1 })
    (λ _. refl)

abbrev coded_mode : Coded ModeTree
coded_mode =
    code_by
    (Option ℕ × (List TransitionTree × List TransitionTree))
    (coded× (coded_option coded_ℕ) (coded× (coded_list coded_transition) (coded_list coded_transition)))
    (λ m. (m.refinement, (m.preemptive, m.others)))
    (λ p. record { refinement = p.0; preemptive = p.1.0; others = p.1.1 })
    (λ _. refl)

abbrev coded_ports : Coded PortMap
coded_ports =
    code_by (List ℕ × List (Option ℕ)) (coded× (coded_list coded_ℕ) (coded_list (coded_option coded_ℕ))) (λ r. (r.inputs, r.outputs)) (λ p. record { inputs = p.0; outputs = p.1 }) (λ _. refl)

abbrev coded_types : Coded (List (List ℕ × Datatype))
coded_types = coded_list (coded× (coded_list coded_ℕ) coded_type)

abbrev coded_names : Coded NameTable
coded_names =
    code_by
    (List (List ℕ × Datatype) × (List (List ℕ × Datatype) × (List (List ℕ × Datatype) × List (List ℕ × Token))))
    (coded× coded_types (coded× coded_types (coded× coded_types (coded_list (coded× (coded_list coded_ℕ) coded_token)))))
    (λ n. (n.inputs, (n.outputs, (n.variables, n.parameters))))
    (λ p. record { inputs = p.0; outputs = p.1.0; variables = p.1.1.0; parameters = p.1.1.1 })
    (λ _. refl)

abbrev pub coded_machine : Coded Machine
coded_machine =
    code_by
    (NameTable × (List Token × (ℕ × (List ModeTree × List PortMap))))
    (coded× coded_names (coded× (coded_list coded_token) (coded× coded_ℕ (coded× (coded_list coded_mode) (coded_list coded_ports)))))
    (λ m. (m.names, (m.values, (m.initial, (m.modes, m.ports)))))
    (λ p. record { names = p.0; values = p.1.0; initial = p.1.1.0; modes = p.1.1.1.0; ports = p.1.1.1.1 })
    (λ _. refl)
