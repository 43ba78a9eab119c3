-- What passes at the ports of transparent composites and at relations, between the sources of channels and their places.
use Rattle.std.specs.Prelude.{ℕ, ◌+◌, List, [], ◌∷◌, ◌++◌, length, map, replicate}
use Rattle.std.specs.List.{flat_map}
use Rattle.pt_document.specs.Document.{PortTree}
use Rattle.pt_net.specs.declared.net.JointPort.{JointPort}
use Rattle.pt_net.specs.declared.net.JointPort.TheVariants.{Entity, Transparent}
use Rattle.pt_net.specs.declared.net.Joint.{Joint}
use Rattle.pt_net.specs.declared.net.Joint.TheVariants.{Takes, Gives, Bond}
use Rattle.pt_net.specs.declared.net.Net.{Net}
use Rattle.pt_net.specs.Net.{entity_view, transparent_view}
use Rattle.pt_typing.specs.declared.variable.Variable.{Variable}
use Rattle.pt_typing.specs.declared.variable.Variable.TheVariants.{Port}
use Rattle.pt_typing.specs.Terms.{Same}
use Rattle.pt_typing.specs.Views.{Inequality}
use Rattle.pt_inequalities.specs.Inequalities.{below}

-- ---- variables

-- the ports of the entities, and behind them those of the transparent composites
abbrev pub all_ports : Net → List (List PortTree)
all_ports net = map (λ e. e.ports) (map entity_view net.entities.items) ++ map (λ c. c.ports) (map transparent_view net.transparent.items)

-- variables: the ports of the entities, then those of the transparent composites, then one for each relation
abbrev pub port_counts : Net → List ℕ
port_counts net = map (λ ps. length ps) (all_ports net) ++ replicate net.relation_count 1

-- the number of the first transparent composite among these, and that of the first relation
abbrev pub first_composite : Net → ℕ
first_composite net = length net.entities.items

abbrev pub first_relation : Net → ℕ
first_relation net = first_composite net + length net.transparent.items

-- what passes at a port of a transparent composite, at a relation of this number, and at a port that links join
abbrev pub composite_port : Net → ℕ → ℕ → Variable
composite_port net c i = Port (first_composite net + c) i

abbrev pub relation_from : ℕ → ℕ → Variable
relation_from relations r = Port (relations + r) 0

abbrev pub port_from : ℕ → JointPort → Variable
port_from composites (Entity k i) = Port k i
port_from composites (Transparent c i) = Port (composites + c) i

-- ---- inequalities

-- What a port takes from a relation is above what passes there, and what it gives is below. Two relations that are linked to
-- each other have one type. The transparent composites and the relations are numbered from these numbers on
abbrev pub of_joint : ℕ → ℕ → Joint → List Inequality
of_joint composites relations (Takes p r) = below (port_from composites p) (Same (relation_from relations r)) ∷ []
of_joint composites relations (Gives p r) = below (relation_from relations r) (Same (port_from composites p)) ∷ []
of_joint composites relations (Bond a b) = below (relation_from relations a) (Same (relation_from relations b)) ∷ below (relation_from relations b) (Same (relation_from relations a)) ∷ []

abbrev pub of_joints : ℕ → ℕ → List Joint → List Inequality
of_joints composites relations joints = flat_map (of_joint composites relations) joints

-- those of a net. A port of a transparent composite is one variable, which joins a relation outside with one inside
abbrev pub passing : Net → List Inequality
passing net = of_joints (first_composite net) (first_relation net) net.joints.items
