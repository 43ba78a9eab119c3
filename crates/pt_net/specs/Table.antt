-- The ports, the relations and the links of a job, in the order of the document.
use Rattle.std.specs.Prelude.{ℕ, ◌+◌, List, [], ◌∷◌, ◌++◌, map, Bool, ◌==◌, Option, Some, None, if◌then◌else◌, codes}
use Rattle.std.specs.List.{list_all, slice_split}
use Rattle.pt_document.specs.declared.job.Direction.{Direction}
use Rattle.pt_document.specs.declared.job.Direction.TheVariants.{Input, Output}
use Rattle.pt_document.specs.declared.job.Link.{Link}
use Rattle.pt_document.specs.declared.job.Link.TheVariants as link
use Rattle.pt_document.specs.declared.classes.Arity.TheVariants.{Single}
use Rattle.pt_document.specs.Document.{PortTree, Parts, parts, JobTree}
use Rattle.pt_document.specs.Classes.{ClassPort, Kind, Composite, Modal, Actor, kind_of}
use Rattle.pt_document.specs.Names.{is_name, below}
use Rattle.pt_net.specs.Standing.{Standing, entities}

-- a declared port has one channel
abbrev pub declared_port : PortTree → ClassPort
declared_port p = record { name = p.name; direction = p.direction; arity = Single }

-- declared outputs stand behind the ports of the class, and declared inputs before them
abbrev pub joined_ports : {P : Type 0} → Option Direction → List P → List P → List P
joined_ports (Some Output) declared rows = rows ++ declared
joined_ports (Some Input) declared rows = declared ++ rows
joined_ports None declared rows = declared ++ rows

abbrev pub ports_of_kind : Option Kind → List ClassPort → List ClassPort
ports_of_kind (Some (Actor class)) declared = joined_ports class.declares declared class.ports
ports_of_kind (Some Composite) declared = declared
ports_of_kind (Some Modal) declared = declared
ports_of_kind None declared = declared

-- the ports of an entity: those of its class and those that it declares
unfoldable pub ports_of : Parts → List ClassPort
ports_of own = ports_of_kind (kind_of own.class) (map declared_port own.ports)

-- a port: the number of its entity, that entity, its number there, and what it is
pub record PortAt : Type 0 where
  pub entity : ℕ
  pub standing : Standing
  pub number : ℕ
  pub port : ClassPort

-- a relation, by the number of its composite and its name
pub record RelationAt : Type 0 where
  pub composite : ℕ
  pub standing : Standing
  pub name : List ℕ

-- a link, by the number of its composite
pub record LinkAt : Type 0 where
  pub composite : ℕ
  pub standing : Standing
  pub link : Link

-- these ports of one entity, numbered from here on
abbrev pub numbered_ports : ℕ → Standing → ℕ → List ClassPort → List PortAt
numbered_ports e s n [] = []
numbered_ports e s n (p ∷ ps) = record { entity = e; standing = s; number = n; port = p } ∷ numbered_ports e s (n + 1) ps

-- the ports of entities that are numbered from here on
abbrev pub ports_from : ℕ → List Standing → List PortAt
ports_from e [] = []
ports_from e (s ∷ ss) = numbered_ports e s 0 (ports_of (parts s.tree)) ++ ports_from (e + 1) ss

-- the relations of one entity, and those of entities that are numbered from here on
abbrev pub relations_in : ℕ → Standing → List RelationAt
relations_in e s = map (λ r. record { composite = e; standing = s; name = r.name }) (parts s.tree).relations

abbrev pub relations_from : ℕ → List Standing → List RelationAt
relations_from e [] = []
relations_from e (s ∷ ss) = relations_in e s ++ relations_from (e + 1) ss

-- the links of one entity, and those of entities that are numbered from here on
abbrev pub links_in : ℕ → Standing → List LinkAt
links_in e s = map (λ l. record { composite = e; standing = s; link = l }) (parts s.tree).links

abbrev pub links_from : ℕ → List Standing → List LinkAt
links_from e [] = []
links_from e (s ∷ ss) = links_in e s ++ links_from (e + 1) ss

-- the tables of a job
pub record Tables : Type 0 where
  pub entities : List Standing
  pub ports : List PortAt
  pub relations : List RelationAt
  pub links : List LinkAt

abbrev pub tables_from : List Standing → Tables
tables_from all = record { entities = all; ports = ports_from 0 all; relations = relations_from 0 all; links = links_from 0 all }

abbrev pub tables_of : JobTree → Tables
tables_of job = tables_from (entities job)

-- ---- where they are told

-- names joined by dots
abbrev pub is_dotted : List ℕ → Bool
is_dotted text = list_all is_name (slice_split (λ c. c == 46) text)

-- how a text of the document is printed in a path
abbrev pub shown : List ℕ → List ℕ
shown text = if is_dotted text then text else codes "?"

abbrev pub port_path : PortAt → List ℕ
port_path p = below p.standing.path p.port.name

abbrev pub relation_path : RelationAt → List ℕ
relation_path r = below r.standing.path r.name

abbrev pub link_text : Link → List ℕ
link_text (link.Port port relation) = port
link_text (link.Relations first second) = first

-- a link is told by the text of its port, and one without a port by that of its first relation
abbrev pub link_path : LinkAt → List ℕ
link_path l = below l.standing.path (shown (link_text l.link))
