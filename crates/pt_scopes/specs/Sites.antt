-- Where the texts of a net stand, and where it is at fault in them.
use Rattle.std.specs.Prelude.{◌≡◌, ℕ, List, [], map, filter, Bool, true, false, IsTrue, Option, Some, None, option_map, bytes_eq, codes, if◌then◌else◌}
use Rattle.std.specs.List.{Contains, find}
use Rattle.pt_document.specs.declared.code.Code.{Code}
use Rattle.pt_document.specs.declared.job.Direction.{Direction}
use Rattle.pt_document.specs.declared.job.Direction.TheVariants.{Input, Output}
use Rattle.pt_document.specs.declared.job.Event.{Event}
use Rattle.pt_document.specs.Document.{PropertyTree, property_name, PortTree, InputTree, SupplyTree, tokens, events}
use Rattle.pt_net.specs.Net.{NetEntityTree, TransparentTree, DirectorTree}
use Rattle.pt_net.specs.Table.{shown}
use Rattle.pt_scopes.specs.declared.form.Form.{Form}
use Rattle.pt_scopes.specs.declared.form.Form.TheVariants as form
use Rattle.pt_scopes.specs.declared.tables.TheConstants.{RATE}
use Rattle.pt_scopes.specs.Forms.{form_of}
use Rattle.pt_scopes.specs.Scopes.{NetTree, Bindings, bound, text_of, is_composite_class, seen_parameters, Extends, Sees, IsSeenBy}
use Rattle.pt_scopes.specs.Given.{names_port, IsGivenFault}

-- ---- parts of entities

-- the form of a parameter of a director; how often a composite below the top would fire by itself isn't looked at
abbrev pub director_form : Option ℕ → List ℕ → List ℕ → Form
director_form None class name = form_of class name
director_form (Some parent) class name = if bytes_eq name (codes "iterations") then form.Ignored else form_of class name

-- the rate that a port declares
abbrev pub rate_of : PortTree → Option (List ℕ)
rate_of p = option_map text_of (find (λ q. bytes_eq (property_name q) (codes "rate")) p.properties)

abbrev pub is_input_port : PortTree → Bool
is_input_port p = is_in p.direction
  where
    is_in : Direction → Bool
    is_in Input = true
    is_in Output = false

abbrev pub port_name : PortTree → List ℕ
port_name p = p.name

-- the ports that the expression of an actor may name
abbrev pub inputs_of : NetEntityTree → List (List ℕ)
inputs_of e = map port_name (filter is_input_port e.ports)

abbrev pub event_text : Event → Option (List ℕ)
event_text e = Some e.value

-- the texts of what comes to an input, none where a token is absent
abbrev pub texts_of_supply : SupplyTree → List (Option (List ℕ))
texts_of_supply (tokens ts) = ts
texts_of_supply (events es) = map event_text es

-- ---- texts where they stand

-- a text: the path at which its faults are told, the ports that it may name, the parameters that it sees, and the form of its
-- value
pub record Site : Type 0 where
  pub path : List ℕ
  pub ports : List (List ℕ)
  pub seen : Bindings
  pub form : Form
  pub text : List ℕ

abbrev pub site : List ℕ → List (List ℕ) → Bindings → Form → List ℕ → Site
site path ports seen f text = record { path = path; ports = ports; seen = seen; form = f; text = text }

-- the texts of a net
pub data HasSite (net : NetTree) : Site → Type 0 where
  -- a parameter of a composite sees those before it
  of_transparent : (c : TransparentTree) (around seen : Bindings) (p : PropertyTree) → Contains net.transparent c → Sees net c.within c.parent around → IsSeenBy p seen around c.parameters → HasSite net (site c.path [] seen form.Any (text_of p))
  of_composite : (e : NetEntityTree) (around seen : Bindings) (p : PropertyTree) → Contains net.entities e → IsTrue (is_composite_class e.class) → Sees net e.within e.parent around → IsSeenBy p seen around e.parameters → HasSite net (site e.path [] seen form.Any (text_of p))
  -- a parameter of an actor sees those of the composites round it
  of_actor : (e : NetEntityTree) (around : Bindings) (p : PropertyTree) → Contains net.entities e → is_composite_class e.class ≡ false → Sees net e.within e.parent around → Contains e.parameters p → HasSite net (site e.path (inputs_of e) around (form_of e.class (property_name p)) (text_of p))
  -- a parameter of a director sees those of its own composite too, and so does the first value of a Variable
  of_director : (e : NetEntityTree) (d : DirectorTree) (around inner : Bindings) (p : PropertyTree) → Contains net.entities e → e.director ≡ Some d → Sees net e.within e.parent around → Extends around (seen_parameters e) inner → Contains d.parameters p → HasSite net (site e.path [] inner (director_form e.parent d.class (property_name p)) (text_of p))
  of_variable : (e : NetEntityTree) (around inner : Bindings) (p : PropertyTree) → Contains net.entities e → Sees net e.within e.parent around → Extends around (seen_parameters e) inner → Contains e.variables p → HasSite net (site e.path [] inner form.Any (text_of p))
  -- rates and what comes to inputs see nothing
  of_port : (e : NetEntityTree) (p : PortTree) (text : List ℕ) → Contains net.entities e → Contains e.ports p → rate_of p ≡ Some text → HasSite net (site e.path [] [] RATE text)
  of_input : (i : InputTree) (text : List ℕ) → Contains net.inputs i → Contains (texts_of_supply i.supply) (Some text) → HasSite net (site (shown i.port) [] [] form.Any text)

-- at what a text is at fault
abbrev pub IsFaultAt : Site → Code → Type 0
IsFaultAt s cause = IsGivenFault (names_port s.ports) (bound s.seen) s.form s.text cause
