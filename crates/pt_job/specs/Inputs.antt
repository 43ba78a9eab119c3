-- What comes to the input ports of the top, and where the inputs of a net don't fit them.
use Rattle.std.specs.Prelude.{◌≡◌, ℕ, ◌<◌, ◌≤◌, List, [], ◌∷◌, map, Bool, true, false, not, ◌&&◌, ◌||◌, Option, Some, None, Vec, slice_get, position, nat_eq, nat_le, bytes_eq, codes}
use Rattle.std.specs.Global.{Global}
use Rattle.std.specs.List.{AllZip, Contains, list_all}
use Rattle.std.specs.Option.{is_some, option_eq}
use Rattle.pt_meaning.specs.Tag.{Tag, tag_le, greatest_time, greatest_step}
use Rattle.pt_meaning.specs.Schedule.{is_after}
use Rattle.pt_value.specs.declared.token.Token.{Token}
use Rattle.pt_agenda.specs.Events as agenda
use Rattle.pt_agenda.specs.Events.{tags_in, tokens_in}
use Rattle.pt_document.specs.declared.code.Code.TheVariants as code
use Rattle.pt_document.specs.declared.refusal.DocFault.{DocFault}
use Rattle.pt_document.specs.declared.refusal.DocFault.TheVariants as faults
use Rattle.pt_document.specs.declared.job.Event.{Event}
use Rattle.pt_document.specs.Document.{InputTree, SupplyTree, tokens, events}
use Rattle.pt_net.specs.Net.{NetEntityTree, DirectorTree}
use Rattle.pt_net.specs.Table.{shown}
use Rattle.pt_scopes.specs.declared.values.Values.{Values}
use Rattle.pt_scopes.specs.Scopes.{NetTree}
use Rattle.pt_scopes.specs.Sites.{inputs_of}

-- ---- what comes to a port

abbrev pub inputs_at : Option NetEntityTree → List (List ℕ)
inputs_at None = []
inputs_at (Some e) = inputs_of e

-- the names of the input ports of the top, in order
abbrev pub own_inputs : NetTree → List (List ℕ)
own_inputs net = inputs_at (slice_get net.entities 0)

-- the ports that the inputs of a net name, in order
abbrev pub named_ports : NetTree → List (List ℕ)
named_ports net = map (λ (i : InputTree). i.port) net.inputs

-- the number of the input that names a port
abbrev pub input_to : NetTree → List ℕ → Option ℕ
input_to net port = position (bytes_eq port) (named_ports net)

-- the tokens of each input, none where one is absent
abbrev pub token_lists : Values → List (List (Option Token))
token_lists values = map (λ (ts : Vec (Option Token) Global). ts.items) values.inputs.items

-- these are the tokens of the input of that number, none where one is absent; where there is no such input there are none
abbrev pub AreTokensOf : Values → Option ℕ → List (Option Token) → Type 0
AreTokensOf values None ts = ts ≡ []
AreTokensOf values (Some k) ts = slice_get (token_lists values) k ≡ Some ts

-- these come to a port of the top
abbrev pub ComeTo : NetTree → Values → List ℕ → List (Option Token) → Type 0
ComeTo net values port ts = AreTokensOf values (input_to net port) ts

-- for each input port of the top, in order, what comes to it
abbrev pub AreSupplied : NetTree → Values → List (List (Option Token)) → Type 0
AreSupplied net values lists = AllZip (ComeTo net values) (own_inputs net) lists

-- ---- events

-- the tag of an event
abbrev pub tag_of : Event → Tag
tag_of e = record { time = e.time; step = e.step }

-- no event is past the limits of time and microsteps, and each is after those before it
pub record AreInOrder (es : List Event) : Type 0 where
  pub bounded : (k : ℕ) (e : Event) → slice_get es k ≡ Some e → (e.time ≤ greatest_time) × (e.step ≤ greatest_step)
  pub rising : (i j : ℕ) (e f : Event) → i < j → slice_get es i ≡ Some e → slice_get es j ≡ Some f → tag_le (tag_of f) (tag_of e) ≡ false

-- the events of an input, of which one with plain tokens has none
abbrev pub events_in : SupplyTree → List Event
events_in (tokens ts) = []
events_in (events es) = es

abbrev pub events_of : Option InputTree → List Event
events_of None = []
events_of (Some i) = events_in i.supply

-- the events of the input of that number
abbrev pub events_at : NetTree → Option ℕ → List Event
events_at net None = []
events_at net (Some k) = events_of (slice_get net.inputs k)

-- the tags at which tokens come to a port of the top
abbrev pub tags_at : NetTree → List ℕ → List Tag
tags_at net port = map tag_of (events_at net (input_to net port))

-- for each input port of the top, in order, the tags at which tokens come to it
abbrev pub tags_to : NetTree → List (List Tag)
tags_to net = map (tags_at net) (own_inputs net)

-- for each input port of the top, in order, the events that come to it: the tokens of its input, each at its tag
pub record AreEvents (net : NetTree) (values : Values) (lists : List (List agenda.Event)) : Type 0 where
  pub tags : map tags_in lists ≡ tags_to net
  pub supplied : AreSupplied net values (map tokens_in lists)

-- ---- the director of the top

abbrev pub has_ticks : Option DirectorTree → Bool
has_ticks None = false
has_ticks (Some d) = bytes_eq d.class (codes "SR")

abbrev pub ticks_at : Option NetEntityTree → Bool
ticks_at None = false
ticks_at (Some e) = has_ticks e.director

-- a token may be absent where the top has the SR director: the tick has none
abbrev pub may_lack : NetTree → Bool
may_lack net = ticks_at (slice_get net.entities 0)

abbrev pub has_time : Option DirectorTree → Bool
has_time None = false
has_time (Some d) = bytes_eq d.class (codes "DE")

abbrev pub time_at : Option NetEntityTree → Bool
time_at None = false
time_at (Some e) = has_time e.director

-- a net is timed where the top has the DE director: tokens come to it as events
abbrev pub is_timed : NetTree → Bool
is_timed net = time_at (slice_get net.entities 0)

-- ---- where inputs don't fit

-- an input of a net doesn't fit the top, which is told at the port that it names
pub data IsInputFault (net : NetTree) : List ℕ → Type 0 where
  names_no_port : (i : InputTree) → Contains net.inputs i → (Contains (own_inputs net) i.port → ⊥) → IsInputFault net (shown i.port)
  repeated : (first second : ℕ) (i j : InputTree) → first < second → slice_get net.inputs first ≡ Some i → slice_get net.inputs second ≡ Some j → i.port ≡ j.port → IsInputFault net (shown j.port)
  has_events : (i : InputTree) (es : List Event) → is_timed net ≡ false → Contains net.inputs i → i.supply ≡ events es → IsInputFault net (shown i.port)
  has_absent : (i : InputTree) (ts : List (Option (List ℕ))) → may_lack net ≡ false → Contains net.inputs i → i.supply ≡ tokens ts → Contains ts None → IsInputFault net (shown i.port)
  has_tokens : (i : InputTree) (ts : List (Option (List ℕ))) → is_timed net ≡ true → Contains net.inputs i → i.supply ≡ tokens ts → IsInputFault net (shown i.port)
  disordered : (i : InputTree) (es : List Event) → Contains net.inputs i → i.supply ≡ events es → (AreInOrder es → ⊥) → IsInputFault net (shown i.port)

-- a fault is want of memory, or a refusal of an input at which it stands
abbrev pub IsFaultOf : NetTree → DocFault → Type 0
IsFaultOf net faults.Memory = Unit {0}
IsFaultOf net (faults.Refused r) = (r.code ≡ code.Inputs) × IsInputFault net r.path

-- ---- what is looked at

-- an event is within the limits and after the last tag
abbrev pub comes_after : Option Tag → Event → Bool
comes_after last e = nat_le e.time greatest_time && (nat_le e.step greatest_step && is_after last (tag_of e))

-- so is each event, after the one before it
abbrev pub in_order_after : Option Tag → List Event → Bool
in_order_after last [] = true
in_order_after last (e ∷ es) = comes_after last e && in_order_after (Some (tag_of e)) es

abbrev pub are_in_order : List Event → Bool
are_in_order es = in_order_after None es

-- Tokens come to an input, and each is present, where none may be absent; or where the net is timed, events come to it in order.
abbrev pub is_full : (timed lacking : Bool) → SupplyTree → Bool
is_full timed lacking (tokens ts) = not timed && (lacking || list_all is_some ts)
is_full timed lacking (events es) = timed && are_in_order es

-- a port is one of the top's input ports
abbrev pub is_port : NetTree → List ℕ → Bool
is_port net port = is_some (position (bytes_eq port) (own_inputs net))

-- of the inputs that name a port the first one has this number
abbrev pub is_first : NetTree → ℕ → List ℕ → Bool
is_first net k port = option_eq nat_eq (input_to net port) (Some k)

-- the input of that number fits the top
abbrev pub fits : NetTree → ℕ → InputTree → Bool
fits net k i = is_port net i.port && (is_first net k i.port && is_full (is_timed net) (may_lack net) i.supply)
