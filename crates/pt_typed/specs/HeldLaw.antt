-- The parameters of an actor that gives tokens of them.
use Rattle.std.specs.Prelude.{◌≡◌, ℕ, true, Some}
use Rattle.pt_net.specs.declared.net.Net.{Net}
use Rattle.pt_scopes.specs.declared.values.Values.{Values}
use Rattle.pt_scopes.specs.Scopes.{net_view}
use Rattle.pt_scopes.specs.Valued.{IsValued}
use Rattle.pt_start.specs.Started.{PortTyping, IsStart}
use Rattle.pt_library.specs.declared.library_actor.LibraryActor.{LibraryActor}
use Rattle.pt_typed.specs.NetRows.{is_seeded_actor, HoldsTokens}

-- Where the texts of a net come to these values, each parameter of a Const, a Sequence, a SampleDelay, a NonStrictDelay, a Pre, a DiscreteClock, a SingleEvent, a Sampler and a Register has a token: the forms of all of them are of values.
abbrev pub ParametersHoldTokens : Type 0
ParametersHoldTokens =
    (net : Net) (values : Values) (typing : PortTyping) (k : ℕ) (a : LibraryActor) → IsValued (net_view net) values → (started : IsStart net values typing k (Some a)) → is_seeded_actor a ≡ true → HoldsTokens started.started_from.entity.parameters started.started_from.held.parameters.items
