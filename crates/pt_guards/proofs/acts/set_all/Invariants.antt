use Rattle.std.proofs.Common.{◌≡◌, ◌<◌, drop, length, map}
use Rattle.pt_meaning.specs.Streams.{Streams}
use Rattle.pt_value.specs.declared.token.Token.{Token}
use Rattle.pt_expr.specs.Env.{scope_of}
use Rattle.pt_guards.specs.Bindings.{Fits, scope_on}
use Rattle.pt_guards.specs.Acts.{set_all}
use Rattle.pt_chart.specs.Views.{action_view, names_view}
use Rattle.pt_guards.proofs.acts.set_all.Given as goal

abbrev pub invariant-loop-number : goal.invariant-loop-number
invariant-loop-number l = record {
  fits : Fits (names_view l.names) l.bindings;
  bound : (came given : Streams Token) → scope_of l.initial.bindings.env ≡ scope_on (names_view l.names) l.initial.values.items came given → l.number < length l.actions → scope_of l.bindings.env ≡ scope_on (names_view l.names) l.values.items came given;
  rest : (came given : Streams Token) → scope_of l.initial.bindings.env ≡ scope_on (names_view l.names) l.initial.values.items came given → set_all (names_view l.names) (map action_view l.actions) came given l.initial.values.items ≡ set_all (names_view l.names) (map action_view (drop l.number l.actions)) came given l.values.items;
}
