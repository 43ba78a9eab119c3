use Rattle.std.proofs.Common.{ℕ, List, map, ap, ◌∙◌}
use Rattle.pt_meaning.specs.Transitions.{last_of, input_in, output_in, variable_in}
use Rattle.pt_meaning.specs.Streams.{Streams, at}
use Rattle.pt_value.specs.declared.token.Token.{Token}
use Rattle.pt_types.specs.Entry.{typed_entry}
use Rattle.pt_datatypes.specs.Datatype.{Datatype}
use Rattle.pt_expr.specs.Env.{scope_of}
use Rattle.pt_chart.specs.Names.{with_names}
use Rattle.pt_chart.specs.Views.{names_view}
use Rattle.pt_guards.specs.Reads.{reads_view}
use Rattle.pt_guards.proofs.NameLaws.{all-bound}
use Rattle.pt_guards.proofs.names.bind_names.Goals as goal

pub returns-clause-ok : goal.returns-clause-ok
returns-clause-ok c =
    let reads = reads_view c.args.reads.now in
    let s = scope_of c.args.env.now in
    let s1 = scope_of c.bind_values.new.env in
    let s2 = scope_of c.bind_ports.new.env in
    all-bound (names_view c.args.names.now) reads s s1 s2 (scope_of c.bind_ports-2.new.env) (λ name. c.in_ok-bind_values.ensures.ok name ∙ ap (λ (es : List (List ℕ × Datatype)). with_names 0 es (variable_in reads) s name) c.as_slice.ensures)
    (λ name. c.in_ok-bind_ports.ensures.ok name
    ∙ ap (λ (X : Streams Token). with_names 0 (map typed_entry c.as_slice-2.result.now) (λ port. last_of (at X port)) s1 name) c.of-given.ensures
    ∙ ap (λ (es : List (List ℕ × Datatype)). with_names 0 es (output_in reads) s1 name) c.as_slice-2.ensures)
    (λ name. c.in_ok-bind_ports-2.ensures.ok name ∙ ap (λ (es : List (List ℕ × Datatype)). with_names 0 es (input_in reads) s2 name) c.as_slice-3.ensures)
