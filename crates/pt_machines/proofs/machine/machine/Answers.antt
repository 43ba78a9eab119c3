use Rattle.std.proofs.Common.{sym, ◌∙◌}
use Rattle.pt_value.specs.Token.{token_of-values}
use Rattle.pt_machines.proofs.machine.machine.Goals as goal

pub returns-clause-machine : goal.returns-clause-machine
returns-clause-machine c =
    let site = c.args.site.now in
    let added = c.in_ok-made.ensures.ok in
    let once = c.in_ok-made.ensures.refinements in
    record {
      refinements = record {
        whole = c.in_ok-check_children.ensures.whole;
        opaque = c.in_ok-check_children.ensures.opaque;
        named = once.named;
        each = once.each;
        apart = once.apart;
      };
      inputs = c.in_ok-names.ensures.inputs;
      outputs = c.in_ok-names.ensures.outputs;
      variables = c.in_ok-names.ensures.variables;
      values = c.in_ok-values.ensures ∙ c.as_slice-tokens.ensures.value ∙ sym (token_of-values site.values.now.variables.items);
      initial = c.in_ok-initial.ensures.ok;
      ports = c.in_ok-ports.ensures.ok;
      transitions = added.0;
      leave = added.1.leave;
      parameters = c.in_ok-names.ensures.parameters ∙ added.1.named;
      modes = added.1.stand;
    }
