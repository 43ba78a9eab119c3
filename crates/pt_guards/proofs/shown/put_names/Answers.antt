use Rattle.std.proofs.Common.{◌||◌, map, sym, ap, ◌∙◌}
use Rattle.std.specs.HashSet.{contains_text}
use Rattle.pt_types.specs.Entry.{typed_entry}
use Rattle.pt_flow_base.proofs.TypedPorts.{nothing-left}
use Rattle.pt_formula.specs.Formula.{names, is_among}
use Rattle.pt_guards.proofs.ShownLaws.{put-next}
use Rattle.pt_guards.proofs.shown.put_names.Goals as goal

pub loop-name-preserved : goal.loop-name-preserved
loop-name-preserved c name =
    put-next c.args.entries.now c.loop-name.name-index c.loop-name-item.result c.as_str.result.now (contains_text c.loop-name.taken) (contains_text c.put_name.new.taken) c.loop-name-test.true c.loop-name-item.is c.as_str.ensures c.in_ok-put_name.ensures.there name ∙ c.loop-name.invariant name

pub returns : goal.returns
returns c name =
    sym (ap (λ xs. is_among name (names (map typed_entry xs)) || contains_text c.loop-name.taken name) (nothing-left c.args.entries.now c.loop-name.name-index c.loop-name-test.false)) ∙ c.loop-name.invariant name
