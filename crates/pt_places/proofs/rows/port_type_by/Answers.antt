use Rattle.std.proofs.Common.{ap, ◌∙◌}
use Rattle.pt_inequalities.specs.Rows.{port_rows, port_type, port_type_in, declared_output}
use Rattle.pt_places.proofs.RowLaws.{same-behind}
use Rattle.pt_places.proofs.rows.port_type_by.Goals as goal

pub returns : goal.returns
unfolding port_type
returns c =
    let class = c.args.class.now in
    let name = c.as_str.result.now in
    c.output_type.ensures
    ∙ ap (λ ty. declared_output class c.args.port.now.direction ty)
    (c.port_type_among-otherwise.ensures ∙ ap (λ rs. port_type_in rs class name) c.requires ∙ same-behind port_rows class name ∙ ap (λ n. port_type_in port_rows class n) c.as_str.ensures)
