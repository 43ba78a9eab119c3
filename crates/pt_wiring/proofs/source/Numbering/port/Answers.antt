use Rattle.std.proofs.Common.{◌≡◌, [], get_or, ap, ◌∙◌, arith}
use Rattle.pt_wiring.proofs.RowLaws.{port-at}
use Rattle.pt_wiring.proofs.source.Numbering.port.Goals as goal

pub returns-in-Some : goal.returns-in-Some
returns-in-Some c = λ es are.
    let found = c.in-Some.ensures.lookup.3 in
    let row : c.in-Some.numbers.now ≡ get_or c.args.self.now.ports.items c.args.end.entity [] = found.1 [] ∙ ap (λ rows. get_or rows c.args.end.entity []) c.deref.ensures.value in
    c.number_at.ensures ∙ ap (λ row. get_or row c.args.end.port 0) (c.as_slice.ensures ∙ row) ∙ port-at es _ _ are c.args.end.entity c.args.end.port

pub returns-in-None : goal.returns-in-None
returns-in-None c = λ es are.
    let far = c.in-None.ensures.lookup.4 in
    let none : [] ≡ get_or c.args.self.now.ports.items c.args.end.entity [] = far (omega arith) [] ∙ ap (λ rows. get_or rows c.args.end.entity []) c.deref.ensures.value in
    ap (λ row. get_or row c.args.end.port 0) none ∙ port-at es _ _ are c.args.end.entity c.args.end.port
