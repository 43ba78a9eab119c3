use Rattle.std.proofs.Common.{length, sym, ap, ◌∙◌, arith, length-set}
use Rattle.pt_process.proofs.StepLaws.{gets-there, room-there, got-keeps, get-is, one-there, one-gathers, one-is}
use Rattle.pt_process.proofs.process.Process.get.Goals as goal

pub index_mut-line-requires : goal.index_mut-line-requires
index_mut-line-requires c =
    let g = gets-there c.self.inside c.args.self.now c.args.place c.in-Over.is c.self.invariant c.self.view_is c.requires.gathers c.requires.lacks in
    let l = g.there in
    omega (arith, l, c.self.inside.lines.ok.0)

pub put-requires : goal.put-requires
put-requires c =
    let g = gets-there c.self.inside c.args.self.now c.args.place c.in-Over.is c.self.invariant c.self.view_is c.requires.gathers c.requires.lacks in
    room-there c.self.inside c.args.place g c.index_mut-line.result.now c.index_mut-line.ensures.value

pub invariant_of-self : goal.invariant_of-self
invariant_of-self c =
    let g = gets-there c.self.inside c.args.self.now c.args.place c.in-Over.is c.self.invariant c.self.view_is c.requires.gathers c.requires.lacks in
    record {
      row = c.self.invariant.row ∙ sym (length-set c.self.inside.lines.items c.args.place c.put.new.self);
      gathers = got-keeps c.self.inside c.args.place g c.index_mut-line.result.now c.put.new.self c.args.token c.index_mut-line.ensures.value c.put.ensures.list c.put.ensures.spare;
    }

pub returns-in-Over : goal.returns-in-Over
returns-in-Over c =
    let g = gets-there c.self.inside c.args.self.now c.args.place c.in-Over.is c.self.invariant c.self.view_is c.requires.gathers c.requires.lacks in
    get-is c.self.inside c.args.self.now c.args.place g c.index_mut-line.result.now c.put.new.self c.args.token c.index_mut-line.ensures.value c.put.ensures.list c.self.view_is

pub put_alone-requires : goal.put_alone-requires
put_alone-requires c =
    let t = one-there c.self.inside c.args.self.now c.args.place c.self.invariant c.self.view_is c.in-One.is c.requires.lacks in
    let n = t.0 in
    let z = t.2 in
    omega (arith, n, z)

pub invariant_of-self-in-One : goal.invariant_of-self-in-One
invariant_of-self-in-One c =
    let t = one-there c.self.inside c.args.self.now c.args.place c.self.invariant c.self.view_is c.in-One.is c.requires.lacks in
    record {
      row = ap (λ v. length v) c.put_alone.ensures ∙ length-set c.self.inside.row.items c.args.place _ ∙ c.self.invariant.row;
      gathers = one-gathers c.self.inside c.args.place c.args.token c.put_alone.new.row.items c.in-One.is t.0 t.2 c.put_alone.ensures;
    }

pub returns-in-One : goal.returns-in-One
returns-in-One c =
    let t = one-there c.self.inside c.args.self.now c.args.place c.self.invariant c.self.view_is c.in-One.is c.requires.lacks in
    one-is c.self.inside c.args.self.now c.args.place c.args.token c.put_alone.new.row.items c.self.view_is c.in-One.is t c.put_alone.ensures
