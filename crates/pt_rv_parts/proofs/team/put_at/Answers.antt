use Rattle.std.proofs.Common.{length, ap, sym, ◌∙◌, arith}
use Rattle.std.specs.Prelude.{slice_get}
use Rattle.pt_value.specs.declared.token.Token.{Token}
use Rattle.pt_rv_work.specs.Core.{Standing, nobody, with_put_made}
use Rattle.pt_rv_parts.proofs.ListLaws.{change-set, read-as}
use Rattle.pt_rv_parts.proofs.team.put_at.Goals as goal

pub put-requires : goal.put-requires
put-requires c =
    let e = ap (λ (p : Standing Token). length p.puts) (read-as c.args.processes.now.items c.args.process c.index_mut.result.now nobody c.requires.there c.index_mut.ensures.value) in
    omega (arith, e, c.requires.some)

pub returns-clause-put : goal.returns-clause-put
returns-clause-put c = sym (ap (λ (p : Standing Token). slice_get p.puts 0) (read-as c.args.processes.now.items c.args.process c.index_mut.result.now nobody c.requires.there c.index_mut.ensures.value)) ∙ c.put.ensures.put

pub returns-clause-left : goal.returns-clause-left
returns-clause-left c = change-set c.args.processes.now.items c.args.process c.index_mut.result.now c.put.new.self with_put_made c.requires.there c.index_mut.ensures.value c.put.ensures.left
