use Rattle.std.proofs.Common.{length, ap, sym, ◌∙◌, arith}
use Rattle.std.specs.Prelude.{slice_get}
use Rattle.pt_process.specs.Process.{Standing, with_put_made}
use Rattle.pt_process.proofs.NetworkLaws.{at-get-or}
use Rattle.pt_pn_work.specs.Core.{nobody, puts_of_all}
use Rattle.pt_pn_work.proofs.CoreLaws.{change-set, read-as, puts-is}
use Rattle.pt_pn.proofs.processes.take_put.Goals as goal

pub put-requires : goal.put-requires
put-requires c =
    let e = ap (λ (p : Standing). length p.puts) (read-as c.args.processes.now.items c.args.process c.index_mut.result.now nobody c.requires.there c.index_mut.ensures.value) in
    let f = ap (λ v. length v) (sym (at-get-or (puts_of_all c.args.processes.now.items) c.args.process) ∙ puts-is c.args.processes.now.items c.args.process) in
    omega (arith, e, f, c.requires.some)

pub returns-clause-put : goal.returns-clause-put
returns-clause-put c =
    ap (λ v. slice_get v 0) (sym (at-get-or (puts_of_all c.args.processes.now.items) c.args.process) ∙ puts-is c.args.processes.now.items c.args.process ∙ sym (ap (λ (p : Standing). p.puts) (read-as c.args.processes.now.items c.args.process c.index_mut.result.now nobody c.requires.there c.index_mut.ensures.value))) ∙
    c.put.ensures.put

pub returns-clause-left : goal.returns-clause-left
returns-clause-left c = change-set c.args.processes.now.items c.args.process c.index_mut.result.now c.put.new.self with_put_made c.requires.there c.index_mut.ensures.value c.put.ensures.left
