use Rattle.pt_rv_parts.proofs.ListLaws.{where-ok}
use Rattle.pt_rv.proofs.EndLaws.{output-same, spare-raised, spare-kept}
use Rattle.pt_rv.proofs.ends.promise_at.Goals as goal

pub returns-clause-lists : goal.returns-clause-lists
returns-clause-lists c = output-same c.args.outlets.now.items c.args.outlet c.index_mut.result.now c.promise.new.self c.index_mut.ensures.value c.promise.ensures.list

pub returns-clause-kept : goal.returns-clause-kept
returns-clause-kept c o = spare-kept c.args.outlets.now.items c.args.outlet c.index_mut.result.now c.promise.new.self c.promise.result c.index_mut.ensures.value c.promise.ensures.spare c.promise.ensures.kept o

pub returns-clause-more : goal.returns-clause-more
returns-clause-more c = where-ok c.promise.result (λ e o. spare-raised c.args.outlets.now.items c.args.outlet c.index_mut.result.now c.promise.new.self c.requires c.index_mut.ensures.value e o) c.promise.ensures.spare
