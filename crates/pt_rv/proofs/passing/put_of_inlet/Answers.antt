use Rattle.std.proofs.Common.{length, ap, ◌∙◌, arith}
use Rattle.std.specs.Prelude.{slice_get}
use Rattle.pt_rv.proofs.EndLaws.{input-at, input-set}
use Rattle.pt_rv.proofs.passing.put_of_inlet.Goals as goal

pub put-requires : goal.put-requires
put-requires c = let e = ap (λ v. length v) (input-at c.args.inlets.now.items c.args.port c.index_mut.result.now c.requires.there c.index_mut.ensures.value) in omega (arith, e, c.requires.some)

pub returns-clause-put : goal.returns-clause-put
returns-clause-put c = ap (λ v. slice_get v 0) (input-at c.args.inlets.now.items c.args.port c.index_mut.result.now c.requires.there c.index_mut.ensures.value) ∙ c.put.ensures.put

pub returns-clause-left : goal.returns-clause-left
returns-clause-left c = input-set c.args.inlets.now.items c.args.port c.index_mut.result.now c.put.new.self c.requires.there c.index_mut.ensures.value c.put.ensures.left
