use Rattle.std.proofs.Common.{refl, arith}
use Rattle.pt_rv.specs.Core.{stage_of}
use Rattle.pt_rv.proofs.CoreLaws.{may-fire, all-rest}
use Rattle.pt_rv.proofs.rv.Core.any_firing.Goals as goal

pub overflow_cast-result : goal.overflow_cast-result
overflow_cast-result c = let a = c.in-Some.ensures.there in let h = c.self.invariant.kept.fit.there in let k = c.self.invariant.kept.sound.fewer in omega (arith, a, h, k)

pub returns-in-Some-clause-may : goal.returns-in-Some-clause-may
returns-in-Some-clause-may c = may-fire c.self.inside.plan c.self.inside.parties c.self.inside.met.list c.self.inside.tag (stage_of c.self.inside.stage) c.args.self.now c.self.view_is c.self.invariant.kept.fit c.in-Some.process c.in-Some.ensures.fires

pub returns-in-None-clause-rests : goal.returns-in-None-clause-rests
returns-in-None-clause-rests c = λ h. all-rest c.self.inside.plan c.self.inside.parties c.self.inside.met.list c.self.inside.tag (stage_of c.self.inside.stage) c.args.self.now c.self.view_is c.self.invariant.kept.fit (c.in-None.ensures.rests refl)
