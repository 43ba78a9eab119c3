use Rattle.std.proofs.Common.{ap, sym, ◌∙◌}
use Rattle.pt_meaning.specs.Process.{at_rest}
use Rattle.pt_value.specs.declared.token.Token.{Token}
use Rattle.pt_rv_work.specs.Core.{Standing, nobody, next_of}
use Rattle.pt_rv_parts.proofs.ListLaws.{set-same, read-as}
use Rattle.pt_rv_parts.proofs.team.is_firing.Goals as goal

pub is_firing-requires : goal.is_firing-requires
is_firing-requires c = ap (λ (p : Standing Token). p.handed) (read-as c.args.processes.now.items c.args.process c.index_mut.result.now nobody c.requires.there c.index_mut.ensures.value) ∙ c.requires.gathers

pub returns-clause-same : goal.returns-clause-same
returns-clause-same c = set-same c.args.processes.now.items c.args.process c.index_mut.result.now c.is_firing.new.self c.index_mut.ensures.value c.is_firing.ensures.same

pub returns-clause-rests : goal.returns-clause-rests
returns-clause-rests c = sym (ap (λ (p : Standing Token). at_rest (next_of p)) (read-as c.args.processes.now.items c.args.process c.index_mut.result.now nobody c.requires.there c.index_mut.ensures.value)) ∙ c.is_firing.ensures.rests
