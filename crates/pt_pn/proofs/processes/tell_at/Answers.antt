use Rattle.std.proofs.Common.{length, ap, sym, subst, ◌∙◌}
use Rattle.pt_firing.specs.Need.{need_of}
use Rattle.pt_pn_laws.specs.Lawful.{HasPlaces}
use Rattle.pt_process.specs.Process.{Standing, once_fired}
use Rattle.pt_puts.specs.Puts.{puts_in}
use Rattle.pt_pn_work.specs.Core.{nobody}
use Rattle.pt_pn_work.proofs.CoreLaws.{change-set, set-same, read-as}
use Rattle.pt_pn.proofs.CoreLaws.{where-ok, where-err}
use Rattle.pt_pn.proofs.processes.tell_at.Goals as goal

pub told-requires-clause-handed : goal.told-requires-clause-handed
told-requires-clause-handed c = ap (λ (p : Standing). p.handed) (read-as c.args.processes.now.items c.args.process c.index_mut.result.now nobody c.requires.there c.index_mut.ensures.value) ∙ c.requires.handed

pub told-requires-clause-places : goal.told-requires-clause-places
told-requires-clause-places c = subst (λ (p : Standing). HasPlaces (length p.got) (need_of c.args.need)) (sym (read-as c.args.processes.now.items c.args.process c.index_mut.result.now nobody c.requires.there c.index_mut.ensures.value)) c.requires.places

pub returns-clause-told : goal.returns-clause-told
returns-clause-told c = where-ok c.told.result (λ e. change-set c.args.processes.now.items c.args.process c.index_mut.result.now c.told.new.self (once_fired (need_of c.args.need) (puts_in c.args.puts.now.items)) c.requires.there c.index_mut.ensures.value e) c.told.ensures.told

pub returns-clause-kept : goal.returns-clause-kept
returns-clause-kept c = where-err c.told.result (λ e. set-same c.args.processes.now.items c.args.process c.index_mut.result.now c.told.new.self c.index_mut.ensures.value e) c.told.ensures.kept
