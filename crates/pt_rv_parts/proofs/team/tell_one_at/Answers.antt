use Rattle.std.proofs.Common.{[], ◌∷◌, length, ap, sym, subst, ◌∙◌}
use Rattle.pt_firing.specs.Need.{need_of}
use Rattle.pt_rv_laws.specs.Lawful.{HasPlaces}
use Rattle.pt_value.specs.declared.token.Token.{Token}
use Rattle.pt_puts.specs.Puts.{put_of}
use Rattle.pt_rv_work.specs.Core.{Standing, nobody, once_fired}
use Rattle.pt_rv_parts.proofs.ListLaws.{change-set, set-same, read-as, where-ok, where-err}
use Rattle.pt_rv_parts.proofs.team.tell_one_at.Goals as goal

pub told_one-requires-clause-handed : goal.told_one-requires-clause-handed
told_one-requires-clause-handed c = ap (λ (p : Standing Token). p.handed) (read-as c.args.processes.now.items c.args.process c.index_mut.result.now nobody c.requires.there c.index_mut.ensures.value) ∙ c.requires.handed

pub told_one-requires-clause-none : goal.told_one-requires-clause-none
told_one-requires-clause-none c = ap (λ (p : Standing Token). p.puts) (read-as c.args.processes.now.items c.args.process c.index_mut.result.now nobody c.requires.there c.index_mut.ensures.value) ∙ c.requires.none

pub told_one-requires-clause-places : goal.told_one-requires-clause-places
told_one-requires-clause-places c = subst (λ (p : Standing Token). HasPlaces (length p.got) (need_of c.args.need)) (sym (read-as c.args.processes.now.items c.args.process c.index_mut.result.now nobody c.requires.there c.index_mut.ensures.value)) c.requires.places

pub returns-clause-told : goal.returns-clause-told
returns-clause-told c = where-ok c.told_one.result (λ e. change-set c.args.processes.now.items c.args.process c.index_mut.result.now c.told_one.new.self (once_fired (need_of c.args.need) (put_of c.args.put ∷ [])) c.requires.there c.index_mut.ensures.value e) c.told_one.ensures.told

pub returns-clause-kept : goal.returns-clause-kept
returns-clause-kept c = where-err c.told_one.result (λ e. set-same c.args.processes.now.items c.args.process c.index_mut.result.now c.told_one.new.self c.index_mut.ensures.value e) c.told_one.ensures.kept
