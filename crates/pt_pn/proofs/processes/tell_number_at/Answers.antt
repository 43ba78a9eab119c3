use Rattle.std.proofs.Common.{w64, length, ap, sym, subst, ◌∙◌}
use Rattle.std.proofs.lemmas.Int.{to_z-of_z}
use Rattle.pt_meaning.specs.Process.{to_each}
use Rattle.pt_value.specs.declared.token.Token.TheVariants.{Int}
use Rattle.pt_firing.specs.Need.{need_of}
use Rattle.pt_pn_laws.specs.Lawful.{HasPlaces}
use Rattle.pt_process.specs.Process.{Standing, once_fired}
use Rattle.pt_pn_work.specs.Core.{nobody}
use Rattle.pt_pn_work.proofs.CoreLaws.{change-set, set-same, read-as}
use Rattle.pt_pn.proofs.CoreLaws.{where-ok, where-err}
use Rattle.pt_pn.proofs.processes.tell_number_at.Goals as goal

pub told_number-requires-clause-handed : goal.told_number-requires-clause-handed
told_number-requires-clause-handed c = ap (λ (p : Standing). p.handed) (read-as c.args.processes.now.items c.args.process c.index_mut.result.now nobody c.requires.there c.index_mut.ensures.value) ∙ c.requires.handed

pub told_number-requires-clause-none : goal.told_number-requires-clause-none
told_number-requires-clause-none c = ap (λ (p : Standing). p.puts) (read-as c.args.processes.now.items c.args.process c.index_mut.result.now nobody c.requires.there c.index_mut.ensures.value) ∙ c.requires.none

pub told_number-requires-clause-places : goal.told_number-requires-clause-places
told_number-requires-clause-places c = subst (λ (p : Standing). HasPlaces (length p.got) (need_of c.args.need)) (sym (read-as c.args.processes.now.items c.args.process c.index_mut.result.now nobody c.requires.there c.index_mut.ensures.value)) c.requires.places

pub returns-clause-told : goal.returns-clause-told
returns-clause-told c = where-ok c.told_number.result (λ e. change-set c.args.processes.now.items c.args.process c.index_mut.result.now c.told_number.new.self (once_fired (need_of c.args.need) (to_each (Int c.args.number) c.args.fan.now)) c.requires.there c.index_mut.ensures.value (e ∙ ap (λ z. once_fired (need_of c.args.need) (to_each (Int z) c.args.fan.now) c.index_mut.result.now) (to_z-of_z w64 c.args.number c.ranges.number))) c.told_number.ensures.told

pub returns-clause-kept : goal.returns-clause-kept
returns-clause-kept c = where-err c.told_number.result (λ e. set-same c.args.processes.now.items c.args.process c.index_mut.result.now c.told_number.new.self c.index_mut.ensures.value e) c.told_number.ensures.kept
