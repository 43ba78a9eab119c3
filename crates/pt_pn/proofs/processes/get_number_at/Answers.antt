use Rattle.std.proofs.Common.{w64, ap, ◌∙◌}
use Rattle.std.proofs.lemmas.Int.{to_z-of_z}
use Rattle.pt_value.specs.declared.token.Token.TheVariants.{Int}
use Rattle.pt_pn_laws.specs.State.{lacking_place}
use Rattle.pt_process.specs.Process.{Standing, with_token}
use Rattle.pt_pn_work.specs.Core.{nobody}
use Rattle.pt_pn_work.proofs.CoreLaws.{change-set, read-as}
use Rattle.pt_pn.proofs.processes.get_number_at.Goals as goal

pub get_number-requires-clause-gathers : goal.get_number-requires-clause-gathers
get_number-requires-clause-gathers c = ap (λ (p : Standing). p.handed) (read-as c.args.processes.now.items c.args.process c.index_mut.result.now nobody c.requires.there c.index_mut.ensures.value) ∙ c.requires.gathers

pub get_number-requires-clause-lacks : goal.get_number-requires-clause-lacks
get_number-requires-clause-lacks c = ap (λ (p : Standing). lacking_place p.need p.got) (read-as c.args.processes.now.items c.args.process c.index_mut.result.now nobody c.requires.there c.index_mut.ensures.value) ∙ c.requires.lacks

pub returns : goal.returns
returns c = change-set c.args.processes.now.items c.args.process c.index_mut.result.now c.get_number.new.self (with_token c.args.place (Int c.args.number)) c.requires.there c.index_mut.ensures.value (c.get_number.ensures ∙ ap (λ z. with_token c.args.place (Int z) c.index_mut.result.now) (to_z-of_z w64 c.args.number c.ranges.number))
