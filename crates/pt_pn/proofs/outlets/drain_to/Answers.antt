use Rattle.std.proofs.Common.{ap, ◌∙◌, arith}
use Rattle.std.proofs.lemmas.List.{get_or-set_other}
use Rattle.pt_reaction.specs.Spared.{Spared}
use Rattle.pt_value.specs.declared.token.Token.{Token}
use Rattle.pt_pn.specs.Outlets.{no_line}
use Rattle.pt_pn.proofs.OutletLaws.{read-line}
use Rattle.pt_pn.proofs.outlets.drain_to.Goals as goal

pub drain-requires-clause-empty : goal.drain-requires-clause-empty
drain-requires-clause-empty c = ap (λ (l : Spared Token). l.list) (read-line c.args.rooms.now.items c.args.k c.index_mut-room.result.now c.requires.within c.index_mut-room.ensures.value) ∙ c.requires.empty

pub drain-requires-clause-room : goal.drain-requires-clause-room
drain-requires-clause-room c = let e = ap (λ (l : Spared Token). l.spare) (read-line c.args.rooms.now.items c.args.k c.index_mut-room.result.now c.requires.within c.index_mut-room.ensures.value) in omega (arith, e, c.requires.room)

pub returns-clause-taken : goal.returns-clause-taken
returns-clause-taken c = c.take.ensures.taken ∙ c.drain.ensures.moved

pub returns-clause-others : goal.returns-clause-others
returns-clause-others c j l = get_or-set_other c.args.rooms.now.items c.args.k j c.take.new.self no_line (λ z. omega (arith, l, z))
