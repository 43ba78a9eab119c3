use Rattle.std.proofs.Common.{set, ap, ◌∙◌, arith}
use Rattle.pt_meaning.specs.Streams.{at}
use Rattle.pt_rv_parts.proofs.GatherLaws.{filled-emptied}
use Rattle.pt_rv_parts.proofs.renew.empty_at.Goals as goal

pub index_mut-requires : goal.index_mut-requires
index_mut-requires c = let l = c.requires.0 in omega (arith, l, c.args.row.now.ok.0)

pub returns-clause-empty : goal.returns-clause-empty
returns-clause-empty c q = ap (λ v. at (set c.args.row.now.items c.args.place v) q) c.new.ensures ∙ filled-emptied c.args.row.now.items c.args.place c.requires q
