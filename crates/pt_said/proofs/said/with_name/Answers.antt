use Rattle.pt_document.proofs.TypeWords.{not_new, is_more}
use Rattle.pt_said.proofs.said.with_name.Goals as goal

pub returns-then-not-is_new : goal.returns-then-not-is_new
returns-then-not-is_new c = not_new c.args.names.keys c.args.name c.in_ok-is_new.is_new c.requires c.in_ok-is_new.ensures.added c.if-not-is_new.true

pub returns : goal.returns
returns c = is_more c.args.names.keys c.insert_full.new.self.keys c.args.name c.in_ok-is_new.is_new c.requires c.in_ok-is_new.ensures.added c.if-not-is_new.false c.in_ok-is_new.ensures.keys
