use Rattle.std.proofs.Common.{◌≡◌, sym, subst}
use Rattle.std.specs.Prelude.{IfOk}
use Rattle.pt_value.specs.declared.token.Token.{Token}
use Rattle.pt_rv_laws.specs.Lawful.{HasPlaces}
use Rattle.pt_rv_work.specs.Core.{Standing}
use Rattle.pt_puts.specs.Need.{need_in}
use Rattle.pt_rv_parts.specs.Process.{at_start}
use Rattle.pt_rv.proofs.fresh.process_of.Goals as goal

pub new-requires : goal.new-requires
new-requires c = subst (λ m. HasPlaces c.args.places (need_in m)) (sym c.in_ok-need.ensures) c.requires

pub returns : goal.returns
returns c = subst (λ m. IfOk c.new.result (λ (p : Standing Token). p ≡ at_start c.args.is_barrier (need_in m) c.args.places)) c.in_ok-need.ensures c.new.ensures
