use Rattle.std.proofs.Common.{ap, sym, ◌∙◌}
use Rattle.pt_value.specs.declared.token.Token.{Token}
use Rattle.pt_rv_work.specs.Core.{Standing}
use Rattle.pt_rv_parts.proofs.process.Process.needs.Goals as goal

pub returns : goal.returns
returns c = λ h. sym (ap (λ (s : Standing Token). s.need) c.self.view_is) ∙ c.is_kept.ensures h
