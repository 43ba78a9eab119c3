use Rattle.std.proofs.Common.{◌≡◌, List, map, ap₂, subst, ◌∙◌}
use Rattle.std.proofs.lemmas.Result.{IfOk-weaker}
use Rattle.pt_net.specs.declared.net.Channel.{Channel}
use Rattle.pt_net.specs.declared.net.NetEntity.{NetEntity}
use Rattle.pt_typing.specs.Least.{assignment}
use Rattle.pt_facts.specs.CheckText.{typed}
use Rattle.pt_check.specs.Joined.{ends_of}
use Rattle.pt_check.specs.Types.{port_types}
use Rattle.pt_check.specs.Marks.{AreMarks, AreSized}
use Rattle.pt_check.specs.Marked.{all_marked}
use Rattle.pt_check.proofs.TypeLaws.{marks-tell}
use Rattle.pt_check.proofs.types.types_of.Goals as goal

pub returns : goal.returns
returns c =
    let net = c.args.net.now in
    let typing = assignment c.args.typing.now in
    let rows = c.in_ok-rows.rows.items in
    let marks : AreMarks (ends_of net.channels.items) rows = subst (λ (ks : List Channel). AreMarks (ends_of ks) rows) c.deref-2.ensures.value c.in_ok-rows.ensures.marks in
    let sized : AreSized net.entities.items rows = subst (λ (es : List NetEntity). AreSized es rows) c.deref.ensures.value c.in_ok-rows.ensures.sized in
    let same : all_marked typing c.deref-3.result.now c.deref-4.result.now ≡ all_marked typing net.entities.items rows = ap₂ (λ es rs. all_marked typing es rs) c.deref-3.ensures.value c.deref-4.ensures.value in
    IfOk-weaker c.types_by-types.result (λ types. map typed types.items ≡ all_marked typing c.deref-3.result.now c.deref-4.result.now) (λ types. map typed types.items ≡ port_types net typing)
    (λ types told. told ∙ same ∙ marks-tell net.channels.items typing net.entities.items rows marks sized) c.types_by-types.ensures
