use Rattle.std.proofs.Common.{◌≡◌, List, true, false, sym, ap, ◌∙◌, Bor}
use Rattle.std.specs.List.{list_all}
use Rattle.std.proofs.lemmas.List.Sums.{AllPass-from_list_all}
use Rattle.pt_net.specs.declared.net.NetEntity.{NetEntity}
use Rattle.pt_machine.specs.Children.{is_opaque}
use Rattle.pt_machine.specs.Causes.{plain, transparent}
use Rattle.pt_machine_parts.specs.Views.{kids_view}
use Rattle.pt_machine_parts.specs.Own.{kids_of}
use Rattle.pt_machine_parts.proofs.ListLaws.{some-fails}
use Rattle.pt_machine_parts.proofs.children.check_children.Goals as goal

pub returns-then-is_parted-clause-told : goal.returns-then-is_parted-clause-told
returns-then-is_parted-clause-told c = transparent c.if-is_parted.true

pub returns-then-not-are_opaque-clause-told : goal.returns-then-not-are_opaque-clause-told
returns-then-not-are_opaque-clause-told c =
    let low : list_all is_opaque (kids_of c.args.modal.now) ≡ false = ap (λ (es : List (Bor NetEntity)). list_all is_opaque (kids_view es)) (sym c.deref.ensures.value) ∙ sym c.are_opaque.ensures ∙ c.if-not-are_opaque.true in
    let w = some-fails is_opaque (kids_of c.args.modal.now) low in
    plain w.0 w.1 w.2

pub returns-clause-opaque : goal.returns-clause-opaque
returns-clause-opaque c =
    let all : list_all is_opaque (kids_of c.args.modal.now) ≡ true = ap (λ (es : List (Bor NetEntity)). list_all is_opaque (kids_view es)) (sym c.deref.ensures.value) ∙ sym c.are_opaque.ensures ∙ c.if-not-are_opaque.false in
    AllPass-from_list_all is_opaque (kids_of c.args.modal.now) all
