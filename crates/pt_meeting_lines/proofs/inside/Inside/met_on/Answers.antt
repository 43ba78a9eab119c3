use Rattle.std.proofs.Common.{◌≡◌, List, Some, slice_get, sym, subst, ◌∙◌}
use Rattle.std.proofs.lemmas.Result.{IfOk-weaker}
use Rattle.pt_net.specs.declared.net.Channel.{Channel}
use Rattle.pt_meeting_lines.specs.Tells.{OnChannel}
use Rattle.pt_meeting_lines.proofs.Telling.{same-of}
use Rattle.pt_meeting_lines.proofs.inside.Inside.met_on.Goals as goal

pub item_at-channel-requires : goal.item_at-channel-requires
item_at-channel-requires c = (c.requires.told.1.0, subst (λ (xs : List Channel). slice_get xs c.args.number ≡ Some c.requires.told.1.0) (sym c.requires.inside.channels) c.requires.told.1.1)

pub met_to-requires : goal.met_to-requires
met_to-requires c =
    let there = subst (λ (xs : List Channel). slice_get xs c.args.number ≡ Some c.item_at-channel.result.now) c.requires.inside.channels c.item_at-channel.ensures in
    (c.requires.told.0, subst (λ (x : Channel). OnChannel c.args.self.now.net.now c.args.self.now.number c.args.self.now.composite.now c.requires.told.0 x) (same-of (sym c.requires.told.1.1 ∙ there)) c.requires.told.1.2)

pub returns : goal.returns
returns c =
    let there = subst (λ (xs : List Channel). slice_get xs c.args.number ≡ Some c.item_at-channel.result.now) c.requires.inside.channels c.item_at-channel.ensures in
    IfOk-weaker c.met_to.result _ _ (λ what told. (c.item_at-channel.result.now, there, told)) c.met_to.ensures
