use Rattle.std.proofs.Common.{◌≡◌, ℕ, List, map, Bool, true, false, Ok, sym, ap, ◌∙◌, if◌then◌else◌}
use Rattle.serde_json.specs.Data.{Data, object, Members}
use Rattle.pt_json.specs.View.{view, members_view}
use Rattle.pt_json.proofs.Views.{view-Object}
use Rattle.pt_document.specs.Outcome.{refused}
use Rattle.pt_moml.specs.Fields.{has_only, listed}
use Rattle.pt_document.specs.declared.code.Code.TheVariants.{Shape}
use Rattle.pt_document.proofs.Refusals.{fails}
use Rattle.pt_moml.proofs.fields.has_fields.Goals as goal

of_object : (path : List ℕ) (keys : List (List ℕ)) (d : Data) (ms : Members) (b : Bool) → d ≡ object ms → b ≡ has_only keys ms → listed path keys d ≡ (if b then Ok tt else refused Shape path)
of_object path keys d ms b e f = ap (listed path keys) e ∙ ap (λ h. if h then Ok tt else refused Shape path) (sym f)

pub returns-then-has_only_these : goal.returns-then-has_only_these
returns-then-has_only_these c =
    let keys = map (λ k. k.now) c.args.keys.now in
    let ms = members_view c.in-Object.members.items in
    let seen = ap view c.in-Object.is ∙ view-Object c.in-Object.members in
    let told : true ≡ has_only keys ms = sym c.if-has_only_these.true ∙ c.has_only_these.ensures ∙ ap (λ xs. has_only keys (members_view xs)) c.deref.ensures.value in
    of_object c.args.path.now keys _ ms true seen told

pub returns-else-has_only_these : goal.returns-else-has_only_these
returns-else-has_only_these c =
    let keys = map (λ k. k.now) c.args.keys.now in
    let ms = members_view c.in-Object.members.items in
    let seen = ap view c.in-Object.is ∙ view-Object c.in-Object.members in
    let lacks : false ≡ has_only keys ms = sym c.if-has_only_these.false ∙ c.has_only_these.ensures ∙ ap (λ xs. has_only keys (members_view xs)) c.deref.ensures.value in
    rw (of_object c.args.path.now keys _ ms false seen lacks) (fails (Unit {0}) c.refused.result Shape c.args.path.now c.refused.ensures)
