-- The paths of the entities of a document's net.
use Rattle.std.proofs.Common.{◌≡◌, ℕ, Some, sym, ap, subst, ◌∙◌}
use Rattle.std.proofs.lemmas.Option.{same_Some}
use Rattle.std.specs.Prelude.{slice_get}
use Rattle.pt_net.specs.declared.net.Net.{Net}
use Rattle.pt_net.specs.declared.net.NetEntity.{NetEntity}
use Rattle.pt_net.specs.Net.{NetEntityTree}
use Rattle.pt_net.specs.Standing.{entities}
use Rattle.pt_cover.proofs.Reading.{documents-leaves}
use Rattle.pt_cover.proofs.Walk as walk
use Rattle.pt_cover.proofs.Walk.{all-placed}
use Rattle.pt_order.specs.Laws.{IsNetOfDocument}
use Rattle.pt_order.proofs.NetStandings.{IsStandingOf, standing-of, entity-of}
use Rattle.pt_trace.specs.ReportForm.{IsPath}
use Rattle.pt_tellable.proofs.Naming.{IsNamed}
use Rattle.pt_tellable.proofs.Places.{ArePlaced, document-placed, HasHolder, has-holder, is-path}

module _ (net : Net) (doc : IsNetOfDocument net) where
  walked : walk.ArePlaced (entities doc.job)
  walked = all-placed doc.job (documents-leaves doc.bytes doc.job doc.read)

  placed : ArePlaced (entities doc.job)
  placed = document-placed doc.bytes doc.job doc.read

  pub stands : (k : ℕ) (e : NetEntity) → slice_get net.entities.items k ≡ Some e → IsStandingOf (entities doc.job) k e
  stands k e at = standing-of doc.job net walked doc.made k e at

  -- each has the form of a path
  pub net-path : (k : ℕ) (e : NetEntity) → slice_get net.entities.items k ≡ Some e → IsPath e.path
  net-path k e at =
      let s = stands k e at in
      subst IsPath (sym (ap (λ (t : NetEntityTree). t.path) s.same)) (is-path (entities doc.job) placed s.place s.standing s.at)

  -- and is named below the composite in which the entity stands
  pub net-named : (k j : ℕ) (round e : NetEntity) → slice_get net.entities.items k ≡ Some round → slice_get net.entities.items j ≡ Some e → e.parent ≡ Some k → IsNamed round.path e.path
  net-named k j round e at there parent =
      let s = stands j e there in
      let h : HasHolder (entities doc.job) s.standing k = has-holder (entities doc.job) placed s.place s.standing s.at k (sym (ap (λ (t : NetEntityTree). t.parent) s.same) ∙ parent) in
      let f = entity-of doc.job net walked doc.made h.place h.holder h.at h.kept in
      let same : f.0 ≡ round = same_Some f.0 round (sym f.1 ∙ ap (λ n. slice_get net.entities.items n) h.number ∙ at) in
      let outer : round.path ≡ h.holder.path = ap (λ (e : NetEntity). e.path) (sym same) ∙ ap (λ (t : NetEntityTree). t.path) f.2 in
      let inner : e.path ≡ s.standing.path = ap (λ (t : NetEntityTree). t.path) s.same in
      subst (λ v. IsNamed v e.path) (sym outer) (subst (λ v. IsNamed h.holder.path v) (sym inner) h.named)
