-- Why each refusal stands.
use Rattle.std.proofs.Common.{◌≡◌, ℕ, ◌<◌, length, map, sym, ap, subst, ◌∙◌}
use Rattle.std.specs.Prelude.{Some, slice_get}
use Rattle.std.proofs.lemmas.Option.{slice_get_within}
use Rattle.pt_document.specs.declared.code.Code.{Code}
use Rattle.pt_document.specs.declared.code.Code.TheVariants as code
use Rattle.pt_document.specs.declared.refusal.DocFault.{DocFault}
use Rattle.pt_document.specs.declared.refusal.DocFault.TheVariants.{Refused, Memory}
use Rattle.pt_document.specs.declared.refusal.Refusal.{Refusal}
use Rattle.pt_document.specs.Outcome.{IsRefusal}
use Rattle.pt_net.specs.declared.net.Net.{Net}
use Rattle.pt_net.specs.declared.net.NetEntity.{NetEntity}
use Rattle.pt_net.specs.declared.net.Transparent.{Transparent}
use Rattle.pt_net.specs.Net.{NetEntityTree, TransparentTree, entity_view, transparent_view}
use Rattle.pt_scopes.specs.declared.values.Values.{Values}
use Rattle.pt_scopes.specs.Scopes.{net_view}
use Rattle.pt_scopes.specs.Valued.{IsValued}
use Rattle.pt_typing.specs.Least.{Assignment}
use Rattle.pt_inequalities.specs.Typing.{IsTyping}
use Rattle.pt_resolve.specs.Faults.{IsBroken, IsBrokenComposite, at_entity, at_composite}
use Rattle.pt_charts.specs.Readable.{AreReadable, IsUnreadableAt}
use Rattle.pt_start.specs.Misplaced.{IsMisplaced}
use Rattle.pt_machine.specs.declared.cause.Cause.{Cause}
use Rattle.pt_machine.specs.Causes.{IsFaultIn}
use Rattle.pt_job.specs.Inputs as inputs
use Rattle.pt_job.proofs.Members.{unmapped}
use Rattle.pt_node.specs.Shown.{Shown}
use Rattle.pt_trees.specs.Trees.{IsEntity, Starts}
use Rattle.pt_trees.specs.Built.{IsBuilt}
use Rattle.pt_elaboration.specs.Resolved.{IsResolved, IsStarted}
use Rattle.pt_elaboration.specs.Refused.{FaultStands, for_guards, for_types, for_place, for_states, for_inputs}

pub inputs-stand : (net : Net) (values : Values) (typing : Assignment) (starts : Starts) (top : Shown) (f : DocFault) → IsStarted net values typing starts → IsBuilt net starts 0 top → inputs.IsFaultOf (net_view net) f → FaultStands net f
inputs-stand net values typing starts top Memory started is h = tt
inputs-stand net values typing starts top (Refused r) started is h = for_inputs values typing starts top started is h.0 h.1

-- an entity whose view is there is there
pub number-below : (net : Net) (k : ℕ) (e : NetEntityTree) → slice_get (map entity_view net.entities.items) k ≡ Some e → k < length net.entities.items
number-below net k e at = let r = unmapped entity_view net.entities.items k e at in slice_get_within net.entities.items k r.0 r.1

pub guards-stand : (net : Net) (values : Values) (cause : Code) (k : ℕ) (m : DocFault) → IsValued (net_view net) values → IsUnreadableAt net values cause k → ((x : NetEntity) → IsEntity net k x → IsRefusal m cause x.path) → FaultStands net m
guards-stand net values cause k m is unreadable told =
    let r = unmapped entity_view net.entities.items k unreadable.entity unreadable.modal.at in
    by_fault m r.0 r.1 (told r.0 r.1)
  where
    by_fault : (f : DocFault) (x : NetEntity) → IsEntity net k x → IsRefusal f cause x.path → FaultStands net f
    by_fault Memory x at h = tt
    by_fault (Refused s) x at h = for_guards values k x is (subst (λ c. IsUnreadableAt net values c k) (sym (ap (λ (v : Refusal). v.code) h)) unreadable) at (ap (λ (v : Refusal). v.path) h)

pub types-stand : (net : Net) (values : Values) (typing : Assignment) (k : ℕ) (e : NetEntityTree) (m : DocFault) → IsValued (net_view net) values → AreReadable net values → IsTyping net values typing → slice_get (map entity_view net.entities.items) k ≡ Some e → IsBroken net values typing e → ((x : NetEntity) → IsEntity net k x → IsRefusal m code.Type x.path) → FaultStands net m
types-stand net values typing k e m is readable typed at broken told =
    let r = unmapped entity_view net.entities.items k e at in
    by_fault m r.0 r.2 (told r.0 r.1)
  where
    by_fault : (f : DocFault) (x : NetEntity) → entity_view x ≡ e → IsRefusal f code.Type x.path → FaultStands net f
    by_fault Memory x seen h = tt
    by_fault (Refused s) x seen h = for_types values is readable (ap (λ (v : Refusal). v.code) h) (record { typing = typing; is = typed; breaks = at_entity e broken (ap (λ (v : Refusal). v.path) h ∙ ap (λ (v : NetEntityTree). v.path) seen) })

-- the same of a transparent composite
pub composite-below : (net : Net) (c : ℕ) (e : TransparentTree) → slice_get (map transparent_view net.transparent.items) c ≡ Some e → c < length net.transparent.items
composite-below net c e at = let r = unmapped transparent_view net.transparent.items c e at in slice_get_within net.transparent.items c r.0 r.1

pub composite-stands : (net : Net) (values : Values) (typing : Assignment) (c : ℕ) (e : TransparentTree) (m : DocFault) → IsValued (net_view net) values → AreReadable net values → IsTyping net values typing → slice_get (map transparent_view net.transparent.items) c ≡ Some e → IsBrokenComposite net typing e → ((x : Transparent) → slice_get net.transparent.items c ≡ Some x → IsRefusal m code.Type x.path) → FaultStands net m
composite-stands net values typing c e m is readable typed at broken told =
    let r = unmapped transparent_view net.transparent.items c e at in
    by_fault m r.0 r.2 (told r.0 r.1)
  where
    by_fault : (f : DocFault) (x : Transparent) → transparent_view x ≡ e → IsRefusal f code.Type x.path → FaultStands net f
    by_fault Memory x seen h = tt
    by_fault (Refused s) x seen h = for_types values is readable (ap (λ (v : Refusal). v.code) h) (record { typing = typing; is = typed; breaks = at_composite e broken (ap (λ (v : Refusal). v.path) h ∙ ap (λ (v : TransparentTree). v.path) seen) })

pub place-stands : (net : Net) (values : Values) (typing : Assignment) (cause : Code) (k : ℕ) (m : DocFault) → IsResolved net values typing → IsMisplaced (net_view net) values cause k → ((x : NetEntity) → IsEntity net k x → IsRefusal m cause x.path) → FaultStands net m
place-stands net values typing cause k m resolved misplaced told =
    let r = unmapped entity_view net.entities.items k misplaced.entity misplaced.at in
    by_fault m r.0 r.1 (told r.0 r.1)
  where
    by_fault : (f : DocFault) (x : NetEntity) → IsEntity net k x → IsRefusal f cause x.path → FaultStands net f
    by_fault Memory x at h = tt
    by_fault (Refused s) x at h = for_place values typing k x resolved (subst (λ c. IsMisplaced (net_view net) values c k) (sym (ap (λ (v : Refusal). v.code) h)) misplaced) at (ap (λ (v : Refusal). v.path) h)

pub states-stand : (net : Net) (values : Values) (typing : Assignment) (why : Cause) (k : ℕ) (m : DocFault) → IsResolved net values typing → IsFaultIn net k why → ((x : NetEntity) → IsEntity net k x → IsRefusal m code.States x.path) → FaultStands net m
states-stand net values typing why k m resolved fault told =
    let r = unmapped entity_view net.entities.items k fault.entity fault.at in
    by_fault m r.0 r.1 (told r.0 r.1)
  where
    by_fault : (f : DocFault) (x : NetEntity) → IsEntity net k x → IsRefusal f code.States x.path → FaultStands net f
    by_fault Memory x at h = tt
    by_fault (Refused s) x at h = for_states values typing why k x resolved fault at (ap (λ (v : Refusal). v.code) h) (ap (λ (v : Refusal). v.path) h)
