-- What is told of texts that see nothing.
use Rattle.std.proofs.Common.{◌≡◌, inl, inr, ℕ, ◌<◌, List, [], ◌∷◌, length, get_or, map, false, Some, refl, sym, ap, subst, ◌∙◌, arith}
use Rattle.std.proofs.lemmas.Option.{slice_get-map, slice_get_read}
use Rattle.std.specs.Prelude.{option_map, Option}
use Rattle.std.specs.List.{Contains, slice_get}
use Rattle.pt_value.specs.Value.{Value}
use Rattle.pt_document.specs.declared.code.Code.{Code}
use Rattle.pt_document.specs.declared.code.Code.TheVariants as code
use Rattle.pt_document.specs.declared.job.Event.{Event}
use Rattle.pt_document.specs.declared.refusal.DocFault.{DocFault}
use Rattle.pt_document.specs.declared.refusal.DocFault.TheVariants as faults
use Rattle.pt_document.specs.Document.{PortTree}
use Rattle.pt_document.specs.Outcome.{IsRefusal}
use Rattle.pt_scopes.specs.declared.tables.TheConstants.{RATE}
use Rattle.pt_scopes.specs.Forms.{fits}
use Rattle.pt_scopes.specs.Given.{IsValueFault}
use Rattle.pt_scopes.specs.Texts.{HasValue, IsTextFault}
use Rattle.pt_scopes.specs.Scopes.{bound}
use Rattle.pt_scopes.specs.Sites.{rate_of, event_text}
use Rattle.pt_scopes.specs.Told.{IsToldAt, IsRateFault, IsSupplyFault}
use Rattle.pt_scopes.proofs.Turns.{told_weaker}
use Rattle.pt_scopes.proofs.Standing.{get-contains}

pub misfit-told : (path text : List ℕ) (v : Value) (told : DocFault) → HasValue (bound []) text v → fits RATE v ≡ false → IsRefusal told code.Value path → IsToldAt path (IsValueFault (bound []) RATE text) told
misfit-told path text v faults.Memory comes misfits is = tt
misfit-told path text v (faults.Refused r) comes misfits is = (ap (λ s. s.path) is, inr (ap (λ s. s.code) is, record { held = v; comes = comes; misfits = misfits }))

pub rate-told : (path : List ℕ) (port : PortTree) (text : List ℕ) (told : DocFault) → rate_of port ≡ Some text → IsToldAt path (IsValueFault (bound []) RATE text) told → IsToldAt path (IsRateFault (port ∷ [])) told
rate-told path port text told declared h =
    told_weaker path (IsValueFault (bound []) RATE text) (IsRateFault (port ∷ []))
    (λ cause f. record { port = port; there = (0, omega arith, refl); text = text; declared = declared; fault = f }) told h

-- a text of one event is at fault
pub event-told : (path : List ℕ) (events : List Event) (i : ℕ) (event : Event) (words : List ℕ) → i < length events → event ≡ get_or events i event → words ≡ event.value → (told : DocFault) → IsToldAt path (IsTextFault (bound []) words) told → IsToldAt path (IsSupplyFault (map event_text events)) told
event-told path events i event words short is says told h =
    let at : slice_get (map event_text events) i ≡ Some (event_text event) = slice_get-map event_text events i ∙ ap (option_map event_text) (slice_get_read events (length events) i event refl short is) in
    let there : Contains (map event_text events) (Some words) = subst (λ (ws : List ℕ). Contains (map event_text events) (Some ws)) (sym says) (get-contains (map event_text events) i (Some event.value) at) in
    told_weaker path (IsTextFault (bound []) words) (IsSupplyFault (map event_text events)) (λ cause f. record { text = words; there = there; fault = f }) told h
