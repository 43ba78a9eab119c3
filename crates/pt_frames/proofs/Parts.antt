-- Frames and tables of ports, one part after the other.
use Rattle.std.proofs.Common.{◌≡◌, ℕ, zero, suc, ◌+◌, ◌<◌, List, [], ◌∷◌, ◌++◌, length, map, drop, get_or, Option, Some, None, refl, sym, ap, ◌∙◌, append_assoc}
use Rattle.std.specs.Prelude.{slice_get, option_map}
use Rattle.pt_value.specs.declared.token.Token.{Token}
use Rattle.pt_value.specs.Token.{value_of}
use Rattle.pt_value.specs.Value.{Value}
use Rattle.pt_document.specs.declared.job.Property.{Property}
use Rattle.pt_document.specs.declared.job.Port.{Port}
use Rattle.pt_document.specs.Document.{property_name}
use Rattle.pt_document.specs.View.{property_view, properties_view, port_view}
use Rattle.pt_net.specs.declared.net.NetEntity.{NetEntity}
use Rattle.pt_scopes.specs.declared.parameter_value.ParameterValue.{ParameterValue}
use Rattle.pt_scopes.specs.declared.values.EntityValues.{EntityValues}
use Rattle.pt_inequalities.specs.Frames.{Names, first, joined, with_value, with_given, values_held, some_value, held_of, Frame, entity_frame, transparent_frame, entity_frames, transparent_frames}
use Rattle.pt_inequalities.specs.Inequalities.{PortNumbers, with_port, with_ports, with_input, with_inputs}
use Rattle.std.specs.Prelude.{Vec}
use Rattle.std.specs.Global.{Global}
use Rattle.pt_net.specs.declared.net.Transparent.{Transparent}
use Rattle.pt_frames.specs.declared.frames.Frame.{Frame as GivenFrame}
use Rattle.pt_frames.specs.Views.{frame_view}
use Rattle.pt_inequalities.proofs.Steps.{one-more, drop-one, behind-drop, first-raw, behind-raw}

-- ---- parameters by name

pub held-joined : (o : Option ParameterValue) → joined (option_map values_held o) ≡ held_of o
held-joined None = refl
held-joined (Some v) = refl

pub token-joined : (xs : List Token) (i : ℕ) → joined (first (map some_value (drop i xs))) ≡ slice_get (map value_of xs) i
token-joined [] zero = refl
token-joined [] (suc i) = refl
token-joined (x ∷ xs) zero = refl
token-joined (x ∷ xs) (suc i) = token-joined xs i

pub given-more : {X : Type 0} (f : X → Option Value) (ps : List Property) (xs : List X) (i : ℕ) (p : Property) (n : List ℕ) (o : Option Value) (old new whole : Names) → i < length ps → p ≡ get_or ps i p → n ≡ property_name (property_view p) → joined (first (map f (drop i xs))) ≡ o → ((name : List ℕ) → with_given old (properties_view (drop i ps)) (map f (drop i xs)) name ≡ whole name) → ((other : List ℕ) → new other ≡ with_value old n o other) → (name : List ℕ) → with_given new (properties_view (drop (i + 1) ps)) (map f (drop (i + 1) xs)) name ≡ whole name
given-more f ps xs i p n o old new whole short is e oe h k name =
    let named : List ℕ = property_name (property_view p) in
    let step : Names = with_value old named (joined (first (map f (drop i xs)))) in
    let same : new ≡ step = (λ j other. k other j) ∙ (λ j. with_value old (e j) (sym oe j)) in
    ap (λ (g : Names). with_given g (properties_view (drop (i + 1) ps)) (map f (drop (i + 1) xs)) name) same
    ∙ ap (λ ys. with_given step (properties_view (drop (i + 1) ps)) ys name) (sym (behind-drop f xs i))
    ∙ ap (λ qs. with_given old (properties_view qs) (map f (drop i xs)) name) (sym (drop-one ps i p short is))
    ∙ h name

pub ports-more : (ps : List Port) (i : ℕ) (p : Port) (n : List ℕ) (old new whole : PortNumbers) → i < length ps → p ≡ get_or ps i p → n ≡ p.name → ((name : List ℕ) → with_ports old i (map port_view (drop i ps)) name ≡ whole name) → ((other : List ℕ) → new other ≡ with_port n i old other) → (name : List ℕ) → with_ports new (i + 1) (map port_view (drop (i + 1) ps)) name ≡ whole name
ports-more ps i p n old new whole short is e h k name =
    let step : PortNumbers = with_port p.name i old in
    let same : new ≡ step = (λ j other. k other j) ∙ (λ j. with_port (e j) i old) in
    ap (λ (g : PortNumbers). with_ports g (i + 1) (map port_view (drop (i + 1) ps)) name) same
    ∙ ap (λ m. with_ports step m (map port_view (drop (i + 1) ps)) name) (sym (one-more i))
    ∙ ap (λ qs. with_ports old i (map port_view qs) name) (sym (drop-one ps i p short is))
    ∙ h name

pub own-more : (ps : List Port) (i : ℕ) (p : Port) (old new whole : PortNumbers) → i < length ps → p ≡ get_or ps i p → ((name : List ℕ) → with_inputs old i (map port_view (drop i ps)) name ≡ whole name) → ((other : List ℕ) → new other ≡ with_input i (port_view p) old other) → (name : List ℕ) → with_inputs new (i + 1) (map port_view (drop (i + 1) ps)) name ≡ whole name
own-more ps i p old new whole short is h k name =
    let step : PortNumbers = with_input i (port_view p) old in
    let same : new ≡ step = λ j other. k other j in
    ap (λ (g : PortNumbers). with_inputs g (i + 1) (map port_view (drop (i + 1) ps)) name) same
    ∙ ap (λ m. with_inputs step m (map port_view (drop (i + 1) ps)) name) (sym (one-more i))
    ∙ ap (λ qs. with_inputs old i (map port_view qs) name) (sym (drop-one ps i p short is))
    ∙ h name

-- ---- frames

last-view : (old : List GivenFrame) (frame : GivenFrame) → map frame_view (old ++ frame ∷ []) ≡ map frame_view old ++ frame_view frame ∷ []
last-view [] frame = refl
last-view (f ∷ fs) frame = ap (λ gs. frame_view f ∷ gs) (last-view fs frame)

frames-more : (frame : GivenFrame) (old new : List GivenFrame) (now next whole : List Frame) → new ≡ old ++ frame ∷ [] → now ≡ frame_view frame ∷ next → map frame_view old ++ now ≡ whole → map frame_view new ++ next ≡ whole
frames-more frame old new now next whole more split h =
    ap (λ fs. map frame_view fs ++ next) more ∙ ap (λ fs. fs ++ next) (last-view old frame) ∙ append_assoc (map frame_view old) (frame_view frame ∷ []) next ∙ ap (λ fs. map frame_view old ++ fs) (sym split) ∙ h

pub entity_frames-more : (es : List NetEntity) (vs : List EntityValues) (i : ℕ) (e : NetEntity) (frame : GivenFrame) (old new : List GivenFrame) (whole : List Frame) → i < length es → e ≡ get_or es i e → frame_view frame ≡ entity_frame e (slice_get vs i) → new ≡ old ++ frame ∷ [] → map frame_view old ++ entity_frames (drop i es) (drop i vs) ≡ whole → map frame_view new ++ entity_frames (drop (i + 1) es) (drop (i + 1) vs) ≡ whole
entity_frames-more es vs i e frame old new whole short is view more h =
    let now : List Frame = entity_frames (drop i es) (drop i vs) in
    let next : List Frame = entity_frames (drop (i + 1) es) (drop (i + 1) vs) in
    let split : now ≡ frame_view frame ∷ next =
    ap (λ fs. entity_frames fs (drop i vs)) (drop-one es i e short is)
    ∙ (λ j. entity_frame e (first-raw vs i j) ∷ entity_frames (drop (i + 1) es) (behind-raw vs i j))
    ∙ ap (λ f. f ∷ next) (sym view) in
    frames-more frame old new now next whole more split h

pub transparent_frames-more : (cs : List Transparent) (vs : List (Vec Token Global)) (i : ℕ) (c : Transparent) (frame : GivenFrame) (old new : List GivenFrame) (whole : List Frame) → i < length cs → c ≡ get_or cs i c → frame_view frame ≡ transparent_frame c (slice_get vs i) → new ≡ old ++ frame ∷ [] → map frame_view old ++ transparent_frames (drop i cs) (drop i vs) ≡ whole → map frame_view new ++ transparent_frames (drop (i + 1) cs) (drop (i + 1) vs) ≡ whole
transparent_frames-more cs vs i c frame old new whole short is view more h =
    let now : List Frame = transparent_frames (drop i cs) (drop i vs) in
    let next : List Frame = transparent_frames (drop (i + 1) cs) (drop (i + 1) vs) in
    let split : now ≡ frame_view frame ∷ next =
    ap (λ fs. transparent_frames fs (drop i vs)) (drop-one cs i c short is)
    ∙ (λ j. transparent_frame c (first-raw vs i j) ∷ transparent_frames (drop (i + 1) cs) (behind-raw vs i j))
    ∙ ap (λ f. f ∷ next) (sym view) in
    frames-more frame old new now next whole more split h
