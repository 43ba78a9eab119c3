-- The types of ports, one by one.
use Rattle.std.proofs.Common.{◌≡◌, ℕ, ◌+◌, ◌<◌, List, [], ◌∷◌, ◌++◌, length, drop, map, refl, ap, ◌∙◌}
use Rattle.std.specs.List.{enumerate_from}
use Rattle.pt_document.specs.declared.job.Port.{Port}
use Rattle.pt_document.specs.View.{port_view}
use Rattle.pt_types.specs.declared.ty.Ty.{Ty}
use Rattle.pt_datatypes.specs.Datatype.{Datatype}
use Rattle.pt_types.specs.Ty.{type_of}
use Rattle.pt_start.specs.Started.{PortTyping, type_at}
use Rattle.pt_start.proofs.Loops.{drop-read, put-one}
use Rattle.pt_elaboration.proofs.Lists.{read}

-- the types of the ports from one on
rest-at : (typing : PortTyping) (k i : ℕ) (ps : List Port) → i < length ps → map (type_at typing k) (enumerate_from i (map port_view (drop i ps))) ≡ typing k i ∷ map (type_at typing k) (enumerate_from (i + 1) (map port_view (drop (i + 1) ps)))
rest-at typing k i ps short = let r = read ps i short in ap (λ (qs : List Port). map (type_at typing k) (enumerate_from i (map port_view qs))) (drop-read ps i r.0 r.1)

push-type : (old : List Ty) (t : Ty) → map type_of (old ++ t ∷ []) ≡ map type_of old ++ type_of t ∷ []
push-type [] t = refl
push-type (s ∷ old) t = ap (λ (v : List Datatype). type_of s ∷ v) (push-type old t)

-- one type more
pub type-more : (typing : PortTyping) (k i : ℕ) (ps : List Port) (old new : List Ty) (t : Ty) → i < length ps → new ≡ old ++ t ∷ [] → type_of t ≡ typing k i →
    map type_of old ++ map (type_at typing k) (enumerate_from i (map port_view (drop i ps))) ≡ map (type_at typing k) (enumerate_from 0 (map port_view ps)) →
    map type_of new ++ map (type_at typing k) (enumerate_from (i + 1) (map port_view (drop (i + 1) ps))) ≡ map (type_at typing k) (enumerate_from 0 (map port_view ps))
type-more typing k i ps old new t short put is so_far =
    put-one (map type_of old) (map type_of new) (typing k i) (map (type_at typing k) (enumerate_from i (map port_view (drop i ps)))) (map (type_at typing k) (enumerate_from (i + 1) (map port_view (drop (i + 1) ps)))) (map (type_at typing k) (enumerate_from 0 (map port_view ps)))
    (ap (map type_of) put ∙ push-type old t ∙ ap (λ d. map type_of old ++ d ∷ []) is) (rest-at typing k i ps short) so_far
