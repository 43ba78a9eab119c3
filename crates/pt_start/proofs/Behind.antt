-- What is seen behind parameters that have tokens.
use Rattle.std.proofs.Common.{◌≡◌, ℕ, List, [], ◌∷◌, ◌++◌, map, Bool, true, false, refl, sym, ap, subst, ◌∙◌, if◌then◌else◌}
use Rattle.std.specs.Prelude.{Option, Some, None, option_map, bytes_eq}
use Rattle.pt_value.specs.Value.{Value}
use Rattle.pt_value.specs.Token.{value_of}
use Rattle.pt_value.specs.declared.token.Token.{Token}
use Rattle.pt_document.specs.Document.{PropertyTree, property_name}
use Rattle.pt_scopes.specs.declared.names.Names.{Names}
use Rattle.pt_scopes.specs.declared.parameter_value.ParameterValue.{ParameterValue}
use Rattle.pt_scopes.specs.declared.parameter_value.ParameterValue.TheVariants as parameter
use Rattle.pt_scopes.specs.Given.{Held, held_view}
use Rattle.pt_scopes.specs.Given as given
use Rattle.pt_scopes.specs.Names.{held, or_else}
use Rattle.pt_scopes.specs.Scopes.{Bindings, bound, Extends}
use Rattle.pt_scopes.specs.Valued.{AreInTurn}
use Rattle.pt_start.specs.Started.{given_tokens}
use Rattle.pt_start.specs.Frames.{behind, Hold, named_tokens}

pub turn-extends : (ps : List PropertyTree) (vs : List Value) (around inner : Bindings) → AreInTurn around ps vs inner → Extends around ps inner
turn-extends [] [] around inner h = h
turn-extends [] (v ∷ vs) around inner h = absurd h
turn-extends (p ∷ ps) [] around inner h = absurd h
turn-extends (p ∷ ps) (v ∷ vs) around inner h = (Some v, h.0, turn-extends ps vs ((property_name p, Some v) ∷ around) inner h.1)

pub turn-named : (ps : List PropertyTree) (ts : List Token) (around inner : Bindings) → AreInTurn around ps (map value_of ts) inner → inner ≡ behind around (named_tokens ps ts)
turn-named [] [] around inner h = h
turn-named [] (t ∷ ts) around inner h = absurd h
turn-named (p ∷ ps) [] around inner h = absurd h
turn-named (p ∷ ps) (t ∷ ts) around inner h = turn-named ps ts ((property_name p, Some (value_of t)) ∷ around) inner h.1

token-same : (v w : Value) (hs ks : List Held) → given.Token v ∷ hs ≡ given.Token w ∷ ks → (v ≡ w) × (hs ≡ ks)
token-same v w hs ks e = ((cc), (cc))

pub turn-given : (ps : List PropertyTree) (hs : List ParameterValue) (vs : List Value) (around inner : Bindings) → map held_view hs ≡ map given.Token vs → AreInTurn around ps vs inner → inner ≡ behind around (given_tokens ps hs)
turn-given [] hs [] around inner e h = h
turn-given [] hs (v ∷ vs) around inner e h = absurd h
turn-given (p ∷ ps) hs [] around inner e h = absurd h
turn-given (p ∷ ps) [] (v ∷ vs) around inner e h = cc
turn-given (p ∷ ps) (parameter.Token t ∷ hs) (v ∷ vs) around inner e h =
    let same = token-same (value_of t) v (map held_view hs) (map given.Token vs) e in
    turn-given ps hs vs ((property_name p, Some (value_of t)) ∷ around) inner same.1 (subst (λ (w : Value). AreInTurn ((property_name p, Some w) ∷ around) ps vs inner) (sym same.0) h.1)
turn-given (p ∷ ps) (parameter.Tree x ∷ hs) (v ∷ vs) around inner e h = cc
turn-given (p ∷ ps) (parameter.Word ∷ hs) (v ∷ vs) around inner e h = cc

-- ---- one parameter more

behind-snoc : (ps : List (List ℕ × Token)) (around : Bindings) (p : List ℕ × Token) → behind around (ps ++ p ∷ []) ≡ (p.0, Some (value_of p.1)) ∷ behind around ps
behind-snoc [] around p = refl
behind-snoc (q ∷ ps) around p = behind-snoc ps ((q.0, Some (value_of q.1)) ∷ around) p

held-by : (b : Bool) (v : Value) (old : Option Value) (other all : Option (Option Value)) → or_else (option_map Some old) other ≡ all → or_else (option_map Some (if b then Some v else old)) other ≡ (if b then Some (Some v) else all)
held-by true v old other all h = refl
held-by false v old other all h = h

pub hold-more : (names more : Names) (ps : List (List ℕ × Token)) (name : List ℕ) (t : Token) → ((other : List ℕ) → held more other ≡ (if bytes_eq name other then Some (value_of t) else held names other)) → Hold names ps → Hold more (ps ++ (name, t) ∷ [])
hold-more names more ps name t put h around other =
    ap (λ o. or_else (option_map Some o) (bound around other)) (put other)
    ∙ held-by (bytes_eq name other) (value_of t) (held names other) (bound around other) (bound (behind around ps) other) (h around other)
    ∙ ap (λ (bs : Bindings). bound bs other) (sym (behind-snoc ps around (name, t)))

none-else : (o : Option Value) (other : Option (Option Value)) → o ≡ None → or_else (option_map Some o) other ≡ other
none-else o other e = ap (λ p. or_else (option_map Some p) other) e

pub hold-none : (names : Names) → ((name : List ℕ) → held names name ≡ None) → Hold names []
hold-none names none around name = none-else (held names name) (bound around name) (none name)
