-- Parameters in turn, one by one.
use Rattle.std.proofs.Common.{◌≡◌, ℕ, zero, suc, ◌+◌, ◌<◌, ◌≤◌, ◌++◌, List, [], ◌∷◌, length, get_or, take, drop, map, true, false, Some, None, refl, sym, ap, subst, ◌∙◌, add-one, if◌then◌else◌, arith}
use Rattle.std.specs.Prelude.{Option, Bool, option_map}
use Rattle.std.specs.Str.{bytes_eq}
use Rattle.pt_value.specs.Value.{Value}
use Rattle.pt_document.specs.declared.code.Code.{Code}
use Rattle.pt_document.specs.declared.refusal.DocFault.{DocFault}
use Rattle.pt_document.specs.declared.refusal.DocFault.TheVariants as faults
use Rattle.pt_document.specs.Document.{PropertyTree, property_name}
use Rattle.pt_document.specs.declared.job.Property.{Property}
use Rattle.pt_document.specs.View.{property_view, properties_view}
use Rattle.pt_language.specs.Scope.{Scope}
use Rattle.pt_scopes.specs.declared.fault.TextFault.{TextFault}
use Rattle.pt_scopes.specs.declared.fault.TextFault.TheVariants as text
use Rattle.pt_scopes.specs.declared.names.Names.{Names}
use Rattle.pt_scopes.specs.Names.{held, or_else, in_chain}
use Rattle.pt_scopes.specs.TextFault.{IsTold}
use Rattle.pt_scopes.specs.Texts.{HasValue, IsTextFault}
use Rattle.pt_scopes.specs.Scopes.{Bindings, bound, text_of, IsSeenBy, here, later}
use Rattle.pt_scopes.specs.Frames.{Means}
use Rattle.pt_scopes.specs.Valued.{AreInTurn}
use Rattle.pt_scopes.specs.Told.{IsToldAs, IsToldAt, MeansWith, IsTurn, IsFaultInTurn}

-- ---- what is told

pub told_at : (path : List ℕ) (Stands : Code → Type 0) (fault : TextFault) (told : DocFault) → IsTold Stands fault → IsToldAs path fault told → IsToldAt path Stands told
told_at path Stands (text.Refused cause) faults.Memory h is = tt
told_at path Stands (text.Refused cause) (faults.Refused r) h is = (ap (λ s. s.path) is, subst Stands (sym (ap (λ s. s.code) is)) h)
told_at path Stands text.Memory told h is = subst (IsToldAt path Stands) (sym is) tt

pub told_weaker : (path : List ℕ) (P Q : Code → Type 0) → ((cause : Code) → P cause → Q cause) → (told : DocFault) → IsToldAt path P told → IsToldAt path Q told
told_weaker path P Q go faults.Memory h = tt
told_weaker path P Q go (faults.Refused r) h = (h.0, go r.code h.1)

-- ---- lists

pub view-split : {X Y : Type 0} (f : X → Y) (xs : List X) (i : ℕ) (x : X) → i < length xs → x ≡ get_or xs i x → map f xs ≡ map f (take i xs) ++ f x ∷ map f (drop (suc i) xs)
view-split f [] i x short is = absurd (omega arith)
view-split f (y ∷ ys) zero x short is = ap (λ z. f z ∷ map f ys) (sym is)
view-split f (y ∷ ys) (suc i) x short is = ap (λ zs. f y ∷ zs) (view-split f ys i x (omega arith) is)

pub view-take : {X Y : Type 0} (f : X → Y) (xs : List X) (i : ℕ) (x : X) → i < length xs → x ≡ get_or xs i x → map f (take (suc i) xs) ≡ map f (take i xs) ++ f x ∷ []
view-take f [] i x short is = absurd (omega arith)
view-take f (y ∷ ys) zero x short is = ap (λ z. f z ∷ []) (sym is)
view-take f (y ∷ ys) (suc i) x short is = ap (λ zs. f y ∷ zs) (view-take f ys i x (omega arith) is)

pub view-push : {X Y : Type 0} (f : X → Y) (xs : List X) (x : X) → map f (xs ++ x ∷ []) ≡ map f xs ++ f x ∷ []
view-push f [] x = refl
view-push f (y ∷ ys) x = ap (λ zs. f y ∷ zs) (view-push f ys x)

-- ---- one parameter more

pub turn-more : (around : Bindings) (ps : List PropertyTree) (vs : List Value) (inner : Bindings) (p : PropertyTree) (v : Value) → AreInTurn around ps vs inner → HasValue (bound inner) (text_of p) v → AreInTurn around (ps ++ p ∷ []) (vs ++ v ∷ []) ((property_name p, Some v) ∷ inner)
turn-more around [] [] inner p v h w = (subst (λ (bs : Bindings). HasValue (bound bs) (text_of p) v) h w, ap (λ (bs : Bindings). (property_name p, Some v) ∷ bs) h)
turn-more around [] (x ∷ vs) inner p v h w = absurd h
turn-more around (q ∷ ps) [] inner p v h w = absurd h
turn-more around (q ∷ ps) (x ∷ vs) inner p v h w = (h.0, turn-more ((property_name q, Some x) ∷ around) ps vs inner p v h.1 w)

-- the next one sees those before it
pub seen-next : (around : Bindings) (ps : List PropertyTree) (vs : List Value) (inner : Bindings) (p : PropertyTree) (rest : List PropertyTree) → AreInTurn around ps vs inner → IsSeenBy p inner around (ps ++ p ∷ rest)
seen-next around [] [] inner p rest h = subst (λ (bs : Bindings). IsSeenBy p inner bs (p ∷ rest)) h (here rest)
seen-next around [] (x ∷ vs) inner p rest h = absurd h
seen-next around (q ∷ ps) [] inner p rest h = absurd h
seen-next around (q ∷ ps) (x ∷ vs) inner p rest h = later around q (ps ++ p ∷ rest) (Some x) h.0 (seen-next ((property_name q, Some x) ∷ around) ps vs inner p rest h.1)

means-by : (b : Bool) (v : Value) (old other : Option Value) (o : Option (Option Value)) → option_map Some (or_else old other) ≡ o → option_map Some (or_else (if b then Some v else old) other) ≡ (if b then Some (Some v) else o)
means-by true v old other o h = refl
means-by false v old other o h = h

pub means-more : (own own' : Names) (frames : List Names) (chain : List ℕ) (inner : Bindings) (name : List ℕ) (v : Value) → ((other : List ℕ) → held own' other ≡ (if bytes_eq name other then Some v else held own other)) → MeansWith own frames chain inner → MeansWith own' frames chain ((name, Some v) ∷ inner)
means-more own own' frames chain inner name v put h other =
    ap (λ o. option_map Some (or_else o (in_chain frames chain other))) (put other)
    ∙ means-by (bytes_eq name other) v (held own other) (in_chain frames chain other) (bound inner other) (h other)

-- at first nothing but what is round the composite
pub means-first : (own : Names) (frames : List Names) (chain : List ℕ) (around : Bindings) → ((name : List ℕ) → held own name ≡ None) → Means frames chain around → MeansWith own frames chain around
means-first own frames chain around none h name = ap (λ o. option_map Some (or_else o (in_chain frames chain name))) (none name) ∙ h name

pub fault-next : (around : Bindings) (ps : List PropertyTree) (vs : List Value) (inner : Bindings) (p : PropertyTree) (rest all : List PropertyTree) → all ≡ ps ++ p ∷ rest → AreInTurn around ps vs inner → (scope : Scope) → scope ≡ bound inner → (cause : Code) → IsTextFault scope (text_of p) cause → IsFaultInTurn around all cause
fault-next around ps vs inner p rest all is turn scope same cause h = record {
  property = p;
  seen = inner;
  seen_by = subst (λ qs. IsSeenBy p inner around qs) (sym is) (seen-next around ps vs inner p rest turn);
  fault = subst (λ (s : Scope). IsTextFault s (text_of p) cause) same h;
}

pub turn-first : (around : Bindings) (frames : List Names) (chain : List ℕ) (own : Names) (vs : List Value) → ((name : List ℕ) → held own name ≡ None) → vs ≡ [] → Means frames chain around → IsTurn around [] frames chain own vs
turn-first around frames chain own vs none e h = record {
  inner = around;
  in_turn = subst (λ us. AreInTurn around [] us around) (sym e) refl;
  means = means-first own frames chain around none h;
}

module _ (around : Bindings) (frames : List Names) (chain : List ℕ) (ps : List Property) (i : ℕ) (p : Property) (own : Names) (vs : List Value) (words : List ℕ) (short : i < length ps) (is : p ≡ get_or ps i p) (turn : IsTurn around (properties_view (take i ps)) frames chain own vs) (says : words ≡ text_of (property_view p)) where
  abbrev scope : Scope
  scope name = option_map Some (or_else (held own name) (in_chain frames chain name))

  scope-of : scope ≡ bound turn.inner
  scope-of = λ j name. turn.means name j

  pub turn-step : (own' : Names) (vs' : List Value) (v : Value) (name : List ℕ) → name ≡ property_name (property_view p) → HasValue scope words v → ((other : List ℕ) → held own' other ≡ (if bytes_eq name other then Some v else held own other)) → vs' ≡ vs ++ v ∷ [] → IsTurn around (properties_view (take (i + 1) ps)) frames chain own' vs'
  turn-step own' vs' v name named has put e =
      let q = property_view p in
      let value : HasValue (bound turn.inner) (text_of q) v = subst (λ (s : Scope). HasValue s (text_of q) v) scope-of (subst (λ ws. HasValue scope ws v) says has) in
      let more : properties_view (take (i + 1) ps) ≡ properties_view (take i ps) ++ q ∷ [] = ap (λ k. properties_view (take k ps)) (add-one i) ∙ view-take property_view ps i p short is in
      let inner' : Bindings = (property_name q, Some v) ∷ turn.inner in
      let means : MeansWith own' frames chain ((name, Some v) ∷ turn.inner) = means-more own own' frames chain turn.inner name v put turn.means in
      record {
        inner = inner';
        in_turn = subst (λ (us : List Value). AreInTurn around (properties_view (take (i + 1) ps)) us inner') (sym e) (subst (λ (qs : List PropertyTree). AreInTurn around qs (vs ++ v ∷ []) inner') (sym more) (turn-more around (properties_view (take i ps)) vs turn.inner q v turn.in_turn value));
        means = subst (λ n. MeansWith own' frames chain ((n, Some v) ∷ turn.inner)) named means;
      }

  pub turn-fault : (path : List ℕ) (told : DocFault) → IsToldAt path (IsTextFault scope words) told → IsToldAt path (IsFaultInTurn around (properties_view ps)) told
  turn-fault path told h =
      told_weaker path (IsTextFault scope words) (IsFaultInTurn around (properties_view ps))
      (λ cause f. fault-next around (properties_view (take i ps)) vs turn.inner (property_view p) (properties_view (drop (suc i) ps)) (properties_view ps) (view-split property_view ps i p short is) turn.in_turn scope scope-of cause (subst (λ ws. IsTextFault scope ws cause) says f))
      told h

take-all : {X : Type 0} (xs : List X) (i : ℕ) → length xs ≤ i → take i xs ≡ xs
take-all [] zero h = refl
take-all [] (suc i) h = refl
take-all (x ∷ xs) zero h = absurd (omega arith)
take-all (x ∷ xs) (suc i) h = ap (λ ys. x ∷ ys) (take-all xs i (omega arith))

pub view-all : {X Y : Type 0} (f : X → Y) (xs : List X) (i : ℕ) → length xs ≤ i → map f (take i xs) ≡ map f xs
view-all f xs i h = ap (map f) (take-all xs i h)

pub turn-last : (around : Bindings) (frames : List Names) (chain : List ℕ) (ps : List Property) (i : ℕ) (own : Names) (vs : List Value) → length ps ≤ i → IsTurn around (properties_view (take i ps)) frames chain own vs → IsTurn around (properties_view ps) frames chain own vs
turn-last around frames chain ps i own vs h turn = subst (λ (qs : List PropertyTree). IsTurn around qs frames chain own vs) (view-all property_view ps i h) turn
