-- A meeting keeps what it has no part in, and firings keep what is at rest.
use Rattle.std.proofs.Common.{◌≡◌, ℕ, zero, suc, List, [], ◌∷◌, ◌++◌, Bool, true, ◌&&◌, Option, Some, None, refl, ap, ap₂, arith, inl, inr, ◌∙◌}
use Rattle.pt_meaning.specs.Basics.{Tag, at, Meeting, Channel, Barrier}
use Rattle.pt_meaning.specs.Machine.{Stepping, Facts}
use Rattle.pt_meaning.specs.Rounds.{Source, Own, Output, Net}
use Rattle.pt_meaning.specs.Modal.{get, change_at}
use Rattle.pt_meaning.specs.Process.{Party, advanced, all_advanced, gets_at, is_joining, rest_of, with_put_made, with_token}
use Rattle.pt_meaning.specs.Rendezvous.{settled}
use Rattle.pt_meaning.specs.Meetings.{Scene, waiting, first_on, offers, all_there, Target, Place, Outlet, target_from, receives, Hop, hops_in, is_received, sent, received, passed, meet, Role, Child, Inlet, sender_role, receiver_role, roles_in, parties_of, HasRole}
use Rattle.pt_laws.specs.Promises.{LegalStays}
use Rattle.pt_laws.proofs.RoundLaws.{grows-refl}
use Rattle.pt_laws.proofs.KahnLaws.{and-left, and-right}
use Rattle.pt_laws.proofs.MeetingLaws.{AllAhead, legal-stays, puts-same, next-same}

get-other : {A : Type 0} (f : A → A) (j i : ℕ) (xs : List A) → (i ≡ j → ⊥) → get (change_at j f xs) i ≡ get xs i
get-other f j i [] d = refl
get-other f zero zero (x ∷ xs) d = absurd (d refl)
get-other f zero (suc i) (x ∷ xs) d = refl
get-other f (suc j) zero (x ∷ xs) d = refl
get-other f (suc j) (suc i) (x ∷ xs) d = get-other f j i xs (λ e. d (ap (λ n. suc n) e))

at-other : {A : Type 0} (f : List A → List A) (j i : ℕ) (xs : List (List A)) → (i ≡ j → ⊥) → at (change_at j f xs) i ≡ at xs i
at-other f j i [] d = refl
at-other f zero zero (x ∷ xs) d = absurd (d refl)
at-other f zero (suc i) (x ∷ xs) d = refl
at-other f (suc j) zero (x ∷ xs) d = refl
at-other f (suc j) (suc i) (x ∷ xs) d = at-other f j i xs (λ e. d (ap (λ n. suc n) e))

has-left : (r : Role) (xs ys : List Role) → HasRole r xs → HasRole r (xs ++ ys)
has-left r [] ys h = absurd h
has-left r (x ∷ xs) ys (inl e) = inl e
has-left r (x ∷ xs) ys (inr h) = inr (has-left r xs ys h)

has-right : (r : Role) (xs ys : List Role) → HasRole r ys → HasRole r (xs ++ ys)
has-right r [] ys h = h
has-right r (x ∷ xs) ys h = inr (has-right r xs ys h)

-- what those who take no part have is the same
pub record Untouched {T S : Type 0} (roles : List Role) (a b : Scene T S) : Type 0 where
  pub child : (i : ℕ) → (HasRole (Child i) roles → ⊥) → get b.parties i ≡ get a.parties i
  pub inlet : (j : ℕ) → (HasRole (Inlet j) roles → ⊥) → at b.inputs j ≡ at a.inputs j

sent-untouched : {T S : Type 0} (o : Option Source) (sc : Scene T S) → Untouched (sender_role o) sc (sent o sc)
sent-untouched None sc = record { child = λ i d. refl; inlet = λ j d. refl }
sent-untouched (Some (Own x)) sc = record { child = λ i d. refl; inlet = λ j d. at-other rest_of x j sc.inputs (λ e. d (inl (ap (λ n. Inlet n) e))) }
sent-untouched (Some (Output x p)) sc = record { child = λ i d. get-other with_put_made x i sc.parties (λ e. d (inl (ap (λ n. Child n) e))); inlet = λ j d. refl }

received-untouched : {T S : Type 0} (x : T) (t : Target) (sc : Scene T S) → Untouched (receiver_role t) sc (received x t sc)
received-untouched x (Place y q) sc = record { child = λ i d. get-other (with_token q x) y i sc.parties (λ e. d (inl (ap (λ n. Child n) e))); inlet = λ j d. refl }
received-untouched x (Outlet o) sc = record { child = λ i d. refl; inlet = λ j d. refl }

passed-untouched : {T S : Type 0} (net : Net) (hs : List Hop) (xs : List (Option T)) (sc : Scene T S) → Untouched (roles_in net hs) sc (passed net hs xs sc)
passed-untouched net [] xs sc = record { child = λ i d. refl; inlet = λ j d. refl }
passed-untouched net (h ∷ hs) [] sc = record { child = λ i d. refl; inlet = λ j d. refl }
passed-untouched net (h ∷ hs) (None ∷ xs) sc = record { child = λ i d. refl; inlet = λ j d. refl }
passed-untouched {T} {S} net (h ∷ hs) (Some x ∷ xs) sc =
    let o : Option Source = get net.sources h.channel in
    let a : Scene T S = sent o sc in
    let b : Scene T S = received x h.target a in
    let u = sent-untouched o sc in
    let v = received-untouched x h.target a in
    let w = passed-untouched net hs xs b in
    record {
      child = λ i d.
          w.child i (λ k. d (has-right _ (sender_role o) _ (has-right _ (receiver_role h.target) _ k))) ∙
          v.child i (λ k. d (has-right _ (sender_role o) _ (has-left _ (receiver_role h.target) (roles_in net hs) k))) ∙
          u.child i (λ k. d (has-left _ (sender_role o) (receiver_role h.target ++ roles_in net hs) k));
      inlet = λ j d.
          w.inlet j (λ k. d (has-right _ (sender_role o) _ (has-right _ (receiver_role h.target) _ k))) ∙
          v.inlet j (λ k. d (has-right _ (sender_role o) _ (has-left _ (receiver_role h.target) (roles_in net hs) k))) ∙
          u.inlet j (λ k. d (has-left _ (sender_role o) (receiver_role h.target ++ roles_in net hs) k));
    }

roles-within : (net : Net) (m : Meeting) (r : Role) → HasRole r (roles_in net (hops_in net m)) → HasRole r (parties_of net m)
roles-within net (Channel c) r h = h
roles-within net (Barrier b) r h = inr h

-- what a meeting looks at is what its parties have
waiting-same : {T S : Type 0} (roles : List Role) (a b : Scene T S) → Untouched roles a b → (o : Option Source) → ((r : Role) → HasRole r (sender_role o) → HasRole r roles → ⊥) → waiting b o ≡ waiting a o
waiting-same roles a b u None d = refl
waiting-same roles a b u (Some (Own j)) d = u.inlet j (d (Inlet j) (inl refl))
waiting-same roles a b u (Some (Output i p)) d = puts-same a.parties b.parties i (u.child i (d (Child i) (inl refl)))

offers-same : {T S : Type 0} (net : Net) (roles : List Role) (a b : Scene T S) → Untouched roles a b → (hs : List Hop) → ((r : Role) → HasRole r (roles_in net hs) → HasRole r roles → ⊥) → offers net b hs ≡ offers net a hs
offers-same net roles a b u [] d = refl
offers-same net roles a b u (h ∷ hs) d =
    ap₂ (λ x xs. x ∷ xs) (ap (λ us. first_on h.channel us) (waiting-same roles a b u (get net.sources h.channel) (λ r k. d r (has-left r (sender_role (get net.sources h.channel)) _ k))))
    (offers-same net roles a b u hs (λ r k. d r (has-right r (sender_role (get net.sources h.channel)) _ (has-right r (receiver_role h.target) _ k))))

received-same : {T S : Type 0} (facts : Facts T S) (net : Net) (roles : List Role) (a b : Scene T S) → Untouched roles a b → (m : Meeting) → ((r : Role) → HasRole r (parties_of net m) → HasRole r roles → ⊥) → is_received facts net b.parties m ≡ is_received facts net a.parties m
received-same facts net roles a b u (Channel c) d = go (target_from 0 net.places c) (λ r k. d r (has-right r (sender_role (get net.sources c)) _ (has-left r (receiver_role (target_from 0 net.places c)) [] k)))
  where
    go : (t : Target) → ((r : Role) → HasRole r (receiver_role t) → HasRole r roles → ⊥) → receives facts b.parties t ≡ receives facts a.parties t
    go (Place i q) d = ap (λ n. gets_at q n) (next-same facts a.parties b.parties i (u.child i (d (Child i) (inl refl))))
    go (Outlet o) d = refl
received-same facts net roles a b u (Barrier x) d = ap is_joining (next-same facts a.parties b.parties x (u.child x (d (Child x) (inl refl))))

all-from-here : {T S : Type 0} (facts : Facts T S) (step : Stepping T S) (tag : Tag) (sources : List Source) (k i : ℕ) (ps : List (Party T S)) → AllAhead facts step step tag (grows-refl step) sources i ps (all_advanced facts step tag sources k i ps)
unfolding advanced
all-from-here facts step tag sources k i [] = tt
all-from-here facts step tag sources k i (p ∷ ps) = (record { origin = p; few = 0; many = k; order = omega arith; here = refl; there = refl }, all-from-here facts step tag sources k (suc i) ps)

pub legal_stays : {T S : Type 0} → LegalStays T S
legal_stays {T} {S} facts step tag net k n sc m other e d =
    let b : Scene T S = meet net n other sc in
    let u = passed-untouched net (hops_in net other) (offers net sc (hops_in net other)) sc in
    let v : Untouched (roles_in net (hops_in net other)) sc b = record { child = u.child; inlet = u.inlet } in
    let away : (r : Role) → HasRole r (parties_of net m) → HasRole r (roles_in net (hops_in net other)) → ⊥ = λ r h x. d r h (roles-within net other r x) in
    let o : offers net b (hops_in net m) ≡ offers net sc (hops_in net m) = offers-same net (roles_in net (hops_in net other)) sc b v (hops_in net m) (λ r h. away r (roles-within net m r h)) in
    let w : is_received facts net b.parties m ≡ is_received facts net sc.parties m = received-same facts net (roles_in net (hops_in net other)) sc b v m away in
    legal-stays facts step step tag (grows-refl step) net k k n (omega arith) b (settled facts step tag net k n b)
    (record { parties = all-from-here facts step tag net.sources k 0 b.parties; inputs = refl; outputs = refl; met = refl }) m
    (both _ _ (ap all_there o ∙ and-left _ _ e) (w ∙ and-right _ _ e))
  where
    both : (x y : Bool) → x ≡ true → y ≡ true → (x && y) ≡ true
    both x y p q = rw (p, q) refl
