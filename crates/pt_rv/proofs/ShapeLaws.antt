-- What stays of processes as tokens pass: which are Barriers, what they need, how many places they have, and whether they have handed over what they gathered.
use Rattle.std.proofs.Common.{◌≡◌, ℕ, zero, suc, ◌<◌, List, [], ◌∷◌, ◌++◌, false, nat_eq, length, get_or, Option, Some, None, refl, sym, ap, subst, ◌∙◌, arith}
use Rattle.pt_meaning.specs.Streams.{get, change_at}
use Rattle.pt_meaning.specs.Meetings.{Target, Place, Outlet}
use Rattle.pt_meaning.specs.Net.{Net, Source, Own, Output}
use Rattle.pt_value.specs.declared.token.Token.{Token}
use Rattle.pt_rv_work.specs.Core.{Standing, Moving, nobody, barriers_of, sent_by, received_by, passed_to, with_token, with_put_made}
use Rattle.pt_rv_parts.specs.Process.{MayTake, TakesAt}
use Rattle.pt_rv_parts.specs.Team.{NoneHanded}
use Rattle.pt_rv_parts.proofs.ListLaws.{change-at, change-other, change-long, map-kept}

-- one process and another that differ at most in what they gathered, and in their puts
pub record Like (p q : Standing Token) : Type 0 where
  pub barrier : q.barrier ≡ p.barrier
  pub need : q.need ≡ p.need
  pub places : length q.got ≡ length p.got
  pub handed : q.handed ≡ p.handed

pub record SameShape (ps qs : List (Standing Token)) : Type 0 where
  pub long : length qs ≡ length ps
  pub barriers : barriers_of qs ≡ barriers_of ps
  pub like : (i : ℕ) → Like (get_or ps i nobody) (get_or qs i nobody)

like-self : (p : Standing Token) → Like p p
like-self p = record { barrier = refl; need = refl; places = refl; handed = refl }

like-then : (p q r : Standing Token) → Like p q → Like q r → Like p r
like-then p q r a b = record { barrier = b.barrier ∙ a.barrier; need = b.need ∙ a.need; places = b.places ∙ a.places; handed = b.handed ∙ a.handed }

pub shape-self : (ps : List (Standing Token)) → SameShape ps ps
shape-self ps = record { long = refl; barriers = refl; like = λ i. like-self (get_or ps i nobody) }

pub shape-then : (ps qs rs : List (Standing Token)) → SameShape ps qs → SameShape qs rs → SameShape ps rs
shape-then ps qs rs a b = record { long = b.long ∙ a.long; barriers = b.barriers ∙ a.barriers; like = λ i. like-then (get_or ps i nobody) (get_or qs i nobody) (get_or rs i nobody) (a.like i) (b.like i) }

shape-change : (ps : List (Standing Token)) (i : ℕ) (g : Standing Token → Standing Token) → ((p : Standing Token) → Like p (g p)) → SameShape ps (change_at i g ps)
shape-change ps i g h = record {
  long = change-long ps i g;
  barriers = map-kept (λ (p : Standing Token). p.barrier) g ps i (λ p. (h p).barrier);
  like = λ j. by ps i j;
}
  where
    by : (ps : List (Standing Token)) (i j : ℕ) → Like (get_or ps j nobody) (get_or (change_at i g ps) j nobody)
    by [] i j = like-self (get_or [] j nobody)
    by (p ∷ ps) zero zero = h p
    by (p ∷ ps) zero (suc j) = like-self (get_or ps j nobody)
    by (p ∷ ps) (suc i) zero = like-self p
    by (p ∷ ps) (suc i) (suc j) = by ps i j

put-like : (p : Standing Token) → Like p (with_put_made p)
put-like p = record { barrier = refl; need = refl; places = refl; handed = refl }

token-like : (place : ℕ) (x : Token) (p : Standing Token) → Like p (with_token place x p)
token-like place x p = record { barrier = refl; need = refl; places = change-long p.got place (λ xs. xs ++ (x ∷ [])); handed = refl }

pub sent-shape : (o : Option Source) (w : Moving Token) → SameShape w.processes (sent_by o w).processes
sent-shape None w = shape-self w.processes
sent-shape (Some (Own j)) w = shape-self w.processes
sent-shape (Some (Output i port)) w = shape-change w.processes i with_put_made put-like

pub received-shape : (t : Target) (x : Token) (w : Moving Token) → SameShape w.processes (received_by x t w).processes
received-shape (Place i place) x w = shape-change w.processes i (with_token place x) (token-like place x)
received-shape (Outlet o) x w = shape-self w.processes

pub passed-shape : (net : Net) (c : ℕ) (t : Target) (x : Token) (w : Moving Token) → SameShape w.processes (passed_to net c t x w).processes
passed-shape net c t x w = shape-then w.processes (sent_by (get net.sources c) w).processes (passed_to net c t x w).processes (sent-shape (get net.sources c) w) (received-shape t x (sent_by (get net.sources c) w))

pub shape-free : (ps qs : List (Standing Token)) → SameShape ps qs → NoneHanded ps → NoneHanded qs
shape-free ps qs s h i = (s.like i).handed ∙ h i

-- what is gathered
pub sent-got : (o : Option Source) (w : Moving Token) (i : ℕ) → (get_or (sent_by o w).processes i nobody).got ≡ (get_or w.processes i nobody).got
sent-got None w i = refl
sent-got (Some (Own j)) w i = refl
sent-got (Some (Output k port)) w i = by w.processes k i
  where
    by : (ps : List (Standing Token)) (k i : ℕ) → (get_or (change_at k with_put_made ps) i nobody).got ≡ (get_or ps i nobody).got
    by [] k i = refl
    by (p ∷ ps) zero zero = refl
    by (p ∷ ps) zero (suc i) = refl
    by (p ∷ ps) (suc k) zero = refl
    by (p ∷ ps) (suc k) (suc i) = by ps k i

-- a token that comes to a place is gathered there, and nothing else is
pub passed-here : (net : Net) (c b q : ℕ) (x : Token) (w : Moving Token) → b < length w.processes → (get_or (passed_to net c (Place b q) x w).processes b nobody).got ≡ change_at q (λ xs. xs ++ (x ∷ [])) (get_or w.processes b nobody).got
passed-here net c b q x w h =
    let n = (sent-shape (get net.sources c) w).long in
    ap (λ (p : Standing Token). p.got) (change-at (sent_by (get net.sources c) w).processes b nobody (with_token q x) (omega (arith, h, n))) ∙ ap (λ X. change_at q (λ xs. xs ++ (x ∷ [])) X) (sent-got (get net.sources c) w b)

pub passed-there : (net : Net) (c b q : ℕ) (x : Token) (w : Moving Token) (i : ℕ) → nat_eq b i ≡ false → (get_or (passed_to net c (Place b q) x w).processes i nobody).got ≡ (get_or w.processes i nobody).got
passed-there net c b q x w i z = ap (λ (p : Standing Token). p.got) (change-other (sent_by (get net.sources c) w).processes b i nobody (with_token q x) z) ∙ sent-got (get net.sources c) w i

pub passed-out : (net : Net) (c o : ℕ) (x : Token) (w : Moving Token) (i : ℕ) → (get_or (passed_to net c (Outlet o) x w).processes i nobody).got ≡ (get_or w.processes i nobody).got
passed-out net c o x w i = sent-got (get net.sources c) w i

-- a token may still come to a place
pub takes-still : (o : Option Source) (w : Moving Token) (qs : List (Standing Token)) (i place : ℕ) → qs ≡ (sent_by o w).processes → MayTake (get_or w.processes i nobody) place → MayTake (get_or qs i nobody) place
takes-still o w qs i place e m =
    let l = (sent-shape o w).like i in
    let g = sent-got o w i in
    subst (λ v. MayTake (get_or v i nobody) place) (sym e) (record {
      gathers = l.handed ∙ m.gathers;
      there = subst (λ X. place < length X) (sym g) m.there;
      takes = subst (λ X. TakesAt (get_or (sent_by o w).processes i nobody).barrier (get_or (sent_by o w).processes i nobody).need X place) (sym g)
          (subst (λ n. TakesAt (get_or (sent_by o w).processes i nobody).barrier n (get_or w.processes i nobody).got place) (sym l.need) (subst (λ b. TakesAt b (get_or w.processes i nobody).need (get_or w.processes i nobody).got place) (sym l.barrier) m.takes));
    })
