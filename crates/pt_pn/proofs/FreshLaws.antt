-- The processes and channels of a network at their start.
use Rattle.std.proofs.Common.{◌≡◌, ℕ, zero, suc, ◌+◌, ◌<◌, ◌≤◌, List, [], ◌∷◌, ◌++◌, length, map, set, take, get_or, replicate, ◌-◌, Option, None, append-nil, append_assoc, length-append, length-set, add-one, refl, sym, ap, ap₂, subst, ◌∙◌, arith}
use Rattle.std.proofs.lemmas.List.{length-replicate, length-take-le, replicate-append-replicate, get_or_at, set_at, take_all, take_more}
use Rattle.std.proofs.Math.ListN.{get_or-map}
use Rattle.pt_meaning.specs.Tag.{origin}
use Rattle.pt_meaning.specs.Streams.{Streams}
use Rattle.pt_meaning.specs.Machine.{Need, Over}
use Rattle.pt_meaning.specs.Process.{Put, emptied}
use Rattle.pt_meaning.specs.Running.{total}
use Rattle.pt_recv.specs.Lines.{list_at, pushed}
use Rattle.pt_recv.proofs.LineLaws.{changed-again}
use Rattle.pt_value.specs.declared.token.Token.{Token}
use Rattle.pt_pn_laws.specs.State.{Network, Idle, first_capacities, started}
use Rattle.pt_pn_laws.specs.Lawful.{HasPlaces}
use Rattle.pt_process.specs.Plan.{network_of, IsSoundNetwork}
use Rattle.pt_process.specs.declared.plan.CorePlan.{CorePlan}
use Rattle.pt_process.specs.Process.{Standing, at_start, need_in}
use Rattle.pt_puts.proofs.LineLaws.{emptied-is}
use Rattle.pt_pn_work.specs.Core.{State, nobody, needs_of, puts_of_all, gathered_of, state_with, staged_on, ArePlaced, NoneHanded}
use Rattle.pt_pn.specs.Fresh.{starting}
use Rattle.pt_pn.specs.Core.{IsKept}

starting-needs : (ms : List Need) (ns : List ℕ) → length ms ≡ length ns → needs_of (starting ms ns) ≡ ms
starting-needs [] ns e = refl
starting-needs (m ∷ ms) [] e = absurd (omega (arith, e))
starting-needs (m ∷ ms) (n ∷ ns) e = ap (λ v. m ∷ v) (starting-needs ms ns (omega (arith, e)))

starting-gathered : (ms : List Need) (ns : List ℕ) → length ms ≡ length ns → gathered_of (starting ms ns) ≡ replicate (total ns) []
starting-gathered [] [] e = refl
starting-gathered [] (n ∷ ns) e = absurd (omega (arith, e))
starting-gathered (m ∷ ms) [] e = absurd (omega (arith, e))
starting-gathered (m ∷ ms) (n ∷ ns) e = ap (λ (v : Streams Token). replicate n [] ++ v) (starting-gathered ms ns (omega (arith, e))) ∙ replicate-append-replicate n (total ns) []

starting-puts : (ms : List Need) (ns : List ℕ) → length ms ≡ length ns → puts_of_all (starting ms ns) ≡ map (λ places. []) ns
starting-puts [] [] e = refl
starting-puts [] (n ∷ ns) e = absurd (omega (arith, e))
starting-puts (m ∷ ms) [] e = absurd (omega (arith, e))
starting-puts (m ∷ ms) (n ∷ ns) e = ap (λ (v : List (List (Put Token))). [] ∷ v) (starting-puts ms ns (omega (arith, e)))

starting-placed : (ms : List Need) (ns : List ℕ) → length ms ≡ length ns → ArePlaced ns (starting ms ns)
starting-placed [] [] e = tt
starting-placed [] (n ∷ ns) e = absurd (omega (arith, e))
starting-placed (m ∷ ms) [] e = absurd (omega (arith, e))
starting-placed (m ∷ ms) (n ∷ ns) e = (length-replicate n [], starting-placed ms ns (omega (arith, e)))

pub starting-handed : (ms : List Need) (ns : List ℕ) → NoneHanded (starting ms ns)
starting-handed [] ns i = refl
starting-handed (m ∷ ms) [] i = refl
starting-handed (m ∷ ms) (n ∷ ns) zero = refl
starting-handed (m ∷ ms) (n ∷ ns) (suc i) = starting-handed ms ns i

starting-need : (ms : List Need) (ns : List ℕ) (i : ℕ) → length ms ≡ length ns → (get_or (starting ms ns) i nobody).need ≡ get_or ms i Over
starting-need [] ns i e = refl
starting-need (m ∷ ms) [] i e = absurd (omega (arith, e))
starting-need (m ∷ ms) (n ∷ ns) zero e = refl
starting-need (m ∷ ms) (n ∷ ns) (suc i) e = starting-need ms ns i (omega (arith, e))

starting-staged : (d : ℕ) (ms : List Need) (ns : List ℕ) → staged_on d (puts_of_all (starting ms ns)) ≡ 0
starting-staged d [] ns = refl
starting-staged d (m ∷ ms) [] = refl
starting-staged d (m ∷ ms) (n ∷ ns) = let r = starting-staged d ms ns in omega (arith, r)

no-more : (m d : ℕ) → get_or {A = ℕ} (replicate {A = ℕ} m 0) d 0 ≡ 0
no-more zero d = refl
no-more (suc m) zero = refl
no-more (suc m) (suc d) = no-more m d

pub first-long : (initial : ℕ) (X : Streams Token) → length (first_capacities initial X) ≡ length X
first-long initial [] = refl
first-long initial (xs ∷ X) = ap (λ n. suc n) (first-long initial X)

-- the need of a process, as it is read
pub mapped-need : (starts : List (Option (List ℕ))) (k : ℕ) (x : Option (List ℕ)) → k < length starts → x ≡ get_or starts k x → need_in x ≡ get_or (map need_in starts) k Over
mapped-need [] k x h e = absurd (omega (arith, h))
mapped-need (y ∷ starts) zero x h e = ap need_in e
mapped-need (y ∷ starts) (suc k) x h e = mapped-need starts k x (omega (arith, h)) e

-- one token more is copied to a channel
pub filled-long : (L A : Streams Token) (c : ℕ) (xs : List Token) → A ≡ set L c xs → c < length L → c < length A
filled-long L A c xs e h = let l = ap (λ v. length v) e ∙ length-set L c xs in omega (arith, l, h)

pub copied-more : (L A B C : Streams Token) (c k : ℕ) (ts : List Token) (t x : Token) → k < length ts → t ≡ get_or ts k t → x ≡ t → A ≡ set L c (list_at L c ++ take k ts) → B ≡ A → C ≡ pushed B c x → C ≡ set L c (list_at L c ++ take (k + 1) ts)
copied-more L A B C c k ts t x h e z a b p =
    changed-again C A L c [] (list_at L c ++ take k ts) (list_at L c ++ take (k + 1) ts) a (λ v. v ++ (x ∷ [])) (p ∙ ap (λ v. pushed v c x) b)
    (append_assoc (list_at L c) (take k ts) (x ∷ []) ∙ ap (λ v. list_at L c ++ v) (ap (λ y. take k ts ++ (y ∷ [])) (z ∙ e) ∙ sym (take_more ts k t h)))

-- one channel more has its first tokens
pub filled-more : (first X : Streams Token) (k m : ℕ) (xs : List Token) → k < length first → length first ≡ m → xs ≡ list_at first k → X ≡ take k first ++ replicate (m - k) [] → set X k (list_at X k ++ xs) ≡ take (k + 1) first ++ replicate (m - (k + 1)) []
filled-more first X k m xs h l e f =
    ap (λ Y. set Y k (list_at Y k ++ xs)) (f ∙ ap (λ n. take k first ++ replicate n []) (split k m (omega (arith, h, l)))) ∙
    ap (λ ys. set (take k first ++ ([] ∷ replicate (m - (k + 1)) [])) k (ys ++ xs)) (get_or_at (take k first) [] (replicate (m - (k + 1)) []) [] k (length-take-le k first (omega (arith, h)))) ∙
    set_at (take k first) [] (replicate (m - (k + 1)) []) xs k (length-take-le k first (omega (arith, h))) ∙
    ap (λ ys. take k first ++ (ys ∷ replicate (m - (k + 1)) [])) e ∙
    joined (take k first) (list_at first k) (replicate (m - (k + 1)) []) ∙
    ap (λ Y. Y ++ replicate (m - (k + 1)) []) (sym (take_more first k [] h))
  where
    split : (k m : ℕ) → k < m → m - k ≡ suc (m - (k + 1))
    split k m h = omega (arith, h)

    joined : (F : Streams Token) (x : List Token) (Y : Streams Token) → F ++ (x ∷ Y) ≡ (F ++ (x ∷ [])) ++ Y
    joined [] x Y = refl
    joined (f ∷ F) x Y = ap (λ v. f ∷ v) (joined F x Y)

pub filled-count : (first X : Streams Token) (k : ℕ) → k < length first → X ≡ take k first ++ replicate (length first - k) [] → length X ≡ length first
filled-count first X k h e =
    let a = ap (λ v. length v) e ∙ length-append (take k first) (replicate (length first - k) []) in
    let b = length-take-le k first (omega (arith, h)) in
    let d = length-replicate {A = List Token} (length first - k) [] in
    omega (arith, a, b, d, h)

pub filled-all : (first X : Streams Token) (k m : ℕ) → length first ≡ m → m ≤ k → X ≡ take k first ++ replicate (m - k) [] → X ≡ first
filled-all first X k m l h e = e ∙ ap₂ (λ v n. v ++ replicate n []) (take_all k first (omega (arith, l, h))) (none k m h) ∙ append-nil first
  where
    none : (k m : ℕ) → m ≤ k → m - k ≡ 0
    none k m h = omega (arith, h)

-- one process more
starting-next : (ms : List Need) (ns : List ℕ) (k : ℕ) (m : Need) (n : ℕ) → k < length ms → k < length ns → m ≡ get_or ms k Over → n ≡ get_or ns k 0 → starting (take (suc k) ms) (take (suc k) ns) ≡ starting (take k ms) (take k ns) ++ (at_start m n ∷ [])
starting-next [] ns k m n h l e f = absurd (omega (arith, h))
starting-next (a ∷ ms) [] k m n h l e f = absurd (omega (arith, l))
starting-next (a ∷ ms) (b ∷ ns) zero m n h l e f = ap₂ (λ x y. at_start x y ∷ []) (sym e) (sym f)
starting-next (a ∷ ms) (b ∷ ns) (suc k) m n h l e f = ap (λ v. at_start a b ∷ v) (starting-next ms ns k m n (omega (arith, h)) (omega (arith, l)) e f)

pub starting-more : (ms : List Need) (ns : List ℕ) (k : ℕ) (m : Need) (n : ℕ) → k < length ms → k < length ns → m ≡ get_or ms k Over → n ≡ get_or ns k 0 → starting (take (k + 1) ms) (take (k + 1) ns) ≡ starting (take k ms) (take k ns) ++ (at_start m n ∷ [])
starting-more ms ns k m n h l e f = ap (λ j. starting (take j ms) (take j ns)) (add-one k) ∙ starting-next ms ns k m n h l e f

-- the needs of a plan are counts for their places
pub needs-fit : (p : CorePlan) (n : Network Token) (Ss : List (Option (List ℕ))) (P : List ℕ) → network_of p ≡ n → Ss ≡ p.starts.items → P ≡ p.places → IsSoundNetwork n → (i : ℕ) → i < length P → HasPlaces (get_or P i 0) (need_in (get_or Ss i None))
needs-fit p n Ss P e s q w i h =
    let x : IsSoundNetwork (network_of p) = subst (λ y. IsSoundNetwork y) (sym e) w in
    subst (λ (v : List ℕ). HasPlaces (get_or v i 0) (need_in (get_or Ss i None))) (sym q)
    (subst (λ (v : List (Option (List ℕ))). HasPlaces (get_or p.places i 0) (need_in (get_or v i None))) (sym s) (subst (λ m. HasPlaces (get_or p.places i 0) m) (get_or-map need_in p.starts.items i None) (x.counts i (let l = ap (λ v. length v) q in omega (arith, h, l)))))

module _ (n : Network Token) (w : IsSoundNetwork n) where
  abbrev ps : List Standing
  ps = starting n.starts n.plan.net.places

  gathers : gathered_of ps ≡ emptied (take (total n.plan.net.places) n.first)
  gathers =
      let l : total n.plan.net.places ≤ length n.first = let a = w.lawful.channels in let b = w.lawful.first in omega (arith, a, b) in
      starting-gathered n.starts n.plan.net.places w.lawful.starts ∙ ap (λ k. replicate k []) (sym (length-take-le (total n.plan.net.places) n.first l)) ∙ sym (emptied-is (take (total n.plan.net.places) n.first))

  -- the core at its start
  pub fresh-is : (qs : List Standing) (K : List ℕ) (L : Streams Token) → qs ≡ starting n.starts n.plan.net.places → K ≡ first_capacities n.initial n.first → L ≡ n.first → state_with n qs K L origin Idle ≡ started n
  fresh-is qs K L p k l =
      ap (λ v. state_with n v K L origin Idle) p ∙ ap₂ (λ v x. state_with n ps v x origin Idle) k l ∙
      ap₂ (λ N G. let r : State = record { network = n; needs = N; capacity = first_capacities n.initial n.first; halfway = record { gathered = G; queued = n.first; puts = puts_of_all ps }; tag = origin; stage = Idle } in r) (starting-needs n.starts n.plan.net.places w.lawful.starts) gathers ∙
      ap (λ U. let r : State = record { network = n; needs = n.starts; capacity = first_capacities n.initial n.first; halfway = record { gathered = emptied (take (total n.plan.net.places) n.first); queued = n.first; puts = U }; tag = origin; stage = Idle } in r) (starting-puts n.starts n.plan.net.places w.lawful.starts)

  pub fresh-kept : (qs : List Standing) (K : List ℕ) (L : Streams Token) (S P : List ℕ) → qs ≡ starting n.starts n.plan.net.places → K ≡ first_capacities n.initial n.first → L ≡ n.first → length S ≡ length n.plan.net.sources → P ≡ replicate (length n.plan.net.sources) 0 → IsKept n qs K L S P
  fresh-kept qs K L S P p k l s z = record {
    sound = w;
    placed = subst (λ v. ArePlaced n.plan.net.places v) (sym p) (starting-placed n.starts n.plan.net.places w.lawful.starts);
    counts = λ i h. subst (λ v. HasPlaces (get_or n.plan.net.places i 0) v) (sym (ap (λ v. (get_or v i nobody).need) p ∙ starting-need n.starts n.plan.net.places i w.lawful.starts)) (w.counts i h);
    capacities = ap (λ v. length v) k ∙ first-long n.initial n.first ∙ w.lawful.first;
    lists = ap (λ v. length v) l ∙ w.lawful.first;
    spares = s;
    promised = ap (λ v. length v) z ∙ length-replicate (length n.plan.net.sources) 0;
    room = λ d. let e = ap (λ v. get_or v d 0) z ∙ no-more (length n.plan.net.sources) d in omega (arith, e);
    staged = λ d. let e = ap (λ v. staged_on d (puts_of_all v)) p ∙ starting-staged d n.starts n.plan.net.places in omega (arith, e);
  }

  pub fresh-handed : (qs : List Standing) → qs ≡ starting n.starts n.plan.net.places → NoneHanded qs
  fresh-handed qs p = subst (λ v. NoneHanded v) (sym p) (starting-handed n.starts n.plan.net.places)
