-- Children that are changed one after another.
use Rattle.std.proofs.Common.{◌≡◌, ℕ, ℤ, zero, suc, ◌+◌, ◌*◌, ◌<◌, ◌≤◌, ◌^◌, List, [], ◌∷◌, ◌++◌, length, map, get_or, set, Bool, true, false, nat_eq, refl, sym, ap, subst, ◌∙◌, arith, eqb-true}
use Rattle.std.proofs.lemmas.Bool.{eqb-false}
use Rattle.std.proofs.lemmas.List.{length-append, get_or_append_left, get_or-set_other}
use Rattle.pt_meaning.specs.Basics.{Tag, Streams}
use Rattle.pt_value.specs.declared.token.Token.{Token}
use Rattle.pt_value.specs.declared.token.Token.TheVariants.{Int}
use Rattle.pt_library.specs.declared.library_actor.LibraryActor.{LibraryActor}
use Rattle.pt_node.specs.declared.node.Node.{Node}
use Rattle.pt_node.specs.Shown.{Shown, Branch, shown, shown_node}
use Rattle.pt_past.specs.Recorded.{RecordedPort, noting, unnoted}
use Rattle.pt_node.specs.Firing.{noted, bare, recorded_times}
use Rattle.pt_node.proofs.Link.{shown-node}
use Rattle.pt_blocks.specs.Children.{IsOf, AreOfTo, EachTo, Each, IsBareAs, IsNoted, AllNotedTo, IsRecorded, with_actor, fired_by}

abbrev pub Rel : Type 1
Rel = ℕ → Shown → Shown → Type 0

pub each-none : (R : Rel) (ss : List Shown) → EachTo R 0 ss ss
each-none R [] = tt
each-none R (s ∷ ss) = (refl, each-none R ss)

pub each-long : (R : Rel) (k : ℕ) (olds now : List Shown) → EachTo R k olds now → length now ≡ length olds
each-long R k [] [] e = refl
each-long R k [] (t ∷ ts) e = absurd e
each-long R k (s ∷ ss) [] e = absurd e
each-long R zero (s ∷ ss) (t ∷ ts) e = let h = each-long R 0 ss ts e.1 in omega (arith, h)
each-long R (suc k) (s ∷ ss) (t ∷ ts) e = let h = each-long (λ i. R (suc i)) k ss ts e.1 in omega (arith, h)

-- the next one is as it was
pub each-next : (R : Rel) (k : ℕ) (olds now : List Shown) → EachTo R k olds now → (d : Shown) → get_or now k d ≡ get_or olds k d
each-next R k [] [] e d = refl
each-next R k [] (t ∷ ts) e d = absurd e
each-next R k (s ∷ ss) [] e d = absurd e
each-next R zero (s ∷ ss) (t ∷ ts) e d = e.0
each-next R (suc k) (s ∷ ss) (t ∷ ts) e d = each-next (λ i. R (suc i)) k ss ts e.1 d

pub each-more : (R : Rel) (k : ℕ) (olds now : List Shown) → EachTo R k olds now → (d t : Shown) → k < length olds → R k (get_or olds k d) t → EachTo R (suc k) olds (set now k t)
each-more R k [] [] e d t l r = absurd (omega (arith, l))
each-more R k [] (u ∷ us) e d t l r = absurd e
each-more R k (s ∷ ss) [] e d t l r = absurd e
each-more R zero (s ∷ ss) (u ∷ us) e d t l r = (r, same ss us e.1)
  where
    same : (ss us : List Shown) → EachTo R 0 ss us → EachTo (λ i. R (suc i)) 0 ss us
    same [] [] e = tt
    same [] (u ∷ us) e = absurd e
    same (s ∷ ss) [] e = absurd e
    same (s ∷ ss) (u ∷ us) e = (e.0, same ss us e.1)
each-more R (suc k) (s ∷ ss) (u ∷ us) e d t l r = (e.0, each-more (λ i. R (suc i)) k ss us e.1 d t (omega (arith, l)) r)

-- what holds of changed ones and of those that are as they were holds of all
pub each-all : (R Q : Rel) → ((i : ℕ) (s t : Shown) → R i s t → Q i s t) → ((i : ℕ) (s : Shown) → Q i s s) → (k : ℕ) (olds now : List Shown) → EachTo R k olds now → EachTo Q (length olds) olds now
each-all R Q f g k [] [] e = tt
each-all R Q f g k [] (t ∷ ts) e = absurd e
each-all R Q f g k (s ∷ ss) [] e = absurd e
each-all R Q f g zero (s ∷ ss) (t ∷ ts) e = (subst (λ v. Q 0 s v) (sym e.0) (g 0 s), each-all (λ i. R (suc i)) (λ i. Q (suc i)) (λ i. f (suc i)) (λ i. g (suc i)) 0 ss ts (same ss ts e.1))
  where
    same : (ss us : List Shown) → EachTo R 0 ss us → EachTo (λ i. R (suc i)) 0 ss us
    same [] [] e = tt
    same [] (u ∷ us) e = absurd e
    same (s ∷ ss) [] e = absurd e
    same (s ∷ ss) (u ∷ us) e = (e.0, same ss us e.1)
each-all R Q f g (suc k) (s ∷ ss) (t ∷ ts) e = (f 0 s t e.0, each-all (λ i. R (suc i)) (λ i. Q (suc i)) (λ i. f (suc i)) (λ i. g (suc i)) k ss ts e.1)

-- one more of all
pub each-set : (Q : Rel) (k : ℕ) (olds now : List Shown) → EachTo Q (length olds) olds now → (d t : Shown) → (k < length olds → Q k (get_or olds k d) t) → EachTo Q (length olds) olds (set now k t)
each-set Q k [] [] e d t r = tt
each-set Q k [] (u ∷ us) e d t r = absurd e
each-set Q k (s ∷ ss) [] e d t r = absurd e
each-set Q zero (s ∷ ss) (u ∷ us) e d t r = (r (omega arith), e.1)
each-set Q (suc k) (s ∷ ss) (u ∷ us) e d t r = (e.0, each-set (λ i. Q (suc i)) k ss us e.1 d t (λ l. r (omega (arith, l))))

-- ---- notes

unnoted-noting : (tag : Tag) (out : Streams Token) (rs : List RecordedPort) → map unnoted (map (noting tag out) rs) ≡ map unnoted rs
unnoted-noting tag out [] = refl
unnoted-noting tag out (r ∷ rs) = ap (λ v. unnoted r ∷ v) (unnoted-noting tag out rs)

pub noted-bare : (tag : Tag) (out : Streams Token) (s : Shown) → bare (noted tag out s) ≡ bare s
noted-bare tag out (Branch f ks) = ap (λ rs. Branch (record { past = f.past; body = f.body; records = rs; path = f.path; labels = f.labels; meetings = f.meetings; live = f.live }) ks) (unnoted-noting tag out f.records)

pub noted-all-bare : (qs : List ℕ) (given : List (List ℤ)) (tag : Tag) (iterations k : ℕ) (olds now : List Shown) → EachTo (IsNoted qs given tag iterations) k olds now → EachTo IsBareAs (length olds) olds now
noted-all-bare qs given tag iterations k olds now e =
    each-all (IsNoted qs given tag iterations) IsBareAs (λ i s t n. ap (λ v. bare v) n.noted_is ∙ noted-bare tag (map Int (get_or given i []) ∷ []) s) (λ i s. refl) k olds now e

-- nothing is noted
pub bare-none : (olds : List Shown) → Each IsBareAs olds olds
bare-none olds = each-all IsBareAs IsBareAs (λ i s t e. e) (λ i s. refl) 0 olds olds (each-none IsBareAs olds)

-- ---- the code's list of nodes

pub map-set : {A B : Type 0} (f : A → B) (xs : List A) (i : ℕ) (x : A) → map f (set xs i x) ≡ set (map f xs) i (f x)
map-set f [] i x = refl
map-set f (y ∷ xs) zero x = refl
map-set f (y ∷ xs) (suc i) x = ap (λ v. f y ∷ v) (map-set f xs i x)

pub shown-set : (kids : List Node) (i : ℕ) (n : Node) → map shown (set kids i n) ≡ set (map shown kids) i (shown_node n)
shown-set kids i n = map-set shown kids i n ∙ ap (λ v. set (map shown kids) i v) (shown-node n)

pub get-map : {A B : Type 0} (f : A → B) (xs : List A) (i : ℕ) (x : A) → get_or (map f xs) i (f x) ≡ f (get_or xs i x)
get-map f [] i x = refl
get-map f (y ∷ xs) zero x = refl
get-map f (y ∷ xs) (suc i) x = get-map f xs i x

pub shown-get : (kids : List Node) (i : ℕ) (n d : Node) → n ≡ get_or kids i d → shown_node n ≡ get_or (map shown kids) i (shown d)
shown-get kids i n d e = sym (shown-node n) ∙ ap (λ v. shown v) e ∙ sym (get-map shown kids i d)

pub get-any : {A : Type 0} (xs : List A) (i : ℕ) (d e : A) → i < length xs → get_or xs i d ≡ get_or xs i e
get-any [] i d e l = absurd (omega (arith, l))
get-any (x ∷ xs) zero d e l = refl
get-any (x ∷ xs) (suc i) d e l = get-any xs i d e (omega (arith, l))

-- ---- copies

at-end : {A : Type 0} (xs : List A) (x d : A) → get_or (xs ++ x ∷ []) (length xs) d ≡ x
at-end [] x d = refl
at-end (y ∷ xs) x d = at-end xs x d

less : (i k : ℕ) → i < suc k → (i ≡ k → ⊥) → i < k
less zero zero m d = absurd (d refl)
less zero (suc k) m d = omega arith
less (suc i) zero m d = absurd (omega (arith, m))
less (suc i) (suc k) m d = let h = less i k (omega (arith, m)) (λ e. d (ap (λ n. suc n) e)) in omega (arith, h)

pub of-more : (k : ℕ) (children : List Shown) (actors all : List LibraryActor) (s : Shown) (a : LibraryActor) → AreOfTo k children actors → k < length children → (d : Shown) → s ≡ get_or children k d → IsOf s a → all ≡ actors ++ a ∷ [] → AreOfTo (k + 1) children all
of-more k children actors all s a h l d e o is =
    let one : suc k ≡ k + 1 = omega arith in
    subst (λ n. AreOfTo n children all) one (subst (λ v. AreOfTo (suc k) children v) (sym is) known)
  where
    last : (t : Shown) (b : LibraryActor) → IsOf (get_or children k t) (get_or (actors ++ a ∷ []) k b)
    last t b =
        let here : get_or (actors ++ a ∷ []) k b ≡ a = ap (λ n. get_or (actors ++ a ∷ []) n b) (sym h.count) ∙ at-end actors a b in
        subst (λ v. IsOf (get_or children k t) v) (sym here) (subst (λ v. IsOf v a) (e ∙ get-any children k d t l) o)

    each : (i : ℕ) → i < suc k → (t : Shown) (b : LibraryActor) → IsOf (get_or children i t) (get_or (actors ++ a ∷ []) i b)
    each i m t b = by_number (nat_eq i k) refl
      where
        by_number : (c : Bool) → nat_eq i k ≡ c → IsOf (get_or children i t) (get_or (actors ++ a ∷ []) i b)
        by_number true same = subst (λ n. IsOf (get_or children n t) (get_or (actors ++ a ∷ []) n b)) (sym (eqb-true i k same)) (last t b)
        by_number false apart =
            let few = less i k m (eqb-false i k apart) in
            subst (λ v. IsOf (get_or children i t) v) (sym (get_or_append_left actors (a ∷ []) b i (let c = h.count in omega (arith, few, c)))) (h.each i few t b)

    known : AreOfTo (suc k) children (actors ++ a ∷ [])
    known = record { count = (let c = h.count in let n = length-append actors (a ∷ []) in omega (arith, c, n)); each = each }

-- ---- actors that are given to the children one after another

-- those from number k on are as they were
pub record AreLeft (k : ℕ) (olds now : List LibraryActor) : Type 0 where
  pub count : length now ≡ length olds
  pub each : (i : ℕ) → k ≤ i → (d : LibraryActor) → get_or now i d ≡ get_or olds i d

pub left-none : (olds : List LibraryActor) → AreLeft 0 olds olds
left-none olds = record { count = refl; each = λ i l d. refl }

set-length : {A : Type 0} (xs : List A) (i : ℕ) (a : A) → length (set xs i a) ≡ length xs
set-length [] i a = refl
set-length (x ∷ xs) zero a = refl
set-length (x ∷ xs) (suc i) a = let h = set-length xs i a in omega (arith, h)

pub left-more : (k : ℕ) (olds now : List LibraryActor) (a : LibraryActor) → AreLeft k olds now → AreLeft (suc k) olds (set now k a)
left-more k olds now a h = record { count = set-length now k a ∙ h.count; each = λ i l d. get_or-set_other now k i a d (λ e. absurd (omega (arith, l, e))) ∙ h.each i (omega (arith, l)) d }

-- ---- one child more

next-number : (k : ℕ) → suc k ≡ k + 1
next-number k = omega arith

-- it is noted
pub note-more : (qs : List ℕ) (given : List (List ℤ)) (tag : Tag) (iterations left k : ℕ) (olds now : List Shown) (after rest : ℕ) → AllNotedTo k qs given tag iterations left olds now after → (d t : Shown) → k < length olds → t ≡ noted tag (map Int (get_or given k []) ∷ []) (get_or now k d) → fired_by (get_or now k d) + get_or qs k 0 * iterations < 2 ^ 64 → rest + get_or qs k 0 * iterations ≡ after →
    AllNotedTo (k + 1) qs given tag iterations left olds (set now k t) rest
note-more qs given tag iterations left k olds now after rest h d t l is few spends =
    subst (λ m. AllNotedTo m qs given tag iterations left olds (set now k t) rest) (next-number k)
    (record {
      each = each-more (IsNoted qs given tag iterations) k olds now h.each d t l (record { noted_is = is ∙ ap (λ s. noted tag (map Int (get_or given k []) ∷ []) s) as_before; few = subst (λ s. fired_by s + get_or qs k 0 * iterations < 2 ^ 64) as_before few });
      left_is = (let e = h.left_is in omega (arith, e, spends));
    })
  where
    as_before : get_or now k d ≡ get_or olds k d
    as_before = each-next (IsNoted qs given tag iterations) k olds now h.each d

-- it wasn't noted, and has notes that nothing is said of
pub note-fails : (qs : List ℕ) (given : List (List ℤ)) (tag : Tag) (iterations left k : ℕ) (olds now : List Shown) (after : ℕ) → AllNotedTo k qs given tag iterations left olds now after → (d t : Shown) → bare t ≡ bare (get_or now k d) → Each IsBareAs olds (set now k t)
note-fails qs given tag iterations left k olds now after h d t e =
    each-set IsBareAs k olds now (noted-all-bare qs given tag iterations k olds now h.each) d t (λ l. e ∙ ap (λ s. bare s) (each-next (IsNoted qs given tag iterations) k olds now h.each d))

-- it has its new actor, and its firings are recorded
pub record-more : (qs : List ℕ) (tag : Tag) (iterations : ℕ) (actors : List LibraryActor) (k : ℕ) (olds now : List Shown) (rest : List LibraryActor) → EachTo (IsRecorded qs tag iterations actors) k olds now × AreLeft k actors rest → (d t : Shown) (a b : LibraryActor) → k < length olds → k < length actors → a ≡ get_or rest k a → t ≡ recorded_times tag (get_or qs k 0 * iterations) (with_actor a (get_or now k d)) →
    EachTo (IsRecorded qs tag iterations actors) (k + 1) olds (set now k t) × AreLeft (k + 1) actors (set rest k b)
record-more qs tag iterations actors k olds now rest h d t a b l m e is =
    (subst (λ j. EachTo (IsRecorded qs tag iterations actors) j olds (set now k t)) (next-number k) (each-more (IsRecorded qs tag iterations actors) k olds now h.0 d t l one), subst (λ j. AreLeft j actors (set rest k b)) (next-number k) (left-more k actors rest b h.1))
  where
    one : IsRecorded qs tag iterations actors k (get_or olds k d) t
    one f =
        is
        ∙ ap (λ s. recorded_times tag (get_or qs k 0 * iterations) (with_actor a s)) (each-next (IsRecorded qs tag iterations actors) k olds now h.0 d)
        ∙ ap (λ v. recorded_times tag (get_or qs k 0 * iterations) (with_actor v (get_or olds k d))) (e ∙ h.1.each k (omega arith) a ∙ get-any actors k a f m)
