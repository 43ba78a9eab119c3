-- The children of a top before a block and after it.
use Rattle.std.specs.Prelude.{◌≡◌, ℕ, ℤ, zero, suc, ◌+◌, ◌*◌, ◌<◌, ◌^◌, List, [], ◌∷◌, length, map, get_or}
use Rattle.pt_meaning.specs.Basics.{Tag}
use Rattle.pt_value.specs.declared.token.Token.TheVariants.{Int}
use Rattle.pt_library.specs.declared.library_actor.LibraryActor.{LibraryActor}
use Rattle.pt_node.specs.declared.body.Body.{Body}
use Rattle.pt_node.specs.declared.body.Body.TheVariants.{Actor, Composite}
use Rattle.pt_node.specs.Shown.{Shown, Branch}
use Rattle.pt_node.specs.Firing.{noted, bare, recorded_times}

-- a library actor in this state
abbrev pub IsActor : Body → LibraryActor → Type 0
IsActor (Actor held) a = held.actor ≡ a
IsActor (Composite director) a = ⊥

abbrev pub IsOf : Shown → LibraryActor → Type 0
IsOf (Branch f ks) a = IsActor f.body a

-- the first k children are library actors in these states, and there are no more of these
pub record AreOfTo (k : ℕ) (children : List Shown) (actors : List LibraryActor) : Type 0 where
  pub count : length actors ≡ k
  pub each : (i : ℕ) → i < k → (s : Shown) (a : LibraryActor) → IsOf (get_or children i s) (get_or actors i a)

-- each child is
abbrev pub AreOf : List Shown → List LibraryActor → Type 0
AreOf children actors = AreOfTo (length children) children actors

-- the child with its actor in another state
abbrev pub body_with : LibraryActor → Body → Body
body_with a (Actor held) = Actor (record { actor = a; start = held.start })
body_with a (Composite director) = Composite director

abbrev pub with_actor : LibraryActor → Shown → Shown
with_actor a (Branch f ks) = Branch (record { past = f.past; body = body_with a f.body; records = f.records; path = f.path; labels = f.labels; meetings = f.meetings; live = f.live }) ks

-- how often a child has fired
abbrev pub fired_by : Shown → ℕ
fired_by (Branch f ks) = f.past.made

-- of the first k children each is otherwise than before as R says of its number, and the others are as they were
abbrev pub EachTo : (R : ℕ → Shown → Shown → Type 0) → (k : ℕ) → (olds news : List Shown) → Type 0
EachTo R k [] [] = Unit {0}
EachTo R k [] (t ∷ ts) = ⊥
EachTo R k (s ∷ ss) [] = ⊥
EachTo R zero (s ∷ ss) (t ∷ ts) = (t ≡ s) × EachTo R zero ss ts
EachTo R (suc k) (s ∷ ss) (t ∷ ts) = R 0 s t × EachTo (λ i. R (suc i)) k ss ts

-- each child is so
abbrev pub Each : (R : ℕ → Shown → Shown → Type 0) → (olds news : List Shown) → Type 0
Each R olds news = EachTo R (length olds) olds news

-- nothing is otherwise but notes
abbrev pub IsBareAs : ℕ → Shown → Shown → Type 0
IsBareAs i s t = bare t ≡ bare s

-- what the child of a number gave in its firings is noted, and its count has room for them
pub record IsNoted (qs : List ℕ) (given : List (List ℤ)) (tag : Tag) (iterations : ℕ) (i : ℕ) (s t : Shown) : Type 0 where
  pub noted_is : t ≡ noted tag (map Int (get_or given i []) ∷ []) s
  pub few : fired_by s + get_or qs i 0 * iterations < 2 ^ 64

-- how many firings so many iterations have of the first k children
abbrev pub firings_to : List ℕ → (iterations : ℕ) → ℕ → ℕ
firings_to qs iterations zero = 0
firings_to qs iterations (suc k) = firings_to qs iterations k + get_or qs k 0 * iterations

-- so it is of the first k children, and this is left of an allowance after their firings and those of the top
pub record AllNotedTo (k : ℕ) (qs : List ℕ) (given : List (List ℤ)) (tag : Tag) (iterations left : ℕ) (olds news : List Shown) (after : ℕ) : Type 0 where
  pub each : EachTo (IsNoted qs given tag iterations) k olds news
  pub left_is : after + (iterations + firings_to qs iterations k) ≡ left

-- the firings of the children may be recorded, with these actors
pub record MayRecord (qs : List ℕ) (iterations : ℕ) (children : List Shown) (actors : List LibraryActor) : Type 0 where
  pub repetitions : length qs ≡ length children
  pub count : length actors ≡ length children
  pub few : (i : ℕ) → i < length children → (s : Shown) → fired_by (get_or children i s) + get_or qs i 0 * iterations < 2 ^ 64

-- the child of a number has its new actor, and its firings are recorded
abbrev pub IsRecorded : List ℕ → Tag → (iterations : ℕ) → List LibraryActor → ℕ → Shown → Shown → Type 0
IsRecorded qs tag iterations actors i s t = (a : LibraryActor) → t ≡ recorded_times tag (get_or qs i 0 * iterations) (with_actor (get_or actors i a) s)
