-- What is kept of a top and its children goes on in a block by what its iterations log.
use Rattle.std.proofs.Common.{◌≡◌, ℕ, ℤ, zero, suc, ◌+◌, ◌*◌, ◌<◌, List, [], ◌∷◌, ◌++◌, length, map, get_or, refl, sym, ap, ap₂, subst, ◌∙◌, arith, append-nil}
use Rattle.pt_meaning.specs.Basics.{Tag, Streams, at, Log, log_then, with_tag}
use Rattle.pt_meaning.specs.Sdf.{SdfPlan}
use Rattle.pt_meaning.specs.Tree.{Past}
use Rattle.pt_value.specs.declared.token.Token.{Token}
use Rattle.pt_value.specs.declared.token.Token.TheVariants.{Int}
use Rattle.pt_records.specs.Kept.{Recorded, Entry, Kept, kept_by, GrewBy}
use Rattle.pt_past.specs.Recorded.{RecordedPort, noting, recording, trace_of}
use Rattle.pt_library.specs.declared.library_actor.LibraryActor.{LibraryActor}
use Rattle.pt_library.specs.LibraryActor as library
use Rattle.pt_block_laws.specs.Workers.{Worker, log_in_iteration}
use Rattle.pt_block_laws.specs.Grown.{told, told_times, kept_before, log_of_block}
use Rattle.pt_block_laws.proofs.GrownLaws.{block-grows}
use Rattle.pt_block_work.specs.Work.{gives}
use Rattle.pt_node.specs.Shown.{Frame, Shown, AllShown, Branch, all_of}
use Rattle.pt_node.specs.Firing.{noted, recorded, recorded_times, recorded_in_turn}
use Rattle.pt_node.specs.View.{entry_of, kept_of, kepts_of}
use Rattle.pt_node.proofs.InTurnLaws.{recorded-together}
use Rattle.pt_blocks.specs.Children.{with_actor}
use Rattle.pt_blocks.specs.Made.{logged_by}

abbrev pub frame_of : Shown → Frame
frame_of (Branch f ks) = f

abbrev pub kids_of : Shown → AllShown
kids_of (Branch f ks) = ks

-- what is kept of the child of a number itself, and of what is below it
abbrev pub entry_at : List Shown → Shown → ℕ → Entry Token
entry_at ss d i = entry_of (frame_of (get_or ss i d))

abbrev pub below_at : List Shown → Shown → ℕ → List (Kept Token)
below_at ss d i = kepts_of (kids_of (get_or ss i d))

-- a child after the block: what it gave is noted, and it has its actor and its count
abbrev pub after_block : Tag → ℕ → LibraryActor → List ℤ → Shown → Shown
after_block tag firings a row s = recorded_times tag firings (with_actor a (noted tag (map Int row ∷ []) s))

-- each child is so, by its number
pub record AreAfter (tag : Tag) (m : ℕ) (qs : List ℕ) (rates : ℕ → ℕ) (rows : ℕ → List ℤ) (actors : ℕ → LibraryActor) (d : Shown) (olds news : List Shown) : Type 0 where
  pub repetitions : length qs ≡ length olds
  pub count : length news ≡ length olds
  pub each : (i : ℕ) → i < length olds → get_or news i d ≡ after_block tag (get_or qs i 0 * m) (actors i) (rows i) (get_or olds i d)
  pub counted : (i : ℕ) → i < length olds → length (rows i) ≡ m * get_or qs i 0 * rates i

-- ---- one child

kept-is : (s : Shown) → kept_of s ≡ kept_by (entry_of (frame_of s)) (kepts_of (kids_of s))
kept-is (Branch f ks) = refl

traces-told : (tag : Tag) (out : Streams Token) (rs : List RecordedPort) → map trace_of (map recording (map (noting tag out) rs)) ≡ map (λ r. record { port = r.port; trace = r.trace ++ with_tag tag (at out r.port) }) (map trace_of rs)
traces-told tag out [] = refl
traces-told tag out (r ∷ rs) = ap (λ (v : List (Recorded Token)). (let e : Recorded Token = record { port = r.port; trace = r.trace ++ with_tag tag (at out r.port) } in e) ∷ v) (traces-told tag out rs)

entry-recorded : (tag : Tag) (out : Streams Token) (s : Shown) → entry_of (frame_of (recorded tag (noted tag out s))) ≡ told tag out (entry_of (frame_of s))
entry-recorded tag out (Branch f ks) = ap (λ (rs : List (Recorded Token)). let e : Entry Token = record { count = suc f.past.made; recorded = rs; meetings = f.meetings } in e) (traces-told tag out f.records)

entry-told : (tag : Tag) (outs : ℕ → Streams Token) (k : ℕ) (s : Shown) → entry_of (frame_of (recorded_in_turn tag outs k s)) ≡ told_times tag outs k (entry_of (frame_of s))
entry-told tag outs zero s = refl
entry-told tag outs (suc k) s = entry-recorded tag (outs k) (recorded_in_turn tag outs k s) ∙ ap (λ e. told tag (outs k) e) (entry-told tag outs k s)

-- nothing was given
traces-none : (tag : Tag) (rs : List RecordedPort) → map trace_of (map recording (map (noting tag ([] ∷ [])) rs)) ≡ map trace_of rs
traces-none tag [] = refl
traces-none tag (r ∷ rs) = ap₂ (λ (t : List (Tag × Token)) (v : List (Recorded Token)). (let e : Recorded Token = record { port = r.port; trace = t } in e) ∷ v) (trace-same r.port) (traces-none tag rs)
  where
    trace-same : (port : ℕ) → r.trace ++ with_tag tag (at ([] ∷ []) port) ≡ r.trace
    trace-same zero = append-nil r.trace
    trace-same (suc port) = append-nil r.trace

none-long : (xs : List ℤ) → length xs ≡ 0 → xs ≡ []
none-long [] e = refl
none-long (x ∷ xs) e = absurd (omega (arith, e))

entry-times : (tag : Tag) (rate : ℕ) (n : ℕ) (a : LibraryActor) (row : List ℤ) (s : Shown) → length row ≡ n * rate → entry_of (frame_of (after_block tag n a row s)) ≡ told_times tag (gives rate row) n (entry_of (frame_of s))
entry-times tag rate zero a row (Branch f ks) e =
    let none : 0 * rate ≡ 0 = omega arith in
    let same : f.past.made + 0 ≡ f.past.made = omega arith in
    ap (λ r. entry_of (frame_of (after_block tag 0 a r (Branch f ks)))) (none-long row (e ∙ none)) ∙
    ap₂ (λ (n : ℕ) (rs : List (Recorded Token)). let x : Entry Token = record { count = n; recorded = rs; meetings = f.meetings } in x) same (traces-none tag f.records)
entry-times tag rate (suc k) a row (Branch f ks) e =
    ap (λ s. entry_of (frame_of s)) (recorded-together tag rate row k (Branch f ks) e) ∙
    entry-told tag (gives rate row) (suc k) (Branch f ks)

kids-after : (tag : Tag) (n : ℕ) (a : LibraryActor) (row : List ℤ) (s : Shown) → kids_of (after_block tag n a row s) ≡ kids_of s
kids-after tag n a row (Branch f ks) = refl

-- firings that give the same
told-same : (tag : Tag) (gives others : ℕ → Streams Token) (n : ℕ) (e : Entry Token) → ((k : ℕ) → gives k ≡ others k) → told_times tag gives n e ≡ told_times tag others n e
told-same tag gives others zero e h = refl
told-same tag gives others (suc n) e h = ap₂ (λ out x. told tag out x) (h n) (told-same tag gives others n e h)

kept-times : (tag : Tag) (m q rate : ℕ) (a : LibraryActor) (row : List ℤ) (given : ℕ → Streams Token) (s t : Shown) → t ≡ after_block tag (q * m) a row s → length row ≡ m * q * rate → ((k : ℕ) → given k ≡ gives rate row k) →
    kept_of t ≡ kept_by (told_times tag given (m * q) (entry_of (frame_of s))) (kepts_of (kids_of s))
kept-times tag m q rate a row given s t e long same =
    let turned : q * m ≡ m * q = omega arith in
    let now : t ≡ after_block tag (m * q) a row s = e ∙ ap (λ n. after_block tag n a row s) turned in
    kept-is t ∙
    ap₂ (λ x ks. kept_by x (kepts_of ks))
    (ap (λ v. entry_of (frame_of v)) now ∙ entry-times tag rate (m * q) a row s long ∙ sym (told-same tag given (gives rate row) (m * q) (entry_of (frame_of s)) same))
    (ap (λ v. kids_of v) now ∙ kids-after tag (m * q) a row s)

-- ---- all children

pub kept-old : (tag : Tag) (qs : List ℕ) (workers : ℕ → Worker Token LibraryActor) (ss : List Shown) (d : Shown) → length qs ≡ length ss → kepts_of (all_of ss) ≡ kept_before tag 0 qs workers (entry_at ss d) (below_at ss d)
kept-old tag [] workers [] d e = refl
kept-old tag [] workers (s ∷ ss) d e = absurd (omega (arith, e))
kept-old tag (q ∷ qs) workers [] d e = absurd (omega (arith, e))
kept-old tag (q ∷ qs) workers (s ∷ ss) d e =
    let none : 0 ≡ 0 * q = omega arith in
    ap₂ (λ (k : Kept Token) (ks : List (Kept Token)). k ∷ ks)
    (kept-is s ∙ ap (λ n. kept_by (told_times tag (workers 0).does.gives n (entry_of (frame_of s))) (kepts_of (kids_of s))) none)
    (kept-old tag qs (λ i. workers (suc i)) ss d (omega (arith, e)))

rest-after : (tag : Tag) (m q : ℕ) (qs : List ℕ) (rates : ℕ → ℕ) (rows : ℕ → List ℤ) (actors : ℕ → LibraryActor) (d s t : Shown) (olds news : List Shown) → AreAfter tag m (q ∷ qs) rates rows actors d (s ∷ olds) (t ∷ news) →
    AreAfter tag m qs (λ i. rates (suc i)) (λ i. rows (suc i)) (λ i. actors (suc i)) d olds news
rest-after tag m q qs rates rows actors d s t olds news h = record {
  repetitions = let e = h.repetitions in omega (arith, e);
  count = let e = h.count in omega (arith, e);
  each = λ i l. h.each (suc i) (omega (arith, l));
  counted = λ i l. h.counted (suc i) (omega (arith, l));
}

pub kept-new : (tag : Tag) (m : ℕ) (qs : List ℕ) (rates : ℕ → ℕ) (rows : ℕ → List ℤ) (actors : ℕ → LibraryActor) (d : Shown) (olds news : List Shown) (workers : ℕ → Worker Token LibraryActor) → AreAfter tag m qs rates rows actors d olds news →
    ((i k : ℕ) → i < length olds → (workers i).does.gives k ≡ gives (rates i) (rows i) k) → kepts_of (all_of news) ≡ kept_before tag m qs workers (entry_at olds d) (below_at olds d)
kept-new tag m [] rates rows actors d [] [] workers h g = refl
kept-new tag m [] rates rows actors d [] (t ∷ news) workers h g = let e = h.count in absurd (omega (arith, e))
kept-new tag m [] rates rows actors d (s ∷ olds) news workers h g = let e = h.repetitions in absurd (omega (arith, e))
kept-new tag m (q ∷ qs) rates rows actors d [] news workers h g = let e = h.repetitions in absurd (omega (arith, e))
kept-new tag m (q ∷ qs) rates rows actors d (s ∷ olds) [] workers h g = let e = h.count in absurd (omega (arith, e))
kept-new tag m (q ∷ qs) rates rows actors d (s ∷ olds) (t ∷ news) workers h g =
    ap₂ (λ (k : Kept Token) (ks : List (Kept Token)). k ∷ ks)
    (kept-times tag m q (rates 0) (actors 0) (rows 0) (workers 0).does.gives s t (h.each 0 (omega arith)) (h.counted 0 (omega arith)) (λ k. g 0 k (omega arith)))
    (kept-new tag m qs (λ i. rates (suc i)) (λ i. rows (suc i)) (λ i. actors (suc i)) d olds news (λ i. workers (suc i)) (rest-after tag m q qs rates rows actors d s t olds news h) (λ i k l. g (suc i) k (omega (arith, l))))

-- ---- the top

-- what is kept of a node without recorded outputs, after so many firings
top-told : (tag : Tag) (m : ℕ) (e : Entry Token) → e.recorded ≡ [] → told_times tag (λ k. []) m e ≡ record { count = e.count + m; recorded = []; meetings = e.meetings }
top-told tag zero e none =
    let same : e.count ≡ e.count + 0 = omega arith in
    ap₂ (λ (n : ℕ) (rs : List (Recorded Token)). let x : Entry Token = record { count = n; recorded = rs; meetings = e.meetings } in x) same none
top-told tag (suc m) e none =
    let next : suc (e.count + m) ≡ e.count + suc m = omega arith in
    ap (λ x. told tag [] x) (top-told tag m e none) ∙
    ap (λ (n : ℕ). let x : Entry Token = record { count = n; recorded = []; meetings = e.meetings } in x) next

top-after : (tag : Tag) (m : ℕ) (f : Frame) (ks : AllShown) → f.records ≡ [] → entry_of (frame_of (recorded_times tag m (Branch f ks))) ≡ told_times tag (λ k. []) m (entry_of f)
top-after tag m f ks none =
    ap (λ (rs : List RecordedPort). let x : Entry Token = record { count = f.past.made + m; recorded = map trace_of (map recording rs); meetings = f.meetings } in x) none ∙
    sym (top-told tag m (entry_of f) (ap (λ rs. map trace_of rs) none))

pub logged-same : (tag : Tag) (h : Past) (p : SdfPlan) (workers : ℕ → Worker Token LibraryActor) (n : ℕ) → logged_by n (λ t. log_in_iteration library.rows tag h p workers t) ≡ log_of_block library.rows tag h p workers n
logged-same tag h p workers zero = refl
logged-same tag h p workers (suc n) = ap (λ l. log_then l (log_in_iteration library.rows tag h p workers n)) (logged-same tag h p workers n)

-- what is kept of the top and of all within it goes on by what the iterations log
pub kept-block : (tag : Tag) (m : ℕ) (p : SdfPlan) (workers : ℕ → Worker Token LibraryActor) (rates : ℕ → ℕ) (rows : ℕ → List ℤ) (actors : ℕ → LibraryActor) (d : Shown) (olds news : List Shown) (f : Frame) → f.records ≡ [] → AreAfter tag m p.repetitions rates rows actors d olds news →
    ((i k : ℕ) → i < length olds → (workers i).does.gives k ≡ gives (rates i) (rows i) k) →
    GrewBy (logged_by m (λ t. log_in_iteration library.rows tag f.past p workers t)) (kept_of (Branch f (all_of olds))) (kept_of (recorded_times tag m (Branch f (all_of news))))
kept-block tag m p workers rates rows actors d olds news f none h g =
    let before : kept_of (Branch f (all_of olds)) ≡ kept_by (entry_of f) (kept_before tag 0 p.repetitions workers (entry_at olds d) (below_at olds d)) = ap (λ ks. kept_by (entry_of f) ks) (kept-old tag p.repetitions workers olds d h.repetitions) in
    let after : kept_of (recorded_times tag m (Branch f (all_of news))) ≡ kept_by (told_times tag (λ k. []) m (entry_of f)) (kept_before tag m p.repetitions workers (entry_at olds d) (below_at olds d)) =
    ap₂ (λ x ks. kept_by x ks) (top-after tag m f (all_of news) none) (kept-new tag m p.repetitions rates rows actors d olds news workers h g)
    in
    subst (λ (l : Log Token). GrewBy l (kept_of (Branch f (all_of olds))) (kept_of (recorded_times tag m (Branch f (all_of news))))) (sym (logged-same tag f.past p workers m))
    (subst (λ (k : Kept Token). GrewBy (log_of_block library.rows tag f.past p workers m) k (kept_of (recorded_times tag m (Branch f (all_of news))))) (sym before)
    (subst (λ (k : Kept Token). GrewBy (log_of_block library.rows tag f.past p workers m) (kept_by (entry_of f) (kept_before tag 0 p.repetitions workers (entry_at olds d) (below_at olds d))) k) (sym after)
    (block-grows library.rows tag f.past p workers (entry_of f) (entry_at olds d) (below_at olds d) m)))
