-- How what is kept goes on with logs that are put together.
use Rattle.std.proofs.Common.{◌≡◌, ℕ, zero, suc, ◌+◌, ◌<◌, List, [], ◌∷◌, ◌++◌, length, set, Option, Some, None, refl, sym, ap, arith, ◌∙◌, append_assoc, append-nil}
use Rattle.pt_meaning.specs.Basics.{at, Path, Firing, Event, Finished, Met, Log, silent, log_then, own, log_below, within_firing, all_marked, given_on, with_tag, firings_in}
use Rattle.pt_meaning.specs.Log.{meetings_in}
use Rattle.pt_laws.specs.LogsOfRuns.{silents, logs_then, log_at}
use Rattle.pt_meaning.specs.Headline.{count_of}
use Rattle.pt_laws.proofs.LevelLaws.{count-append}
use Rattle.pt_records.specs.Kept.{Kept, Entry, Made, Recorded, blank, kept_at, kept_by, TracesGrew, met_in, MeetingsGrew, EntryGrew, GrewBy, AllGrewBy, TracesTold, EntryFired, count_kept}
use Rattle.pt_records.specs.Growth.{NodesGrow, ChildrenGrow}
use Rattle.pt_records.proofs.MadeLaws.{met-append, met-marked, in-append, in-marked, grew-met, those-made, made-back, unmet-made, all-made-back, kept-there}

-- how events are read
given-append : {T : Type 0} (port : ℕ) (xs ys : List (Event T)) → given_on port (xs ++ ys) ≡ given_on port xs ++ given_on port ys
given-append port [] ys = refl
given-append port (Finished ns f ∷ xs) ys = ap (λ v. with_tag f.tag (at f.outputs port) ++ v) (given-append port xs ys) ∙ sym (append_assoc (with_tag f.tag (at f.outputs port)) (given_on port xs) (given_on port ys))
given-append port (Met ns n m ∷ xs) ys = given-append port xs ys

given-marked : {T : Type 0} (port n : ℕ) (xs : List (Event T)) → given_on port (all_marked n xs) ≡ given_on port xs
given-marked port n [] = refl
given-marked port n (Finished ns f ∷ xs) = ap (λ v. with_tag f.tag (at f.outputs port) ++ v) (given-marked port n xs)
given-marked port n (Met ns i m ∷ xs) = given-marked port n xs

count-marked : {T : Type 0} (n : ℕ) (xs : List (Event T)) → firings_in (all_marked n xs) ≡ firings_in xs
count-marked n [] = refl
count-marked n (Finished ns f ∷ xs) = ap (λ v. suc v) (count-marked n xs)
count-marked n (Met ns i m ∷ xs) = count-marked n xs

-- traces
traces-none : {T : Type 0} (rs : List (Recorded T)) → TracesGrew [] rs rs
traces-none [] = tt
traces-none (r ∷ rs) = (refl, sym (append-nil r.trace), traces-none rs)

traces-joined : {T : Type 0} (xs ys : List (Event T)) (us bs cs : List (Recorded T)) → TracesGrew xs us bs → TracesGrew ys bs cs → TracesGrew (xs ++ ys) us cs
traces-joined xs ys [] [] [] g h = tt
traces-joined xs ys [] [] (c ∷ cs) g h = absurd h
traces-joined xs ys [] (b ∷ bs) cs g h = absurd g
traces-joined xs ys (a ∷ us) [] cs g h = absurd g
traces-joined xs ys (a ∷ us) (b ∷ bs) [] g h = absurd h
traces-joined xs ys (a ∷ us) (b ∷ bs) (c ∷ cs) g h = (
  h.0 ∙ g.0,
  h.1 ∙ ap (λ n. b.trace ++ given_on n ys) g.0 ∙ ap (λ t. t ++ given_on a.port ys) g.1 ∙ append_assoc a.trace (given_on a.port xs) (given_on a.port ys) ∙ ap (λ t. a.trace ++ t) (sym (given-append a.port xs ys)),
  traces-joined xs ys us bs cs g.2 h.2,
)

traces-marked : {T : Type 0} (n : ℕ) (xs : List (Event T)) (us bs : List (Recorded T)) → TracesGrew xs us bs → TracesGrew (all_marked n xs) us bs
traces-marked n xs [] [] g = tt
traces-marked n xs [] (b ∷ bs) g = absurd g
traces-marked n xs (a ∷ us) [] g = absurd g
traces-marked n xs (a ∷ us) (b ∷ bs) g = (g.0, g.1 ∙ ap (λ t. a.trace ++ t) (sym (given-marked a.port n xs)), traces-marked n xs us bs g.2)

traces-told : {T : Type 0} (f : Firing T) (us bs : List (Recorded T)) → TracesTold f.tag f.outputs us bs → TracesGrew (Finished [] f ∷ []) us bs
traces-told f [] [] g = tt
traces-told f [] (b ∷ bs) g = absurd g
traces-told f (a ∷ us) [] g = absurd g
traces-told f (a ∷ us) (b ∷ bs) g = (g.0, g.1 ∙ ap (λ t. a.trace ++ t) (sym (append-nil (with_tag f.tag (at f.outputs a.port)))), traces-told f us bs g.2)

-- meetings
meetings-none : (T : Type 0) (n : ℕ) (ms : Option Made) → MeetingsGrew {T = T} n [] ms ms
meetings-none T n None = refl
meetings-none T n (Some ms) = (sym (append-nil ms), λ i b. refl)

meetings-joined : {T : Type 0} (m n : ℕ) (xs ys : List (Event T)) (a b c : Option Made) → n ≡ m + firings_in xs → MeetingsGrew m xs a b → MeetingsGrew n ys b c → MeetingsGrew m (xs ++ ys) a c
meetings-joined m n xs ys None None None e g h = met-append xs ys ∙ ap (λ v. v ++ met_in ys) g ∙ h
meetings-joined m n xs ys (Some a) (Some b) (Some c) e g h = (
  h.0 ∙ ap (λ v. v ++ met_in ys) g.0 ∙ append_assoc a (met_in xs) (met_in ys) ∙ ap (λ v. a ++ v) (sym (met-append xs ys)),
  λ i l. in-append i xs ys ∙ ap (λ v. v ++ meetings_in i ys) (g.1 i l) ∙ h.1 i (omega (arith, l, e)),
)
meetings-joined m n xs ys None None (Some c) e g h = absurd h
meetings-joined m n xs ys None (Some b) c e g h = absurd g
meetings-joined m n xs ys (Some a) None c e g h = absurd g
meetings-joined m n xs ys (Some a) (Some b) None e g h = absurd h

meetings-marked : {T : Type 0} (m n : ℕ) (xs : List (Event T)) (a b : Option Made) → MeetingsGrew m xs a b → MeetingsGrew m (all_marked n xs) a b
meetings-marked m n xs None None g = met-marked n xs ∙ g
meetings-marked m n xs (Some a) (Some b) g = (g.0 ∙ ap (λ v. a ++ v) (sym (met-marked n xs)), λ i l. in-marked i n xs ∙ g.1 i l)
meetings-marked m n xs None (Some b) g = absurd g
meetings-marked m n xs (Some a) None g = absurd g

meetings-fired : {T : Type 0} (m : ℕ) (f : Firing T) (a b : Option Made) → b ≡ a → MeetingsGrew m (Finished [] f ∷ []) a b
meetings-fired m f None None e = refl
meetings-fired m f (Some a) (Some b) e = let same : b ≡ a = cc in (same ∙ sym (append-nil a), λ i l. refl)
meetings-fired m f None (Some b) e = absurd (cc)
meetings-fired m f (Some a) None e = absurd (cc)

-- entries
entry-none : {T : Type 0} (e : Entry T) → EntryGrew [] e e
entry-none {T} e = record { count = omega arith; recorded = traces-none e.recorded; meetings = meetings-none T e.count e.meetings }

pub entry-joined : {T : Type 0} (xs ys : List (Event T)) (a b c : Entry T) → EntryGrew xs a b → EntryGrew ys b c → EntryGrew (xs ++ ys) a c
entry-joined xs ys a b c g h = record { count = omega (arith, g.count, h.count, count-append xs ys); recorded = traces-joined xs ys a.recorded b.recorded c.recorded g.recorded h.recorded; meetings = meetings-joined a.count b.count xs ys a.meetings b.meetings c.meetings g.count g.meetings h.meetings }

entry-marked : {T : Type 0} (n : ℕ) (xs : List (Event T)) (a b : Entry T) → EntryGrew xs a b → EntryGrew (all_marked n xs) a b
entry-marked n xs a b g = record { count = omega (arith, g.count, count-marked n xs); recorded = traces-marked n xs a.recorded b.recorded g.recorded; meetings = meetings-marked a.count n xs a.meetings b.meetings g.meetings }

entry-fired : {T : Type 0} (f : Firing T) (a b : Entry T) → EntryFired f.tag f.outputs a b → EntryGrew (Finished [] f ∷ []) a b
entry-fired f a b g = record { count = omega (arith, g.count); recorded = traces-told f a.recorded b.recorded g.recorded; meetings = meetings-fired a.count f a.meetings b.meetings g.meetings }

-- one node
pub grew-none : {T : Type 0} (k : Kept T) → GrewBy silent k k
grew-none k p = entry-none (k p)

pub grew-joined : {T : Type 0} (l m : Log T) (a b c : Kept T) → GrewBy l a b → GrewBy m b c → GrewBy (log_then l m) a c
grew-joined l m a b c g h p = entry-joined (l p) (m p) (a p) (b p) (c p) (g p) (h p)

grew-own : {T : Type 0} (f : Firing T) (e e' : Entry T) (ks : List (Kept T)) → EntryFired f.tag f.outputs e e' → GrewBy (own f) (kept_by e ks) (kept_by e' ks)
grew-own f e e' ks h [] = entry-fired f e e' h
grew-own f e e' ks h (i ∷ p) = entry-none (kept_at ks i p)

pub grew-record : {T : Type 0} (f : Firing T) (l : Log T) (e mid e' : Entry T) (olds news : List (Kept T)) → GrewBy l (kept_by e olds) (kept_by mid news) → EntryFired f.tag f.outputs mid e' → GrewBy (log_then l (own f)) (kept_by e olds) (kept_by e' news)
grew-record f l e mid e' olds news g h = grew-joined l (own f) (kept_by e olds) (kept_by mid news) (kept_by e' news) g (grew-own f mid e' news h)

pub grew-count : {T : Type 0} (l : Log T) (a b : Kept T) (ps : List Path) → GrewBy l a b → count_kept b ps ≡ count_kept a ps + count_of l ps
grew-count l a b [] g = omega arith
grew-count l a b (p ∷ ps) g = omega (arith, (g p).count, grew-count l a b ps g)

pub nodes-grow : {T : Type 0} → NodesGrow T
nodes-grow = record { none = grew-none; joined = grew-joined; own_record = grew-record; counted = grew-count; met = grew-met; those = those-made; made = made-back; unmet = unmet-made }

-- children
pub all-begin : {T S : Type 0} (kids : List S) (ks : List (Kept T)) → length kids ≡ length ks → AllGrewBy (silents kids) ks ks
all-begin [] [] e = tt
all-begin [] (k ∷ ks) e = absurd (omega arith)
all-begin (s ∷ ss) [] e = absurd (omega arith)
all-begin (s ∷ ss) (k ∷ ks) e = (grew-none k, all-begin ss ks (omega arith))

pub all-go-on : {T : Type 0} (i : ℕ) (l : Log T) (ls : List (Log T)) (olds news : List (Kept T)) (k : Kept T) → i < length news → AllGrewBy ls olds news → GrewBy l (kept_at news i) k → AllGrewBy (logs_then i l ls) olds (set news i k)
all-go-on i l [] [] [] k b g h = absurd (omega arith)
all-go-on i l [] [] (n ∷ ns) k b g h = absurd g
all-go-on i l [] (o ∷ os) ns k b g h = absurd g
all-go-on i l (m ∷ ms) [] ns k b g h = absurd g
all-go-on i l (m ∷ ms) (o ∷ os) [] k b g h = absurd g
all-go-on zero l (m ∷ ms) (o ∷ os) (n ∷ ns) k b g h = (grew-joined m l o n k g.0 h, g.1)
all-go-on (suc i) l (m ∷ ms) (o ∷ os) (n ∷ ns) k b g h = (g.0, all-go-on i l ms os ns k (omega arith) g.1 h)

pub all-long : {T : Type 0} (ls : List (Log T)) (olds news : List (Kept T)) → AllGrewBy ls olds news → length ls ≡ length news
all-long [] [] [] g = refl
all-long [] [] (n ∷ ns) g = absurd g
all-long [] (o ∷ os) ns g = absurd g
all-long (m ∷ ms) [] ns g = absurd g
all-long (m ∷ ms) (o ∷ os) [] g = absurd g
all-long (m ∷ ms) (o ∷ os) (n ∷ ns) g = ap (λ v. suc v) (all-long ms os ns g.1)

pub all-each : {T : Type 0} (i : ℕ) (ls : List (Log T)) (olds news : List (Kept T)) → AllGrewBy ls olds news → GrewBy (log_at ls i) (kept_at olds i) (kept_at news i)
all-each i [] [] [] g = grew-none (λ p. blank)
all-each i [] [] (n ∷ ns) g = absurd g
all-each i [] (o ∷ os) ns g = absurd g
all-each i (m ∷ ms) [] ns g = absurd g
all-each i (m ∷ ms) (o ∷ os) [] g = absurd g
all-each zero (m ∷ ms) (o ∷ os) (n ∷ ns) g = g.0
all-each (suc i) (m ∷ ms) (o ∷ os) (n ∷ ns) g = all-each i ms os ns g.1

below-grew : {T : Type 0} (n : ℕ) (ls : List (Log T)) (olds news : List (Kept T)) → AllGrewBy ls olds news → (i : ℕ) (p : Path) → EntryGrew (all_marked n (log_below ls (i ∷ p))) (kept_at olds i p) (kept_at news i p)
below-grew n [] [] [] g i p = entry-none blank
below-grew n [] [] (b ∷ bs) g i p = absurd g
below-grew n [] (a ∷ us) bs g i p = absurd g
below-grew n (m ∷ ms) [] bs g i p = absurd g
below-grew n (m ∷ ms) (a ∷ us) [] g i p = absurd g
below-grew n (m ∷ ms) (a ∷ us) (b ∷ bs) g zero p = entry-marked n (m p) (a p) (b p) (g.0 p)
below-grew n (m ∷ ms) (a ∷ us) (b ∷ bs) g (suc i) p = below-grew n ms us bs g.1 i p

pub grew-within : {T : Type 0} (n : ℕ) (ls : List (Log T)) (e : Entry T) (olds news : List (Kept T)) → AllGrewBy ls olds news → GrewBy (within_firing n (log_below ls)) (kept_by e olds) (kept_by e news)
grew-within n ls e olds news g [] = entry-none e
grew-within n ls e olds news g (i ∷ p) = below-grew n ls olds news g i p

pub children-grow : {T S : Type 0} → ChildrenGrow T S
children-grow = record { begin = all-begin; go_on = all-go-on; each = all-each; all_made = all-made-back; there = kept-there; within = grew-within }
