-- Firings that are noted and recorded together, as they are one after another.
use Rattle.std.proofs.Common.{◌≡◌, ℕ, ℤ, zero, suc, ◌+◌, ◌*◌, List, [], ◌∷◌, ◌++◌, length, take, drop, map, Some, true, refl, ap, ap₂, sym, ◌∙◌, arith, append_assoc}
use Rattle.std.proofs.lemmas.List.{append-nil, map-append, take_all}
use Rattle.pt_meaning.specs.Basics.{Tag, Streams, at, with_tag}
use Rattle.pt_value.specs.declared.token.Token.{Token}
use Rattle.pt_value.specs.declared.token.Token.TheVariants.{Int}
use Rattle.pt_past.specs.Recorded.{RecordedPort, noting, recording}
use Rattle.pt_node.specs.Shown.{Shown, AllShown, Frame, Branch}
use Rattle.pt_node.specs.Firing.{noted, recorded, recorded_times, recorded_in_turn}
use Rattle.pt_past.proofs.RecordedLaws.{with_tag-append}

-- a port on which these tokens were recorded besides
abbrev recorded_with : Tag → List Token → RecordedPort → RecordedPort
recorded_with tag tokens r = record { port = r.port; number = r.number; text = r.text; trace = r.trace ++ with_tag tag (at (tokens ∷ []) r.port); noted = [] }

trace-more : (tag : Tag) (trace : List (Tag × Token)) (a b c : List Token) (port : ℕ) → a ++ b ≡ c → (trace ++ with_tag tag (at (a ∷ []) port)) ++ with_tag tag (at (b ∷ []) port) ≡ trace ++ with_tag tag (at (c ∷ []) port)
trace-more tag trace a b c zero e = append_assoc trace (with_tag tag a) (with_tag tag b) ∙ ap (λ v. trace ++ v) (sym (with_tag-append tag a b) ∙ ap (λ v. with_tag tag v) e)
trace-more tag trace a b c (suc port) e = append-nil (trace ++ [])

ports-more : (tag : Tag) (a b c : List Token) (rs : List RecordedPort) → a ++ b ≡ c → map recording (map (noting tag (b ∷ [])) (map (recorded_with tag a) rs)) ≡ map (recorded_with tag c) rs
ports-more tag a b c [] e = refl
ports-more tag a b c (r ∷ rs) e =
    ap₂ (λ v w. (let p : RecordedPort = record { port = r.port; number = r.number; text = r.text; trace = v; noted = [] } in p) ∷ w) (trace-more tag r.trace a b c r.port e) (ports-more tag a b c rs e)

ports-first : (tag : Tag) (a : List Token) (rs : List RecordedPort) → map recording (map (noting tag (a ∷ [])) rs) ≡ map (recorded_with tag a) rs
ports-first tag a [] = refl
ports-first tag a (r ∷ rs) = ap (λ w. recorded_with tag a r ∷ w) (ports-first tag a rs)

-- a node after so many firings that recorded these tokens
abbrev after_times : Tag → ℕ → List Token → Frame → AllShown → Shown
after_times tag k tokens g ks = Branch (record { past = record { made = k; last = Some tag.time }; body = g.body; records = map (recorded_with tag tokens) g.records; path = g.path; labels = g.labels; meetings = g.meetings; live = true }) ks

-- with these ports in place of its own
abbrev with_ports : Tag → ℕ → List RecordedPort → Frame → AllShown → Shown
with_ports tag k rs g ks = Branch (record { past = record { made = k; last = Some tag.time }; body = g.body; records = rs; path = g.path; labels = g.labels; meetings = g.meetings; live = true }) ks

module _ (tag : Tag) (rate : ℕ) (numbers : List ℤ) (g : Frame) (ks : AllShown) where
  abbrev outputs : ℕ → Streams Token
  outputs k = map Int (take rate (drop (k * rate) numbers)) ∷ []

  abbrev all_before : ℕ → List Token
  all_before k = map Int (take (k * rate) numbers)

  next-given : (k : ℕ) → all_before k ++ map Int (take rate (drop (k * rate) numbers)) ≡ all_before (suc k)
  next-given k = sym (map-append Int (take (k * rate) numbers) (take rate (drop (k * rate) numbers))) ∙ ap (λ v. map Int v) (sym (take-more (k * rate) rate numbers)) ∙ ap (λ n. map Int (take n numbers)) {x = k * rate + rate} {y = suc k * rate} (omega arith)
    where
      take-none : (m : ℕ) → take {A = ℤ} m [] ≡ []
      take-none zero = refl
      take-none (suc m) = refl

      take-more : (k m : ℕ) (xs : List ℤ) → take (k + m) xs ≡ take k xs ++ take m (drop k xs)
      take-more zero m xs = ap (λ j. take j xs) {x = 0 + m} {y = m} (omega arith)
      take-more (suc k) m [] = take-none (suc k + m) ∙ sym (take-none m)
      take-more (suc k) m (x ∷ xs) = ap (λ j. take j (x ∷ xs)) {x = suc k + m} {y = suc (k + m)} (omega arith) ∙ ap (λ v. x ∷ v) (take-more k m xs)

  none-before : [] ≡ all_before 0
  none-before = ap (λ n. map Int (take n numbers)) {x = 0} {y = 0 * rate} (omega arith)

  in-turn : (k : ℕ) → recorded_in_turn tag outputs (suc k) (Branch g ks) ≡ after_times tag (suc k + g.past.made) (all_before (suc k)) g ks
  in-turn zero =
      ap (λ rs. with_ports tag (suc g.past.made) rs g ks) (ports-first tag (map Int (take rate (drop (0 * rate) numbers))) g.records ∙ ap (λ ts. map (recorded_with tag ts) g.records) (ap (λ ts. ts ++ map Int (take rate (drop (0 * rate) numbers))) none-before ∙ next-given 0))
      ∙ ap (λ n. after_times tag n (all_before 1) g ks) {x = suc g.past.made} {y = 1 + g.past.made} (omega arith)
  in-turn (suc k) =
      ap (λ s. recorded tag (noted tag (outputs (suc k)) s)) (in-turn k)
      ∙ ap (λ rs. with_ports tag (suc (suc k + g.past.made)) rs g ks) (ports-more tag (all_before (suc k)) (map Int (take rate (drop (suc k * rate) numbers))) (all_before (suc (suc k))) g.records (next-given (suc k)))
      ∙ ap (λ n. after_times tag n (all_before (suc (suc k))) g ks) {x = suc (suc k + g.past.made)} {y = suc (suc k) + g.past.made} (omega arith)

  together : (k : ℕ) → length numbers ≡ suc k * rate → recorded_times tag (suc k) (noted tag (map Int numbers ∷ []) (Branch g ks)) ≡ recorded_in_turn tag outputs (suc k) (Branch g ks)
  together k long =
      ap (λ rs. with_ports tag (g.past.made + suc k) rs g ks) (ports-first tag (map Int numbers) g.records)
      ∙ ap (λ ns. after_times tag (g.past.made + suc k) (map Int ns) g ks) (sym (take_all (suc k * rate) numbers (omega (arith, long))))
      ∙ ap (λ n. after_times tag n (all_before (suc k)) g ks) {x = g.past.made + suc k} {y = suc k + g.past.made} (omega arith) ∙ sym (in-turn k)

-- some firings, each of which gave as many of these numbers
pub recorded-together : (tag : Tag) (rate : ℕ) (numbers : List ℤ) (k : ℕ) (s : Shown) → length numbers ≡ suc k * rate → recorded_times tag (suc k) (noted tag (map Int numbers ∷ []) s) ≡ recorded_in_turn tag (λ j. map Int (take rate (drop (j * rate) numbers)) ∷ []) (suc k) s
recorded-together tag rate numbers k (Branch g ks) long = together tag rate numbers g ks k long
