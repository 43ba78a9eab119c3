-- Lines one after another, and how many of them are of a firing.
use Rattle.std.proofs.Common.{◌≡◌, ◌==◌, ℕ, suc, ◌+◌, ◌≤◌, ◌<◌, List, [], ◌∷◌, ◌++◌, if◌then◌else◌, length, map, take, get_or, refl, sym, ap, subst, ◌∙◌, append_assoc, arith, codes, decimal}
use Rattle.std.specs.List.{AllZip}
use Rattle.std.proofs.lemmas.Grind.{common_steps}
use Rattle.std.proofs.lemmas.List.{append-nil, take_all, length-map, length-take}
use Rattle.std.proofs.lemmas.List.Sums.{count_by-le-length}
use Rattle.pt_meaning.specs.Log.{Meeting}
use Rattle.pt_firing.specs.declared.ask.Meeting as asked
use Rattle.pt_trace.specs.declared.meetings.MeetingLine.{MeetingLine}
use Rattle.pt_trace.specs.MeetingText.{count_of, meeting_line, meeting_lines}
use Rattle.pt_meeting_lines.specs.declared.inside.Inside.{Inside}
use Rattle.pt_meeting_lines.specs.Lines.{meant, IsLine, AreLines}
use Rattle.pt_meeting_lines.proofs.Firings.{zip-next}
use Rattle.pt_meeting_text.specs.declared.earlier.Earlier.{Earlier}
use Rattle.pt_meeting_text.specs.Earlier.{counted}
use Rattle.pt_meeting_text.specs.Written.{IsWrittenEnd, IsWrittenLine, AreWritten}

-- one line more
lines-push : (earlier ls : List MeetingLine) (l : MeetingLine) → meeting_lines earlier (ls ++ l ∷ []) ≡ meeting_lines earlier ls ++ meeting_line l (count_of l.firing (earlier ++ ls))
lines-push earlier [] l = append-nil (meeting_line l (count_of l.firing earlier)) ∙ ap (λ e. meeting_line l (count_of l.firing e)) (sym (append-nil earlier))
lines-push earlier (x ∷ xs) l =
    let front = meeting_line x (count_of x.firing earlier) in
    ap (λ t. front ++ t) (lines-push (earlier ++ x ∷ []) xs l ∙ ap (λ e. meeting_lines (earlier ++ x ∷ []) xs ++ meeting_line l (count_of l.firing e)) (append_assoc earlier (x ∷ []) xs))
    ∙ sym (append_assoc front (meeting_lines (earlier ++ x ∷ []) xs) (meeting_line l (count_of l.firing (earlier ++ x ∷ xs))))

-- it counts for its firing
count-push : (ls : List MeetingLine) (l : MeetingLine) (q : ℕ) → count_of q (ls ++ l ∷ []) ≡ (if q == l.firing then count_of q ls + 1 else count_of q ls)
count-push [] l q = grind (arith, common_steps)
count-push (x ∷ xs) l q = grind (arith, common_steps, count-push xs l q)

zip-length : {A B : Type 0} (R : A → B → Type 0) (xs : List A) (ys : List B) → AllZip R xs ys → length xs ≡ length ys
zip-length R [] [] z = refl
zip-length R [] (y ∷ ys) z = absurd z
zip-length R (x ∷ xs) [] z = absurd z
zip-length R (x ∷ xs) (y ∷ ys) z = ap suc (zip-length R xs ys z.1)

-- the lines of the first of these meetings are written
pub record Writing (inside : Inside) (made : List (ℕ × asked.Meeting)) (i : ℕ) (old now : List ℕ) (earlier : Earlier) : Type 0 where
  pub lines : List MeetingLine
  pub are : AreLines inside.net.now inside.number inside.composite.now lines (map meant (take i made))
  pub text : now ≡ old ++ meeting_lines [] lines
  pub counts : (q : ℕ) → counted earlier q ≡ count_of q lines

pub writing-none : (inside : Inside) (made : List (ℕ × asked.Meeting)) (old : List ℕ) (earlier : Earlier) → ((q : ℕ) → counted earlier q ≡ 0) → Writing inside made 0 old old earlier
writing-none inside made old earlier none = record { lines = []; are = tt; text = sym (append-nil old); counts = none }

pub writing_few : (inside : Inside) (made : List (ℕ × asked.Meeting)) (i : ℕ) (old now : List ℕ) (earlier : Earlier) (q : ℕ) → Writing inside made i old now earlier → counted earlier q ≤ i
writing_few inside made i old now earlier q w =
    let long : length w.lines ≡ length (map meant (take i made)) = zip-length (IsLine inside.net.now inside.number inside.composite.now) w.lines (map meant (take i made)) w.are in
    omega (arith, w.counts q, count_by-le-length (λ (l : MeetingLine). l.firing == q) w.lines, long, length-map (take i made) meant, length-take i made)

pub writing-next : (inside : Inside) (made : List (ℕ × asked.Meeting)) (i : ℕ) (old now new : List ℕ) (before after : Earlier) (d : ℕ × asked.Meeting) → Writing inside made i old now before → i < length made →
    IsWrittenLine inside (meant (get_or made i d)) (counted before (get_or made i d).0) now new →
    ((q : ℕ) → counted after q ≡ (if q == (get_or made i d).0 then counted before q + 1 else counted before q)) → Writing inside made (i + 1) old new after
writing-next inside made i old now new before after d w l written count =
    let line = written.0 in
    let firing : line.firing ≡ (get_or made i d).0 = written.1.0 in
    let index : counted before (get_or made i d).0 ≡ count_of line.firing w.lines = w.counts (get_or made i d).0 ∙ ap (λ n. count_of n w.lines) (sym firing) in
    record {
      lines = w.lines ++ line ∷ [];
      are = zip-next (IsLine inside.net.now inside.number inside.composite.now) meant w.lines made i line d w.are l written.1;
      text = written.2 ∙ ap (λ n. now ++ meeting_line line n) index ∙ ap (λ t. t ++ meeting_line line (count_of line.firing w.lines)) w.text ∙ append_assoc old (meeting_lines [] w.lines) (meeting_line line (count_of line.firing w.lines)) ∙ ap (λ t. old ++ t) (sym (lines-push [] w.lines line));
      counts = λ q. count q ∙ ap (λ n. if q == n then counted before q + 1 else counted before q) (sym firing) ∙ ap (λ n. if q == line.firing then n + 1 else n) (w.counts q) ∙ sym (count-push w.lines line q);
    }

pub writing-all : (inside : Inside) (made : List (ℕ × asked.Meeting)) (i : ℕ) (old now : List ℕ) (earlier : Earlier) → Writing inside made i old now earlier → length made ≤ i → AreWritten inside (map meant made) old now
writing-all inside made i old now earlier w l = (w.lines, subst (λ ms. AreLines inside.net.now inside.number inside.composite.now w.lines (map meant ms)) (take_all i made l) w.are, w.text)

-- a line is its head and its end
pub line-written : (inside : Inside) (m : ℕ × Meeting) (index n : ℕ) (old mid new : List ℕ) → index ≡ n → mid ≡ old ++ (decimal m.0 ++ (codes " " ++ (decimal index ++ codes " "))) → IsWrittenEnd inside m.1 mid new → IsWrittenLine inside m n old new
line-written inside m index n old mid new same head h =
    let what = h.1.0 in
    (record { firing = m.0; what = what }, (refl, h.1.1), rw (h.2, head, h.1.2, same) (simp append_assoc))
