-- What is recorded of a composite's own meetings has all that its director has told, so that the laws of the director speak of it.
use Rattle.std.proofs.Common.{◌≡◌, ℕ, suc, ◌≤◌, List, [], ◌∷◌, ◌++◌, map, Bool, true, false, nat_eq, Option, Some, None, refl, sym, ap, ap₂, subst, ◌∙◌, arith, append-nil, append_assoc}
use Rattle.std.proofs.lemmas.Bool.Decides.{nat_tests}
use Rattle.std.specs.Prelude.{IsSome}
use Rattle.pt_meaning.specs.Log.{Meeting, if_same}
use Rattle.pt_meaning.specs.Meetings.{Meets}
use Rattle.pt_meaning.specs.Tree.{Past}
use Rattle.pt_records.specs.Kept.{Made, Entry}
use Rattle.pt_records.specs.Made.{made_in, IsMade}
use Rattle.pt_core.specs.Met.{HasMet, IsListed, made_with, none_met, one_met, entry_met}
use Rattle.pt_past.specs.Meetings.{Serves}
use Rattle.pt_past.proofs.MeetingsLaws.{serves-any}
use Rattle.pt_turns.specs.OwnMeetings.{OwnMeetings, own_of, one_more, AreRecorded, with_meetings, IsOwnPath}

-- meetings, each as one of firing n
abbrev of_firing : ℕ → List Meeting → Made
of_firing n ms = map (λ m. (n, m)) ms

if-append : (b : Bool) (m : Meeting) (xs ys : List Meeting) → if_same b m (xs ++ ys) ≡ if_same b m xs ++ ys
if-append true m xs ys = refl
if-append false m xs ys = refl

made-append : (n : ℕ) (xs ys : Made) → made_in n (xs ++ ys) ≡ made_in n xs ++ made_in n ys
made-append n [] ys = refl
made-append n (x ∷ xs) ys = ap (λ v. if_same (nat_eq x.0 n) x.1 v) (made-append n xs ys) ∙ if-append (nat_eq x.0 n) x.1 (made_in n xs) (made_in n ys)

eq-self : (n : ℕ) → nat_eq n n ≡ true
eq-self n = grind (arith, nat_tests)

eq-less : (n k : ℕ) → suc n ≤ k → nat_eq n k ≡ false
eq-less n k h = grind (arith, nat_tests, h)

-- all of these are of that firing
made-own : (n : ℕ) (ms : List Meeting) → made_in n (of_firing n ms) ≡ ms
made-own n [] = refl
made-own n (m ∷ ms) = ap (λ b. if_same b m (made_in n (of_firing n ms))) (eq-self n) ∙ ap (λ v. m ∷ v) (made-own n ms)

-- and none of a later one
made-later : (n k : ℕ) → suc n ≤ k → (ms : List Meeting) → made_in k (of_firing n ms) ≡ []
made-later n k h [] = refl
made-later n k h (m ∷ ms) = ap (λ b. if_same b m (made_in k (of_firing n ms))) (eq-less n k h) ∙ made-later n k h ms

map-append : (n : ℕ) (xs ys : List Meeting) → of_firing n (xs ++ ys) ≡ of_firing n xs ++ of_firing n ys
map-append n [] ys = refl
map-append n (x ∷ xs) ys = ap (λ v. (n, x) ∷ v) (map-append n xs ys)

-- the record of a firing that makes meetings
listed-of : (ms : List Meeting) (n : ℕ) (start now : Option Made) → Serves (Some ms) n start → now ≡ made_with n ms start → (given : List Meeting) → IsMade now n given → given ≡ ms
listed-of ms n None now s e given g = absurd s
listed-of ms n (Some old) now s e given g =
    let listed : given ≡ made_in n (old ++ of_firing n ms) = subst (λ v. IsMade v n given) e g in
    listed ∙ made-append n old (of_firing n ms) ∙ ap₂ (λ (v w : List Meeting). v ++ w) (s n (omega arith)) (made-own n ms)

record-of : (ms : List Meeting) (n : ℕ) (start : Option Made) → Serves (Some ms) n start → (made : Made) × (start ≡ Some made)
record-of ms n None s = absurd s
record-of ms n (Some old) s = (old, refl)

pub listed-met : {T : Type 0} (met : Option (List Meeting)) (own : OwnMeetings) → AreRecorded met own → (m : Meets) (h : Past) (e : Entry T) → IsOwnPath m own h e → IsListed met m h
listed-met None own r m h e p = tt
listed-met (Some ms) own r m h e p = ap (λ n. m [] n) p.number ∙ listed-of ms own.number own.start own.now r.serves r.recorded (m [] own.number) p.given

pub has-met : {T : Type 0} (met : Option (List Meeting)) (own : OwnMeetings) → AreRecorded met own → (m : Meets) (h : Past) (e : Entry T) → IsOwnPath m own h e → HasMet met m h e
has-met None own r m h e p = tt
has-met (Some ms) own r m h e p =
    let start = record-of ms own.number own.start r.serves in
    record { listed = listed-met (Some ms) own r m h e p; next = omega (arith, p.number, p.count); made = start.0; recorded = p.meetings ∙ start.1 }

-- what is kept of its path has just what is recorded
pub entry-own : {T : Type 0} (met : Option (List Meeting)) (own : OwnMeetings) → AreRecorded met own → (m : Meets) (h : Past) (e : Entry T) → IsOwnPath m own h e → entry_met h.made met e ≡ with_meetings own.now e
entry-own None own r m h e p = ap (λ v. with_meetings v e) (p.meetings ∙ sym r.recorded)
entry-own (Some ms) own r m h e p = ap (λ v. with_meetings v e) (ap₂ (λ n v. made_with n ms v) p.number p.meetings ∙ sym r.recorded)

-- a firing begins
pub begun-recorded : (met : Option (List Meeting)) (n : ℕ) (r : Option Made) → Serves met n r → AreRecorded (none_met met) (own_of n r r)
begun-recorded None n r s = record { serves = tt; recorded = refl }
begun-recorded (Some ms) n None s = absurd s
begun-recorded (Some ms) n (Some made) s = record { serves = s; recorded = ap (λ v. Option.Some v) (sym (append-nil made)) }

with-more : (n : ℕ) (ms : List Meeting) (x : Meeting) (r : Option Made) → made_with n (x ∷ []) (made_with n ms r) ≡ made_with n (ms ++ (x ∷ [])) r
with-more n ms x None = refl
with-more n ms x (Some made) = ap (λ v. Option.Some v) (append_assoc made (of_firing n ms) (of_firing n (x ∷ [])) ∙ ap (λ v. made ++ v) (sym (map-append n ms (x ∷ []))))

-- one more meeting is recorded
pub more-recorded : (met : Option (List Meeting)) (own : OwnMeetings) → AreRecorded met own → IsSome met → (x : Meeting) → AreRecorded (one_met x met) (one_more x own)
more-recorded None own r s x = absurd (cc)
more-recorded (Some ms) own r s x = record {
  serves = serves-any ms (ms ++ (x ∷ [])) own.number own.start r.serves;
  recorded = ap (λ v. made_with own.number (x ∷ []) v) r.recorded ∙ with-more own.number ms x own.start;
}

-- once the firing is recorded the record serves the next one
serves-next : (ms : List Meeting) (n : ℕ) (start now : Option Made) → Serves (Some ms) n start → now ≡ made_with n ms start → Serves (Some []) (suc n) now
serves-next ms n None now s e = absurd s
serves-next ms n (Some old) now s e =
    subst (λ v. Serves (Some []) (suc n) v) (sym e) (λ k l. made-append k old (of_firing n ms) ∙ ap₂ (λ (v w : List Meeting). v ++ w) (s k (omega (arith, l))) (made-later n k l ms))

pub ends-recorded : (met : Option (List Meeting)) (own : OwnMeetings) → AreRecorded met own → Serves (none_met met) (suc own.number) own.now
ends-recorded None own r = tt
ends-recorded (Some ms) own r = serves-next ms own.number own.start own.now r.serves r.recorded
