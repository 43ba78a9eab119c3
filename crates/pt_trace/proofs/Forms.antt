-- The form of a report that was worked by hand.
use Rattle.std.proofs.Common.{◌≡◌, inl, inr, ℕ, zero, suc, List, [], ◌∷◌, length, All, Bool, true, false, ◌&&◌, ◌||◌, ◌==◌, nat_le, refl, sym, subst, arith, codes}
use Rattle.std.proofs.lemmas.Bool.{leb-true}
use Rattle.std.specs.Char.{is_ascii_alphabetic, is_ascii_alphanumeric}
use Rattle.std.specs.Fmt.{digits}
use Rattle.pt_value.specs.Name.{BeginsName, ContinuesName}
use Rattle.pt_trace.specs.declared.meetings.MeetingLine.{MeetingLine}
use Rattle.pt_trace.specs.ReportForm.{IsName, AreNames, IsPath, IsPlaceText, IsTrace, IsMeeting, AreMeetings, joined}
use Rattle.pt_trace.specs.ReportText.{report_text}
use Rattle.pt_trace.specs.FormExample.{at_place, at_barrier, at_output, example, FormExamples}

and_left : (a b : Bool) → (a && b) ≡ true → a ≡ true
and_left true b e = refl
and_left false b e = e

and_right : (a b : Bool) → (a && b) ≡ true → b ≡ true
and_right true b e = e
and_right false b e = absurd (cc)

-- names, by a test
abbrev later : List ℕ → Bool
later [] = true
later (c ∷ cs) = (is_ascii_alphanumeric c || c == 95) && later cs

abbrev is_formed : List ℕ → Bool
is_formed [] = false
is_formed (c ∷ cs) = (is_ascii_alphabetic c || c == 95) && later cs

all-later : (cs : List ℕ) → later cs ≡ true → All ContinuesName cs
all-later [] e k d l = absurd (omega (arith, l))
all-later (c ∷ cs) e zero d l = and_left (is_ascii_alphanumeric c || c == 95) (later cs) e
all-later (c ∷ cs) e (suc k) d l = all-later cs (and_right (is_ascii_alphanumeric c || c == 95) (later cs) e) k d (omega (arith, l))

named : (n : List ℕ) → is_formed n ≡ true → nat_le (length n) 64 ≡ true → IsName n
named [] e h = absurd (cc)
named (c ∷ cs) e h = record { form = (and_left (is_ascii_alphabetic c || c == 95) (later cs) e, all-later cs (and_right (is_ascii_alphabetic c || c == 95) (later cs) e)); short = leb-true (length (c ∷ cs)) 64 h }

none-of : {A : Type 0} (P : A → Type 0) → All P []
none-of P k d l = absurd (omega (arith, l))

and-of : {A : Type 0} (P : A → Type 0) (x : A) (xs : List A) → P x → All P xs → All P (x ∷ xs)
and-of P x xs p ps zero d l = p
and-of P x xs p ps (suc k) d l = ps k d (omega (arith, l))

one-name : (n : List ℕ) → IsName n → AreNames n
one-name n h = record { first = n; rest = []; named = (h, none-of IsName); is = refl }

names-of : (m n : List ℕ) → IsName m → IsName n → AreNames (joined m (n ∷ []))
names-of m n h k = record { first = m; rest = n ∷ []; named = (h, and-of IsName n [] k (none-of IsName)); is = refl }

-- a dot begins no name
begins : (c : ℕ) (xs ys : List ℕ) → 46 ∷ xs ≡ c ∷ ys → BeginsName c → ⊥
begins c xs ys e b = let same : 46 ≡ c = cc in let no : false ≡ true = subst (λ d. BeginsName d) (sym same) b in cc

not-dot : (first : List ℕ) (rest : List (List ℕ)) → IsName first → codes "." ≡ joined first rest → ⊥
not-dot [] rest h e = h.form
not-dot (c ∷ cs) [] h e = begins c [] cs e h.form.0
not-dot (c ∷ cs) (n ∷ ns) h e = begins c [] _ e h.form.0

not-empty : (first : List ℕ) (rest : List (List ℕ)) → IsName first → [] ≡ joined first rest → ⊥
not-empty [] rest h e = h.form
not-empty (c ∷ cs) [] h e = cc
not-empty (c ∷ cs) (n ∷ ns) h e = cc

no-path : IsPath [] → ⊥
no-path (inl e) = cc
no-path (inr h) = not-empty h.first h.rest h.named.0 h.is

name-S : IsName (codes "S")
name-S = named (codes "S") refl refl

name-input : IsName (codes "input")
name-input = named (codes "input") refl refl

place : IsPlaceText (codes "a.plus.0")
unfolding digits
place = (record { child = codes "a"; port = codes "plus"; channel = 0 }, record { child = one-name (codes "a") (named (codes "a") refl refl); port = named (codes "plus") refl refl }, refl)

text-is : report_text example ≡ codes "trace S.k.output\nmeetings .\n0 0 meet S.m.input.1\n0 1 barrier b\n1 0 out o\nfull a.plus.0 2\nend queue P 1\n"
unfolding digits
text-is = refl

pub form-examples : FormExamples
form-examples = record {
  formed = record {
    traces = and-of IsTrace _ [] (record { first = codes "S"; rest = codes "k" ∷ codes "output" ∷ []; named = (name-S, and-of IsName (codes "k") (codes "output" ∷ []) (named (codes "k") refl refl) (and-of IsName (codes "output") [] (named (codes "output") refl refl) (none-of IsName))); is = refl }) (none-of IsTrace);
    meetings = and-of AreMeetings _ [] (record {
      path = inl refl;
      lines = and-of (λ (line : MeetingLine). IsMeeting line.what) at_place (at_barrier ∷ at_output ∷ []) (record { child = names-of (codes "S") (codes "m") name-S (named (codes "m") refl refl); port = name-input })
          (and-of (λ (line : MeetingLine). IsMeeting line.what) at_barrier (at_output ∷ []) (one-name (codes "b") (named (codes "b") refl refl))
          (and-of (λ (line : MeetingLine). IsMeeting line.what) at_output [] (named (codes "o") refl refl) (none-of (λ (line : MeetingLine). IsMeeting line.what))));
    }) (none-of AreMeetings);
    end = record { path = inr (one-name (codes "P") (named (codes "P") refl refl)); places = and-of (λ (row : List ℕ × ℕ). IsPlaceText row.0) _ [] place (none-of (λ (row : List ℕ × ℕ). IsPlaceText row.0)) };
  };
  told = text-is;
  no_trace = λ h. not-dot h.first h.rest h.named.0 h.is;
  no_output = λ h. h.form;
  no_path = no-path;
}
