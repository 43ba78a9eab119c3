-- The content of a string, a run of plain bytes at a time.
use Rattle.std.proofs.Common.{◌≡◌, ℕ, suc, ◌+◌, List, [], ◌∷◌, ◌++◌, take, drop, Bool, true, false, cond, not, ◌&&◌, eqb, Option, Some, None, option_map, refl, sym, ◌∙◌, ap, subst, append_assoc, append-nil, arith}
use Rattle.std.proofs.lemmas.Option.{some_pair_parts, none-some, same_Some}
use Rattle.std.specs.List.{prefix_len}
use Rattle.pt_language.specs.Words.{string_at, escape_at, escaped, escape_of, escape_mark, mark_at, behind, is_plain}

abbrev Content : Type 0
Content = Option (List ℕ × List ℕ)

-- what was read, behind some bytes
abbrev pub behind_all : List ℕ → Content → Content
behind_all xs read = option_map (λ r. (xs ++ r.0, r.1)) read

behind_none : (read : Content) → read ≡ behind_all [] read
behind_none None = refl
behind_none (Some r) = refl

behind_one : (x : ℕ) (xs : List ℕ) (read : Content) → option_map (behind x) (behind_all xs read) ≡ behind_all (x ∷ xs) read
behind_one x xs None = refl
behind_one x xs (Some r) = refl

plain_by : (a b : Bool) (s e p : Content) → not a && not b ≡ true → cond a s (cond b e p) ≡ p
plain_by true b s e p h = cc
plain_by false true s e p h = cc
plain_by false false s e p h = refl

plain_step : (x : ℕ) (xs : List ℕ) → is_plain x ≡ true → string_at (x ∷ xs) ≡ option_map (behind x) (string_at xs)
plain_step x xs h = plain_by (eqb x 34) (eqb x 92) _ _ _ h

count_more : (x : ℕ) (xs : List ℕ) → is_plain x ≡ true → prefix_len is_plain (x ∷ xs) ≡ suc (prefix_len is_plain xs)
count_more x xs h =
    let q : 1 + prefix_len is_plain xs ≡ suc (prefix_len is_plain xs) = omega arith in
    ap (λ b. cond b (1 + prefix_len is_plain xs) 0) h ∙ q

count_none : (x : ℕ) (xs : List ℕ) → is_plain x ≡ false → prefix_len is_plain (x ∷ xs) ≡ 0
count_none x xs h = ap (λ b. cond b (1 + prefix_len is_plain xs) 0) h

abbrev RunStands : ℕ → List ℕ → Type 0
RunStands n xs = string_at xs ≡ behind_all (take n xs) (string_at (drop n xs))

-- a run of plain bytes stands as it is
pub string_run : (xs : List ℕ) → string_at xs ≡ behind_all (take (prefix_len is_plain xs) xs) (string_at (drop (prefix_len is_plain xs) xs))
string_run [] = refl
string_run (x ∷ xs) = by_test (is_plain x) refl (string_run xs)
  where
    by_test : (b : Bool) → is_plain x ≡ b → RunStands (prefix_len is_plain xs) xs → RunStands (prefix_len is_plain (x ∷ xs)) (x ∷ xs)
    by_test true h r =
        let P : ℕ → Type 0 = λ n. RunStands n (x ∷ xs) in
        subst P (sym (count_more x xs h)) (plain_step x xs h ∙ ap (option_map (behind x)) r ∙ behind_one x _ _)
    by_test false h r =
        let P : ℕ → Type 0 = λ n. RunStands n (x ∷ xs) in
        subst P (sym (count_none x xs h)) (behind_none _)

-- behind a run no plain byte stands
run_ends : (xs : List ℕ) → prefix_len is_plain (drop (prefix_len is_plain xs) xs) ≡ 0
run_ends [] = refl
run_ends (x ∷ xs) = by_test (is_plain x) refl (run_ends xs)
  where
    by_test : (b : Bool) → is_plain x ≡ b → prefix_len is_plain (drop (prefix_len is_plain xs) xs) ≡ 0 → prefix_len is_plain (drop (prefix_len is_plain (x ∷ xs)) (x ∷ xs)) ≡ 0
    by_test true h r = let P : ℕ → Type 0 = λ n. prefix_len is_plain (drop n (x ∷ xs)) ≡ 0 in subst P (sym (count_more x xs h)) r
    by_test false h r = let P : ℕ → Type 0 = λ n. prefix_len is_plain (drop n (x ∷ xs)) ≡ 0 in subst P (sym (count_none x xs h)) (count_none x xs h)

abbrev Mark : Type 0
Mark = Option (Option ℕ × List ℕ)

-- the closing quote
end_letter : (o : Option ℕ) (zs rest : List ℕ) (s : Content) → ◌≡◌ {A = Mark} (option_map (λ d. (Some d, zs)) o) (Some (None, rest)) → escaped o s ≡ Some ([], rest)
end_letter None zs rest s e = cc
end_letter (Some d) zs rest s e = let k = (some_pair_parts _ _ _ _ e).0 in absurd (none-some d (sym k))

end_by : (a b : Bool) (ys rest : List ℕ) (p : Content) → ◌≡◌ {A = Mark} (cond a (Some (None, ys)) (cond b (escape_mark ys) None)) (Some (None, rest)) → cond a (Some ([], ys)) (cond b (escape_at ys) p) ≡ Some ([], rest)
end_by true b ys rest p e = ap (λ r. Some ([], r)) (some_pair_parts _ _ _ _ e).1
end_by false true [] rest p e = cc
end_by false true (z ∷ zs) rest p e = end_letter (escape_of z) zs rest _ e
end_by false false ys rest p e = cc

string_end : (ys rest : List ℕ) → mark_at ys ≡ Some (None, rest) → string_at ys ≡ Some ([], rest)
string_end [] rest e = cc
string_end (y ∷ ys) rest e = end_by (eqb y 34) (eqb y 92) ys rest _ e

-- an escape
escape_letter : (o : Option ℕ) (zs rest : List ℕ) (c : ℕ) → ◌≡◌ {A = Mark} (option_map (λ d. (Some d, zs)) o) (Some (Some c, rest)) → escaped o (string_at zs) ≡ option_map (behind c) (string_at rest)
escape_letter None zs rest c e = cc
escape_letter (Some d) zs rest c e =
    let parts = some_pair_parts _ _ _ _ e in
    let same = same_Some d c parts.0 in
    λ i. option_map (behind (same i)) (string_at (parts.1 i))

escape_by : (a b : Bool) (ys rest : List ℕ) (c : ℕ) (p : Content) → ◌≡◌ {A = Mark} (cond a (Some (None, ys)) (cond b (escape_mark ys) None)) (Some (Some c, rest)) → cond a (Some ([], ys)) (cond b (escape_at ys) p) ≡ option_map (behind c) (string_at rest)
escape_by true b ys rest c p e = let k = (some_pair_parts _ _ _ _ e).0 in absurd (none-some c k)
escape_by false true [] rest c p e = cc
escape_by false true (z ∷ zs) rest c p e = escape_letter (escape_of z) zs rest c e
escape_by false false ys rest c p e = cc

string_escape : (ys rest : List ℕ) (c : ℕ) → mark_at ys ≡ Some (Some c, rest) → string_at ys ≡ option_map (behind c) (string_at rest)
string_escape [] rest c e = cc
string_escape (y ∷ ys) rest c e = escape_by (eqb y 34) (eqb y 92) ys rest c _ e

-- neither
none_letter : (o : Option ℕ) (zs : List ℕ) (s : Content) → ◌≡◌ {A = Mark} (option_map (λ d. (Some d, zs)) o) None → escaped o s ≡ None
none_letter None zs s e = refl
none_letter (Some d) zs s e = cc

none_by : (a b : Bool) (ys : List ℕ) (n : ℕ) (p : Content) → cond (not a && not b) (1 + n) 0 ≡ 0 → ◌≡◌ {A = Mark} (cond a (Some (None, ys)) (cond b (escape_mark ys) None)) None → cond a (Some ([], ys)) (cond b (escape_at ys) p) ≡ None
none_by true b ys n p z e = cc
none_by false true [] n p z e = refl
none_by false true (y ∷ ys) n p z e = none_letter (escape_of y) ys _ e
none_by false false ys n p z e = absurd (omega (arith, z))

string_none : (ys : List ℕ) → prefix_len is_plain ys ≡ 0 → mark_at ys ≡ None → string_at ys ≡ None
string_none [] z e = refl
string_none (y ∷ ys) z e = none_by (eqb y 34) (eqb y 92) ys _ _ z e

-- one turn: a run, and what stands behind it
pub turn_end : (text done rest more : List ℕ) → string_at text ≡ behind_all done (string_at rest) → mark_at (drop (prefix_len is_plain rest) rest) ≡ Some (None, more) → string_at text ≡ Some (done ++ take (prefix_len is_plain rest) rest, more)
turn_end text done rest more h e =
    let t = take (prefix_len is_plain rest) rest in
    h ∙ ap (behind_all done) (string_run rest ∙ ap (behind_all t) (string_end (drop (prefix_len is_plain rest) rest) more e)) ∙ ap (λ x. Some (done ++ x, more)) (append-nil t)

grouped : (done t : List ℕ) (c : ℕ) (s : Content) → behind_all done (behind_all t (option_map (behind c) s)) ≡ behind_all ((done ++ t) ++ c ∷ []) s
grouped done t c None = refl
grouped done t c (Some r) =
    let e : done ++ (t ++ (c ∷ r.0)) ≡ ((done ++ t) ++ c ∷ []) ++ r.0 = simp append_assoc in
    ap (λ x. Some (x, r.1)) e

pub turn_escape : (text done rest more : List ℕ) (c : ℕ) → string_at text ≡ behind_all done (string_at rest) → mark_at (drop (prefix_len is_plain rest) rest) ≡ Some (Some c, more) → string_at text ≡ behind_all ((done ++ take (prefix_len is_plain rest) rest) ++ c ∷ []) (string_at more)
turn_escape text done rest more c h e =
    let t = take (prefix_len is_plain rest) rest in
    h ∙ ap (behind_all done) (string_run rest ∙ ap (behind_all t) (string_escape (drop (prefix_len is_plain rest) rest) more c e)) ∙ grouped done t c (string_at more)

pub turn_none : (text done rest : List ℕ) → string_at text ≡ behind_all done (string_at rest) → mark_at (drop (prefix_len is_plain rest) rest) ≡ None → string_at text ≡ None
turn_none text done rest h e =
    let t = take (prefix_len is_plain rest) rest in
    h ∙ ap (behind_all done) (string_run rest ∙ ap (behind_all t) (string_none (drop (prefix_len is_plain rest) rest) (run_ends rest) e))
