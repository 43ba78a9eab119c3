use Rattle.std.proofs.Common.{◌≡◌, ◌++◌, ◌∷◌, [], take, drop, Some, None, option_map, string_bytes, sym, ap, arith}
use Rattle.std.specs.List.{prefix_len}
use Rattle.std.specs.Char.{encode_utf8}
use Rattle.std.proofs.lemmas.Str.{encode_ascii}
use Rattle.std.proofs.lemmas.Grind.{common_steps}
use Rattle.pt_language.specs.declared.word.Word.TheVariants.{Quoted}
use Rattle.pt_language.specs.Words.{string_at, mark_at, is_plain}
use Rattle.pt_expr_text.proofs.Strings.{turn_end, turn_escape, turn_none}
use Rattle.pt_expr_text.proofs.words.string_at.Goals as goal

pub plain_count-count-requires-text-text : goal.plain_count-count-requires-text-text
plain_count-count-requires-text-text c = λ _. c.loop-content.invariant.2

pub range_from-requires : goal.range_from-requires
range_from-requires c = λ _. c.plain_count-count.ensures.cut

pub loop-content-preserved : goal.loop-content-preserved
loop-content-preserved c =
    let rest = c.loop-content.rest.now in
    let letter = c.in-Some-Some-default.c in
    let more = c.in-Some-Some-default.behind.now in
    let done = string_bytes c.loop-content.content in
    let d : c.range_from.result.now ≡ drop (prefix_len is_plain rest) rest = grind (arith, common_steps) in
    let t : c.range.result.now ≡ take (prefix_len is_plain rest) rest = grind (arith, common_steps) in
    let m : mark_at c.range_from.result.now ≡ Some (Some letter, more) = sym (rw c.in-Some-Some-default.field-0-0-is at c.in-Some-Some-default.ensures.value) in
    let e : mark_at (drop (prefix_len is_plain rest) rest) ≡ Some (Some letter, more) = cc in
    let a : encode_utf8 letter ≡ letter ∷ [] = encode_ascii letter (rw c.in-Some-Some-default.field-0-0-is at c.in-Some-Some-default.ensures.ascii) in
    let p : string_bytes c.push_str.new.self ≡ done ++ c.range.result.now = c.in_ok-push_str.ensures.bytes in
    let q : string_bytes c.push.new.self ≡ string_bytes c.push_str.new.self ++ encode_utf8 letter = c.in_ok-push-in-Some-Some-default.ensures.bytes in
    let b : string_bytes c.push.new.self ≡ (done ++ take (prefix_len is_plain rest) rest) ++ letter ∷ [] = cc in
    let s = c.in-Some-Some-default.ensures.shorter in
    (rw b (turn_escape c.args.text.now done rest more letter c.loop-content.invariant.0 e), grind (arith, common_steps), c.in-Some-Some-default.ensures.utf8)

pub returns-in-Some-None-default-clause-value : goal.returns-in-Some-None-default-clause-value
returns-in-Some-None-default-clause-value c =
    let rest = c.loop-content.rest.now in
    let more = c.in-Some-None-default.behind.now in
    let done = string_bytes c.loop-content.content in
    let d : c.range_from.result.now ≡ drop (prefix_len is_plain rest) rest = grind (arith, common_steps) in
    let t : c.range.result.now ≡ take (prefix_len is_plain rest) rest = grind (arith, common_steps) in
    let m : mark_at c.range_from.result.now ≡ Some (None, more) = sym (rw c.in-Some-None-default.field-0-0-is at c.in-Some-None-default.ensures.value) in
    let e : mark_at (drop (prefix_len is_plain rest) rest) ≡ Some (None, more) = cc in
    let p : string_bytes c.push_str.new.self ≡ done ++ c.range.result.now = c.in_ok-push_str.ensures.bytes in
    let w : c.in_ok-of-in-Some-None-default.field-0 ≡ c.as_str.result.now = c.in_ok-of-in-Some-None-default.ensures in
    let v : c.as_str.result.now ≡ string_bytes c.push_str.new.self = c.as_str.ensures.value in
    let f = turn_end c.args.text.now done rest more c.loop-content.invariant.0 e in
    let k : string_at c.args.text.now ≡ Some (c.in_ok-of-in-Some-None-default.field-0, more) = cc in
    sym (ap (option_map (λ read. (Quoted read.0, read.1))) k)

pub returns-in-None-clause-value : goal.returns-in-None-clause-value
returns-in-None-clause-value c =
    let rest = c.loop-content.rest.now in
    let done = string_bytes c.loop-content.content in
    let d : c.range_from.result.now ≡ drop (prefix_len is_plain rest) rest = grind (arith, common_steps) in
    let m : mark_at c.range_from.result.now ≡ None = sym c.in-None.ensures.value in
    let e : mark_at (drop (prefix_len is_plain rest) rest) ≡ None = cc in
    let k = turn_none c.args.text.now done rest c.loop-content.invariant.0 e in
    sym (ap (option_map (λ read. (Quoted read.0, read.1))) k)
