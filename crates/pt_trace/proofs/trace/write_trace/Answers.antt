use Rattle.std.proofs.Common.{◌≡◌, ◌++◌, OnOk, subst, rules, refl, map, length}
use Rattle.pt_meaning.specs.Basics.{with_tag}
use Rattle.pt_value.specs.declared.token.Token.TheVariants.{Int}
use Rattle.pt_trace.specs.TraceText.{token_lines}
use Rattle.pt_trace.proofs.TokenLines.{trace-lines, lines-parts}
use Rattle.pt_trace.proofs.trace.write_trace.Goals as goal

pub returns : goal.returns
returns c =
    let shown : c.as_bytes.result.now ≡ c.args.trace.now.text = search rules in
    let tokens : with_tag c.parts-tag.result.0 (map Int c.parts-tag.result.1.now) ++ c.parts-tag.result.2.now ≡ c.args.trace.now.tokens = search rules in
    let ns = c.parts-tag.result.1.now in
    let parts = lines-parts c.parts-tag.result.0 ns c.parts-tag.result.2.now c.args.trace.now.tokens (length ns) tokens refl in
    let all = trace-lines c.args.out.now.items c.extend_from_slice.new.self.items c.extend_from_slice-2.new.self.items c.push.new.self.items c.write_numbers.new.out.items c.as_bytes.result.now c.args.trace.now (token_lines 0 (with_tag c.parts-tag.result.0 (map Int ns))) (token_lines (length ns) c.parts-tag.result.2.now) c.in_ok-extend_from_slice.ensures.items c.in_ok-extend_from_slice-2.ensures.items shown c.in_ok-push.ensures.items c.in_ok-write_numbers.ensures parts in
    subst (λ v. OnOk c.write_rest.result (c.write_rest.new.out.items ≡ v)) all c.write_rest.ensures
