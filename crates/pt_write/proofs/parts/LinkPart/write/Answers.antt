use Rattle.std.proofs.Common.{ℕ, List, ◌∷◌, OnOk, codes, sym, subst}
use Rattle.json.specs.Token.{begin_object}
use Rattle.pt_document.specs.declared.job.Link.{Link}
use Rattle.pt_write.specs.Written.{tokens, fields_tokens}
use Rattle.pt_write.specs.Document.{two_texts, link_value}
use Rattle.pt_write.specs.Appends.{Appends}
use Rattle.pt_write.proofs.parts.LinkPart.write.Goals as goal

pub returns-in-Port : goal.returns-in-Port
returns-in-Port c =
    let one = subst (λ (p : List ℕ). OnOk c.two_texts.result (Appends c.args.out.now c.two_texts.new.out (begin_object ∷ fields_tokens (two_texts (codes "port") p (codes "relation") c.as_str-in-Port.result.now)))) c.as_str.ensures c.two_texts.ensures in
    let both = subst (λ (r : List ℕ). OnOk c.two_texts.result (Appends c.args.out.now c.two_texts.new.out (begin_object ∷ fields_tokens (two_texts (codes "port") c.in-Port.port (codes "relation") r)))) c.as_str-in-Port.ensures one in
    subst (λ (l : Link). OnOk c.two_texts.result (Appends c.args.out.now c.two_texts.new.out (tokens (link_value l)))) (sym c.in-Port.is) both

pub returns-in-Relations : goal.returns-in-Relations
returns-in-Relations c =
    let r = c.two_texts-in-Relations.result in
    let new = c.two_texts-in-Relations.new.out in
    let one = subst (λ (p : List ℕ). OnOk r (Appends c.args.out.now new (begin_object ∷ fields_tokens (two_texts (codes "relation1") p (codes "relation2") c.as_str-in-Relations-2.result.now)))) c.as_str-in-Relations.ensures c.two_texts-in-Relations.ensures in
    let both = subst (λ (s : List ℕ). OnOk r (Appends c.args.out.now new (begin_object ∷ fields_tokens (two_texts (codes "relation1") c.in-Relations.first (codes "relation2") s)))) c.as_str-in-Relations-2.ensures one in
    subst (λ (l : Link). OnOk r (Appends c.args.out.now new (tokens (link_value l)))) (sym c.in-Relations.is) both
