use Rattle.std.proofs.Common.{◌≡◌, ℕ, zero, suc, List, [], ◌∷◌, ◌++◌, length, ap, ◌∙◌, refl, arith, length-append}
use Rattle.pt_meaning.specs.Streams.{Streams, at}
use Rattle.pt_value.specs.declared.token.Token.{Token}
use Rattle.pt_rv_parts.proofs.renew.empty_row.Goals as goal

more : (X : Streams Token) (xs : List Token) → xs ≡ [] → ((q : ℕ) → at X q ≡ []) → (q : ℕ) → at (X ++ (xs ∷ [])) q ≡ []
more [] xs e h zero = e
more [] xs e h (suc q) = refl
more (x ∷ X) xs e h zero = h 0
more (x ∷ X) xs e h (suc q) = more X xs e (λ k. h (suc k)) q

pub loop-preserved : goal.loop-preserved
loop-preserved c = record {
  counted = let e = ap (λ v. length v) c.in_ok-push.ensures.items ∙ length-append c.loop.row.items (c.new.result ∷ []) in omega (arith, e, c.loop.invariant.counted);
  empty = λ q. ap (λ v. at v q) c.in_ok-push.ensures.items ∙ more c.loop.row.items c.new.result c.new.ensures c.loop.invariant.empty q;
}
