use Rattle.std.proofs.Common.{◌≡◌, ℕ, ◌+◌, ◌≤◌, List, ◌++◌, arith, length, take, ap, ◌∙◌, sym, subst}
use Rattle.std.proofs.Math.Seq.{take-append-add}
use Rattle.std.proofs.lemmas.List.{take-append-le, length-take-le}
use Rattle.std.specs.Io.KnownBytes.{Consumes}
use Rattle.std.proofs.KnownBytes.{Consumes-trans}
use borrow.Rule.Slice.PartMut.{put_mid, post_of}
use Rattle.read_full.proofs.read_full.Goals as goal

-- what was read so far, and the first n of what was read behind it
grown : (d k n : ℕ) (xs ys : List ℕ) → d ≤ length xs → n ≤ length ys → take d xs ++ take n ys ≡ take (d + n) (put_mid d k xs ys)
grown d k n xs ys h j =
    let e : length (take d xs) ≡ d = length-take-le d xs h in
    ap (λ l. take d xs ++ l) (sym (take-append-le n ys (post_of d k xs) j))
    ∙ sym (take-append-add (take d xs) (ys ++ post_of d k xs) n)
    ∙ ap (λ m. take (m + n) (put_mid d k xs ys)) e

pub loop-done-preserved : goal.loop-done-preserved
loop-done-preserved g c =
    record {
      bound = search (arith, c.in_ok-n.ensures.bound.0);
      bytes = subst (Consumes _ _) (grown _ _ _ _ _ c.loop-done.invariant.bound c.in_ok-n.ensures.bound.0) (Consumes-trans _ _ _ _ _ c.loop-done.invariant.bytes c.in_ok-n.ensures.bytes.0);
    }
