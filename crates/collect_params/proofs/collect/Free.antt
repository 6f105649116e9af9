-- Collection is the definition's: code 7 exactly where a macro call is left, else the free names, one for each use, in layout order.
-- Assumes nothing.
use mathlib.Core.Path.{◌≡◌, refl, sym, ap, ◌∙◌}
use mathlib.Core.List.{List, [], ◌∷◌}
use mathlib.Core.Bool.{true, false}
use Prim.Native.Nat.{ℕ, ◌+◌, ◌≤◌, ◌<◌}
use native.Mathlib.Omega.{arith}
use lib.ListN.{length, take}
use Rattle.definition.specs.Tree.{Combinator}
use Rattle.definition.specs.Write.{w_combinator}
use Rattle.definition.specs.Size.{levels}
use Rattle.definition.specs.Collect.{free, leftover}
use Rattle.buffer.specs.writes.Buf.{put}
use Rattle.buffer.proofs.writes.Put.{take_written}
use Rattle.buffer.proofs.writes.Wrote.{place_fits, same_length}
use Rattle.layout.specs.items.At.{byte_at}
use Rattle.layout.specs.items.Here.{Here}
use Rattle.layout.proofs.items.Here.{here_length}
use Rattle.what_comes_back.specs.declared.Code.TheVariants.{LeftoverMacro}
use Rattle.std.specs.Prelude.{Ok, Err}
use Rattle.collect_params.specs.labels.Labels.{labels_in}
use Rattle.collect_params.proofs.labels.Found.{finds_none}
use Rattle.collect_params.specs.uses.Uses.{names_in_of}
use Rattle.collect_params.specs.scope.Steps.{walk}
use Rattle.collect_params.specs.collect.Walk.{collect_at, answer_of}
use Rattle.collect_params.proofs.uses.Without.{without_none}
use Rattle.collect_params.proofs.collect.Gathered.{Gathered}
use Rattle.collect_params.proofs.collect.Link.{gather}
use Rattle.collect_params.proofs.collect.Room.{free_room}

pub length_names : (s l : List ℕ) → length (names_in_of s l) ≡ length l
unfolding names_in_of
length_names s [] = refl
length_names s (x ∷ l) = let h = length_names s l in omega arith

module _ (s : List ℕ) (p : ℕ) (c : Combinator) (z : List ℕ) (small : (i : ℕ) → byte_at s i < 256) (short : length s < 16777216) (deep : levels c ≤ 64) (h : Here s p (w_combinator c z)) where
  module _ (bound uses : List ℕ) (labels : length s + 64 ≤ length bound) where
    gathered : Gathered s z (free c) (leftover c) 0 0 false bound uses (collect_at s p bound uses)
    unfolding collect_at
    gathered = gather s small short c 64 deep (walk p 0 0 false) bound uses z record { here = h; few = omega (arith, here_length h); room = labels; finds = finds_none s bound; fits = omega arith }

    pub uses_long : length (collect_at s p bound uses).2 ≡ length uses
    uses_long = same_length gathered.wrote

    pub collect_leftover : leftover c ≡ true → answer_of (collect_at s p bound uses).0 ≡ Err LeftoverMacro
    collect_leftover e = rw (gathered.left, e)

    named : names_in_of s gathered.used ≡ free c
    unfolding labels_in
    named = gathered.named ∙ without_none (free c)

    many : length gathered.used ≡ length (free c)
    many = sym (length_names s gathered.used) ∙ ap length named

    module _ (room : length s ≤ length uses) where
      fits : 0 + length gathered.used ≤ length uses
      fits = omega (arith, many, free_room c z, here_length h)

      counted : (collect_at s p bound uses).0.n ≡ length (free c)
      counted = place_fits gathered.wrote fits ∙ (let e : 0 + length gathered.used ≡ length (free c) = omega (arith, many) in e)

      pub collect_uses : leftover c ≡ false → answer_of (collect_at s p bound uses).0 ≡ Ok (length (free c))
      collect_uses e = rw (gathered.left, e, counted)

      pub collect_names : names_in_of s (take (length (free c)) (collect_at s p bound uses).2) ≡ free c
      collect_names =
          rw (gathered.wrote.holds, ← many)
          (ap (names_in_of s) (ap (λ (m : ℕ). take m (put uses 0 gathered.used)) (let e : length gathered.used ≡ 0 + length gathered.used = omega arith in e) ∙ take_written uses 0 gathered.used fits)
          ∙ named)
