-- Code 10 measures what comes out: the running numbers are the size and the count of the book, and stay within the limits.
use mathlib.Core.Path.{◌≡◌, refl, ap}
use mathlib.Core.List.{List, [], ◌∷◌, ◌++◌}
use mathlib.Core.Bool.{Bool, true, false}
use Prim.Native.Nat.{ℕ, suc, ◌+◌, ◌≤◌}
use native.Mathlib.Omega.{arith}
use lib.Dec.{leb}
use lib.ListN.{length, length-append}
use borrow.Author.Tests.{le-leb, leb-true}
use Rattle.definition.specs.Res.{ok}
use Rattle.definition.specs.Tree.{Name, CaseKind, Combinator, plain, chained, Inner, leaf, struct, choice, shell, bytes, invocation, macro_invocation, Fields, no_field, field, const, Cases, no_case, case, Param, Definition, format, constant, byte_order, macro}
use Rattle.definition.specs.Write.{size_of}
use Rattle.definition.specs.Size.{size, size_book}
use Rattle.definition.specs.Names.{child, segment, case_segment, shell_segment}
use Rattle.definition.specs.Lift.{Course, full, State, Walk, child_by, bind, walk, walk_i, walk_f, walk_c, walk_all, start}
use Rattle.laws.proofs.Tests.{both_true}
use Rattle.laws.proofs.Steps.{Gives, value, then, so, gave}
use Rattle.laws.proofs.Sizes.{size_i, size_f, size_c, size-plain, size-chained, size_struct, size_choice, size-shell, size-field, size_constant, size-case, size-format, room, room-append, size_book_lem}
use Rattle.laws.proofs.Lifted.{Lifted, lift_says}

module _ (course : Course) where
  -- something of size `old` became something of size `new`
  record Fits (old new : ℕ) (s t : State) : Type 0 where
    bytes : t.bytes + old + room s.made ≡ s.bytes + new + room t.made
    defns : t.defns + length s.made ≡ s.defns + length t.made
    within : course.within s.bytes s.defns ≡ true → course.within t.bytes t.defns ≡ true

  same : {k : ℕ} {s : State} → Fits k k s s
  same = record { bytes = refl; defns = refl; within = λ p. p }

  -- one after the other, and the same with other sizes of the same difference
  both : {a b c d : ℕ} {s t u : State} → Fits a b s t → Fits c d t u → Fits (a + c) (b + d) s u
  both f g = record { bytes = omega (arith, f.bytes, g.bytes); defns = omega (arith, f.defns, g.defns); within = λ p. g.within (f.within p) }

  sized : {a b x y : ℕ} {s t : State} → Fits a b s t → a + y ≡ x + b → Fits x y s t
  sized f e = record { bytes = omega (arith, f.bytes); defns = f.defns; within = f.within }

  module _ (c : Combinator) (inside : Walk) (ih : (n : Name) (b : List Param) (s : State) → Gives (λ d t. Fits (size c) (size d) s t) (inside n b s)) where
    lift_fits : (n : Name) (b : List Param) (s : State) (d : Combinator) (t : State) (l : Lifted course c inside n b s d t) → Fits (size c) (size d) s t
    unfolding room
    lift_fits n b s d t l =
        let f = gave (ih l.name b l.first) l.went in
        let a : room t.made ≡ room l.last.made + (6 + size_of (format l.name l.params l.body) + 0) = rw l.last_made (room-append l.last.made _) in
        let k : length t.made ≡ length l.last.made + 1 = rw l.last_made (simp length-append) in
        let r : room l.first.made ≡ room s.made = ap room l.first_made in
        let m : length l.first.made ≡ length s.made = ap length l.first_made in
        record {
          bytes = omega (arith, f.bytes, l.first-bytes, l.last-bytes, size-format l.name l.params c, size-format l.name l.params l.body);
          defns = omega (arith, f.defns, l.first-defns, l.last-defns);
          within = λ p. rw (l.last-bytes, l.last-defns) (f.within l.within);
        }

    kid_fits : (a : Bool) (n : Name) (b : List Param) (s : State) → Gives (λ d t. Fits (size c) (size d) s t) (child_by course a c inside n b s)
    unfolding child_by
    kid_fits true n b s = so (lift_says course c inside n b s) λ d t l. lift_fits n b s d t l
    kid_fits false n b s = ih n b s

  mutual
    unfolding walk

    walk_fits : (c : Combinator) (n : Name) (b : List Param) (s : State) → Gives (λ d t. Fits (size c) (size d) s t) (walk course c n b s)
    walk_fits (plain i) n b s = then (walk_i_fits i n b s) _ λ j t f. value (sized f (omega (arith, size-plain i, size-plain j)))
    walk_fits (chained i c) n b s = then (kid_fits c (λ n b s. walk course c n b s) (λ n b s. walk_fits c n b s) (course.lifts c s.defns) n b s) _ λ d u f. then (walk_i_fits i n b u) _ λ j t g.
        value (sized (both f g) (omega (arith, size-chained i c, size-chained j d)))

    walk_i_fits : (i : Inner) (n : Name) (b : List Param) (s : State) → Gives (λ j t. Fits (size_i i) (size_i j) s t) (walk_i course i n b s)
    walk_i_fits (leaf k x) n b s = value same
    walk_i_fits (struct f) n b s = then (walk_f_fits f n b s) _ λ g t w. value (sized w (omega (arith, size_struct f, size_struct g)))
    walk_i_fits (choice x k f) n b s = then (walk_c_fits f k 0 n b s) _ λ g t w. value (sized w (omega (arith, size_choice x k f, size_choice x k g)))
    walk_i_fits (shell x c) n b s = then (kid_fits c (λ n b s. walk course c n b s) (λ n b s. walk_fits c n b s) (course.lifts c s.defns) (child n (shell_segment x)) b s) _ λ d t f.
        value (sized f (omega (arith, size-shell x c, size-shell x d)))
    walk_i_fits (bytes l) n b s = value same
    walk_i_fits (invocation m a) n b s = value same
    walk_i_fits (macro_invocation m a) n b s = value same

    walk_f_fits : (f : Fields) (n : Name) (b : List Param) (s : State) → Gives (λ g t. Fits (size_f f) (size_f g) s t) (walk_f course f n b s)
    walk_f_fits no_field n b s = value same
    walk_f_fits (field k l c f) n b s = then (kid_fits c (λ n b s. walk course c n b s) (λ n b s. walk_fits c n b s) (course.lifts c s.defns) (child n (segment l)) b s) _ λ d u w. then (walk_f_fits f n (bind k l d b) u) _ λ g t v.
        value (sized (both w v) (omega (arith, size-field k l c f, size-field k l d g)))
    walk_f_fits (const l x f) n b s = then (walk_f_fits f n b s) _ λ g t w. value (sized w (omega (arith, size_constant l x f, size_constant l x g)))

    walk_c_fits : (f : Cases) (k : CaseKind) (i : ℕ) (n : Name) (b : List Param) (s : State) → Gives (λ g t. Fits (size_c f k) (size_c g k) s t) (walk_c course f k i n b s)
    walk_c_fits no_case k i n b s = value same
    walk_c_fits (case l c f) k i n b s = then (kid_fits c (λ n b s. walk course c n b s) (λ n b s. walk_fits c n b s) (course.lifts c s.defns) (child n (case_segment k l i)) b s) _ λ d u w. then (walk_c_fits f k (suc i) n b u) _ λ g t v.
        value (sized (both w v) (omega (arith, size-case l c f k, size-case l d g k)))

  walk_all_fits : (ds : List Definition) (s : State) → Gives (λ es t. Fits (room ds) (room es) s t × (length es ≡ length ds)) (walk_all course ds s)
  unfolding walk_all room
  walk_all_fits [] s = value (same, refl)
  walk_all_fits (format n ps c ∷ ds) s = then (walk_fits c n ps s) _ λ d u f. then (walk_all_fits ds u) _ λ es t w.
      value (sized (both f w.0) (omega (arith, size-format n ps c, size-format n ps d)), ap suc w.1)
  walk_all_fits (constant n x ∷ ds) s = then (walk_all_fits ds s) _ λ es t w. value (sized w.0 (omega arith), ap suc w.1)
  walk_all_fits (byte_order x ∷ ds) s = then (walk_all_fits ds s) _ λ es t w. value (sized w.0 (omega arith), ap suc w.1)
  walk_all_fits (macro n ps c ∷ ds) s = then (walk_all_fits ds s) _ λ es t w. value (sized w.0 (omega arith), ap suc w.1)

  -- the running numbers are the book's
  pub measures : (ds es : List Definition) (t : State) → walk_all course ds (start ds) ≡ ok es t → (t.bytes ≡ size_book (es ++ t.made)) × (t.defns ≡ length (es ++ t.made))
  unfolding start room
  measures ds es t e =
      let z = gave (walk_all_fits ds (start ds)) e in
      (omega (arith, z.0.bytes, size_book_lem ds, size_book_lem (es ++ t.made), room-append es t.made), simp length-append (omega (arith, z.0.defns, z.1)))

-- of a list within the limits, the result is within them too
pub within_limits : (ds es : List Definition) (t : State) → walk_all full ds (start ds) ≡ ok es t → size_book ds ≤ 16384 → length ds ≤ 512
    → (size_book (es ++ t.made) ≤ 16384) × (length (es ++ t.made) ≤ 512)
unfolding start
within_limits ds es t e p q =
    let m = measures full ds es t e in
    let z = (gave (walk_all_fits full ds (start ds)) e).0.within (rw (le-leb (size_book ds) 16384 p, le-leb (length ds) 512 q)) in
    let w = both_true (leb t.bytes 16384) (leb t.defns 512) z in
    (rw (← m.0) (leb-true t.bytes 16384 w.0), rw (← m.1) (leb-true t.defns 512 w.1))
