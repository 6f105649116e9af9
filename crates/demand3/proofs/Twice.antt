-- A result is a book within the limits that reads as what was written, and elaborated again it stays the same.
use mathlib.Core.Path.{◌≡◌, refl, ◌∙◌}
use mathlib.Core.List.{List, [], ◌∷◌, append-nil}
use mathlib.Core.Bool.{true, false}
use Prim.Native.Nat.{ℕ, suc, ◌≤◌}
use lib.Dec.{leb}
use lib.ListN.{length}
use borrow.Author.Tests.{le-leb}
use Rattle.definition.specs.Res.{ok}
use Rattle.definition.specs.Out.{done}
use Rattle.definition.specs.Tree.{Name, Leaf, constraint_int, constraint_enum, bits, enum, tail, nothing, never, CaseKind, Combinator, plain, chained, Inner, leaf, struct, choice, shell, bytes, invocation, macro_invocation, Fields, no_field, field, const, Cases, no_case, case, Param, Definition, format, constant, byte_order, macro}
use Rattle.definition.specs.Write.{w_book}
use Rattle.definition.specs.Size.{size_book, levels_book}
use Rattle.definition.specs.Names.{child, segment, case_segment, shell_segment}
use Rattle.definition.specs.Macros.{Macro, macros, expand_all, expand_list, expand_book}
use Rattle.definition.specs.Collect.{anonymous_leaf, anonymous, anonymous_i}
use Rattle.definition.specs.Lift.{full, State, Walk, child_by, bind, walk, walk_i, walk_f, walk_c, walk_all, start, lift_book_of}
use Rattle.definition.specs.Answer.{Result, all, out, outcome, source, expanded, elaborated, answered, attempt, answer}
use Rattle.laws.specs.Book.{Bytes, IsBook}
use Rattle.laws.proofs.Steps.{yielded}
use Rattle.laws.proofs.NoneKnown.{none_known}
use Rattle.laws.proofs.Results.{expand_says, lift_says, written_is_read, elaborated_book}
use Rattle.demand3.specs.Words.{EachBody}
use Rattle.demand3.specs.Flat.{CalmLeaf, Calm, CalmI, CalmF, CalmC, Flat, FlatI, FlatAll}
use Rattle.demand3.proofs.Demand3.{comes}

-- a list that an elaboration can end with
pub record Ends (ds : List Definition) : Type 0 where
  pub book : IsBook ds
  pub flat : FlatAll ds

pub ends : (s : List ℕ) → Bytes s → (r : Result) → elaborated s ≡ done r → Ends (all r)
ends s h r e = record { book = yielded (elaborated_book s h) e; flat = (yielded (comes s h) e).meets.flat }

-- nothing is expanded in it
no_macros : (ds : List Definition) (ms : List Macro) → FlatAll ds → macros ds ms ≡ ms
unfolding macros
no_macros [] ms h = refl
no_macros (format n ps c ∷ ds) ms h = no_macros ds ms h.1
no_macros (constant n x ∷ ds) ms h = no_macros ds ms h
no_macros (byte_order x ∷ ds) ms h = no_macros ds ms h
no_macros (macro n ps c ∷ ds) ms h = absurd h

same_all : (ds : List Definition) → FlatAll ds → expand_all ds [] ≡ done ds
unfolding expand_all
same_all [] h = refl
same_all (format n ps c ∷ ds) h = rw (none_known c, same_all ds h.1)
same_all (constant n x ∷ ds) h = rw (same_all ds h)
same_all (byte_order x ∷ ds) h = rw (same_all ds h)
same_all (macro n ps c ∷ ds) h = absurd h

expand_again : (ds : List Definition) → Ends ds → expand_book ds ≡ done ds
unfolding expand_list
expand_again ds e =
    let a : leb (size_book ds) 16384 ≡ true = le-leb (size_book ds) 16384 e.book.short in
    let b : leb (levels_book ds) 64 ≡ true = le-leb (levels_book ds) 64 e.book.deep in
    expand_says ds ∙ rw (no_macros ds [] e.flat, same_all ds e.flat, a, b)

-- nothing is lifted out of it
leaf_named : (k : Leaf) → CalmLeaf k → anonymous_leaf k ≡ false
unfolding anonymous_leaf
leaf_named constraint_int h = refl
leaf_named constraint_enum h = refl
leaf_named bits h = absurd h
leaf_named enum h = absurd h
leaf_named tail h = refl
leaf_named nothing h = refl
leaf_named never h = refl

mutual
  unfolding anonymous

  calm_named : (c : Combinator) → Calm c → anonymous c ≡ false
  calm_named (plain i) h = calm_named_i i h
  calm_named (chained i c) h = calm_named_i i h.0

  calm_named_i : (i : Inner) → CalmI i → anonymous_i i ≡ false
  calm_named_i (leaf k x) h = leaf_named k h
  calm_named_i (struct f) h = absurd h
  calm_named_i (choice s k f) h = absurd h
  calm_named_i (shell x c) h = calm_named c h
  calm_named_i (bytes l) h = refl
  calm_named_i (invocation n a) h = refl
  calm_named_i (macro_invocation n a) h = refl

calm_flat_i : (i : Inner) → CalmI i → FlatI i
calm_flat_i (leaf k x) h = tt
calm_flat_i (struct f) h = absurd h
calm_flat_i (choice s k f) h = absurd h
calm_flat_i (shell x c) h = h
calm_flat_i (bytes l) h = tt
calm_flat_i (invocation n a) h = tt
calm_flat_i (macro_invocation n a) h = tt

calm_flat : (c : Combinator) → Calm c → Flat c
calm_flat (plain i) h = calm_flat_i i h
calm_flat (chained i c) h = (calm_flat_i i h.0, h.1)

-- a child that is not lifted and stays
kid_still : (c : Combinator) (inside : Walk) → Calm c → ((n : Name) (b : List Param) (s : State) → inside n b s ≡ ok c s) → (n : Name) (b : List Param) (s : State) → child_by full (anonymous c) c inside n b s ≡ ok c s
unfolding child_by
kid_still c inside h ih n b s = rw (calm_named c h) (ih n b s)

mutual
  unfolding walk

  still : (c : Combinator) → Flat c → (n : Name) (b : List Param) (s : State) → walk full c n b s ≡ ok c s
  still (plain i) f n b s = rw (still_i i f n b s)
  still (chained i c) f n b s = rw (kid_still c (λ n b s. walk full c n b s) f.1 (λ n b s. still c (calm_flat c f.1) n b s) n b s, still_i i f.0 n b s)

  still_i : (i : Inner) → FlatI i → (n : Name) (b : List Param) (s : State) → walk_i full i n b s ≡ ok i s
  still_i (leaf k x) f n b s = refl
  still_i (struct g) f n b s = rw (still_f g f n b s)
  still_i (choice x k g) f n b s = rw (still_c g f k 0 n b s)
  still_i (shell x c) f n b s = rw (kid_still c (λ n b s. walk full c n b s) f (λ n b s. still c (calm_flat c f) n b s) (child n (shell_segment x)) b s)
  still_i (bytes l) f n b s = refl
  still_i (invocation m a) f n b s = refl
  still_i (macro_invocation m a) f n b s = refl

  still_f : (g : Fields) → CalmF g → (n : Name) (b : List Param) (s : State) → walk_f full g n b s ≡ ok g s
  still_f no_field f n b s = refl
  still_f (field k l c g) f n b s = rw (kid_still c (λ n b s. walk full c n b s) f.0 (λ n b s. still c (calm_flat c f.0) n b s) (child n (segment l)) b s, still_f g f.1 n (bind k l c b) s)
  still_f (const l x g) f n b s = rw (still_f g f n b s)

  still_c : (g : Cases) → CalmC g → (k : CaseKind) (i : ℕ) (n : Name) (b : List Param) (s : State) → walk_c full g k i n b s ≡ ok g s
  still_c no_case f k i n b s = refl
  still_c (case l c g) f k i n b s = rw (kid_still c (λ n b s. walk full c n b s) f.0 (λ n b s. still c (calm_flat c f.0) n b s) (child n (case_segment k l i)) b s, still_c g f.1 k (suc i) n b s)

still_all : (ds : List Definition) → EachBody Flat ds → (s : State) → walk_all full ds s ≡ ok ds s
unfolding walk_all
still_all [] f s = refl
still_all (format n ps c ∷ ds) f s = rw (still c f.0 n ps s, still_all ds f.1 s)
still_all (constant n x ∷ ds) f s = rw (still_all ds f s)
still_all (byte_order x ∷ ds) f s = rw (still_all ds f s)
still_all (macro n ps c ∷ ds) f s = rw (still_all ds f s)

-- nothing is lifted out of flat bodies
pub nothing_lifted : (ds : List Definition) → EachBody Flat ds → outcome (lift_book_of ds) ≡ done (record { kept = ds; lifted = [] })
unfolding outcome start
nothing_lifted ds f = rw (lift_says ds, still_all ds f (start ds))

flat_bodies : (ds : List Definition) → FlatAll ds → EachBody Flat ds
flat_bodies [] h = tt
flat_bodies (format n ps c ∷ ds) h = (h.0, flat_bodies ds h.1)
flat_bodies (constant n x ∷ ds) h = flat_bodies ds h
flat_bodies (byte_order x ∷ ds) h = flat_bodies ds h
flat_bodies (macro n ps c ∷ ds) h = absurd h

-- elaborated again it is the same, and nothing is lifted
source_again : (ds : List Definition) → Ends ds → source (w_book ds) ≡ done ds
unfolding source out size_book
source_again ds e =
    let a : leb (length (w_book ds)) 16384 ≡ true = le-leb (length (w_book ds)) 16384 e.book.short in
    rw (a, (written_is_read ds e.book).1)

expanded_again : (ds : List Definition) → Ends ds → expanded (w_book ds) ≡ done ds
unfolding expanded
expanded_again ds e = rw (source_again ds e) (expand_again ds e)

pub twice : (ds : List Definition) → Ends ds → elaborated (w_book ds) ≡ done (record { kept = ds; lifted = [] })
unfolding elaborated
twice ds e = rw (expanded_again ds e) (nothing_lifted ds (flat_bodies ds e.flat))

-- the same for the call: code 0, the same bytes, nothing lifted
attempt_again : (ds : List Definition) → Ends ds → (o w : ℕ) → 65536 ≤ w → length (w_book ds) ≤ o → attempt (w_book ds) o w ≡ done (record { kept = ds; lifted = [] })
unfolding attempt
attempt_again ds e o w p q =
    let a : leb 65536 w ≡ true = le-leb 65536 w p in
    let b : leb (length (w_book ds)) o ≡ true = le-leb (length (w_book ds)) o q in
    rw (a, twice ds e, append-nil ds, b)

pub answer_again : (ds : List Definition) → Ends ds → (o w : ℕ) → 65536 ≤ w → length (w_book ds) ≤ o → answer (w_book ds) o w ≡ record { code = 0; size = length (w_book ds); definitions = length ds; lifts = 0; at = 0 }
unfolding answer answered
answer_again ds e o w p q = rw (attempt_again ds e o w p q, append-nil ds)
