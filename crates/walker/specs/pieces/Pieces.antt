-- The writing of a combinator in pieces, in layout order: the calls at walked positions, and the bytes between them.
-- A walked position is one that macro rule 2 names, "chain, fields, choices, Wrap, Vec, Array, Option"; macro arguments are not.
use Rattle.std.specs.Prelude.{List, [], ◌∷◌, ◌++◌, Bool, true, ◌&&◌, ℕ, ◌+◌, length}
use Rattle.definition.specs.Tree.{Name, CaseKind, Combinator, plain, chained, Inner, leaf, struct, choice, shell, bytes, invocation, macro_invocation, Fields, no_field, field, const, Cases, no_case, case, Inners}
use Rattle.definition.specs.Write.{w_u16, w_name, w_text, w_len, w_selector, case_byte, w_label, leaf_tag, field_byte, w_open, w_shut, count_f, count_c, w_inner}
use Rattle.definition.specs.Names.{eq_name}
use Rattle.definition.specs.Out.{Out, done, ◌>>=◌}
use Rattle.definition.specs.Macros.{Macro, same, expand_macro}

pub data Piece : Type 0 where
  raw : List ℕ → Piece
  call : Name → List Name → Piece
  macro_call : Name → Inners → Piece

-- each function puts its pieces in front of those that follow
unfoldable mutual
  pub pieces : Combinator → List Piece → List Piece
  pieces (plain i) ps = pieces_i i (raw (0 ∷ []) ∷ ps)
  pieces (chained i c) ps = pieces_i i (raw (1 ∷ []) ∷ pieces c ps)

  pub pieces_i : Inner → List Piece → List Piece
  pieces_i (leaf k x) ps = raw (leaf_tag k ∷ w_text x []) ∷ ps
  pieces_i (struct f) ps = raw (4 ∷ w_u16 (count_f f) []) ∷ pieces_f f ps
  pieces_i (choice s k f) ps = raw (7 ∷ w_selector s (case_byte k ∷ w_u16 (count_c f) [])) ∷ pieces_c f k ps
  pieces_i (shell x c) ps = raw (w_open x []) ∷ pieces c (raw (w_shut x []) ∷ ps)
  pieces_i (bytes l) ps = raw (10 ∷ w_len l []) ∷ ps
  pieces_i (invocation n a) ps = call n a ∷ ps
  pieces_i (macro_invocation n a) ps = macro_call n a ∷ ps

  pub pieces_f : Fields → List Piece → List Piece
  pieces_f no_field ps = ps
  pieces_f (field k l c f) ps = raw (field_byte k ∷ w_name l []) ∷ pieces c (pieces_f f ps)
  pieces_f (const l x f) ps = raw (3 ∷ w_name l (w_text x [])) ∷ pieces_f f ps

  pub pieces_c : Cases → CaseKind → List Piece → List Piece
  pieces_c no_case k ps = ps
  pieces_c (case l c f) k ps = raw (w_label k l []) ∷ pieces c (pieces_c f k ps)

-- the place and the end of each call, of pieces of which the first stands at p
unfoldable pub places : ℕ → List Piece → List ℕ
places p [] = []
places p (raw b ∷ ps) = places (p + length b) ps
places p (call n a ∷ ps) = let e = p + length (w_inner (invocation n a) []) in p ∷ e ∷ places e ps
places p (macro_call n a ∷ ps) = let e = p + length (w_inner (macro_invocation n a) []) in p ∷ e ∷ places e ps

-- pieces one behind the other, in front of r, where a call stands for an inner
unfoldable pub written : (Name → List Name → Inner) → List Piece → List ℕ → List ℕ
written f [] r = r
written f (raw b ∷ ps) r = b ++ written f ps r
written f (call n a ∷ ps) r = w_inner (f n a) (written f ps r)
written f (macro_call n a ∷ ps) r = w_inner (macro_invocation n a) (written f ps r)

-- macro rule 4: "It replaces the inner of an Invocation whose name is the parameter, its arguments lost"
abbrev pub replaced : Name → Inner → Name → List Name → Inner
replaced p a n xs = same a (invocation n xs) (eq_name n p)

-- the same where an inner may be refused
unfoldable pub rewritten : (Name → List Name → Out Inner) → (Name → Inners → Out Inner) → List Piece → List ℕ → Out (List ℕ)
rewritten f g [] r = done r
rewritten f g (raw b ∷ ps) r = do
  t ← rewritten f g ps r
  done (b ++ t)
rewritten f g (call n a ∷ ps) r = do
  i ← f n a
  t ← rewritten f g ps r
  done (w_inner i t)
rewritten f g (macro_call n a ∷ ps) r = do
  i ← g n a
  t ← rewritten f g ps r
  done (w_inner i t)

-- macro rule 3: "A known invocation is replaced by the macro body's inner."
abbrev pub expanded : List Macro → List Piece → List ℕ → Out (List ℕ)
expanded ms ps r = rewritten (λ n a. done (invocation n a)) (expand_macro ms) ps r

-- every called name passes a test, one for calls and one for macro calls
unfoldable pub every : (Name → Bool) → (Name → Bool) → List Piece → Bool
every f g [] = true
every f g (raw b ∷ ps) = every f g ps
every f g (call n a ∷ ps) = f n && every f g ps
every f g (macro_call n a ∷ ps) = g n && every f g ps
