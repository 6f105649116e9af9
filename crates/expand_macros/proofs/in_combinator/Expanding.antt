-- The loop over a combinator's calls: whoever expands the rest from here has expanded all from the start.
-- Assumes nothing.
use mathlib.Core.Path.{◌≡◌, refl, sym, ap, ◌∙◌}
use mathlib.Core.List.{List, [], ◌∷◌, ◌++◌, append_assoc, append-nil}
use Prim.Native.Nat.{ℕ, suc, ◌+◌, ◌≤◌, ◌<◌}
use native.Mathlib.Omega.{arith}
use lib.ListN.{length, length-append}
use Rattle.definition.specs.Out.{Out, refused, done, ◌>>=◌}
use Rattle.definition.specs.Tree.{Name, Combinator, Inner, Inners, leaf, struct, choice, shell, bytes, invocation, macro_invocation}
use Rattle.definition.specs.Write.{w_inner}
use Rattle.definition.specs.Size.{levels, levels_i}
use Rattle.definition.specs.Macros.{Macro, instance, inner_of, expand_i, expand_macro}
use Rattle.layout.specs.items.At.{byte_at, past_at}
use Rattle.layout.specs.items.Here.{Here}
use Rattle.layout.specs.lookup.Name.{name_at}
use Rattle.buffer.specs.writes.Buf.{part, Wrote}
use Rattle.buffer.proofs.writes.Put.{part_none, part_split}
use Rattle.buffer.proofs.writes.Wrote.{same_length}
use Rattle.walker.specs.pieces.Pieces.{Piece, raw, call, macro_call, places, written, rewritten, expanded}
use Rattle.laws.proofs.Splits.{s_inner}
use Rattle.walker.proofs.pieces.Expanded.{onto}
use Rattle.std.specs.Prelude.{Option, Some, None}
use Rattle.expand_macros.specs.declared.known_macros.Macros.{Macros}
use Rattle.substitute.specs.substitution.Turned.{Areas}
use Rattle.expand_macros.specs.known_macros.Table.{RowsOf, Finds, FindsMacro}
use Rattle.expand_macros.specs.replace_call.Call.{Puts, Called}
use Rattle.expand_macros.specs.in_combinator.Expand.{IsCall, a_call, a_macro, Replaced, Becomes, MacroOf, front, Expanding}
use Rattle.substitute.proofs.substitution.Stands.{part_on, inner_here, step_here, call_tag, macro_tag, macro_name}
use Rattle.expand_macros.proofs.in_combinator.Next.{Next, next_of, front_none, front-front, puts_stays, puts_over, puts_most, puts_front}

-- which calls are known
module _ {book : List ℕ} {p : ℕ} {t : Macros} where
  pub no_macro : (byte_at book p ≡ 16 → ⊥) → MacroOf book p t None
  unfolding expand_i
  no_macro f = record { says = λ ms rs i z ic h. stays ms i z ic h }
    where
      stays : (ms : List Macro) (i : Inner) (z : List ℕ) → IsCall i → Here book p (w_inner i z) → expand_i i ms ≡ done i
      stays ms (invocation n a) z a_call h = refl
      stays ms (leaf _ _) z ic h = elim ic [ ]
      stays ms (struct _) z ic h = elim ic [ ]
      stays ms (choice _ _ _) z ic h = elim ic [ ]
      stays ms (shell _ _) z ic h = elim ic [ ]
      stays ms (bytes _) z ic h = elim ic [ ]
      stays ms (macro_invocation n xs) z a_macro h = absurd (f (macro_tag n xs z h))

  pub found_macro : byte_at book p ≡ 16 → {name : Name} → name ≡ name_at book (past_at book p 1) → {r : Option ℕ} → FindsMacro name t r → MacroOf book p t r
  unfolding expand_i
  found_macro e {name} q {r} f = record { says = λ ms rs i z ic h. tells ms rs i z ic h }
    where
      becomes : (ms : List Macro) (n : Name) (xs : Inners) → name ≡ n → (v : Option ℕ) → Finds t.book.now ms name xs v → Becomes t.book.now ms (macro_invocation n xs) v
      becomes ms n xs d (Some def) k = record { name = n; args = xs; is_call = refl; known = k.known; defined = k.defined; is = ap (λ (y : Name). expand_macro ms y xs) (sym d) ∙ k.is }
      becomes ms n xs d None k = ap (λ (y : Name). expand_macro ms y xs) (sym d) ∙ k ∙ ap (λ (y : Name). done (macro_invocation y xs)) d

      tells : (ms : List Macro) → RowsOf t ms → (i : Inner) (z : List ℕ) → IsCall i → Here book p (w_inner i z) → Becomes t.book.now ms i r
      tells ms rs (invocation n a) z a_call h = let t = call_tag n a z h in absurd (omega arith)
      tells ms rs (leaf _ _) z ic h = elim ic [ ]
      tells ms rs (struct _) z ic h = elim ic [ ]
      tells ms rs (choice _ _ _) z ic h = elim ic [ ]
      tells ms rs (shell _ _) z ic h = elim ic [ ]
      tells ms rs (bytes _) z ic h = elim ic [ ]
      tells ms rs (macro_invocation n xs) z a_macro h = becomes ms n xs (q ∙ macro_name n xs z h) r (f.says ms rs xs)

-- a call that was replaced, by whether its instance is there; t is the rest
replace : (v : Out Combinator) (t : Out (List ℕ)) (b : List ℕ) {d d₁ : List ℕ} {o q : ℕ} (d₂ : List ℕ) (o₂ : ℕ) (d' : List ℕ) (r : ℕ) → Wrote d o b d₁ q → length d₂ ≡ length d₁
    → Puts d₁ q (v >>= λ c. done (w_inner (inner_of c) [])) d₂ o₂ → Puts d₂ o₂ t d' r → Puts d o (front b (onto w_inner (v >>= λ c. done (inner_of c)) t)) d' r
replace (refused k) t b d₂ o₂ d' r w l p s = puts_stays d₂ d' o₂ r (p ∙ ap suc (sym l)) t s ∙ ap suc (l ∙ same_length w)
replace (done c) (refused k) b d₂ o₂ d' r w l p s = s ∙ ap suc (l ∙ same_length w)
replace (done c) (done x) b d₂ o₂ d' r w l p s = rw (s_inner (inner_of c) [] x) (puts_front w d' r (done (w_inner (inner_of c) [] ++ x)) (puts_front p d' r (done x) s))

-- a call that stays
stay : (t : Out (List ℕ)) (b : List ℕ) (j : Inner) → front b (onto w_inner (done j) t) ≡ front (b ++ w_inner j []) t
stay (refused k) b j = refl
stay (done x) b j = ap done (rw (s_inner j [] x) (sym (append_assoc b (w_inner j []) x)))

-- what is written from `copied` on, up to the next call and from it on
module _ {ms : List Macro} {s : List ℕ} {m₁ m₂ : ℕ} {marks : List ℕ} {x : ℕ} {ps : List Piece} {z : List ℕ} (n : Next ms s m₁ m₂ marks x ps z) where
  to_next : (copied : ℕ) → copied ≤ x → front (part copied x s) (expanded ms ps []) ≡ front (part copied m₁ s) (onto w_inner (expand_i n.met ms) (expanded ms n.rest []))
  to_next copied c =
      ap (front (part copied x s)) n.says
      ∙ front-front (part copied x s) (part x m₁ s) (onto w_inner (expand_i n.met ms) (expanded ms n.rest []))
      ∙ ap (λ (l : List ℕ). front l (onto w_inner (expand_i n.met ms) (expanded ms n.rest []))) (sym (part_split copied x m₁ s c n.behind))

  next_here : Here s m₂ (written invocation n.rest z)
  next_here = rw n.end (step_here (w_inner n.met []) (inner_here n.met (written invocation n.rest z) n.here))

  -- over a call that stays
  over_next : (copied : ℕ) → copied ≤ x → expand_i n.met ms ≡ done n.met → front (part copied x s) (expanded ms ps []) ≡ front (part copied m₂ s) (expanded ms n.rest [])
  over_next copied c e =
      let W = written invocation n.rest z in
      let on : part copied m₂ s ≡ part copied m₁ s ++ w_inner n.met [] = rw n.end (part_on copied (omega (arith, n.behind)) (w_inner n.met []) W (inner_here n.met W n.here)) in
      to_next copied c
      ∙ ap (λ (v : Out Inner). front (part copied m₁ s) (onto w_inner v (expanded ms n.rest []))) e
      ∙ stay (expanded ms n.rest []) (part copied m₁ s) n.met
      ∙ ap (λ (l : List ℕ). front l (expanded ms n.rest [])) (sym on)

-- over a call that is replaced
module _ {t : Macros} {book : List ℕ} {m₁ m₂ : ℕ} {marks areas out : List ℕ} {o : ℕ} (copied : ℕ) {def : ℕ} (mo : MacroOf book m₁ t (Some def)) {out₁ out₂ : List ℕ} {q o₂ : ℕ}
    (w : Wrote out o (part copied m₁ book) out₁ q) (ca : Called t.book.now def book m₁ areas out₁ q out₂ o₂) where
  module _ (ar : Areas t.book.now book areas) {ms : List Macro} (rs : RowsOf t ms) {x : ℕ} {ps : List Piece} {z : List ℕ} (n : Next ms book m₁ m₂ marks x ps z) where
    -- the inner of the instance is written
    wrote_inner : (v : Replaced t.book.now ms n.met def) → Puts out₁ q (instance v.known.params v.args v.known.body >>= λ c. done (w_inner (inner_of c) [])) out₂ o₂
    unfolding levels
    wrote_inner v =
        let W = written invocation n.rest z in
        let d : levels_i (macro_invocation v.name v.args) ≤ 64 = rw v.is_call at n.deep in
        ca.says ar v.known v.defined v.name v.args W (rw v.is_call at n.here) d

    replaced : length out₂ ≡ length out₁ → copied ≤ x → (out' : List ℕ) (r : ℕ) → Puts out₂ o₂ (expanded ms n.rest []) out' r → Puts out o (front (part copied x book) (expanded ms ps [])) out' r
    replaced l c out' r p =
        let v = mo.says ms rs n.met (written invocation n.rest z) n.is_call n.here in
        rw (to_next n copied c, v.is)
        (replace (instance v.known.params v.args v.known.body) (expanded ms n.rest []) (part copied m₁ book) out₂ o₂ out' r w l (wrote_inner v) p)

    -- a place past the end is one past it
    past_end : length out₂ ≡ length out₁ → length out₂ < o₂ → o₂ ≡ suc (length out₂)
    past_end l k =
        let v = mo.says ms rs n.met (written invocation n.rest z) n.is_call n.here in
        omega (arith, puts_most out₁ out₂ q o₂ (instance v.known.params v.args v.known.body >>= λ c. done (w_inner (inner_of c) [])) (wrote_inner v))

module _ {t : Macros} {book : List ℕ} {to : ℕ} {marks areas out : List ℕ} {copied o : ℕ} where
  -- the end
  pub expanding_all : length marks < 2 → {out' : List ℕ} {r : ℕ} → Wrote out o (part copied to book) out' r → Expanding t book to marks areas out copied o out' r
  unfolding places written rewritten
  expanding_all k {out'} {r} w = record { says = λ ar ms rs x ps z h c m f dp. last ms ps x z h c m f }
    where
      last : (ms : List Macro) (ps : List Piece) (x : ℕ) (z : List ℕ) → Here book x (written invocation ps z) → copied ≤ x → marks ≡ places x ps → to ≡ x + length (written invocation ps [])
          → Puts out o (front (part copied x book) (expanded ms ps [])) out' r
      last ms [] x z h c m f = let q : to ≡ x = omega arith in rw (append-nil, ← q) w
      last ms (raw bs ∷ ps) x z h c m f =
          let q : to ≡ x + length bs + length (written invocation ps []) = f ∙ simp length-append (omega arith) in
          rw (front-front (part copied x book) bs (expanded ms ps []), ← (part_on copied c bs (written invocation ps z) h)) (last ms ps (x + length bs) z (step_here bs h) (omega arith) m q)
      last ms (call n xs ∷ ps) x z h c m f = absurd (omega (arith, ap length m))
      last ms (macro_call n xs ∷ ps) x z h c m f = absurd (omega (arith, ap length m))

  module _ {m₁ m₂ : ℕ} where
    -- a call that stays
    pub expanding_on : MacroOf book m₁ t None → {out' : List ℕ} {r : ℕ} → Expanding t book to marks areas out copied o out' r
        → Expanding t book to (m₁ ∷ m₂ ∷ marks) areas out copied o out' r
    expanding_on mo e = record {
      says = λ ar ms rs x ps z h c m f dp.
          let n = next_of ms book m₁ m₂ marks z ps x h m dp in
          let s = mo.says ms rs n.met (written invocation n.rest z) n.is_call n.here in
          rw (over_next n copied c s) (e.says ar ms rs m₂ n.rest z (next_here n) (omega (arith, n.behind, n.end)) n.are (f ∙ n.ends) n.deeps);
    }

    module _ {def : ℕ} (mo : MacroOf book m₁ t (Some def)) {out₁ out₂ : List ℕ} {q o₂ : ℕ} (w : Wrote out o (part copied m₁ book) out₁ q)
        (ca : Called t.book.now def book m₁ areas out₁ q out₂ o₂) (l : length out₂ ≡ length out₁) where
      -- a call that is replaced
      pub expanding_call : {areas₁ : List ℕ} → length areas₁ ≡ length areas → {out' : List ℕ} {r : ℕ}
          → Expanding t book to marks areas₁ out₂ m₂ o₂ out' r → Expanding t book to (m₁ ∷ m₂ ∷ marks) areas out copied o out' r
      expanding_call la {out'} {r} e = record {
        says = λ ar ms rs x ps z h c m f dp.
            let n = next_of ms book m₁ m₂ marks z ps x h m dp in
            let ar₁ : Areas t.book.now book _ = record { macros_short = ar.macros_short; book_short = ar.book_short; areas_long = la ∙ ar.areas_long } in
            let p = e.says ar₁ ms rs m₂ n.rest z (next_here n) (omega arith) n.are (f ∙ n.ends) n.deeps in
            let g : front (part m₂ m₂ book) (expanded ms n.rest []) ≡ expanded ms n.rest [] = rw (part_none m₂ book) (front_none (expanded ms n.rest [])) in
            replaced copied mo w ca ar rs n l c out' r (rw g at p);
      }

      -- and that leaves no room
      pub expanding_stop : length out₂ < o₂ → Expanding t book to (m₁ ∷ m₂ ∷ marks) areas out copied o out₂ o₂
      expanding_stop g = record {
        says = λ ar ms rs x ps z h c m f dp.
            let n = next_of ms book m₁ m₂ marks z ps x h m dp in
            replaced copied mo w ca ar rs n l c out₂ o₂ (puts_over out₂ o₂ (past_end copied mo w ca ar rs n l g) (expanded ms n.rest []));
      }

-- the loop
pub record Going (t : Macros) (book : List ℕ) (to : ℕ) (marks₀ areas₀ row₀ out₀ : List ℕ) (copied₀ o₀ : ℕ) (marks areas row out : List ℕ) (copied o : ℕ) : Type 0 where
  pub areas_long : length areas ≡ length areas₀
  pub row_long : length row ≡ length row₀
  pub out_long : length out ≡ length out₀
  pub goes : (out' : List ℕ) (r : ℕ) → Expanding t book to marks areas out copied o out' r → Expanding t book to marks₀ areas₀ out₀ copied₀ o₀ out' r
