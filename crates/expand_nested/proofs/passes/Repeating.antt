-- One pass after the other, from what a pass and the test for known calls say.
-- Assumes nothing.
use mathlib.Core.Path.{◌≡◌, refl, sym, ap, ◌∙◌}
use mathlib.Core.Logic.{inl, inr}
use mathlib.Core.List.{List, []}
use mathlib.Core.Bool.{Bool, true, false}
use Prim.Native.Nat.{ℕ, zero, suc, ◌+◌, ◌-◌, ◌≤◌}
use native.Mathlib.Omega.{arith}
use lib.ListN.{length, take, drop}
use lib.Seq.{take-append_seam}
use Rattle.definition.specs.Code.{macro_growth, macro_left}
use Rattle.definition.specs.Out.{Out, refused, done, ◌>>=◌}
use Rattle.definition.specs.Tree.{Definition}
use Rattle.definition.specs.Write.{w_book}
use Rattle.definition.specs.Size.{size_book}
use Rattle.definition.specs.Macros.{Macro, macros}
use Rattle.laws.specs.Book.{IsBook}
use Rattle.laws.specs.Lists.{NoMacro}
use Rattle.laws.proofs.Steps.{Yields, yielded}
use Rattle.laws.proofs.OnlySix.{Grows, six, none, only_six}
use Rattle.laws.proofs.ExpandGood.{macros_good, pass_good}
use Rattle.nested.specs.Nested.{settled, pass, until, again}
use Rattle.buffer.specs.writes.Buf.{put, part, Wrote}
use Rattle.buffer.proofs.writes.Put.{length-put, take_written}
use Rattle.std.specs.Prelude.{Result, Ok, Err}
use Rattle.what_comes_back.specs.declared.Code.{Code}
use Rattle.what_comes_back.specs.declared.Code.TheVariants.{MacroGrowth, MacroLeft}
use Rattle.expand_macros.specs.pass.Pass.{pass as passOf, answer_of, leaves, Passed}
use Rattle.expand_macros.proofs.pass.Fitting.{passed_whole}
use Rattle.expand_nested.specs.settled.Settles.{Settles}
use Rattle.expand_nested.specs.passes.Repeats.{Stands, PassedBack, Again}

-- the pass on trees
pass_is : (ms ds : List Definition) → passOf ms ds ≡ pass (macros ms []) ds
unfolding pass passOf
pass_is ms ds = refl

pass_six : (ms : List Macro) (ds : List Definition) → Grows (pass ms ds)
unfolding pass
pass_six ms ds = only_six ms ds

pass_book : (ms ds : List Definition) → IsBook ms → IsBook ds → Yields (λ es. IsBook es × NoMacro es) (pass (macros ms []) ds)
unfolding pass
pass_book ms ds im id = pass_good ds (macros ms []) (macros_good ms [] im.good tt) id.good id.few

size_is : (es : List Definition) → size_book es ≡ length (w_book es)
unfolding size_book
size_is es = refl

-- a pass on bytes, whose result goes back
stands : (next next' : List ℕ) {area area' : List ℕ} {len q : ℕ} → Wrote area 0 (part 0 len next') area' q → length area ≡ 16384 → (m : Out (List Definition)) → ((es : List Definition) → m ≡ done es → IsBook es)
    → Ok len ≡ answer_of m → leaves m next next' → Stands m area' len
unfolding part
stands next next' w la (refused k) f e l = absurd (let z : ◌≡◌ {A = ℕ} 0 1 = cc in omega arith)
stands next next' {area} {area'} {len} w la (done es) f e l =
    let s : len ≡ size_book es = cc in
    let k : len ≡ length (w_book es) = s ∙ size_is es in
    let i = f es refl in
    let d : len - 0 ≡ length (w_book es) = omega (arith, k) in
    let z : len ≡ 0 + length (w_book es) = omega (arith, k) in
    let b : part 0 len next' ≡ w_book es = rw d (ap (λ (y : List ℕ). take (length (w_book es)) y) l ∙ take-append_seam (w_book es) (drop (size_book es) next)) in
    record {
      list = es;
      is = refl;
      is_book = i;
      holds = ap (λ (y : List ℕ). take len y) (w.holds ∙ ap (λ (y : List ℕ). put area 0 y) b) ∙ rw z (take_written area 0 (w_book es) (omega (arith, i.short, size_is es)));
      fits = omega (arith, i.short);
      long = ap length w.holds ∙ length-put area 0 (part 0 len next') ∙ la;
    }

module _ {lib area : List ℕ} {len : ℕ} {here areas next next' : List ℕ} (eh : here ≡ take len area) where
  pub back_grown : {k : Code} → Passed lib here areas next next' (Err k) → {area' : List ℕ} → PassedBack lib area len (length areas) (length next) area' (Err k)
  back_grown {k} p = record { says = λ ms ds el im eb id la ls ln. grown (pass_six (macros ms []) ds) ((passed_whole p ms ds el im (eh ∙ eb) id ls ln).0 ∙ ap answer_of (pass_is ms ds)) }
    where
      grown : {m : Out (List Definition)} → Grows m → Err k ≡ answer_of m → (m ≡ refused macro_growth) × (k ≡ MacroGrowth)
      grown six q = (refl, cc)
      grown (none es) q = absurd (let z : ◌≡◌ {A = ℕ} 0 1 = cc in omega arith)

  pub back_book : {len' : ℕ} {area' : List ℕ} {q : ℕ} → Wrote area 0 (part 0 len' next') area' q → Passed lib here areas next next' (Ok len') → PassedBack lib area len (length areas) (length next) area' (Ok len')
  back_book w p = record {
    says = λ ms ds el im eb id la ls ln.
        let t = passed_whole p ms ds el im (eh ∙ eb) id ls ln in
        stands next next' w la (pass (macros ms []) ds) (λ es g. (yielded (pass_book ms ds im id) g).0) (t.0 ∙ ap answer_of (pass_is ms ds)) (rw (pass_is ms ds) at t.1);
  }

-- one more, or none
again-done : (left : ℕ) (ms : List Macro) (ds : List Definition) → settled ms ds ≡ true → again left ms ds ≡ done ds
unfolding again until
again-done zero ms ds e = rw e
again-done (suc left) ms ds e = rw e

again_more : (left left₁ : ℕ) (ms : List Macro) (ds : List Definition) → left ≡ suc left₁ → settled ms ds ≡ false → again left ms ds ≡ (pass ms ds >>= λ es. again left₁ ms es)
unfolding again until
again_more left left₁ ms ds h e = rw (h, e)

again_none : (left : ℕ) (ms : List Macro) (ds : List Definition) → left ≤ 0 → settled ms ds ≡ false → again left ms ds ≡ refused macro_left
unfolding again until
again_none zero ms ds h e = rw e
again_none (suc left) ms ds h e = absurd (omega arith)

module _ {lib area : List ℕ} {len left areas room : ℕ} {here : List ℕ} (eh : here ≡ take len area) {b : Bool} (s : Settles lib here b) where
  pub again_settled : b ≡ true → Again lib area len left areas room area (Ok len)
  again_settled e = record {
    says = λ ms ds el im eb id f la ls ln.
        record { list = ds; is = again-done left (macros ms []) ds (sym (s.says ms ds el im (eh ∙ eb) id) ∙ e); is_book = id; holds = eb; fits = f; long = la };
  }

  module _ (e : b ≡ false) where
    pub again_left : left ≤ 0 → Again lib area len left areas room area (Err MacroLeft)
    again_left h = record { says = λ ms ds el im eb id f la ls ln. inr (again_none left (macros ms []) ds h (sym (s.says ms ds el im (eh ∙ eb) id) ∙ e), refl) }

    module _ {left₁ : ℕ} (h : left ≡ suc left₁) {areas₁ room₁ : ℕ} (ea : areas₁ ≡ areas) (er : room₁ ≡ room) {area₁ : List ℕ} where
      pub again_grown : {k : Code} → PassedBack lib area len areas₁ room₁ area₁ (Err k) → Again lib area len left areas room area₁ (Err k)
      again_grown p = record {
        says = λ ms ds el im eb id f la ls ln.
            let t = p.says ms ds el im eb id la (ea ∙ ls) (er ∙ ln) in
            inl (again_more left left₁ (macros ms []) ds h (sym (s.says ms ds el im (eh ∙ eb) id) ∙ e) ∙ rw t.0, t.1);
      }

      pub again_step : {len₁ : ℕ} → PassedBack lib area len areas₁ room₁ area₁ (Ok len₁) → length area₁ ≡ length area → {area' : List ℕ} {r : Result ℕ Code} → Again lib area₁ len₁ left₁ areas room area' r
          → Again lib area len left areas room area' r
      again_step p l n = record {
        says = λ ms ds el im eb id f la ls ln.
            let t = p.says ms ds el im eb id la (ea ∙ ls) (er ∙ ln) in
            rw (again_more left left₁ (macros ms []) ds h (sym (s.says ms ds el im (eh ∙ eb) id) ∙ e), t.is)
            (n.says ms t.list el im t.holds t.is_book t.fits (l ∙ la) ls ln);
      }

-- the loop: whoever goes on from here has gone from the start
pub record Going (lib area₀ : List ℕ) (len₀ left₀ areas room : ℕ) (area : List ℕ) (len left : ℕ) : Type 0 where
  pub goes : (area' : List ℕ) (r : Result ℕ Code) → Again lib area len left areas room area' r → Again lib area₀ len₀ left₀ areas room area' r
