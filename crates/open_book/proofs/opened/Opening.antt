-- Code 6 and the expanded book, from what the steps say.
-- Assumes nothing.
use mathlib.Core.Path.{◌≡◌, refl, sym, ◌∙◌}
use mathlib.Core.List.{List, []}
use mathlib.Core.Bool.{Bool, true, false}
use Prim.Native.Nat.{ℕ, ◌≤◌}
use native.Mathlib.Omega.{arith}
use lib.Dec.{leb}
use borrow.Author.Tests.{leb-true}
use lib.ListN.{length, drop}
use lib.Seq.{take-append_seam}
use Rattle.std.specs.Prelude.{Result, Ok, Err}
use Rattle.what_comes_back.specs.declared.Code.{Code as CodeOf}
use Rattle.what_comes_back.specs.declared.Refusal.{Refusal}
use Rattle.definition.specs.Code.{Code, macro_growth}
use Rattle.definition.specs.Out.{Out, refused, done, given}
use Rattle.definition.specs.Tree.{Definition}
use Rattle.definition.specs.Write.{w_book}
use Rattle.definition.specs.Size.{size_book}
use Rattle.definition.specs.Macros.{macros}
use Rattle.laws.specs.Book.{Bytes}
use Rattle.laws.proofs.Results.{expanded_is_book}
use Rattle.laws.proofs.Steps.{no_done}
use Rattle.laws.proofs.OnlySix.{Grows, six, none, only_six}
use Rattle.expand_macros.specs.pass.Pass.{pass, fitting, answer_of, leaves, Leaves, Passed}
use Rattle.expand_macros.proofs.pass.Fitting.{fits_all}
use Rattle.open_book.specs.begin.Begins.{opened, Refuses, Expands, Sound as Passes, Begins}
use Rattle.open_book.proofs.begin.Beginning.{expand_says, opened_is}
use Rattle.open_book.specs.opened.Opens.{Opens}

fit_refused : (room : ℕ) {m : Out (List Definition)} {k : Code} → m ≡ refused k → fitting room m ≡ refused k
unfolding fitting
fit_refused room e = rw e

-- what fits is the book itself
fit_done : (room : ℕ) (m : Out (List Definition)) (es : List Definition) → fitting room m ≡ done es → m ≡ done es
unfolding fitting
fit_done room (refused k) es e = no_done e
fit_done room (done fs) es e = go (leb (size_book fs) room) e
  where
    go : (t : Bool) → given t macro_growth fs ≡ done es → done fs ≡ done es
    go true f = f
    go false f = no_done f

fit_size : (room : ℕ) (m : Out (List Definition)) (es : List Definition) → fitting room m ≡ done es → size_book es ≤ room
unfolding fitting
fit_size room (refused k) es e = no_done e
fit_size room (done fs) es e = go (leb (size_book fs) room) refl e
  where
    go : (t : Bool) → leb (size_book fs) room ≡ t → given t macro_growth fs ≡ done es → size_book es ≤ room
    go true l f = let d : fs ≡ es = cc in rw (← d) (leb-true (size_book fs) room l)
    go false l f = no_done f

-- the expansion that fits is the expansion
pub expands_all : (room : ℕ) {m : Out (List Definition)} {out : List ℕ} {len : ℕ} → Expands (fitting room m) out len → Expands m out len
expands_all room {m} e = record { left = e.left; is = fit_done room m e.left e.is; is_book = e.is_book; holds = e.holds; fits = e.fits }

fit_six : (room : ℕ) {m : Out (List Definition)} → Grows m → Grows (fitting room m)
unfolding fitting
fit_six room six = six
fit_six room (none es) = go (leb (size_book es) room)
  where
    go : (t : Bool) → Grows (given t macro_growth es)
    go true = none es
    go false = six

module _ (b : List ℕ) (n size : ℕ) (out : List ℕ) (p : Passes b n) (small : Bytes b) {areas area : List ℕ} (long : length areas ≡ 32768) (is : size ≡ length area) {x : Result ℕ CodeOf} (q : Passed b b areas area out x) where
  opened-pass : opened b n ≡ pass p.source p.source
  opened-pass = p.is ∙ expand_says p.source

  passed : size ≤ 16384 → Leaves (fitting size (opened b n)) area out x
  passed h = rw (opened-pass, is) (q.says p.source p.source p.written p.is_book p.written p.is_book long (omega arith))

  -- in an output for any book
  all_fits : size ≡ 16384 → fitting size (opened b n) ≡ opened b n
  all_fits h = rw (opened-pass, h) (fits_all p.source p.source)

  sixes : Grows (fitting size (opened b n))
  unfolding pass
  sixes = fit_six size (rw opened-pass (only_six (macros p.source []) p.source))

  -- code 6
  pub opens_6 : {k : CodeOf} → x ≡ Err k → Opens b n size out (Err (record { code = k; at = 0 }))
  opens_6 {k} t = record { within = λ h. too_long h; by = λ h. rw (all_fits h) at (too_long (omega arith)); placed = sym p.faultless }
    where
      grown : {y : Out (List Definition)} → fitting size (opened b n) ≡ y → Grows y → answer_of y ≡ Err k → Refuses (fitting size (opened b n)) k
      grown o six q = record { reason = macro_growth; is = o; coded = cc }
      grown o (none es) q = absurd (let z : ◌≡◌ {A = ℕ} 0 1 = cc in omega arith)

      too_long : size ≤ 16384 → Refuses (fitting size (opened b n)) k
      too_long h = grown refl sixes (sym (passed h).0 ∙ t)

  pub opens_book : (len : ℕ) → x ≡ Ok len → Opens b n size out (Ok len)
  unfolding size_book
  opens_book len t = record { within = λ h. stands h; by = λ h. rw (all_fits h) at (stands (omega arith)).0; placed = p.faultless }
    where
      written : (y : Out (List Definition)) → fitting size (opened b n) ≡ y → Ok len ≡ answer_of y → leaves y area out → Expands (fitting size (opened b n)) out len × (len ≤ size)
      written (refused k) o q s = absurd (let z : ◌≡◌ {A = ℕ} 0 1 = cc in omega arith)
      written (done es) o q s =
          let i = (expanded_is_book b small es (sym (opened_is b n p.wide) ∙ fit_done size (opened b n) es o)).0 in
          let k : len ≡ length (w_book es) = cc in (
            record {
              left = es;
              is = o;
              is_book = i;
              holds = rw (s, k) (take-append_seam (w_book es) (drop (length (w_book es)) area));
              fits = omega (arith, i.short);
            },
            omega (arith, fit_size size (opened b n) es o),
          )

      stands : size ≤ 16384 → Expands (fitting size (opened b n)) out len × (len ≤ size)
      stands h = written (fitting size (opened b n)) refl (sym t ∙ (passed h).0) (passed h).1

-- what `begin` says of a refusal
pub opens_refused : {b : List ℕ} {n size : ℕ} {out : List ℕ} {f : Refusal} → Begins b n (Err f) → Opens b n size out (Err f)
opens_refused {size = size} r = record { within = λ _. record { reason = r.0.reason; is = fit_refused size r.0.is; coded = r.0.coded }; by = λ _. r.0; placed = r.1 }
