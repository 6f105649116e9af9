-- A book worked by its records, by computing: places in walk order, places in the order of the definitions, and the definition's bytes.
use mathlib.Core.Path.{◌≡◌, refl}
use mathlib.Core.List.{List, [], ◌∷◌, map}
use Prim.Native.Nat.{ℕ}
use Rattle.definition.specs.Utf8.{utf8}
use Rattle.definition.specs.Res.{Res, bad, ok}
use Rattle.definition.specs.Tree.{plain, chained, struct, no_field, Definition}
use Rattle.definition.specs.Write.{w_book}
use Rattle.definition.specs.Lift.{lift_book_of}
use Rattle.definition.specs.Notation.{Int, Enum, Bytes, Vec, Nothing, ord, dep, one, fmt, param}
use Rattle.definition.specs.Names.{eq_name, elem, remove, before, insert, sorted, root, letter, letters, segment, digits, decimal, child, case_segment, shell_segment, numbered, first_free, fresh}
use Rattle.definition.specs.Write as W
use Rattle.definition.specs.Collect.{anonymous_leaf, anonymous, is_tail, bytes_or_tail, selector_uses, shell_uses, unbound, free, leftover}
use Rattle.definition.specs.Size.{size, size_book}
use Rattle.definition.specs.Macros.{inner_of}
use Rattle.definition.specs.Lift.{names}
use Rattle.definition.specs.Answer.{outcome, all, Result}
use Rattle.definition.specs.Out.{Out, refused, done}
use Rattle.laws.proofs.Sizes.{size_i, head}
use Rattle.lifting.specs.Records.{find, or_else, call}
use Rattle.lifting.specs.After.{replaced, out, itself, lifts, type_of, params_of, made_by, definition_of, out_d, lifts_d, out_all, lifts_all}
use Rattle.lifting.specs.Calls.{placed, going, with_calls, ref_at, ref_end, type_bytes, ref_bytes, param_bytes, lifted_bytes, kept_bytes, entries_of, joined, book_of, result_bytes, param_room, byte_head, names_room, call_room}
use Rattle.lifting.specs.Trace.{Trace, first, ref_of, refs, finish, fits, bind_ref, own_binders, tree_head, enter, lifting, trace_by, trace, trace_all, begin, trace_book}

-- x, and m(k: Int) = {@n: Vec<Bytes[@k] >>= Enum>; h: {@n: Enum; b: {c: Bytes[@n, @k]}} >>= Enum}
unfoldable book : List Definition
unfolding utf8
book = fmt "x" [] (plain Nothing)
    ∷ fmt "m" (param "k" (Int "u8") ∷ [])
    (plain (struct (dep "n" (plain (Vec (chained (Bytes ("k" ∷ [])) (plain Enum)))) (ord "h" (chained (struct (dep "n" (plain Enum) (ord "b" (one "c" (plain (Bytes ("n" ∷ "k" ∷ [])))) no_field))) (plain Enum)) no_field))))
    ∷ []

record Seen : Type 0 where
  walked : List ℕ
  finished : List ℕ
  result : List ℕ

unfoldable seen : Res Trace (Unit {0}) → Seen
seen (bad k t) = record { walked = []; finished = []; result = [] }
seen (ok u t) = record { walked = map (λ r. r.at) t.records; finished = t.finished; result = result_bytes (w_book book) book t.records t.finished }

unfoldable expected : Out Result → List ℕ
expected (refused k) = []
expected (done r) = w_book (all r)

-- the Enum in n's chain, h, h's chain, n in h, b: in walk order, and as their definitions come
by_records : seen (trace_book (byte_head (w_book book)) book) ≡ record { walked = 48 ∷ 56 ∷ 87 ∷ 62 ∷ 69 ∷ []; finished = 48 ∷ 87 ∷ 62 ∷ 69 ∷ 56 ∷ []; result = expected (outcome (lift_book_of book)) }
unfolding utf8 book seen expected outcome lift_book_of w_book W.w_definition W.size_of eq_name elem remove before insert sorted root letter letters segment digits decimal child case_segment shell_segment numbered first_free fresh anonymous_leaf anonymous is_tail bytes_or_tail selector_uses shell_uses unbound free leftover size size_book inner_of names size_i head find or_else call replaced out itself lifts type_of params_of made_by definition_of out_d lifts_d out_all lifts_all placed going with_calls ref_at ref_end type_bytes ref_bytes param_bytes lifted_bytes kept_bytes entries_of joined book_of result_bytes param_room byte_head names_room call_room first ref_of refs finish fits bind_ref own_binders tree_head enter lifting trace_by trace trace_all begin trace_book
by_records = refl
