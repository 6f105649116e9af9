-- A range of the expanded book with the range of each lift replaced by its call. Document 01, "Lifting rules".
use Rattle.std.specs.Prelude.{List, [], ◌∷◌, ◌++◌, map, ℕ, zero, suc, ◌+◌, ◌*◌, ◌-◌, length, get_or}
use Rattle.definition.specs.Res.{Maybe, absent, just}
use Rattle.definition.specs.Tree.{Name, invocation, Kind, is_format, Entry, Definition}
use Rattle.definition.specs.Write.{w_u16, w_name, w_combinator, w_inner, kind_of, size_of, w_entries}
use Rattle.definition.specs.Macros.{inner_of}
use Rattle.laws.proofs.Sizes.{size_i}
use Rattle.lifting.specs.After.{first_at}
use Rattle.lifting.specs.Records.{Ref, own, passed, Record, find, call}

-- the byte at a place, or the call of the lift there; `on` goes on after leaving out so many places
unfoldable pub placed : Maybe Record → ℕ → ℕ → (ℕ → List ℕ) → List ℕ
placed absent at b on = b ∷ on 0
placed (just r) at b on = w_combinator (call r) (on (r.end - suc at))

-- n places from `at` on, the first `left` of them left out
unfoldable pub going : List ℕ → List Record → ℕ → ℕ → ℕ → List ℕ
going s rs zero at left = []
going s rs (suc n) at (suc left) = going s rs n (suc at) left
going s rs (suc n) at zero = placed (find rs at) at (get_or s at 0) (λ left. going s rs n (suc at) left)

-- from one place up to another
unfoldable pub with_calls : List ℕ → List Record → ℕ → ℕ → List ℕ
with_calls s rs from to = going s rs (to - from) from 0

-- where a type begins, and where it ends, its chain left out
unfoldable pub ref_at : Ref → ℕ
ref_at (own i p) = p
ref_at (passed c p) = p

unfoldable pub ref_end : Ref → ℕ
ref_end (own i p) = p + size_i i
ref_end (passed c p) = p + size_i (inner_of c)

-- "types as they stand after lifting, without chain": of a binder that was lifted the call, else its range with its calls
unfoldable pub type_bytes : Maybe Record → List ℕ → List ℕ
type_bytes absent range = range
type_bytes (just r) range = w_inner (invocation r.name r.params) []

unfoldable pub ref_bytes : List ℕ → List Record → Ref → List ℕ
ref_bytes s rs t = type_bytes (find rs (ref_at t)) (with_calls s rs (ref_at t) (ref_end t))

-- "each name + inner", in front of what follows
unfoldable pub param_bytes : List ℕ → List Record → List Name → List Ref → List ℕ → List ℕ
param_bytes s rs [] ts r = r
param_bytes s rs (n ∷ ns) [] r = r
param_bytes s rs (n ∷ ns) (t ∷ ts) r = w_name n (ref_bytes s rs t ++ param_bytes s rs ns ts r)

-- "name, u16 count of parameters, each name + inner; combinator": at the first place of the combinator moved its own record stands
unfoldable pub lifted_bytes : List ℕ → List Record → Maybe Record → List ℕ
lifted_bytes s rs absent = []
lifted_bytes s rs (just r) = w_name r.name (w_u16 (length r.params) (param_bytes s rs r.params r.types (get_or s r.at 0 ∷ with_calls s rs (suc r.at) r.end)))

-- the bodies of a list, of which the first begins at p, each with its calls
unfoldable pub kept_bytes : List ℕ → List Record → List Definition → ℕ → List (List ℕ)
kept_bytes s rs [] p = []
kept_bytes s rs (d ∷ ds) p = with_calls s rs p (p + size_of d) ∷ kept_bytes s rs ds (p + size_of d)

-- a book by the kinds and the bytes of its bodies: "each next is the previous offset plus its length"
unfoldable pub entries_of : List Kind → List (List ℕ) → List Entry
entries_of [] bs = []
entries_of (k ∷ ks) [] = []
entries_of (k ∷ ks) (b ∷ bs) = record { kind = k; size = length b; extra = [] } ∷ entries_of ks bs

unfoldable pub joined : List (List ℕ) → List ℕ
joined [] = []
joined (b ∷ bs) = b ++ joined bs

unfoldable pub book_of : List Kind → List (List ℕ) → List ℕ
book_of ks bs = w_u16 (length bs) (w_entries (2 + 6 * length bs) (entries_of ks bs) (joined bs))

-- the result: the bodies of the expanded book with their calls, then the lifted definitions in the order in which the lifts were finished
unfoldable pub result_bytes : List ℕ → List Definition → List Record → List ℕ → List ℕ
result_bytes s ds rs finished = book_of (map kind_of ds ++ map (λ x. is_format) finished) (kept_bytes s rs ds (first_at ds) ++ map (λ x. lifted_bytes s rs (find rs x)) finished)

-- the bytes of the name, the count of parameters and the parameters of a new body, by the records so far
unfoldable pub param_room : List ℕ → List Record → List Name → List Ref → ℕ
param_room s rs [] ts = 0
param_room s rs (n ∷ ns) [] = 0
param_room s rs (n ∷ ns) (t ∷ ts) = 1 + length n + length (ref_bytes s rs t) + param_room s rs ns ts

unfoldable pub byte_head : List ℕ → List Record → Record → ℕ
byte_head s rs r = 3 + length r.name + param_room s rs r.params r.types

-- the bytes of a call
unfoldable pub names_room : List Name → ℕ
names_room [] = 0
names_room (n ∷ ns) = 1 + length n + names_room ns

unfoldable pub call_room : Record → ℕ
call_room r = 5 + length r.name + names_room r.params
