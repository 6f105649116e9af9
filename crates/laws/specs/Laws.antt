-- The laws of the definition: what is proved of it in this crate, statement by statement. The proofs are in proofs/Laws.antt.
use Rattle.std.specs.Prelude.{◌≡◌, ◌↔◌, ◌⊎◌, Bool, true, ◌&&◌, cond, ◌||◌, ℕ, zero, suc, ◌+◌, ◌-◌, ◌*◌, ◌≤◌, ◌<◌, leb, ltb, length, drop}
use mathlib.Core.List.{List, [], ◌∷◌, ◌++◌, Memᴰ}
use Rattle.definition.specs.Code.{result_long}
use Rattle.definition.specs.Res.{bad, ok}
use Rattle.definition.specs.Out.{Out, done}
use Rattle.definition.specs.Utf8.{scalar, encode, Utf8, well_formed}
use Rattle.definition.specs.Tree.{Name, Combinator, Definition, format, constant, byte_order, macro}
use Rattle.definition.specs.Contents.{read_book_of}
use Rattle.definition.specs.Write.{w_book}
use Rattle.definition.specs.Size.{size_book}
use Rattle.definition.specs.Names.{letters, decimal, numbered, fresh, sorted}
use Rattle.definition.specs.Collect.{anonymous, free, leftover}
use Rattle.definition.specs.Lift.{Course, full, State, walk_all, start}
use Rattle.definition.specs.Answer.{expanded, Result, all, attempt, answer, output}
use Rattle.laws.specs.Book.{Bytes, IsBook}
use Rattle.laws.specs.Lists.{param_names, NoMacro}
use Rattle.laws.specs.Collected.{Found, Use, Unbound, MacroCall, Anyhow}

-- UTF-8 -------------------------------------------------------------------------------------------

-- "bytes of UTF-8": the table of well-formed byte sequences says the same as the encodings of scalar values
abbrev pub TableSaysUtf8 : Type 0
TableSaysUtf8 = (s : List ℕ) → Utf8 s ↔ (well_formed s ≡ true)

-- a scalar value has one encoding, and no bytes are the encodings of two: what starts with the encoding of c does not start with that of another
abbrev pub OneEncoding : Type 0
OneEncoding = (c d : ℕ) → scalar c ≡ true → scalar d ≡ true → (s t : List ℕ) → encode c ++ s ≡ encode d ++ t → (c ≡ d) × (s ≡ t)

-- The definition book ---------------------------------------------------------------------------

-- what is written of a list that a book can hold is bytes, and reads as that list
abbrev pub WrittenIsRead : Type 0
WrittenIsRead = (ds : List Definition) → IsBook ds → Bytes (w_book ds) × (read_book_of (w_book ds) ≡ ok ds [])

-- what was read is what is written: no two books read alike, and each list that is read is one that a book can hold
abbrev pub ReadIsWritten : Type 0
ReadIsWritten = (s : List ℕ) → Bytes s → length s ≤ 16384 → (ds : List Definition) (r : List ℕ) → read_book_of s ≡ ok ds r → (s ≡ w_book ds) × IsBook ds

-- macro rules 1 and 5: the expanded list is one that a book can hold, and no kind 4 definition is left in it
abbrev pub ExpandedIsBook : Type 0
ExpandedIsBook = (book : List ℕ) → Bytes book → (ds : List Definition) → expanded book ≡ done ds → IsBook ds × NoMacro ds

-- "0: done"; "On 0 the result fills the output's first bytes and the rest is as before.": the result is a book, every byte of it is below 256, and it reads back as itself.
-- Of any attempt, and of the output before and after it: document 02 b has a second one
pub record AcceptedBy (tried : Out Result) (out after : List ℕ) : Type 0 where
  pub result : Result
  pub attempted : tried ≡ done result
  pub is_book : IsBook (all result)
  pub small : Bytes (w_book (all result))
  pub reads : read_book_of (w_book (all result)) ≡ ok (all result) []
  pub fits : length (w_book (all result)) ≤ length out
  pub fills : after ≡ w_book (all result) ++ drop (length (w_book (all result))) out

abbrev pub Accepted : List ℕ → List ℕ → ℕ → Type 0
Accepted book out workLength = AcceptedBy (attempt book (length out) workLength) out (output book out workLength)

abbrev pub ResultIsBook : Type 0
ResultIsBook = (book out : List ℕ) (workLength : ℕ) → Bytes book → (answer book (length out) workLength).code ≡ 0 → Accepted book out workLength

-- Names --------------------------------------------------------------------------------------------

-- "A label's segment maps each character: ASCII letters lower-cased, digits kept, every other character one '_'"
abbrev pub sign : ℕ → ℕ
sign c = cond (leb 65 c && leb c 90) (c + 32) (cond (leb 97 c && leb c 122 || leb 48 c && leb c 57) c 95)

-- the definition goes by bytes, and says that
abbrev pub SegmentByCharacters : Type 0
SegmentByCharacters = (c : ℕ) → scalar c ≡ true → (s : List ℕ) → letters (encode c ++ s) ≡ sign c ∷ letters s

-- `choice0`, base_0 and the numbers of the listing are in decimal: ASCII digits, the first counting most. The value of digits behind others whose value is a
abbrev pub value_of : List ℕ → ℕ → ℕ
value_of [] a = a
value_of (d ∷ s) a = value_of s (10 * a + (d - 48))

abbrev pub AllDigits : List ℕ → Type 0
AllDigits [] = Unit {0}
AllDigits (d ∷ s) = (48 ≤ d) × (d ≤ 57) × AllDigits s

-- a number's digits: their value is the number, and no zero stands in front of others
pub record InDecimal (n : ℕ) (s : List ℕ) : Type 0 where
  pub only_digits : AllDigits s
  pub value : value_of s 0 ≡ n
  pub short : (t : List ℕ) → s ≡ 48 ∷ t → t ≡ []

abbrev pub DecimalReadsBack : Type 0
DecimalReadsBack = (n : ℕ) → InDecimal n (decimal n)

-- "The name is the base if free, else base_0, base_1.."
abbrev pub candidate : Name → ℕ → Name
candidate base zero = base
candidate base (suc i) = numbered base i

-- ".. first free": the name is not taken, all candidates before it are. The search ends by counting: no two candidates are equal, so that those before it are as many names that are taken
pub record FirstFree (base : Name) (taken : List Name) : Type 0 where
  pub at : ℕ
  pub chosen : fresh base taken ≡ candidate base at
  pub free : Memᴰ (fresh base taken) taken → ⊥
  pub before : (i : ℕ) → i < at → Memᴰ (candidate base i) taken
  pub counted : at ≤ length taken

abbrev pub FreshIsFirstFree : Type 0
FreshIsFirstFree = (base : Name) (taken : List Name) → FirstFree base taken

abbrev pub CandidatesDiffer : Type 0
CandidatesDiffer = (base : Name) (i j : ℕ) → candidate base i ≡ candidate base j → i ≡ j

-- "in byte order": the empty name before any other, else by the first byte in which they differ
pub data Less : Name → Name → Type 0 where
  ends : {b : ℕ} {s : Name} → Less [] (b ∷ s)
  smaller : {a b : ℕ} {s t : Name} → a < b → Less (a ∷ s) (b ∷ t)
  equal : {b : ℕ} {s t : Name} → Less s t → Less (b ∷ s) (b ∷ t)

-- it is an order: of two names that differ exactly one comes first
pub record ByteOrder : Type 0 where
  pub irreflexive : (a : Name) → Less a a → ⊥
  pub transitive : (a b c : Name) → Less a b → Less b c → Less a c
  pub total : (a b : Name) → (a ≡ b → ⊥) → Less a b ⊎ Less b a

abbrev pub Ascending : List Name → Type 0
Ascending [] = Unit {0}
Ascending (n ∷ []) = Unit {0}
Ascending (n ∷ m ∷ ms) = Less n m × Ascending (m ∷ ms)

-- "Parameters: free root names, each once, in byte order." A lift sorts the free names of what it moves: the list ascends strictly, and has exactly their members
abbrev pub SortedAscends : Type 0
SortedAscends = (ns : List Name) → Ascending (sorted ns)

abbrev pub SortedHasMembers : Type 0
SortedHasMembers = (ns : List Name) (n : Name) → Memᴰ n (sorted ns) ↔ Memᴰ n ns

-- the parameters of what is lifted ascend, and only formats are lifted
abbrev pub LiftedAscend : List Definition → Type 0
LiftedAscend [] = Unit {0}
LiftedAscend (format n ps c ∷ ds) = Ascending (param_names ps) × LiftedAscend ds
LiftedAscend (constant n x ∷ ds) = ⊥
LiftedAscend (byte_order x ∷ ds) = ⊥
LiftedAscend (macro n ps c ∷ ds) = ⊥

abbrev pub ParametersAscend : Type 0
ParametersAscend = (book : List ℕ) (outLength workLength : ℕ) (r : Result) → attempt book outLength workLength ≡ done r → LiftedAscend r.lifted

-- Collection ---------------------------------------------------------------------------------------

-- "Parameters: free root names": a name is free exactly where the walk of collection finds a use of it that no field binds
abbrev pub FreeIsFound : Type 0
FreeIsFound = (c : Combinator) (n : Name) → Memᴰ n (free c) ↔ Found (Use n) (Unbound n) c

-- "7: leftover macro invocation met while collecting": exactly where the same walk finds a macro call
abbrev pub LeftoverIsFound : Type 0
LeftoverIsFound = (c : Combinator) → (leftover c ≡ true) ↔ Found MacroCall Anyhow c

-- Code 10 ----------------------------------------------------------------------------------------

-- the walk that stops lifting when there are k definitions, and tests no limit. It leaves the rest of the book as it stands
abbrev pub stopped : ℕ → Course
stopped k = record { lifts = λ c n. anonymous c && ltb n k; within = λ b n. true }

-- "Code 10 measures the book as if the walk stopped with that lift made": for every k, the running numbers are the size and the count of the book that the walk stopped at k definitions leaves
abbrev pub MeasureIsSize : Type 0
MeasureIsSize = (k : ℕ) (ds es : List Definition) (t : State) → walk_all (stopped k) ds (start ds) ≡ ok es t → (t.bytes ≡ size_book (es ++ t.made)) × (t.defns ≡ length (es ++ t.made))

-- the book that is left when the walk stops with k definitions
pub record Left (k : ℕ) (ds : List Definition) : Type 0 where
  pub book : List Definition
  pub kept : List Definition
  pub state : State
  pub walked : walk_all (stopped k) ds (start ds) ≡ ok kept state
  pub whole : book ≡ kept ++ state.made
  pub count : length book ≡ k

-- a walk with the limits of code 10 left open. Document 01's, `full`, is the one with 16,384 and 512
abbrev pub limited : (ℕ → ℕ → Bool) → Course
limited within = record { lifts = λ c n. anonymous c; within = within }

-- ".. with that lift made: the expanded book plus, for each lift so far, 6 bytes of contents, the new body and the call, less the combinator moved": whatever limits refuse at a lift, the sum that they refuse is the size of the book that is left when the walk stops with that lift made
abbrev pub SumAtEachLift : Type 0
SumAtEachLift = (within : ℕ → ℕ → Bool) (ds : List Definition) (s : State) → walk_all (limited within) ds (start ds) ≡ bad result_long s → (l : Left s.defns ds) × (size_book l.book ≡ s.bytes)

-- "10: result over 16,384 bytes or 512 definitions"
abbrev pub Within : List Definition → Type 0
Within ds = (size_book ds ≤ 16384) × (length ds ≤ 512)

abbrev pub Over : List Definition → Type 0
Over ds = (16384 < size_book ds) ⊎ (512 < length ds)

-- "the first lift with one of them decides": where 10 is given, the book with that lift made is over a limit, and with each lift before it was within both; where the walk ends, the book was within both with each lift made
pub record Code10 (ds : List Definition) : Type 0 where
  pub refused : (s : State) → walk_all full ds (start ds) ≡ bad result_long s → (l : Left s.defns ds) × Over l.book
  pub first : (s : State) → walk_all full ds (start ds) ≡ bad result_long s → (k : ℕ) → length ds ≤ k → k < s.defns → (l : Left k ds) × Within l.book
  pub accepted : (es : List Definition) (t : State) → walk_all full ds (start ds) ≡ ok es t → (k : ℕ) → length ds ≤ k → k ≤ length (es ++ t.made) → (l : Left k ds) × Within l.book

abbrev pub Code10IsFirstOver : Type 0
Code10IsFirstOver = (ds : List Definition) → Within ds → Code10 ds

-- each lift adds at least 14 bytes and its name twice: its entry, and its name, counts, tag and flag in the new body and in the call
abbrev pub growth : List Definition → ℕ
growth [] = 0
growth (format n ps c ∷ ds) = 14 + 2 * length n + growth ds
growth (constant n x ∷ ds) = growth ds
growth (byte_order x ∷ ds) = growth ds
growth (macro n ps c ∷ ds) = growth ds

abbrev pub LiftsGrow : Type 0
LiftsGrow = (ds es : List Definition) (t : State) → walk_all full ds (start ds) ≡ ok es t → size_book ds + growth t.made ≤ size_book (es ++ t.made)

pub record Laws : Type 0 where
  pub table_says_utf8 : TableSaysUtf8
  pub one_encoding : OneEncoding
  pub written_is_read : WrittenIsRead
  pub read_is_written : ReadIsWritten
  pub expanded_is_book : ExpandedIsBook
  pub result_is_book : ResultIsBook
  pub segment_by_characters : SegmentByCharacters
  pub decimal_reads_back : DecimalReadsBack
  pub fresh_is_first_free : FreshIsFirstFree
  pub candidates_differ : CandidatesDiffer
  pub byte_order : ByteOrder
  pub sorted_ascends : SortedAscends
  pub sorted_has_members : SortedHasMembers
  pub parameters_ascend : ParametersAscend
  pub free_is_found : FreeIsFound
  pub leftover_is_found : LeftoverIsFound
  pub measure_is_size : MeasureIsSize
  pub sum_at_each_lift : SumAtEachLift
  pub code10_is_first_over : Code10IsFirstOver
  pub lifts_grow : LiftsGrow
