-- The right result of the trial meets demand 3, and each wrong one does not.
use mathlib.Core.Path.{◌≡◌, refl, sym, ◌∙◌}
use mathlib.Core.Logic.{inl, inr, ⊎_elim}
use mathlib.Core.List.Memᴰ
use mathlib.Core.List.{List, [], ◌∷◌, Memᴰ}
use mathlib.Core.Bool.{Bool, true, false, not, ◌&&◌}
use Prim.Native.Nat.{ℕ}
use native.Mathlib.Omega.{arith}
use lib.ListN.{length, drop}
use Rattle.definition.specs.Res.{ok}
use Rattle.definition.specs.Tree.{Name, Combinator, plain, no_field, Definition}
use Rattle.definition.specs.Notation.{Enum, Bits, Vec}
use Rattle.definition.specs.Utf8.{utf8}
use Rattle.definition.specs.Names.{eq_name, elem, root}
use Rattle.definition.specs.Contents.{read_book_of}
use Rattle.definition.specs.Macros.{expand_book}
use Rattle.definition.specs.Write.{w_book}
use Rattle.definition.specs.Lift.{names, lift_book_of}
use Rattle.definition.specs.Answer.{elaborated}
use Rattle.laws.specs.Lists.{param_names}
use Rattle.laws.proofs.Tests.{not_both, both_true, not-true}
use Rattle.laws.proofs.Members.{elem_in, in-elem}
use Rattle.demand3.specs.Words.{Named, Root, Unbound}
use Rattle.demand3.specs.PutBack.{whole_of, put_at, put, put_all, times, rounds_all}
use Rattle.demand3.specs.Called.{calls, calls_in, of_name, Once}
use Rattle.demand3.specs.Shortest.{NoneTwice, Shortest}
use Rattle.demand3.specs.Demand3.{CallsKnown, ChainsPlain, Apart, AllPutBack, AllShortest, Demand3}
use Rattle.demand3.specs.Trial.{list, kept, lifted, right, Meets, Trial, in_bytes, in_array, in_selector, in_call, alike, unlike, mark, packed, source}
use Rattle.demand3.proofs.Agree.{unnamed}
use Rattle.demand3.proofs.Rounds.{standing, back_ended, all_back_ended}
use Rattle.demand3.proofs.Uses.{root_of, of_root, shortest_by}

-- the premises hold
known : CallsKnown list
known = ((tt, (tt, (tt, ((tt, tt), ((tt, tt), ((tt, tt), ((inl refl, tt), tt))))))), tt)

chains : ChainsPlain list
chains = ((tt, (tt, (tt, ((tt, tt), ((tt, tt), ((tt, tt), ((tt, tt), tt))))))), tt)

-- the uses of each body
abbrev U : Name
U = utf8 "n"

dot_root : (u : Name) → Root (utf8 "n.k") u → Memᴰ u (U ∷ [])
unfolding utf8 root
dot_root u w = Memᴰ.head (sym (root_of (utf8 "n.k") u w))

root_dot : (u : Name) → Memᴰ u (U ∷ []) → Root (utf8 "n.k") u
unfolding utf8 root
root_dot u w = rw (Memᴰ.eq_of_singleton w) (of_root (utf8 "n.k"))

-- the names of the uses that have no binder in it
record Uses (us : List Name) (c : Combinator) : Type 0 where
  found : (u : Name) → Unbound c u → Memᴰ u us
  stand : (u : Name) → Memᴰ u us → Unbound c u

uses_enum : Uses [] (plain Enum)
uses_enum = record { found = λ u w. absurd w; stand = λ u w. Memᴰ.not-nil w }

uses_vec : Uses [] (plain (Vec (plain Enum)))
uses_vec = record { found = λ u w. ⊎_elim (λ x. absurd x) (λ x. absurd x) w; stand = λ u w. absurd (Memᴰ.not-nil w) }

uses_bits : Uses [] (plain Bits)
uses_bits = record { found = λ u w. absurd w; stand = λ u w. Memᴰ.not-nil w }

uses_bytes : Uses (U ∷ []) in_bytes
uses_bytes = record { found = λ u w. ⊎_elim (λ a. a) (λ x. absurd x) w; stand = λ u w. inl w }

uses_array : Uses (U ∷ []) in_array
uses_array = record { found = λ u w. ⊎_elim (λ a. ⊎_elim (λ b. b) (λ x. absurd x) a) (λ x. absurd x) w; stand = λ u w. inl (inl w) }

uses_selector : Uses (U ∷ []) in_selector
uses_selector = record { found = λ u w. ⊎_elim (λ a. dot_root u a) (λ x. ⊎_elim (λ y. absurd y) (λ y. absurd y) x) w; stand = λ u w. inl (root_dot u w) }

uses_call : Uses (U ∷ []) in_call
uses_call = record { found = λ u w. ⊎_elim (λ a. ⊎_elim (λ b. dot_root u b) (λ x. absurd x) a) (λ x. absurd x) w; stand = λ u w. inl (inl (root_dot u w)) }

-- by tests on names: none twice, each use a parameter, each parameter a use
abbrev within : List Name → List Name → Bool
within [] ns = true
within (u ∷ us) ns = elem u ns && within us ns

abbrev once : List Name → Bool
once [] = true
once (n ∷ ns) = not (elem n ns) && once ns

within_has : (us ns : List Name) → within us ns ≡ true → (u : Name) → Memᴰ u us → Memᴰ u ns
within_has [] ns e u w = absurd (Memᴰ.not-nil w)
within_has (v ∷ us) ns e u w =
    let p = both_true (elem v ns) (within us ns) e in
    ⊎_elim (λ q. rw q (elem_in v ns p.0)) (λ t. within_has us ns p.1 u t) (Memᴰ.cases_cons w)

once_none : (ns : List Name) → once ns ≡ true → NoneTwice ns
once_none [] e = tt
once_none (n ∷ ns) e =
    let p = both_true (not (elem n ns)) (once ns) e in
    ((λ w. not_both (elem n ns) (in-elem n ns w) (not-true (elem n ns) p.0)), once_none ns p.1)

shortest_of : (us ns : List Name) (c : Combinator) → Uses us c → once ns ≡ true → within us ns ≡ true → within ns us ≡ true → Shortest ns c
shortest_of us ns c w a b d = shortest_by ns c (once_none ns a) (λ u p. within_has us ns b u (w.found u p)) (λ u p. w.stand u (within_has ns us d u p))

-- the right one
abbrev M : List Definition
M = lifted right

apart_right : Apart M
unfolding utf8 eq_name elem names
apart_right = (
  (λ w. unnamed (utf8 "m_e_item") (drop 1 M) refl w),
  (
    (λ w. unnamed (utf8 "m_e") (drop 2 M) refl w),
    (
      (λ w. unnamed (utf8 "m_b") (drop 3 M) refl w),
      (
        (λ w. unnamed (utf8 "m_h") (drop 4 M) refl w),
        (
          (λ w. unnamed (utf8 right.second) (drop 5 M) refl w),
          (
            (λ w. unnamed (utf8 "m_s") (drop 6 M) refl w),
            (
              (λ w. unnamed (utf8 "m_c") [] refl w),
              tt,
            ),
          ),
        ),
      ),
    ),
  ),
)

fresh_right : (n : Name) → Named n list → Named n M → ⊥
unfolding utf8 eq_name elem names
fresh_right n w v = ⊎_elim (λ e. unnamed (utf8 "m") M refl (rw e at v)) (λ x. x) w

not_lifted : Named (utf8 "m") M → ⊥
unfolding utf8 eq_name elem names
not_lifted w = unnamed (utf8 "m") M refl w

-- the Vec calls a lifted name; no other body does
put_back_right : AllPutBack M
unfolding utf8 eq_name elem names whole_of put_at put times
put_back_right = (standing M (plain Enum) tt, (back_ended M (plain (Vec right.item)) (plain (Vec (plain Enum))) refl tt, (standing M (plain Bits) tt, (standing M in_bytes (tt, tt), (standing M in_array (tt, tt), (standing M in_selector (tt, tt), (standing M in_call (not_lifted, tt), tt)))))))

bytes_shortest : Shortest (param_names right.of_bytes) in_bytes
unfolding utf8 eq_name elem
bytes_shortest = shortest_of (U ∷ []) (param_names right.of_bytes) in_bytes uses_bytes refl refl refl

array_shortest : Shortest (param_names right.of_array) in_array
unfolding utf8 eq_name elem
array_shortest = shortest_of (U ∷ []) (param_names right.of_array) in_array uses_array refl refl refl

selector_shortest : Shortest (param_names right.of_selector) in_selector
unfolding utf8 eq_name elem
selector_shortest = shortest_of (U ∷ []) (param_names right.of_selector) in_selector uses_selector refl refl refl

call_shortest : Shortest (param_names right.of_call) in_call
unfolding utf8 eq_name elem
call_shortest = shortest_of (U ∷ []) (param_names right.of_call) in_call uses_call refl refl refl

shortest_right : AllShortest M
unfolding utf8 eq_name elem whole_of put_at put times
shortest_right = (shortest_of [] [] (plain Enum) uses_enum refl refl refl, (shortest_of [] [] (plain (Vec (plain Enum))) uses_vec refl refl refl, (shortest_of [] [] (plain Bits) uses_bits refl refl refl, (bytes_shortest, (array_shortest, (selector_shortest, (call_shortest, tt)))))))

-- a call that is the only one of its name
alone : (n : Name) (a : List Name) → Once (record { name = n; arguments = a; chain = false } ∷ [])
alone n a = record { one = omega arith; no_chain = (refl, tt) }

met : Meets right
unfolding utf8 eq_name elem names whole_of put_at put put_all times calls calls_in of_name
met = record {
  flat = ((tt, (tt, (tt, (tt, (tt, (tt, (tt, tt))))))), (tt, (tt, (tt, ((tt, tt), ((tt, tt), ((tt, tt), ((tt, tt), tt))))))));
  apart = apart_right;
  fresh = fresh_right;
  restored = λ p. all_back_ended M (kept right) list refl ((tt, (tt, (tt, ((tt, tt), ((tt, tt), ((tt, tt), ((not_lifted, tt), tt))))))), tt);
  called = λ p. (alone _ _, (alone _ _, (alone _ _, (alone _ _, (alone _ _, (alone _ _, (alone _ _, tt)))))));
  handed = λ p. ((refl, tt), ((refl, tt), ((refl, tt), ((refl, tt), ((refl, tt), ((refl, tt), ((refl, tt), tt)))))));
  put_back_of = λ p. put_back_right;
  shortest = λ p q. shortest_right;
}

-- the second book
known_packed : CallsKnown source
known_packed = ((tt, (tt, ((tt, tt), ((tt, tt), ((tt, tt), tt))))), tt)

chains_packed : ChainsPlain source
chains_packed = ((tt, (tt, ((tt, tt), ((tt, tt), ((tt, tt), tt))))), tt)

-- what putting back ends with is the book
ends_there : (kept lifts after : List Definition) → rounds_all (length lifts) kept lifts ≡ after → Demand3 source kept lifts → after ≡ source
ends_there kept lifts after e d = sym e ∙ (d.restored known_packed).ends (length lifts) (omega arith)

not_without_mark : packed alike alike unlike no_field ≡ source → ⊥
unfolding utf8
not_without_mark e = let z : ◌≡◌ {A = ℕ} 0 1 = cc in absurd (omega arith)

-- y is 121, x is 120
not_exchanged : packed unlike alike alike (mark "1") ≡ source → ⊥
unfolding utf8
not_exchanged e = let z : ◌≡◌ {A = ℕ} 121 120 = cc in absurd (omega arith)

not_marked_so : packed alike alike unlike (mark "2") ≡ source → ⊥
unfolding utf8
not_marked_so e = let z : ◌≡◌ {A = ℕ} 50 49 = cc in absurd (omega arith)

-- k is 107, n is 110
not_same_names : (utf8 "k" ∷ utf8 "k" ∷ []) ≡ (utf8 "k" ∷ utf8 "n" ∷ []) → ⊥
unfolding utf8
not_same_names e = let z : ◌≡◌ {A = ℕ} 107 110 = cc in absurd (omega arith)

not_same_order : (utf8 "n" ∷ utf8 "k" ∷ []) ≡ (utf8 "k" ∷ utf8 "n" ∷ []) → ⊥
unfolding utf8
not_same_order e = let z : ◌≡◌ {A = ℕ} 110 107 = cc in absurd (omega arith)

-- the empty book has no definition
none_read : (ds : List Definition) → read_book_of (0 ∷ 0 ∷ []) ≡ ok ds [] → length ds ≡ 0
unfolding read_book_of
none_read ds e = let z : [] ≡ ds = cc in rw (← z)

pub trial : Trial
unfolding utf8 eq_name elem names whole_of put_at put put_all times calls calls_in of_name w_book read_book_of expand_book elaborated lift_book_of
trial = record {
  met = met;
  given = refl;
  enum_kept_in_a_vec = λ d. d.flat.1.1.0;
  bits_not_lifted = λ d. d.flat.0.1.1.0;
  name_taken_twice = λ d. d.apart.1.1.1.0 (inl refl);
  name_of_a_format = λ d. d.fresh (utf8 "m") (inl refl) (inr (inr (inr (inr (inl refl)))));
  parameter_too_many = λ d. let s : Shortest (U ∷ utf8 "e" ∷ []) in_bytes = (d.shortest known chains).1.1.1.0 in let l = s.needed (U ∷ []) (utf8 "e") [] refl in ⊎_elim (λ a. l.none a) (λ x. x) l.stands;
  parameter_twice = λ d. (d.shortest known chains).1.1.1.0.once.0 (Memᴰ.head refl);
  bytes_forgotten = λ d. Memᴰ.not-nil ((d.shortest known chains).1.1.1.0.enough U (inl (Memᴰ.head refl)));
  array_forgotten = λ d. Memᴰ.not-nil ((d.shortest known chains).1.1.1.1.0.enough U (inl (inl (Memᴰ.head refl))));
  selector_forgotten = λ d. Memᴰ.not-nil ((d.shortest known chains).1.1.1.1.1.0.enough U (inl (root_dot U (Memᴰ.head refl))));
  argument_forgotten = λ d. Memᴰ.not-nil ((d.shortest known chains).1.1.1.1.1.1.0.enough U (inl (inl (root_dot U (Memᴰ.head refl)))));
  given_packed = refl;
  field_dropped = λ d. not_without_mark (ends_there _ _ _ refl d);
  bodies_exchanged = λ d. not_exchanged (ends_there _ _ _ refl d);
  text_changed = λ d. not_marked_so (ends_there _ _ _ refl d);
  name_taken_again = λ d. d.apart.0 (inr (inl refl));
  first_parameter_too_many = λ d. let s : Shortest (utf8 "e" ∷ utf8 "k" ∷ U ∷ []) alike = (d.shortest known_packed chains_packed).0 in let l = s.needed [] (utf8 "e") (utf8 "k" ∷ U ∷ []) refl in ⊎_elim (λ a. l.none a) (λ x. x) l.stands;
  nobody_calls = λ d. absurd (omega (arith, (d.called known_packed).1.1.1.0.one));
  calls_itself = λ d. (d.put_back_of known_packed).1.1.1.0.none_left (inr (inr (inr (inl refl))));
  called_twice = λ d. absurd (omega (arith, (d.called known_packed).0.one));
  other_arguments = λ d. not_same_names (d.handed known_packed).0.0;
  other_order = λ d. not_same_order (d.handed known_packed).0.0;
  counted_too_many = λ d. absurd (omega (arith, none_read d.result d.reads, d.counted));
  lifts_too_many = λ d. absurd (omega (arith, d.lifts));
}
