-- Where bytes stand, the functions by position find what was written: a byte, a number, and the place behind an item.
-- Assumes nothing.
use mathlib.Core.List.{List, [], ◌∷◌, ◌++◌}
use mathlib.Core.Path.{◌≡◌, sym, ap, ◌∙◌}
use Prim.Native.Nat.{ℕ, ◌+◌, ◌*◌, ◌-◌, ◌/◌, ◌%◌, min}
use native.Mathlib.Nat.{add-zero, add_comm, div-add-mod'}
use native.Mathlib.Omega.{arith}
use lib.ListN.{length, get_or, drop, length-append, length-drop}
use lib.Seq.{drop-drop, drop-append_seam, get_or-drop}
use Rattle.definition.specs.Tree.{Name, Text, Len, Selector, none, by, CaseKind, enums, ints, arrays}
use Rattle.definition.specs.Write.{w_u16, w_name, w_text, w_all, w_list, w_len, w_selector, case_byte, w_label}
use Rattle.layout.specs.items.At.{byte_at, past_at, number_at, name_past_of, text_past_of, names_past_of, list_past_of, length_past_of, selector_past_of, label_past_of}
use Rattle.layout.specs.items.Here.{Here}

pub here_length : {s : List ℕ} {p : ℕ} {l : List ℕ} → Here s p l → p + length l ≡ length s
here_length {s} {p} {l} h = let e : length l ≡ length s - p = ap length (sym h.is) ∙ length-drop p s in omega (arith, h.reach)

-- two places of which the second is behind b
pub place : {s : List ℕ} {p q : ℕ} (b : List ℕ) {z : List ℕ} → Here s p (b ++ z) → Here s q z → q ≡ p + length b
place b {z} h k = omega (arith, simp length-append at (here_length h), here_length k)

pub past_here : {s : List ℕ} {p : ℕ} (b : List ℕ) {z : List ℕ} → Here s p (b ++ z) → Here s (past_at s p (length b)) z
unfolding past_at
past_here {s} {p} b {z} h =
    let n : p + (length b + length z) ≡ length s = simp length-append at (here_length h) in
    let m : min (p + length b) (length s) ≡ p + length b = omega arith in
    record {
      is = rw m (sym (drop-drop (length b) p s) ∙ ap (drop (length b)) h.is ∙ drop-append_seam b z);
      reach = omega arith;
    }

pub behind : {s : List ℕ} {p : ℕ} (b : List ℕ) {z : List ℕ} → Here s p (b ++ z) → Here s (p + length b) z
behind b h = let q = past_here b h in rw (← (place b h q)) q

module _ {s : List ℕ} {p : ℕ} where
  pub byte_here : {x : ℕ} {z : List ℕ} → Here s p (x ∷ z) → byte_at s p ≡ x
  unfolding byte_at
  byte_here {x} {z} h = ap (λ (n : ℕ). get_or s n 0) (sym (add-zero p)) ∙ sym (get_or-drop p s 0 0) ∙ ap (λ (l : List ℕ). get_or l 0 0) h.is

  pub next_here : {x : ℕ} {z : List ℕ} → Here s p (x ∷ z) → Here s (past_at s p 1) z
  next_here {x} h = past_here (x ∷ []) h

module _ {s : List ℕ} {p : ℕ} where
  pub number_here : (n : ℕ) (z : List ℕ) → Here s p (w_u16 n z) → number_at s p ≡ n
  unfolding w_u16 number_at
  number_here n z h = rw (byte_here h, byte_here (next_here h)) (add_comm (n % 256) (n / 256 * 256) ∙ div-add-mod' n 256)

  pub number_past : (n : ℕ) {z : List ℕ} → Here s p (w_u16 n z) → Here s (past_at s p 2) z
  unfolding w_u16
  number_past n h = past_here (n % 256 ∷ n / 256 ∷ []) h

  pub name_here : (n : Name) {z : List ℕ} → Here s p (w_name n z) → Here s (name_past_of s p) z
  unfolding w_name name_past_of
  name_here n h = rw (byte_here h) (past_here n (next_here h))

module _ {s : List ℕ} {p : ℕ} where
  pub text_here : (x : Text) {z : List ℕ} → Here s p (w_text x z) → Here s (text_past_of s p) z
  unfolding w_text text_past_of
  text_here x {z} h = rw (number_here (length x) (x ++ z) h) (past_here x (number_past (length x) h))

pub names_here : {s : List ℕ} {p : ℕ} (ns : List Name) {z : List ℕ} → Here s p (w_all w_name ns z) → Here s (names_past_of s (length ns) p) z
unfolding w_all names_past_of
names_here {s = s} {p = p} [] h = h
names_here {s = s} {p = p} (n ∷ ns) h = names_here {s = s} {p = name_past_of s p} ns (name_here n h)

pub list_here : {s : List ℕ} {p : ℕ} (ns : List Name) {z : List ℕ} → Here s p (w_list w_name ns z) → Here s (list_past_of s p) z
unfolding w_list list_past_of
list_here ns {z} h = rw (number_here (length ns) (w_all w_name ns z) h) (names_here ns (number_past (length ns) h))

pub len_here : {s : List ℕ} {p : ℕ} (l : Len) {z : List ℕ} → Here s p (w_len l z) → Here s (length_past_of s p) z
unfolding w_len length_past_of
len_here l h = text_here l.text (list_here l.roots h)

pub selector_here : {s : List ℕ} {p : ℕ} (x : Selector) {z : List ℕ} → Here s p (w_selector x z) → Here s (selector_past_of s p) z
unfolding w_selector selector_past_of
selector_here none h = rw (byte_here h) (next_here h)
selector_here (by n) h = rw (byte_here h) (name_here n (next_here h))

pub label_here : {s : List ℕ} {p : ℕ} (k : CaseKind) (l : List ℕ) {z : List ℕ} → Here s p (w_label k l z) → Here s (label_past_of s p (case_byte k)) z
unfolding w_label label_past_of case_byte
label_here enums l h = name_here l h
label_here ints l h = text_here l h
label_here arrays l h = text_here l h
