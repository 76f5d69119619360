-- Laws of what a program says, and of hexadecimal.
use mathlib.Core.Path.{◌≡◌, refl, sym, ap, ap₂, ◌∙◌, subst}
use mathlib.Core.List.{List, [], ◌∷◌, ◌++◌, append_assoc, append-nil}
use mathlib.Core.Logic.{⊎_elim}
use Prim.Native.Nat.{ℕ, suc, ◌+◌, ◌*◌, ◌/◌, ◌%◌, ◌<◌, ◌≤◌}
use native.Mathlib.Numerals.{add-one}
use native.Mathlib.Omega.{arith}
use lib.ListN.{length, set, drop, take, get_or, drop_of_length-le, length-drop, length-set, take-append-drop}
use lib.Seq.{drop-cons, drop-drop, take-suc-set, drop-set-lt, sets, sets-eq, length-sets, take_at, drop_at, drop-append-le, length-take-le}
use borrow.Author.Tests.{lt-ltb, le-ltb}
use borrow.Rule.Slice.PartMut.{mid_of, post_of, put_mid}
use Rattle.std.specs.Counts.{IsPrefixLen}
use Rattle.std.specs.Str.{IsAscii, IsUtf8}
use Rattle.std.proofs.lemmas.Bool.{cases_lt as side}
use Rattle.std.proofs.lemmas.Str.{IsUtf8-from_ascii}
use Rattle.std.proofs.lemmas.Str.Ascii.{IsAscii-nil, IsAscii-cons}
use Rattle.console.specs.declared.output.Said.TheVariants.{Out, Err}
use Rattle.console.specs.Output.{out as to_output, err as to_error, SaidPost, hex_digit_ascii, hex_text, HexPost}

-- ---- a part of a buffer

-- What was put at the front of a lent part of the buffer was put into the buffer at the place where the part begins.
pub part_put : (out y s : List ℕ) (at m : ℕ) → at + m ≤ length out → length s ≤ m → take (length s) y ≡ s → drop (length s) y ≡ drop (length s) (mid_of at m out)
    → put_mid at m out y ≡ sets out at s
part_put out y s at m room few front rest =
    ap (λ (l : List ℕ). take at out ++ (l ++ post_of at m out)) (sym (take-append-drop (length s) y) ∙ ap₂ (λ (a b : List ℕ). a ++ b) front rest)
    ∙ ap (λ (l : List ℕ). take at out ++ l) (append_assoc s (drop (length s) (mid_of at m out)) (post_of at m out) ∙ ap (λ (l : List ℕ). s ++ l) behind)
    ∙ sym (append_assoc (take at out) s (drop (at + length s) out))
    ∙ sym (sets-eq s out at (omega arith))
  where
    size : length (mid_of at m out) ≡ m
    size = length-take-le m (drop at out) (omega (arith, length-drop at out))

    behind : drop (length s) (mid_of at m out) ++ post_of at m out ≡ drop (at + length s) out
    behind =
        sym (drop-append-le (length s) (mid_of at m out) (post_of at m out) (omega (arith, size)))
        ∙ ap (drop (length s)) (take-append-drop m (drop at out))
        ∙ drop-drop (length s) at out

-- ---- what a program says

-- Bytes put at the front stand there, and the rest is as it was.
module _ (before bytes : List ℕ) {after : List ℕ} {n : ℕ} (room : length bytes ≤ length before) (size : n ≡ length bytes) (put : after ≡ sets before 0 bytes) where
  parts : after ≡ bytes ++ drop n before
  parts = put ∙ sets-eq bytes before 0 (omega arith) ∙ ap (λ (k : ℕ). bytes ++ drop k before) (let e : 0 + length bytes ≡ n = omega arith in e)

  front : take n after ≡ bytes
  front = ap (take n) parts ∙ take_at bytes (drop n before) n (sym size)

  behind : drop n after ≡ drop n before
  behind = ap (drop n) parts ∙ drop_at bytes (drop n before) n (sym size)

  inside : IsPrefixLen n after
  inside = let fits : n ≤ length after = omega (arith, ap length put ∙ length-sets before 0 bytes) in (fits, sym (length-take-le n after fits))

  pub said_out : SaidPost (to_output bytes) before (Out n) after
  said_out = record { says = ap to_output front; rest = behind; counts = inside }

  pub said_err : SaidPost (to_error bytes) before (Err n) after
  said_err = record { says = ap to_error front; rest = behind; counts = inside }

-- ---- hexadecimal

-- The text of the first i bytes stands in `out`, and then comes that of the others.
pub record Spelling (bytes before out : List ℕ) (i : ℕ) : Type 0 where
  pub size : length out ≡ length before
  pub text : hex_text bytes ≡ take (2 * i) out ++ hex_text (drop i bytes)
  pub rest : drop (2 * i) out ≡ drop (2 * i) before

hex_step : (bytes : List ℕ) (i : ℕ)
    → i < length bytes
    → hex_text (drop i bytes) ≡ hex_digit_ascii (get_or bytes i 0 / 16) ∷ hex_digit_ascii (get_or bytes i 0 % 16) ∷ hex_text (drop (i + 1) bytes)
unfolding hex_text
hex_step bytes i h = ap hex_text (drop-cons bytes i 0 h ∙ ap (λ (n : ℕ). get_or bytes i 0 ∷ drop n bytes) (sym (add-one i)))

-- Two cells stored at `at`.
module _ (out : List ℕ) (at x y : ℕ) where
  two_front : at + 1 < length out → take (at + 2) (set (set out at x) (at + 1) y) ≡ take at out ++ (x ∷ y ∷ [])
  two_front h =
      let l : at < length out = omega arith in
      let m : at + 1 < length (set out at x) = omega (arith, length-set out at x) in
      ap (λ (n : ℕ). take n (set (set out at x) (at + 1) y)) (let e : at + 2 ≡ at + 1 + 1 = omega arith in e ∙ add-one (at + 1))
      ∙ take-suc-set (set out at x) (at + 1) y m
      ∙ ap (λ (f : List ℕ). f ++ (y ∷ [])) (ap (λ (n : ℕ). take n (set out at x)) (add-one at) ∙ take-suc-set out at x l)
      ∙ append_assoc (take at out) (x ∷ []) (y ∷ [])

  two_rest : (before : List ℕ) → drop at out ≡ drop at before → drop (at + 2) (set (set out at x) (at + 1) y) ≡ drop (at + 2) before
  two_rest before e =
      drop-set-lt (at + 2) (set out at x) (at + 1) y (omega arith)
      ∙ drop-set-lt (at + 2) out at x (omega arith)
      ∙ sym (drop-drop 2 at out)
      ∙ ap (drop 2) e
      ∙ drop-drop 2 at before

pub spelling_more : (bytes before out : List ℕ) (i a b : ℕ)
    → i < length bytes
    → 2 * length bytes ≤ length before
    → a ≡ hex_digit_ascii (get_or bytes i 0 / 16)
    → b ≡ hex_digit_ascii (get_or bytes i 0 % 16)
    → Spelling bytes before out i
    → Spelling bytes before (set (set out (2 * i) a) (2 * i + 1) b) (i + 1)
spelling_more bytes before out i a b h room ea eb w =
    let at = 2 * i in
    let e : at + 2 ≡ 2 * (i + 1) = omega arith in
    record {
      size = length-set (set out at a) (at + 1) b ∙ length-set out at a ∙ w.size;
      text =
          w.text
          ∙ ap (λ (l : List ℕ). take at out ++ l) (hex_step bytes i h ∙ ap₂ (λ (x y : ℕ). x ∷ y ∷ hex_text (drop (i + 1) bytes)) (sym ea) (sym eb))
          ∙ sym (append_assoc (take at out) (a ∷ b ∷ []) (hex_text (drop (i + 1) bytes)))
          ∙ ap (λ (f : List ℕ). f ++ hex_text (drop (i + 1) bytes)) (sym (two_front out at a b (omega (arith, w.size))) ∙ ap (λ (n : ℕ). take n (set (set out at a) (at + 1) b)) e);
      rest = subst (λ (n : ℕ). drop n (set (set out at a) (at + 1) b) ≡ drop n before) e (two_rest out at a b before w.rest);
    }

pub spelling_end : (bytes before out : List ℕ) (i : ℕ)
    → i ≡ length bytes
    → 2 * length bytes ≤ length before
    → Spelling bytes before out i
    → HexPost bytes before (2 * length bytes) out
unfolding hex_text
spelling_end bytes before out i e room w =
    subst (λ (n : ℕ). HexPost bytes before (2 * n) out) e
    (record {
      text = sym (append-nil (take (2 * i) out)) ∙ ap (λ (l : List ℕ). take (2 * i) out ++ hex_text l) (sym (drop_of_length-le bytes (omega arith))) ∙ sym w.text;
      rest = w.rest;
      counts = (fits, sym (length-take-le (2 * i) out fits));
    })
  where
    fits : 2 * i ≤ length out
    fits = omega (arith, w.size)

-- ---- for callers: that it is made by pieces, and is a text; how long it is, and a line of it

pub hex_append : (a b : List ℕ) → hex_text (a ++ b) ≡ hex_text a ++ hex_text b
unfolding hex_text
hex_append [] b = refl
hex_append (x ∷ a) b = ap (λ (l : List ℕ). hex_digit_ascii (x / 16) ∷ hex_digit_ascii (x % 16) ∷ l) (hex_append a b)

glyph_ascii : (d : ℕ) → d < 16 → hex_digit_ascii d < 128
glyph_ascii d h =
    ⊎_elim
    (λ (l : d < 10). rw (lt-ltb d 10 l) (omega arith))
    (λ (l : 10 ≤ d). rw (le-ltb d 10 l) (omega arith))
    (side d 10)

hex_ascii : (l : List ℕ) → ((i : ℕ) → get_or l i 0 < 256) → IsAscii (hex_text l)
unfolding hex_text
hex_ascii [] h = IsAscii-nil
hex_ascii (b ∷ l) h =
    let b256 : b < 256 = h 0 in
    IsAscii-cons (hex_digit_ascii (b / 16)) (hex_digit_ascii (b % 16) ∷ hex_text l) (glyph_ascii (b / 16) (omega arith))
    (IsAscii-cons (hex_digit_ascii (b % 16)) (hex_text l) (glyph_ascii (b % 16) (omega arith)) (hex_ascii l (λ (i : ℕ). h (suc i))))

pub hex_utf8 : {bytes out after : List ℕ} {k : ℕ} → HexPost bytes out k after → ((i : ℕ) → get_or bytes i 0 < 256) → IsUtf8 (take k after)
hex_utf8 {bytes} p h = subst IsUtf8 (sym p.text) (IsUtf8-from_ascii (hex_text bytes) (hex_ascii bytes h))

pub hex_length : (bytes : List ℕ) → length (hex_text bytes) ≡ 2 * length bytes
unfolding hex_text
hex_length [] = refl
hex_length (b ∷ l) = let e = hex_length l in omega arith

pub hex_size : {bytes out after : List ℕ} {k : ℕ} → HexPost bytes out k after → k ≡ 2 * length bytes
hex_size {bytes} p = p.counts.1 ∙ ap (λ (l : List ℕ). length l) p.text ∙ hex_length bytes

-- A byte behind others that were put.
set_behind : (out s : List ℕ) (at v : ℕ) → set (sets out at s) (at + length s) v ≡ sets out at (s ++ v ∷ [])
set_behind out [] at v = ap (λ (k : ℕ). set out k v) (let e : at + 0 ≡ at = omega arith in e)
set_behind out (a ∷ s) at v =
    ap (λ (k : ℕ). set (sets (set out at a) (suc at) s) k v) (let e : at + suc (length s) ≡ suc at + length s = omega arith in e)
    ∙ set_behind (set out at a) s (suc at) v

-- The digits were put into the part of a buffer from `at` on, which has m bytes, and a newline behind them.
pub hex_line : (out after bytes : List ℕ) (at k m : ℕ) → at + m ≤ length out → 2 * length bytes ≤ m → HexPost bytes (mid_of at m out) k after
    → set (put_mid at m out after) (at + k) 10 ≡ sets out at (hex_text bytes ++ 10 ∷ [])
hex_line out after bytes at k m inside room p =
    let size : k ≡ length (hex_text bytes) = p.counts.1 ∙ ap (λ (l : List ℕ). length l) p.text in
    ap₂ (λ (o : List ℕ) (j : ℕ). set o (at + j) 10)
    (part_put out after (hex_text bytes) at m inside (omega (arith, hex_length bytes)) (subst (λ (j : ℕ). take j after ≡ hex_text bytes) size p.text)
    (subst (λ (j : ℕ). drop j after ≡ drop j (mid_of at m out)) size p.rest))
    size
    ∙ set_behind out (hex_text bytes) at 10
