-- What `unpack` prints, `pack` reads: the lines of states spell these states, in order.
use mathlib.Core.Path.{◌≡◌, refl, ap, ◌∙◌}
use mathlib.Core.List.{List, [], ◌∷◌, ◌++◌}
use mathlib.Core.Bool.{Bool, cond}
use mathlib.Core.Logic.{◌⊎◌, inl, inr, ⊎_elim}
use Rattle.std.specs.Prelude.{Option, Some}
use Prim.Native.Nat.{ℕ, ◌+◌, ◌/◌, ◌%◌, ◌<◌, ◌≤◌}
use native.Mathlib.Omega.{arith}
use lib.ListN.{length, length-append}
use borrow.Author.Tests.{lt-ltb, le-ltb, le-leb, ne_eqb}
use Rattle.console.specs.Input.{digit_of}
use Rattle.console.specs.Output.{hex_digit_ascii, hex_text}
use Rattle.std.proofs.lemmas.Bool.{cases_lt as side}
use Rattle.console.proofs.RoundTrip.{AllBytes, digit_glyph, pairs_there_and_back}
use Rattle.batch.specs.Packing.{packed, record_bytes, records_at, index_of, word_bytes}
use Rattle.batch.proofs.PackingLaws.{record_length, word_length}
use Rattle.exports.specs.Base64.{base64_of}
use Rattle.exports.specs.Hexadecimal.{any_digit_of}
use Rattle.exports.specs.Lines.{on_first, lines_of, trimmed, or_else, state_of, Held, state, held_by, held}
use Rattle.exports.specs.Packing.{Packing, finished, long, stops, after, line_then, packing, packing_of}
use Rattle.exports.specs.Text.{text_of}

-- ---- a line

-- Digits are no line ends.
glyph_large : (d : ℕ) → 48 ≤ hex_digit_ascii d
glyph_large d = ⊎_elim (λ (l : d < 10). rw (lt-ltb d 10 l) (omega arith)) (λ (l : 10 ≤ d). rw (le-ltb d 10 l) (omega arith)) (side d 10)

abbrev Digits : List ℕ → Type 0
Digits [] = Unit
Digits (b ∷ l) = (48 ≤ b) × Digits l

hex_digits : (l : List ℕ) → Digits (hex_text l)
unfolding hex_text
hex_digits [] = tt
hex_digits (b ∷ l) = (glyph_large (b / 16), (glyph_large (b % 16), hex_digits l))

any_of : (b : ℕ) → (b < 65) ⊎ (71 ≤ b) → any_digit_of b ≡ digit_of b
unfolding any_digit_of
any_of b h = ⊎_elim (λ (l : b < 65). rw (lt-ltb b 65 l)) (λ (l : 71 ≤ b). rw (le-ltb b 65 (omega arith), le-ltb b 71 l)) h

-- The glyphs are lower case.
any_glyph : (d : ℕ) → d < 16 → any_digit_of (hex_digit_ascii d) ≡ Some d
any_glyph d h = any_of (hex_digit_ascii d) (⊎_elim (λ (l : d < 10). rw (lt-ltb d 10 l) (inl (omega arith))) (λ (l : 10 ≤ d). rw (le-ltb d 10 l) (inr (omega arith))) (side d 10)) ∙ digit_glyph d h

trimmed_same : (l : List ℕ) → Digits l → trimmed l ≡ l
unfolding trimmed
trimmed_same [] d = refl
trimmed_same (b ∷ []) d = ap (λ (t : Bool). cond t [] (b ∷ [])) (ne_eqb b 13 (λ (e : b ≡ 13). let h = d.0 in let z : ⊥ = omega arith in z))
trimmed_same (b ∷ c ∷ l) d = ap (λ (r : List ℕ). b ∷ r) (trimmed_same (c ∷ l) d.1)

line_first : (l rest : List ℕ) → Digits l → lines_of (l ++ 10 ∷ rest) ≡ l ∷ lines_of rest
unfolding lines_of
line_first [] rest d = refl
line_first (b ∷ l) rest d =
    ap (λ (t : Bool). cond t ([] ∷ lines_of (l ++ 10 ∷ rest)) (on_first b (lines_of (l ++ 10 ∷ rest)))) (ne_eqb b 10 (λ (e : b ≡ 10). let h = d.0 in let z : ⊥ = omega arith in z))
    ∙ ap (on_first b) (line_first l rest d.1)

-- The line of a state spells it.
pub spelled_back : (l : List ℕ) → AllBytes l → state_of (hex_text l) ≡ Some l
unfolding state_of
spelled_back l h = ap (λ (x : Option (List ℕ)). or_else x (base64_of (hex_text l))) (pairs_there_and_back any_digit_of any_glyph l h)

held_back : (s : List ℕ) → 0 < length s → AllBytes s → held (trimmed (hex_text s)) ≡ state s
unfolding hex_text
held_back [] n h = absurd (let z : ⊥ = omega arith in z)
held_back (b ∷ s) n h =
    ap held (trimmed_same (hex_text (b ∷ s)) (hex_digits (b ∷ s))) ∙ spelled (spelled_back (b ∷ s) h)
  where
    spelled : state_of (hex_text (b ∷ s)) ≡ Some (b ∷ s) → held (hex_text (b ∷ s)) ≡ state (b ∷ s)
    spelled e = ap held_by e

-- ---- all lines

-- States of bytes, each of at least one.
abbrev pub AllStates : List (List ℕ) → Type 0
AllStates [] = Unit
AllStates (s ∷ states) = ((0 < length s) × AllBytes s) × AllStates states

lines_back : (states : List (List ℕ)) (room n end : ℕ) → AllStates states → end + length (records_at end states) ≤ room
    → packing room n end (lines_of (text_of states)) ≡ record { states = states; stop = finished }
unfolding packing records_at lines_of text_of
lines_back [] room n end all fits = refl
lines_back (s ∷ states) room n end all fits =
    let past = end + 8 + length s in
    let rest = records_at past states in
    let size : length (record_bytes (index_of past states) s ++ rest) ≡ 8 + length s + length rest =
    length-append (record_bytes (index_of past states) s) rest ∙ ap (λ (k : ℕ). k + length rest) (record_length (index_of past states) s) in
    let more : ℕ → Packing = λ (e : ℕ). packing room (n + 1) e (lines_of (text_of states)) in
    let next : packing room (n + 1) past (lines_of (text_of states)) ≡ record { states = states; stop = finished } = lines_back states room (n + 1) past all.1 (omega (arith, size)) in
    ap (packing room n end) (line_first (hex_text s) (text_of states) (hex_digits s))
    ∙ ap (λ (h : Held). line_then room (n + 1) end h more) (held_back s all.0.0 all.0.1)
    ∙ ap (λ (t : Bool). cond t (after (s ∷ []) (more past)) (stops (long (n + 1)))) (le-leb past room (omega (arith, size)))
    ∙ ap (after (s ∷ [])) next

-- The lines that `unpack` prints of a batch's states make the same states again, where none of them is empty.
pub packed_back : (states : List (List ℕ)) (room : ℕ) → AllStates states → length (packed states) ≤ room → packing_of room (text_of states) ≡ record { states = states; stop = finished }
unfolding packed
packed_back states room all fits =
    lines_back states room 0 4 all (omega (arith, length-append (word_bytes (index_of 4 states)) (records_at 4 states), word_length (index_of 4 states)))
