-- Laws of lines: the first line of what is left, a line without its carriage return, and what a word spells.
use mathlib.Core.Path.{◌≡◌, refl, sym, ap, ap₂, ◌∙◌, subst}
use mathlib.Core.List.{List, [], ◌∷◌}
use mathlib.Core.Bool.{Bool, true, false, cond}
use Rattle.std.specs.Prelude.{Option, Some, None}
use Prim.Native.Nat.{ℕ, zero, suc, ◌+◌, ◌-◌, ◌<◌, ◌≤◌}
use native.Mathlib.Omega.{arith}
use lib.Dec.{eqb}
use lib.ListN.{length, take, drop, get_or, length-take, length-drop}
use borrow.Author.Tests.{eq-eqb, ne_eqb}
use Rattle.console.specs.Input.{up_to, PieceOf, pairs_of}
use Rattle.exports.specs.Words.{Decodes, DecodedPost}
use Rattle.exports.specs.Base64.{base64_of}
use Rattle.exports.specs.Hexadecimal.{any_digit_of}
use Rattle.exports.specs.Lines.{on_first, lines_of, trimmed, or_else, state_of}

-- ---- the first line

first_turn : (b : ℕ) (l : List ℕ) → on_first b (lines_of l) ≡ take (1 + up_to 10 l) (b ∷ l) ∷ lines_of (drop (1 + up_to 10 l + 1) (b ∷ l))
    → lines_of (b ∷ l) ≡ take (up_to 10 (b ∷ l)) (b ∷ l) ∷ lines_of (drop (up_to 10 (b ∷ l) + 1) (b ∷ l))
unfolding lines_of up_to
first_turn b l rest = go (eqb b 10)
  where
    go : (t : Bool) → cond t ([] ∷ lines_of l) (on_first b (lines_of l)) ≡ take (cond t 0 (1 + up_to 10 l)) (b ∷ l) ∷ lines_of (drop (cond t 0 (1 + up_to 10 l) + 1) (b ∷ l))
    go true = refl
    go false = rest

one_line : (b : ℕ) → on_first b (lines_of []) ≡ take (1 + up_to 10 []) (b ∷ []) ∷ lines_of (drop (1 + up_to 10 [] + 1) (b ∷ []))
unfolding lines_of up_to
one_line b = refl

first_line : (b : ℕ) (l : List ℕ) → lines_of (b ∷ l) ≡ take (up_to 10 (b ∷ l)) (b ∷ l) ∷ lines_of (drop (up_to 10 (b ∷ l) + 1) (b ∷ l))
first_line b [] = first_turn b [] (one_line b)
first_line b (c ∷ l) =
    let m = up_to 10 (c ∷ l) in
    first_turn b (c ∷ l)
    (ap (on_first b) (first_line c l)
    ∙ ap₂ (λ (i j : ℕ). take i (b ∷ c ∷ l) ∷ lines_of (drop j (b ∷ c ∷ l))) (let z : suc m ≡ 1 + m = omega arith in z) (let z : suc (m + 1) ≡ 1 + m + 1 = omega arith in z))

pub line_at : (text piece rest : List ℕ) → PieceOf 10 text piece rest → lines_of text ≡ piece ∷ lines_of rest
line_at text piece rest p = go text p.more ∙ ap₂ (λ (w r : List ℕ). w ∷ lines_of r) (sym p.first) (sym p.behind)
  where
    go : (l : List ℕ) → 0 < length l → lines_of l ≡ take (up_to 10 l) l ∷ lines_of (drop (up_to 10 l + 1) l)
    go [] h = absurd (let z : ⊥ = omega arith in z)
    go (b ∷ l) h = first_line b l

-- What is left is shorter by a byte at least.
pub line_left : (text piece rest : List ℕ) → PieceOf 10 text piece rest → length rest < length text
line_left text piece rest p = omega (arith, p.more, ap length p.behind, length-drop (up_to 10 text + 1) text)

-- ---- a carriage return

trim_last : (line : List ℕ) (last : ℕ) → suc last ≡ length line → get_or line last 0 ≡ 13 → take last line ≡ trimmed line
unfolding trimmed
trim_last [] last h e = absurd (let z : ⊥ = omega arith in z)
trim_last (b ∷ []) zero h e = sym (rw (eq-eqb b 13 e))
trim_last (b ∷ []) (suc last) h e = absurd (let z : ⊥ = omega arith in z)
trim_last (b ∷ c ∷ l) zero h e = absurd (let z : ⊥ = omega arith in z)
trim_last (b ∷ c ∷ l) (suc last) h e = ap (λ (x : List ℕ). b ∷ x) (trim_last (c ∷ l) last (omega arith) e)

trim_whole : (line : List ℕ) (last : ℕ) → suc last ≡ length line → (get_or line last 0 ≡ 13 → ⊥) → line ≡ trimmed line
unfolding trimmed
trim_whole [] last h e = absurd (let z : ⊥ = omega arith in z)
trim_whole (b ∷ []) zero h e = sym (rw (ne_eqb b 13 e))
trim_whole (b ∷ []) (suc last) h e = absurd (let z : ⊥ = omega arith in z)
trim_whole (b ∷ c ∷ l) zero h e = absurd (let z : ⊥ = omega arith in z)
trim_whole (b ∷ c ∷ l) (suc last) h e = ap (λ (x : List ℕ). b ∷ x) (trim_whole (c ∷ l) last (omega arith) e)

pub trim_return : (line : List ℕ) → 1 ≤ length line → get_or line (length line - 1) 0 ≡ 13 → take (length line - 1) line ≡ trimmed line
trim_return line h e = trim_last line (length line - 1) (omega arith) e

pub trim_other : (line : List ℕ) → 1 ≤ length line → (get_or line (length line - 1) 0 ≡ 13 → ⊥) → line ≡ trimmed line
trim_other line h n = trim_whole line (length line - 1) (omega arith) n

pub trim_none : (line : List ℕ) → length line < 1 → line ≡ trimmed line
unfolding trimmed
trim_none [] h = refl
trim_none (b ∷ line) h = absurd (let z : ⊥ = omega arith in z)

pub trimmed_short : (line : List ℕ) → length (trimmed line) ≤ length line
unfolding trimmed
trimmed_short [] = omega arith
trimmed_short (b ∷ []) = go (eqb b 13)
  where
    go : (t : Bool) → length (cond t [] (b ∷ [])) ≤ 1
    go true = omega arith
    go false = omega arith
trimmed_short (b ∷ c ∷ l) = omega (arith, trimmed_short (c ∷ l))

pub word_short : (text piece rest word : List ℕ) → PieceOf 10 text piece rest → word ≡ trimmed piece → length word ≤ length text
word_short text piece rest word p e =
    omega (arith, ap length e, trimmed_short piece, ap length p.first, length-take (up_to 10 text) text)

-- ---- a word

-- Base64 was read over what hexadecimal had left.
pub not_hex : (word old between after : List ℕ) (r b : Option ℕ) → r ≡ None → DecodedPost (pairs_of any_digit_of word) old r between → DecodedPost (base64_of word) between b after
    → DecodedPost (state_of word) old b after
unfolding state_of
not_hex word old between after r b e p q =
    let none-hex = subst (λ (x : Option ℕ). Decodes (pairs_of any_digit_of word) x between) e p.answer in
    let same : base64_of word ≡ or_else (pairs_of any_digit_of word) (base64_of word) = sym (ap (λ (d : Option (List ℕ)). or_else d (base64_of word)) none-hex) in
    record { answer = subst (λ (d : Option (List ℕ)). Decodes d b after) same q.answer; free = q.free ∙ p.free }

pub spelled_hex : (word old after : List ℕ) (n : ℕ) (r : Option ℕ) → r ≡ Some n → DecodedPost (pairs_of any_digit_of word) old r after → DecodedPost (state_of word) old (Some n) after
unfolding state_of
spelled_hex word old after n r e p =
    let w = subst (λ (x : Option ℕ). Decodes (pairs_of any_digit_of word) x after) e p.answer in
    record { answer = (ap (λ (d : Option (List ℕ)). or_else d (base64_of word)) w.0, w.1); free = p.free }
