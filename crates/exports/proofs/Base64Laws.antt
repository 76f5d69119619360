-- Laws of base64: characters and their bits, three bytes stored, the groups of a word.
use mathlib.Core.Path.{◌≡◌, refl, sym, ap, ◌∙◌}
use mathlib.Core.List.{List, [], ◌∷◌, ◌++◌, append_assoc}
use mathlib.Core.Bool.{Bool, true, cond}
use Rattle.std.specs.Prelude.{Option, Some, None, MatchOption}
use mathlib.Core.Logic.{◌≢◌, ◌⊎◌, inl, inr, ⊎_elim}
use Prim.Native.Nat.{ℕ, zero, suc, ◌+◌, ◌-◌, ◌%◌, ◌<◌, ◌≤◌}
use native.Mathlib.Omega.{arith}
use lib.ListN.{length, take, drop, get_or}
use lib.Seq.{sets, sets-eq, length-sets, take-append-add, take-append-le, length-take-le}
use borrow.Author.Tests.{lt-ltb, le-ltb, eq-eqb, ne_eqb, eqb-true}
use Rattle.std.specs.Prelude.{eqb, ◌&&◌}
use Rattle.wire.proofs.BoolLaws.{both_true}
use Rattle.std.specs.List.{AllWithin, HoldsAt}
use Rattle.console.specs.Input.{up_to, onto}
use Rattle.console.proofs.InputLaws.{up_to_place}
use Rattle.exports.specs.Words.{Decodes}
use Rattle.exports.specs.Base64.{alphabet, sextet_of, bits_of, three_of, group_then, end_of, last_group, base64_of}
use Rattle.exports.proofs.WordLaws.{onto_twice}

pub alphabet_length : length alphabet ≡ 64
unfolding alphabet
alphabet_length = refl

-- The place that a search finds in the alphabet.
pub sextet_found : (b : ℕ) (r : Option ℕ)
    → MatchOption r (AllWithin (λ x. x ≢ b) alphabet 0 (length alphabet)) (λ i. (i < length alphabet) × HoldsAt (λ x. x ≡ b) alphabet i × AllWithin (λ x. x ≢ b) alphabet 0 i)
    → r ≡ sextet_of b
unfolding sextet_of
sextet_found b None h = sym (rw (le-ltb (up_to b alphabet) 64 (omega (arith, up_to_place b alphabet None h, alphabet_length))))
sextet_found b (Some i) h =
    let e : up_to b alphabet ≡ i = up_to_place b alphabet (Some i) h in
    sym (rw (lt-ltb (up_to b alphabet) 64 (omega (arith, e, h.0, alphabet_length))) (ap Some e))

-- n numbers one after another, from a on.
abbrev run : ℕ → ℕ → List ℕ
run a zero = []
run a (suc n) = a ∷ run (a + 1) n

alphabet_runs : alphabet ≡ run 65 26 ++ (run 97 26 ++ (run 48 10 ++ (43 ∷ 47 ∷ [])))
unfolding alphabet
alphabet_runs = refl

-- The place of a number that is not in a run is behind it.
up_to_past : (b a n : ℕ) (rest : List ℕ) → (b < a) ⊎ (a + n ≤ b) → up_to b (run a n ++ rest) ≡ n + up_to b rest
unfolding up_to
up_to_past b a zero rest out = let e : up_to b rest ≡ 0 + up_to b rest = omega arith in e
up_to_past b a (suc n) rest out =
    let other : a ≡ b → ⊥ = λ (e : a ≡ b). ⊎_elim (λ (h : b < a). let z : ⊥ = omega arith in z) (λ (h : a + suc n ≤ b). let z : ⊥ = omega arith in z) out in
    let further : (b < a + 1) ⊎ (a + 1 + n ≤ b) = ⊎_elim (λ (h : b < a). inl (omega arith)) (λ (h : a + suc n ≤ b). inr (omega arith)) out in
    rw (ne_eqb a b other) (ap (λ (k : ℕ). 1 + k) (up_to_past b (a + 1) n rest further) ∙ omega arith)

-- The places of the characters from + to z, one after another.
abbrev pub places : List ℕ
places = 62 ∷ 64 ∷ 64 ∷ 64 ∷ 63 ∷ 52 ∷ 53 ∷ 54 ∷ 55 ∷ 56 ∷ 57 ∷ 58 ∷ 59 ∷ 60 ∷ 61 ∷ 64 ∷ 64 ∷ 64 ∷ 64 ∷ 64 ∷ 64 ∷ 64 ∷ 0 ∷ 1 ∷ 2 ∷ 3 ∷ 4 ∷ 5 ∷ 6 ∷ 7 ∷ 8 ∷ 9 ∷ 10 ∷ 11 ∷ 12 ∷ 13 ∷ 14 ∷ 15 ∷ 16 ∷ 17 ∷ 18 ∷ 19 ∷ 20 ∷ 21 ∷ 22 ∷ 23 ∷ 24 ∷ 25 ∷ 64 ∷ 64 ∷ 64 ∷ 64 ∷ 64 ∷ 64 ∷ 26 ∷ 27 ∷ 28 ∷ 29 ∷ 30 ∷ 31 ∷ 32 ∷ 33 ∷ 34 ∷ 35 ∷ 36 ∷ 37 ∷ 38 ∷ 39 ∷ 40 ∷ 41 ∷ 42 ∷ 43 ∷ 44 ∷ 45 ∷ 46 ∷ 47 ∷ 48 ∷ 49 ∷ 50 ∷ 51 ∷ []

-- Whether each is the place of its character, which antt counts out.
all_right : ℕ → List ℕ → Bool
all_right k [] = true
all_right k (x ∷ l) = eqb x (up_to (43 + k) alphabet) && all_right (k + 1) l

checked : all_right 0 places ≡ true
unfolding alphabet up_to all_right
checked = refl

right_at : (k : ℕ) (l : List ℕ) → all_right k l ≡ true → (i : ℕ) → i < length l → get_or l i 0 ≡ up_to (43 + (k + i)) alphabet
unfolding all_right
right_at k [] e i h = absurd (let z : ⊥ = omega arith in z)
right_at k (x ∷ l) e zero h = eqb-true x (up_to (43 + k) alphabet) (both_true (eqb x (up_to (43 + k) alphabet)) (all_right (k + 1) l) e).0 ∙ ap (λ (n : ℕ). up_to n alphabet) (let z : 43 + k ≡ 43 + (k + 0) = omega arith in z)
right_at k (x ∷ l) e (suc i) h =
    right_at (k + 1) l (both_true (eqb x (up_to (43 + k) alphabet)) (all_right (k + 1) l) e).1 i (omega arith)
    ∙ ap (λ (n : ℕ). up_to n alphabet) (let z : 43 + (k + 1 + i) ≡ 43 + (k + suc i) = omega arith in z)

-- What the table has for a character; and bytes before + and behind z have no place.
pub place_at : (b : ℕ) → 43 ≤ b → b - 43 < 80 → get_or places (b - 43) 0 ≡ up_to b alphabet
place_at b low high = right_at 0 places checked (b - 43) high ∙ ap (λ (n : ℕ). up_to n alphabet) (let z : 43 + (0 + (b - 43)) ≡ b = omega arith in z)

-- Neither + nor /, and in no run.
past_two : (b : ℕ) → (b ≡ 43 → ⊥) → (b ≡ 47 → ⊥) → up_to b (43 ∷ 47 ∷ []) ≡ 2
unfolding up_to
past_two b plus slash = rw (ne_eqb 43 b (λ (e : 43 ≡ b). plus (sym e))) (rw (ne_eqb 47 b (λ (e : 47 ≡ b). slash (sym e))) refl)

place_none : (b : ℕ) → (b < 65) ⊎ (91 ≤ b) → (b < 97) ⊎ (123 ≤ b) → (b < 48) ⊎ (58 ≤ b) → (b ≡ 43 → ⊥) → (b ≡ 47 → ⊥) → 64 ≡ up_to b alphabet
place_none b upper lower digit plus slash =
    sym
    (rw alphabet_runs (up_to_past b 65 26 _ upper
    ∙ ap (λ (k : ℕ). 26 + k) (up_to_past b 97 26 _ lower ∙ ap (λ (k : ℕ). 26 + k) (up_to_past b 48 10 _ digit ∙ ap (λ (k : ℕ). 10 + k) (past_two b plus slash)))))

pub place_before : (b : ℕ) → b < 43 → 64 ≡ up_to b alphabet
place_before b h = place_none b (inl (omega arith)) (inl (omega arith)) (inl (omega arith)) (λ (e : b ≡ 43). let z : ⊥ = omega arith in z) (λ (e : b ≡ 47). let z : ⊥ = omega arith in z)

pub place_behind : (b : ℕ) → 80 ≤ b - 43 → 64 ≡ up_to b alphabet
place_behind b h = place_none b (inr (omega arith)) (inr (omega arith)) (inr (omega arith)) (λ (e : b ≡ 43). let z : ⊥ = omega arith in z) (λ (e : b ≡ 47). let z : ⊥ = omega arith in z)

pub zero_value : sextet_of 65 ≡ Some 0
unfolding sextet_of up_to alphabet
zero_value = refl

-- ---- three bytes

-- The first k of them.
pub three_front : (out : List ℕ) (n v k : ℕ) → k ≤ 3 → n + 3 ≤ length out → take (n + k) (sets out n (three_of v)) ≡ take n out ++ take k (three_of v)
three_front out n v k few room =
    let rest = drop (n + 3) out in
    let size : length (take n out) ≡ n = length-take-le n out (omega arith) in
    ap (take (n + k)) (sets-eq (three_of v) out n room ∙ append_assoc (take n out) (three_of v) rest)
    ∙ ap (λ (m : ℕ). take (m + k) (take n out ++ (three_of v ++ rest))) (sym size)
    ∙ take-append-add (take n out) (three_of v ++ rest) k
    ∙ ap (λ (l : List ℕ). take n out ++ l) (take-append-le k (three_of v) rest few)

module _ (out : List ℕ) (n v k unit : ℕ) where
  pub end_put : (after : List ℕ) → k ≤ 3 → n + 3 ≤ length out → v % unit ≡ 0 → after ≡ sets out n (three_of v)
      → Decodes (onto (take n out) (end_of k unit (Some v))) (Some (n + k)) after
  end_put after few room h e =
      let inside : n + k ≤ length after = omega (arith, ap (λ (l : List ℕ). length l) e, length-sets out n (three_of v)) in (
        ap (λ (t : Bool). onto (take n out) (cond t (Some (take k (three_of v))) None)) (eq-eqb (v % unit) 0 h)
            ∙ ap Some (sym (ap (take (n + k)) e ∙ three_front out n v k few room)),
        (inside, sym (length-take-le (n + k) after inside)),
      )

-- ---- groups

-- The last four characters.
module _ (group : List ℕ) (h : length group ≡ 4) where
  last_four : base64_of group ≡ last_group (get_or group 0 0) (get_or group 1 0) (get_or group 2 0) (get_or group 3 0)
  unfolding base64_of
  last_four = go group h
    where
      go : (l : List ℕ) → length l ≡ 4 → base64_of l ≡ last_group (get_or l 0 0) (get_or l 1 0) (get_or l 2 0) (get_or l 3 0)
      go [] h = let z : ⊥ = omega arith in absurd z
      go (a ∷ []) h = let z : ⊥ = omega arith in absurd z
      go (a ∷ b ∷ []) h = let z : ⊥ = omega arith in absurd z
      go (a ∷ b ∷ c ∷ []) h = let z : ⊥ = omega arith in absurd z
      go (a ∷ b ∷ c ∷ d ∷ []) h = refl
      go (a ∷ b ∷ c ∷ d ∷ e ∷ l) h = let z : ⊥ = omega arith in absurd z

  pub last_three : (v : Option ℕ) → get_or group 3 0 ≢ 61
      → v ≡ bits_of (sextet_of (get_or group 0 0)) (sextet_of (get_or group 1 0)) (sextet_of (get_or group 2 0)) (sextet_of (get_or group 3 0))
      → end_of 3 1 v ≡ base64_of group
  unfolding last_group
  last_three v n e = ap (end_of 3 1) e ∙ sym (last_four ∙ rw (ne_eqb (get_or group 3 0) 61 n))

  pub last_two : (v : Option ℕ) → get_or group 3 0 ≡ 61 → get_or group 2 0 ≢ 61
      → v ≡ bits_of (sextet_of (get_or group 0 0)) (sextet_of (get_or group 1 0)) (sextet_of (get_or group 2 0)) (sextet_of 65)
      → end_of 2 256 v ≡ base64_of group
  unfolding last_group
  last_two v e n p =
      ap (end_of 2 256) (p ∙ ap (bits_of (sextet_of (get_or group 0 0)) (sextet_of (get_or group 1 0)) (sextet_of (get_or group 2 0))) zero_value)
      ∙ sym (last_four ∙ rw (eq-eqb (get_or group 3 0) 61 e, ne_eqb (get_or group 2 0) 61 n))

  pub last_one : (v : Option ℕ) → get_or group 3 0 ≡ 61 → get_or group 2 0 ≡ 61
      → v ≡ bits_of (sextet_of (get_or group 0 0)) (sextet_of (get_or group 1 0)) (sextet_of 65) (sextet_of 65)
      → end_of 1 65536 v ≡ base64_of group
  unfolding last_group
  last_one v e f p =
      ap (end_of 1 65536) (p ∙ ap (λ (z : Option ℕ). bits_of (sextet_of (get_or group 0 0)) (sextet_of (get_or group 1 0)) z z) zero_value)
      ∙ sym (last_four ∙ rw (eq-eqb (get_or group 3 0) 61 e, eq-eqb (get_or group 2 0) 61 f))

-- Four characters that are not the last.
pub next_four : (group rest last : List ℕ) (v : Option ℕ) → length group ≡ 4 → length last ≡ 4
    → v ≡ bits_of (sextet_of (get_or group 0 0)) (sextet_of (get_or group 1 0)) (sextet_of (get_or group 2 0)) (sextet_of (get_or group 3 0))
    → base64_of ((group ++ rest) ++ last) ≡ group_then v (base64_of (rest ++ last))
unfolding base64_of
next_four [] rest last v h m p = let z : ⊥ = omega arith in absurd z
next_four (a ∷ []) rest last v h m p = let z : ⊥ = omega arith in absurd z
next_four (a ∷ b ∷ []) rest last v h m p = let z : ⊥ = omega arith in absurd z
next_four (a ∷ b ∷ c ∷ []) rest last v h m p = let z : ⊥ = omega arith in absurd z
next_four (a ∷ b ∷ c ∷ d ∷ []) [] [] v h m p = let z : ⊥ = omega arith in absurd z
next_four (a ∷ b ∷ c ∷ d ∷ []) [] (e ∷ last) v h m p = ap (λ (x : Option ℕ). group_then x (base64_of (e ∷ last))) (sym p)
next_four (a ∷ b ∷ c ∷ d ∷ []) (e ∷ rest) last v h m p = ap (λ (x : Option ℕ). group_then x (base64_of (e ∷ rest ++ last))) (sym p)
next_four (a ∷ b ∷ c ∷ d ∷ e ∷ group) rest last v h m p = let z : ⊥ = omega arith in absurd z

-- A group was put.
pub group_more : (out after rest : List ℕ) (n v : ℕ) → n + 3 ≤ length out → after ≡ sets out n (three_of v)
    → onto (take n out) (group_then (Some v) (base64_of rest)) ≡ onto (take (n + 3) after) (base64_of rest)
group_more out after rest n v room e =
    onto_twice (take n out) (three_of v) (base64_of rest)
    ∙ ap (λ (l : List ℕ). onto l (base64_of rest)) (sym (ap (take (n + 3)) e ∙ three_front out n v 3 (omega arith) room))

-- No whole groups.
then_none : (v : Option ℕ) → group_then v None ≡ None
then_none None = refl
then_none (Some v) = refl

pub base64_odd : (word : List ℕ) → length word % 4 ≢ 0 → base64_of word ≡ None
unfolding base64_of
base64_odd [] n = absurd (n refl)
base64_odd (a ∷ []) n = refl
base64_odd (a ∷ b ∷ []) n = refl
base64_odd (a ∷ b ∷ c ∷ []) n = refl
base64_odd (a ∷ b ∷ c ∷ d ∷ []) n = absurd (n refl)
base64_odd (a ∷ b ∷ c ∷ d ∷ e ∷ l) n =
    let v = bits_of (sextet_of a) (sextet_of b) (sextet_of c) (sextet_of d) in
    ap (group_then v) (base64_odd (e ∷ l) (λ (z : length (e ∷ l) % 4 ≡ 0). n (let y : length (a ∷ b ∷ c ∷ d ∷ e ∷ l) % 4 ≡ 0 = omega arith in y))) ∙ then_none v

pub base64_empty : (word after : List ℕ) → length word ≡ 0 → Decodes (base64_of word) (Some 0) after
unfolding base64_of
base64_empty [] after h = (refl, (omega arith, refl))
base64_empty (b ∷ word) after h = absurd (let z : ⊥ = omega arith in z)
