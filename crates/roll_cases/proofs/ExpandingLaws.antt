-- Laws of what a line stands for: byte strings one behind the other, in a buffer that is filled from the front.
use mathlib.Core.Path.{◌≡◌, refl, sym, ap, ap₂, ◌∙◌, subst}
use mathlib.Core.List.{List, [], ◌∷◌, ◌++◌, append_assoc, append-nil}
use mathlib.Core.Bool.{Bool, cond, true≢false}
use Rattle.std.specs.Prelude.{Option, Some, None, is_some}
use mathlib.Core.Logic.{inl, inr, ◌≢◌}
use Rattle.std.proofs.lemmas.List.{length-take}
use Prim.Native.Nat.{ℕ, zero, suc, ◌+◌, ◌-◌, ◌/◌, ◌<◌, ◌≤◌}
use native.Mathlib.Numerals.{add-one}
use native.Mathlib.Omega.{arith}
use lib.Dec.{eqb}
use lib.ListN.{length, take, drop, length-append, drop_of_length-le, take-append-drop, length-drop}
use lib.Seq.{length-take-le, take_at, drop-cons}
use borrow.Rule.Slice.PartMut.{mid_of, post_of, put_mid, mid_len}
use borrow.Author.Tests.{eq-eqb, ne_eqb}
use Rattle.std.specs.Counts.{IsPrefixLen}
use Rattle.console.specs.Input.{up_to, PieceOf, digit_of, byte_then, onto, decimal_of, below64, hex_of, pairs_of, PairsPost}
use Rattle.roll_cases.specs.Expanding.{joined, times_of, times, times_by, word_bytes, words_bytes, line_bytes, Expands}

-- ---- byte strings, or None

not_some : {A B : Type 0} {x : A} → None ≡ Some x → B
not_some e = absurd (true≢false (sym (ap is_some e)))

abbrev bytes_in : Option (List ℕ) → List ℕ
bytes_in None = []
bytes_in (Some l) = l

pub onto_end : (done : List ℕ) → onto done (Some []) ≡ Some done
onto_end done = ap Some (append-nil done)

-- Where the first of two is put, the second one is left.
pub onto_joined : (done next : List ℕ) (x y : Option (List ℕ)) → onto done x ≡ Some next → onto done (joined x y) ≡ onto next y
onto_joined done next None y e = not_some e
onto_joined done next (Some l) None e = refl
onto_joined done next (Some l) (Some m) e = ap Some (sym (append_assoc done l m) ∙ ap (λ (z : List ℕ). z ++ m) (ap bytes_in e))

-- Where the first of two is too long for a buffer, both are.
pub joined_long : (done l : List ℕ) (n : ℕ) (x y : Option (List ℕ))
    → ((m : List ℕ) → onto done x ≡ Some m → n < length m)
    → onto done (joined x y) ≡ Some l
    → n < length l
joined_long done l n None y h e = not_some e
joined_long done l n (Some a) None h e = not_some e
joined_long done l n (Some a) (Some b) h e =
    let k : n < length (done ++ a) = h (done ++ a) refl in
    omega (arith, k, ap length (ap bytes_in e), length-append done (a ++ b), length-append a b, length-append done a)

-- ---- a byte string of so many bytes

byte_length : (high low : Option ℕ) (n : ℕ) (r : Option (List ℕ)) (l : List ℕ)
    → ((m : List ℕ) → r ≡ Some m → length m ≡ n)
    → byte_then high low r ≡ Some l
    → length l ≡ n + 1
byte_length None low n r l h e = not_some e
byte_length (Some a) None n r l h e = not_some e
byte_length (Some a) (Some b) n None l h e = not_some e
byte_length (Some a) (Some b) n (Some m) l h e = omega (arith, h m refl, ap length (ap bytes_in e))

hex_length : (w l : List ℕ) → hex_of w ≡ Some l → length l ≡ length w / 2
unfolding pairs_of
hex_length [] l e = sym (ap length (ap bytes_in e))
hex_length (a ∷ []) l e = not_some e
hex_length (a ∷ b ∷ w) l e = omega (arith, byte_length (digit_of a) (digit_of b) (length w / 2) (hex_of w) l (hex_length w) e)

-- ---- a byte string, several times

pub times_none : (x : Option (List ℕ)) (n : ℕ) → n ≡ 0 → times_of n x ≡ Some []
unfolding times_of
times_none x zero e = refl
times_none x (suc n) e = let z : ⊥ = omega arith in absurd z

pub times_more : (x : Option (List ℕ)) (n : ℕ) → 0 < n → times_of n x ≡ joined x (times_of (n - 1) x)
unfolding times_of
times_more x zero h = let z : ⊥ = omega arith in absurd z
times_more x (suc n) h = ap (λ (m : ℕ). joined x (times_of m x)) (let m : n ≡ suc n - 1 = omega arith in m)

-- What is put into the part of a buffer from `at` on.
put_front : (out last : List ℕ) (at k : ℕ) → at ≤ length out → k ≤ length last → take (at + k) (put_mid at (length out - at) out last) ≡ take at out ++ take k last
put_front out last at k h g =
    let rest : List ℕ = drop k last ++ post_of at (length out - at) out in
    ap (take (at + k))
    (ap (λ (z : List ℕ). take at out ++ (z ++ post_of at (length out - at) out)) (sym (take-append-drop k last))
    ∙ ap (λ (z : List ℕ). take at out ++ z) (append_assoc (take k last) (drop k last) (post_of at (length out - at) out))
    ∙ sym (append_assoc (take at out) (take k last) rest))
    ∙ take_at (take at out ++ take k last) rest (at + k)
    (length-append (take at out) (take k last)
    ∙ (let e : length (take at out) + length (take k last) ≡ at + k = omega (arith, length-take-le at out h, length-take-le k last g) in e))

module _ (piece out last : List ℕ) (at left : ℕ) (r : Option ℕ) (inside : at ≤ length out) (more : 0 < left)
    (same : length last ≡ length (mid_of at (length out - at) out)) (p : PairsPost digit_of piece (mid_of at (length out - at) out) r last) where
  abbrev after : List ℕ
  after = put_mid at (length out - at) out last

  pub times_turn : (k : ℕ) → r ≡ Some k → (at + k ≤ length out) × (onto (take at out) (times_of left (hex_of piece)) ≡ onto (take (at + k) after) (times_of (left - 1) (hex_of piece)))
  times_turn k e =
      let q : PairsPost digit_of piece (mid_of at (length out - at) out) (Some k) last = subst (λ (x : Option ℕ). PairsPost digit_of piece (mid_of at (length out - at) out) x last) e p in (
        omega (arith, q.2.0, same, mid_len at (length out) out (omega arith)),
        ap (onto (take at out)) (times_more (hex_of piece) left more)
            ∙ onto_joined (take at out) (take (at + k) after) (hex_of piece) (times_of (left - 1) (hex_of piece))
            (ap (onto (take at out)) q.0 ∙ ap Some (sym (put_front out last at k inside q.2.0))),
      )

  pub times_refused : r ≡ None → (l : List ℕ) → onto (take at out) (times_of left (hex_of piece)) ≡ Some l → length out < length l
  times_refused e l w =
      joined_long (take at out) l (length out) (hex_of piece) (times_of (left - 1) (hex_of piece))
      (long (subst (λ (x : Option ℕ). PairsPost digit_of piece (mid_of at (length out - at) out) x last) e p))
      (sym (ap (onto (take at out)) (times_more (hex_of piece) left more)) ∙ w)
    where
      by : (x : Option (List ℕ)) → hex_of piece ≡ x → length out - at < length piece / 2 → (m : List ℕ) → onto (take at out) x ≡ Some m → length out < length m
      by None f h m g = not_some g
      by (Some a) f h m g = omega (arith, h, hex_length piece a f, ap length (ap bytes_in g), length-append (take at out) a, length-take-le at out inside)

      long : PairsPost digit_of piece (mid_of at (length out - at) out) None last → (m : List ℕ) → onto (take at out) (hex_of piece) ≡ Some m → length out < length m
      long (inl f) m g = not_some (sym (ap (onto (take at out)) f.0) ∙ g)
      long (inr h) m g = by (hex_of piece) refl (omega (arith, h.0, mid_len at (length out) out (omega arith))) m g

-- ---- a word

module _ (word piece number : List ℕ) (first : piece ≡ take (up_to 42 word) word) (behind : number ≡ drop (up_to 42 word + 1) word) where
  word_is : (t : Option ℕ) → times (drop (up_to 42 word) word) ≡ t → word_bytes word ≡ times_by t (hex_of piece)
  unfolding word_bytes
  word_is t e = ap (λ (x : Option ℕ). times_by x (hex_of (take (up_to 42 word) word))) e ∙ ap (λ (w : List ℕ). times_by t (hex_of w)) (sym first)

  -- With no star.
  pub word_once : length piece ≡ length word → word_bytes word ≡ times_of 1 (hex_of piece)
  word_once e = word_is (Some 1) (ap times (drop_of_length-le word (let h : length word ≤ up_to 42 word = omega (arith, e, ap length first, length-take (up_to 42 word) word) in h)))

  starred : length piece ≢ length word → times (drop (up_to 42 word) word) ≡ below64 (decimal_of number)
  starred n =
      let h : up_to 42 word < length word = omega (arith, n, ap length first, length-take (up_to 42 word) word) in
      ap times (drop-cons word (up_to 42 word) 0 h) ∙ ap (λ (l : List ℕ). below64 (decimal_of l)) (ap (λ (k : ℕ). drop k word) (sym (add-one (up_to 42 word))) ∙ sym behind)

  pub word_times : length piece ≢ length word → (n : ℕ) → Some n ≡ below64 (decimal_of number) → word_bytes word ≡ times_of n (hex_of piece)
  word_times h n e = word_is (Some n) (starred h ∙ sym e)

  pub word_none : length piece ≢ length word → None ≡ below64 (decimal_of number) → word_bytes word ≡ None
  word_none h e = word_is None (starred h ∙ sym e)

pub none_long : (done : List ℕ) (x : Option (List ℕ)) (n : ℕ) → x ≡ None → (l : List ℕ) → onto done x ≡ Some l → n < length l
none_long done x n e l w = not_some (sym (ap (onto done) e) ∙ w)

-- ---- a line

words_fuel : (n m : ℕ) (l : List ℕ) → length l ≤ n → length l ≤ m → words_bytes n l ≡ words_bytes m l
unfolding words_bytes
words_fuel zero zero l h g = refl
words_fuel zero (suc m) l h g = sym (ap (λ (t : Bool). cond t (Some []) (joined (word_bytes (take (up_to 32 l) l)) (words_bytes m (drop (up_to 32 l + 1) l)))) (eq-eqb (length l) 0 (omega arith)))
words_fuel (suc n) zero l h g = ap (λ (t : Bool). cond t (Some []) (joined (word_bytes (take (up_to 32 l) l)) (words_bytes n (drop (up_to 32 l + 1) l)))) (eq-eqb (length l) 0 (omega arith))
words_fuel (suc n) (suc m) l h g =
    ap (λ (x : Option (List ℕ)). cond (eqb (length l) 0) (Some []) (joined (word_bytes (take (up_to 32 l) l)) x))
    (words_fuel n m (drop (up_to 32 l + 1) l) (omega (arith, length-drop (up_to 32 l + 1) l)) (omega (arith, length-drop (up_to 32 l + 1) l)))

pub line_end : (l : List ℕ) → length l ≡ 0 → line_bytes l ≡ Some []
unfolding words_bytes
line_end l h = ap (λ (n : ℕ). words_bytes n l) h

line_more : (l : List ℕ) → 0 < length l → line_bytes l ≡ joined (word_bytes (take (up_to 32 l) l)) (line_bytes (drop (up_to 32 l + 1) l))
unfolding words_bytes
line_more l h = go (length l) refl
  where
    go : (n : ℕ) → length l ≡ n → words_bytes n l ≡ joined (word_bytes (take (up_to 32 l) l)) (line_bytes (drop (up_to 32 l + 1) l))
    go zero e = let z : ⊥ = omega arith in absurd z
    go (suc n) e =
        ap (λ (t : Bool). cond t (Some []) (joined (word_bytes (take (up_to 32 l) l)) (words_bytes n (drop (up_to 32 l + 1) l)))) (ne_eqb (length l) 0 (λ (z : length l ≡ 0). omega arith))
        ∙ ap (joined (word_bytes (take (up_to 32 l) l)))
        (words_fuel n (length (drop (up_to 32 l + 1) l)) (drop (up_to 32 l + 1) l) (omega (arith, length-drop (up_to 32 l + 1) l)) (omega arith))

-- A word of a line, and what is left behind the blank.
module _ (rest word next out after : List ℕ) (n : ℕ) (r : Option ℕ) (first : PieceOf 32 rest word next) (p : Expands (take n out) (word_bytes word) out r after) where
  whole : line_bytes rest ≡ joined (word_bytes word) (line_bytes next)
  whole = line_more rest first.more ∙ ap₂ (λ (w l : List ℕ). joined (word_bytes w) (line_bytes l)) (sym first.first) (sym first.behind)

  pub line_turn : (k : ℕ) → r ≡ Some k → IsPrefixLen k after × (onto (take n out) (line_bytes rest) ≡ onto (take k after) (line_bytes next))
  line_turn k f =
      let q : Expands (take n out) (word_bytes word) out (Some k) after = subst (λ (x : Option ℕ). Expands (take n out) (word_bytes word) out x after) f p in
      (q.1, ap (onto (take n out)) whole ∙ onto_joined (take n out) (take k after) (word_bytes word) (line_bytes next) q.0)

  pub line_refused : r ≡ None → (l : List ℕ) → onto (take n out) (line_bytes rest) ≡ Some l → length out < length l
  line_refused f l w =
      joined_long (take n out) l (length out) (word_bytes word) (line_bytes next)
      (subst (λ (x : Option ℕ). Expands (take n out) (word_bytes word) out x after) f p)
      (sym (ap (onto (take n out)) whole) ∙ w)
