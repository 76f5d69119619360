-- Laws of words, of numbers of 32 bits and of lists of them; and that the front that a count marks lies inside the memory that was lent.
use Prim.Native.Nat.{ℕ, zero, suc, ◌+◌, ◌-◌, ◌<◌, ◌≤◌}
use native.Mathlib.Omega.{arith}
use mathlib.Core.Path.{◌≡◌, refl, sym, ap, ap₂, ◌∙◌}
use mathlib.Core.List.{List, [], ◌∷◌, append-nil}
use mathlib.Core.Bool.{true≢false}
use lib.ListN.{length, set, take, drop, length-drop}
use lib.Seq.{length-take-le}
use Rattle.std.proofs.lemmas.List.{length-take}
use Rattle.std.specs.Prelude.{Option, Some, None, is_some, IfSome}
use Rattle.std.specs.Counts.{IsPrefixLen}
use Rattle.console.specs.Input.{up_to, PieceOf, decimal_of, onto, PairsPost}
use Rattle.console.specs.Text.{words_from, below32, value_then, values_in}
use Rattle.console.proofs.InputLaws.{onto_nothing, onto_stored}

-- ---- counts

pub front : (n : ℕ) (out : List ℕ) → n ≤ length out → IsPrefixLen n out
front n out h = (h, sym (length-take-le n out h))

pub pairs_inside : (value : ℕ → Option ℕ) (word out after : List ℕ) (r : Option ℕ) → PairsPost value word out r after → IfSome r (λ n. n ≤ length after)
pairs_inside value word out after None p = tt
pairs_inside value word out after (Some n) p = p.2.0

-- ---- words

-- A word further on: the next one starts behind the blank.
pub words_turn : (k i : ℕ) (line rest next : List ℕ) → i < k → words_from k line ≡ words_from (k - i) rest → next ≡ drop (up_to 32 rest + 1) rest
    → words_from k line ≡ words_from (k - (i + 1)) next
unfolding words_from
words_turn k i line rest next h whole e = whole ∙ go (k - i) (omega arith) ∙ ap (λ (n : ℕ). words_from n next) (let m : k - i - 1 ≡ k - (i + 1) = omega arith in m)
  where
    go : (n : ℕ) → 0 < n → words_from n rest ≡ words_from (n - 1) next
    go zero z = absurd (let f : ⊥ = omega arith in f)
    go (suc n) z = ap₂ words_from (let m : n ≡ suc n - 1 = omega arith in m) (sym e)

pub words_done : (l : List ℕ) → words_from 0 l ≡ l
unfolding words_from
words_done l = refl

-- ---- lists

values_none : (room : ℕ) → values_in room [] ≡ Some []
unfolding values_in
values_none zero = refl
values_none (suc room) = refl

pub values_start : (word rest : List ℕ) (room : ℕ) → rest ≡ word → values_in room word ≡ onto [] (values_in (room - 0) rest)
values_start word rest room e = onto_nothing (values_in room word) ∙ ap (onto []) (ap₂ values_in (let z : room ≡ room - 0 = omega arith in z) (sym e))

-- A number that was read has a byte at least.
pub value_long : (piece : List ℕ) (v : ℕ) → Some v ≡ below32 (decimal_of piece) → 0 < length piece
value_long [] v e = absurd (true≢false (ap is_some e))
value_long (b ∷ l) v e = omega arith

-- So what is left is shorter by two bytes, where any is.
pub value_left : (rest piece next : List ℕ) (v : ℕ) → PieceOf 44 rest piece next → Some v ≡ below32 (decimal_of piece) → 0 < length next → length next + 2 ≤ length rest
value_left rest piece next v p e h =
    omega (arith, value_long piece v e, ap length p.first, ap length p.behind, length-take (up_to 44 rest) rest, length-drop (up_to 44 rest + 1) rest)

-- What is left of a word, where n values stand at the front of `out`.
module _ (out whole rest : List ℕ) (room n : ℕ) (so_far : values_in room whole ≡ onto (take n out) (values_in (room - n) rest)) where
  -- Bytes are left, and there is no more room.
  pub values_full : 0 < length rest → room ≤ n → values_in room whole ≡ None
  unfolding values_in
  values_full h l = so_far ∙ ap (λ (k : ℕ). onto (take n out) (values_in k rest)) (let e : room - n ≡ 0 = omega arith in e) ∙ go rest h
    where
      go : (l : List ℕ) → 0 < length l → onto (take n out) (values_in 0 l) ≡ None
      go [] h = absurd (let f : ⊥ = omega arith in f)
      go (b ∷ l) h = refl

  after : (piece next : List ℕ) → PieceOf 44 rest piece next → n < room → values_in room whole ≡ onto (take n out) (value_then (below32 (decimal_of piece)) (values_in (room - (n + 1)) next))
  unfolding values_in
  after piece next p l = so_far ∙ ap (onto (take n out)) (go (room - n) rest (omega arith) p.more ∙ ap₂ (λ (w : List ℕ) (r : Option (List ℕ)). value_then (below32 (decimal_of w)) r) (sym p.first) (ap₂ values_in (let e : room - n - 1 ≡ room - (n + 1) = omega arith in e) (sym p.behind)))
    where
      go : (k : ℕ) (l : List ℕ) → 0 < k → 0 < length l → values_in k l ≡ value_then (below32 (decimal_of (take (up_to 44 l) l))) (values_in (k - 1) (drop (up_to 44 l + 1) l))
      go zero l r h = absurd (let f : ⊥ = omega arith in f)
      go (suc k) [] r h = absurd (let f : ⊥ = omega arith in f)
      go (suc k) (b ∷ l) r h =
          ap (λ (j : ℕ). value_then (below32 (decimal_of (take (up_to 44 (b ∷ l)) (b ∷ l)))) (values_in j (drop (up_to 44 (b ∷ l) + 1) (b ∷ l))))
          (let e : k ≡ suc k - 1 = omega arith in e)

  -- The next word is no number.
  pub values_other : (piece next : List ℕ) → PieceOf 44 rest piece next → n < room → None ≡ below32 (decimal_of piece) → values_in room whole ≡ None
  values_other piece next p l e = after piece next p l ∙ ap (λ (v : Option ℕ). onto (take n out) (value_then v (values_in (room - (n + 1)) next))) (sym e)

  -- The next word is a number, and is stored.
  pub values_turn : (piece next : List ℕ) → PieceOf 44 rest piece next → n < room → n < length out → (v : ℕ) → Some v ≡ below32 (decimal_of piece)
      → values_in room whole ≡ onto (take (n + 1) (set out n v)) (values_in (room - (n + 1)) next)
  values_turn piece next p l inside v e =
      after piece next p l
      ∙ ap (λ (x : Option ℕ). onto (take n out) (value_then x (values_in (room - (n + 1)) next))) (sym e)
      ∙ onto_stored out n v inside (values_in (room - (n + 1)) next)

  -- No bytes are left.
  pub values_end : length rest ≡ 0 → values_in room whole ≡ Some (take n out)
  values_end h = so_far ∙ ap (onto (take n out)) (go rest h) ∙ ap Some (append-nil (take n out))
    where
      go : (l : List ℕ) → length l ≡ 0 → values_in (room - n) l ≡ Some []
      go [] h = values_none (room - n)
      go (b ∷ l) h = absurd (let f : ⊥ = omega arith in f)
