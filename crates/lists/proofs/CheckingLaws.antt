-- Laws of testing a list value by value: the whole is what was found so far and what the rest makes of it.
use Rattle.std.proofs.Common.{◌≡◌, ℕ, suc, ◌+◌, ◌-◌, ◌<◌, ◌≤◌, Bool, true, false, ◌&&◌, leb, List, [], ◌∷◌, length, get_or, take, drop, sym, refl, ap, ◌∙◌, ap₂, add-one, arith, take-append-drop, drop_of_length-le, take_all, drop-cons, le-leb}
use mathlib.Core.Bool.{and_assoc, and-true}
use Rattle.wire.proofs.BoolLaws.{absorbed}
use Rattle.lists.specs.Values.{mark, valid}
use Rattle.lists.specs.Sorting.{not_before, ascends}
use Rattle.lists.specs.Order.{Ascending, Below, last_of}
use Rattle.lists.specs.Lists.{all_valid}
use Rattle.lists.proofs.ValueLaws.{below_mark, small_valid, valid_plain}
use Rattle.lists.proofs.DecodingLaws.{all_append}
use Rattle.lists.proofs.OrderLaws.{ascending}
use Rattle.lists.proofs.SortingLaws.{last_take}

-- One test more was made.
pub test_more : (all next ok rest : Bool) → next ≡ (all && ok) → (all && (ok && rest)) ≡ (next && rest)
test_more all next ok rest e = sym (and_assoc all ok rest) ∙ ap (λ (t : Bool). t && rest) (sym e)

-- ---- every value is valid

module _ (p s : ℕ) (l : List ℕ) (i : ℕ) (all : Bool) where
  valid_step : i < length l → all_valid p s (drop i l) ≡ (valid p s (get_or l i 0) && all_valid p s (drop (i + 1) l))
  unfolding all_valid
  valid_step h = ap (all_valid p s) (drop-cons l i 0 h) ∙ ap (λ (n : ℕ). valid p s (get_or l i 0) && all_valid p s (drop n l)) (sym (add-one i))

  pub valid_turn : (next ok : Bool) → i < length l → ok ≡ valid p s (get_or l i 0) → next ≡ (all && ok)
      → (all && all_valid p s (drop i l)) ≡ (next && all_valid p s (drop (i + 1) l))
  valid_turn next ok h e f =
      ap (λ (t : Bool). all && t) (valid_step h)
      ∙ test_more all next (valid p s (get_or l i 0)) (all_valid p s (drop (i + 1) l)) (f ∙ ap (λ (t : Bool). all && t) e)

  pub valid_end : length l ≤ i → (all && all_valid p s (drop i l)) ≡ all
  unfolding all_valid
  valid_end h = ap (λ (t : List ℕ). all && all_valid p s t) (drop_of_length-le l h) ∙ and-true all

-- ---- neighbours

-- Two neighbours, and what is left from the second of them on.
pub record Neighbours (rest pair next : List ℕ) : Type 0 where
  pub x : ℕ
  pub y : ℕ
  pub behind : List ℕ
  pub whole : rest ≡ x ∷ y ∷ behind
  pub two : pair ≡ x ∷ y ∷ []
  pub on : next ≡ y ∷ behind

pub neighbours : (rest pair next : List ℕ) (n : ℕ) → n ≡ 2 → n ≤ length rest → pair ≡ take n rest → next ≡ drop 1 rest → Neighbours rest pair next
neighbours [] pair next n e h f g = absurd (let z : ⊥ = omega arith in z)
neighbours (x ∷ []) pair next n e h f g = absurd (let z : ⊥ = omega arith in z)
neighbours (x ∷ y ∷ l) pair next n e h f g = record { x = x; y = y; behind = l; whole = refl; two = f ∙ ap (λ (m : ℕ). take m (x ∷ y ∷ l)) e; on = g }

-- ---- no value is less than the one before

pub rising_start : (l : List ℕ) → ascends l ≡ not_before (get_or l 0 0) (drop 1 l)
unfolding ascends
rising_start [] = refl
rising_start (x ∷ l) = ap (λ (t : Bool). t && not_before x l) (le-leb 0 x (let h : 0 ≤ x = omega arith in h))

ascends_none : ascends [] ≡ true
unfolding ascends
ascends_none = refl

ascends_one : (x : ℕ) → ascends (x ∷ []) ≡ true
unfolding ascends
ascends_one x = ap (λ (t : Bool). t && true) (le-leb 0 x (let h : 0 ≤ x = omega arith in h))

ascends_two : (x y : ℕ) (l : List ℕ) → ascends (x ∷ y ∷ l) ≡ (leb x y && ascends (y ∷ l))
unfolding ascends
ascends_two x y l =
    ap (λ (t : Bool). t && (leb x y && not_before y l)) (le-leb 0 x (let h : 0 ≤ x = omega arith in h))
    ∙ ap (λ (t : Bool). leb x y && (t && not_before y l)) (sym (le-leb 0 y (let h : 0 ≤ y = omega arith in h)))

pub rising_turn : (all : Bool) {rest pair next : List ℕ} → Neighbours rest pair next
    → (all && ascends rest) ≡ ((all && leb (get_or pair 0 0) (get_or pair 1 0)) && ascends next)
rising_turn all n =
    ap (λ (l : List ℕ). all && ascends l) n.whole
    ∙ ap (λ (t : Bool). all && t) (ascends_two n.x n.y n.behind)
    ∙ sym (and_assoc all (leb n.x n.y) (ascends (n.y ∷ n.behind)))
    ∙ ap₂ (λ (w l : List ℕ). (all && leb (get_or w 0 0) (get_or w 1 0)) && ascends l) (sym n.two) (sym n.on)

pub rising_end : (all : Bool) (rest : List ℕ) (n : ℕ) → n ≡ 2 → length rest < n → (all && ascends rest) ≡ all
rising_end all [] n e h = ap (λ (t : Bool). all && t) ascends_none ∙ and-true all
rising_end all (x ∷ []) n e h = ap (λ (t : Bool). all && t) (ascends_one x) ∙ and-true all
rising_end all (x ∷ y ∷ l) n e h = absurd (let z : ⊥ = omega arith in z)

-- ---- every value of an ascending list is valid

last_least : (n : ℕ) (l : List ℕ) → Ascending n l → n ≤ last_of n l
last_least n [] a = omega arith
last_least n (x ∷ l) a = omega (arith, a.0, last_least x l a.1)

last_under : (m n : ℕ) (l : List ℕ) → n < m → Below m l → last_of n l < m
last_under m n [] h b = h
last_under m n (x ∷ l) h b = last_under m x l b.0 b.1

last_value : (l : List ℕ) → 0 < length l → last_of 0 l ≡ get_or l (length l - 1) 0
last_value l h =
    ap (last_of 0) (sym (take_all (suc (length l - 1)) l (omega arith))) ∙ last_take 0 l (length l - 1) (let k : length l - 1 < length l = omega arith in k)

module _ (p s : ℕ) where
  -- A value that is no larger than a valid one below the mark.
  valid_lower : (x y : ℕ) → x ≤ y → y < mark p s → valid p s y ≡ true → valid p s x ≡ true
  valid_lower x y h g v = small_valid p s x (omega (arith, valid_plain p s y (below_mark p s y g) v))

  by_last : (x : ℕ) (l : List ℕ) → Ascending x l → Below (mark p s) (x ∷ l) → all_valid p s (x ∷ l) ≡ valid p s (last_of x l)
  unfolding all_valid
  by_last x [] a b = and-true (valid p s x)
  by_last x (y ∷ l) a b =
      ap (λ (t : Bool). valid p s x && t) (by_last y l a.1 b.1)
      ∙ absorbed (valid p s x) (valid p s (last_of y l))
      (valid_lower x (last_of y l) (let h : x ≤ last_of y l = omega (arith, a.0, last_least y l a.1) in h) (last_under (mark p s) y l b.1.0 b.1.1))

  pub plain_none : (l : List ℕ) → length l ≡ 0 → true ≡ all_valid p s l
  unfolding all_valid
  plain_none [] e = refl
  plain_none (x ∷ l) e = absurd (let z : ⊥ = omega arith in z)

  pub plain_last : (l : List ℕ) → 0 < length l → ascends l ≡ true → Below (mark p s) l → valid p s (get_or l (length l - 1) 0) ≡ all_valid p s l
  plain_last [] h e b = absurd (let z : ⊥ = omega arith in z)
  plain_last (x ∷ l) h e b = sym (by_last x l (ascending (x ∷ l) e).1 b ∙ ap (valid p s) (last_value (x ∷ l) h))

  -- Of two parts.
  valid_parts : (m : ℕ) (l : List ℕ) → all_valid p s l ≡ (all_valid p s (take m l) && all_valid p s (drop m l))
  valid_parts m l = ap (all_valid p s) (sym (take-append-drop m l)) ∙ all_append p s (take m l) (drop m l)

  pub parts_no : (m : ℕ) (l : List ℕ) → all_valid p s (take m l) ≡ false → false ≡ all_valid p s l
  parts_no m l e = sym (valid_parts m l ∙ ap (λ (t : Bool). t && all_valid p s (drop m l)) e)

  pub parts_yes : (m : ℕ) (l : List ℕ) → all_valid p s (take m l) ≡ true → all_valid p s (drop m l) ≡ all_valid p s l
  parts_yes m l e = sym (valid_parts m l ∙ ap (λ (t : Bool). t && all_valid p s (drop m l)) e)
