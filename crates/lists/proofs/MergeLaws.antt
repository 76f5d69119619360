-- Laws of slots, of the merge, and of the written length. Pure: nothing here knows of the code.
use Rattle.std.proofs.Common.{◌≡◌, ℕ, zero, suc, ◌+◌, ◌-◌, ◌*◌, ◌/◌, ◌%◌, ◌^◌, ◌<◌, ◌≤◌, Bool, true, false, cond, eqb, ◌⊎◌, List, [], ◌∷◌, ◌++◌, length, get_or, sym, refl, ap, ◌∙◌, subst, ap₂, ⊎_elim, true≢false, append_assoc, append-nil, arith, length-append, pow-add, eq-eqb, ne_eqb, eqb-true}
use mathlib.Core.List.Permᴰ
use mathlib.Core.List.{Memᴰ, Permᴰ}
use native.Mathlib.Nat.{div-div-eq-div-mul}
use borrow.Author.Tests.{eqb-false}
use Rattle.wire.proofs.BoolLaws.{both, both_true}
use Rattle.wire.specs.Varints.{varint_bytes}
use Rattle.wire.proofs.VarintLaws.{len_last, len_more, len_pos, len_le}
use Rattle.std.proofs.lemmas.Bool.{cases_lt as side}
use Rattle.lists.proofs.ValueLaws.{decided, plain_end_mark, below_mark, marked_ge, valid_plain}
use Rattle.lists.specs.Values.{mark_bit, mark, marked, valid}
use Rattle.lists.specs.Sorting.{ascends, insert, sort_of}
use Rattle.lists.specs.Order.{Ascending, Rising, last_of}
use Rattle.lists.specs.Lists.{all_valid, encode_from, encode_list, written_from, written, slot, same_slot_first, last_of_slots, merged, distinct_slots}
use Rattle.lists.proofs.DecodingLaws.{all_append}
use Rattle.lists.proofs.OrderLaws.{insert_least, least_below, least_mem, ascending_least, order, ascending, ascends_of, ascending_lower, ascends_sort, put_first, put_later, sort_of_ascends, sort_perm, sort_swap, perm_sort, mem_perm, length_sort}

-- ---- marks

-- How many groups of 64 lie below the mark.
abbrev pub groups : ℕ → ℕ → ℕ
groups p s = 2 ^ (mark_bit p s - 6)

pub mark_groups : (p s : ℕ) → mark p s ≡ 64 * groups p s
unfolding mark
mark_groups p s =
    ap (λ (k : ℕ). 2 ^ k) (let e : mark_bit p s ≡ 6 + (mark_bit p s - 6) = omega arith in e) ∙ pow-add 2 6 (mark_bit p s - 6)

-- The values of one group of 64 are all marked or all plain.
pub marked_group : (p s v w : ℕ) → v / 64 ≡ w / 64 → marked p s v ≡ marked p s w
unfolding marked
marked_group p s v w e =
    ap (λ (k : ℕ). eqb (k % 2) 1)
    (ap (λ (m : ℕ). v / m) (mark_groups p s)
    ∙ sym (div-div-eq-div-mul v 64 (groups p s))
    ∙ ap (λ (k : ℕ). k / groups p s) e
    ∙ div-div-eq-div-mul w 64 (groups p s)
    ∙ ap (λ (m : ℕ). w / m) (sym (mark_groups p s)))

-- A valid value from the mark on is marked.
pub valid_from_mark : (p s v : ℕ) → valid p s v ≡ true → mark p s ≤ v → marked p s v ≡ true
valid_from_mark p s v ok h =
    ⊎_elim (λ (e : marked p s v ≡ true). e)
    (λ (e : marked p s v ≡ false). absurd (let z : ⊥ = omega (arith, valid_plain p s v e ok, plain_end_mark p s) in z))
    (decided (marked p s v))

-- ---- slots

pub slot_plain : (p s v : ℕ) → marked p s v ≡ false → slot p s v ≡ v
unfolding slot
slot_plain p s v e = rw e

pub slot_marked : (p s v : ℕ) → marked p s v ≡ true → slot p s v ≡ v / 64 * 64
unfolding slot
slot_marked p s v e = rw e

-- A slot lies in its value's group of 64.
pub slot_group : (p s v : ℕ) → (v / 64 * 64 ≤ slot p s v) × (slot p s v ≤ v)
slot_group p s v =
    ⊎_elim
    (λ (e : marked p s v ≡ true). let h = slot_marked p s v e in omega arith)
    (λ (e : marked p s v ≡ false). let h = slot_plain p s v e in omega arith) (decided (marked p s v))

-- Marked values of one group have one slot; the next slot is in another group.
pub slot_alike : (p s v w : ℕ) → marked p s v ≡ true → v ≤ w → w < v / 64 * 64 + 64 → slot p s v ≡ slot p s w
slot_alike p s v w e h k =
    let g : v / 64 ≡ w / 64 = omega arith in
    slot_marked p s v e ∙ ap (λ (q : ℕ). q * 64) g ∙ sym (slot_marked p s w (sym (marked_group p s v w g) ∙ e))

pub slot_past : (p s v w : ℕ) → marked p s v ≡ true → v / 64 * 64 + 64 ≤ w → slot p s v ≡ slot p s w → ⊥
slot_past p s v w e h k = let g = (slot_group p s w).0 in let m = slot_marked p s v e in omega arith

-- A value below the mark is a slot of its own.
pub slot_own : (p s v w : ℕ) → v < mark p s → v < w → slot p s v ≡ slot p s w → ⊥
slot_own p s v w h k e =
    ⊎_elim
    (λ (l : w < mark p s). let z : ⊥ = omega (arith, slot_plain p s v (below_mark p s v h), slot_plain p s w (below_mark p s w l)) in z)
    (λ (l : mark p s ≤ w).
    let z : ⊥ = omega (arith, slot_plain p s v (below_mark p s v h), (slot_group p s w).0, mark_groups p s) in z) (side w (mark p s))

pub slot_mono : (p s v w : ℕ) → v ≤ w → slot p s v ≤ slot p s w
slot_mono p s v w h =
    ⊎_elim
    (λ (e : marked p s w ≡ true).
    ⊎_elim (λ (f : marked p s v ≡ true). omega (arith, slot_marked p s v f, slot_marked p s w e))
    (λ (f : marked p s v ≡ false).
    ⊎_elim (λ (l : v / 64 < w / 64). omega (arith, (slot_group p s v).1, (slot_group p s w).0))
    (λ (l : w / 64 ≤ v / 64).
    let g : v / 64 ≡ w / 64 = omega arith in absurd (true≢false (sym e ∙ sym (marked_group p s v w g) ∙ f))) (side (v / 64) (w / 64)))
    (decided (marked p s v)))
    (λ (e : marked p s w ≡ false). omega (arith, (slot_group p s v).1, slot_plain p s w e)) (decided (marked p s w))

-- ---- the last of each slot

module _ (p s x : ℕ) (l : List ℕ) where
  pub last_same : same_slot_first p s x l ≡ true → last_of_slots p s (x ∷ l) ≡ last_of_slots p s l
  unfolding last_of_slots
  last_same e = rw e

  pub last_apart : same_slot_first p s x l ≡ false → last_of_slots p s (x ∷ l) ≡ x ∷ last_of_slots p s l
  unfolding last_of_slots
  last_apart e = rw e

  pub distinct_cons : same_slot_first p s x l ≡ false → distinct_slots p s l ≡ true → distinct_slots p s (x ∷ l) ≡ true
  unfolding distinct_slots
  distinct_cons e d = rw e d

  pub distinct_first : distinct_slots p s (x ∷ l) ≡ true → same_slot_first p s x l ≡ false
  unfolding distinct_slots
  distinct_first d =
      ⊎_elim (λ (e : same_slot_first p s x l ≡ true). absurd (true≢false (sym (rw e at d))))
      (λ (e : same_slot_first p s x l ≡ false). e) (decided (same_slot_first p s x l))

  pub distinct_rest : distinct_slots p s (x ∷ l) ≡ true → distinct_slots p s l ≡ true
  unfolding distinct_slots
  distinct_rest d = let e = distinct_first d in rw e at d

pub distinct_itself : (p s : ℕ) (l : List ℕ) → distinct_slots p s l ≡ true → last_of_slots p s l ≡ l
unfolding last_of_slots
distinct_itself p s [] d = refl
distinct_itself p s (x ∷ l) d =
    last_apart p s x l (distinct_first p s x l d) ∙ ap (λ (t : List ℕ). x ∷ t) (distinct_itself p s l (distinct_rest p s x l d))

same_drop : (p s y : ℕ) (u r : List ℕ) (x v : ℕ) → slot p s x ≡ slot p s v
    → same_slot_first p s y (u ++ x ∷ v ∷ r) ≡ same_slot_first p s y (u ++ v ∷ r)
same_drop p s y [] r x v e = ap (eqb (slot p s y)) e
same_drop p s y (z ∷ u) r x v e = refl

-- A value before one of its own slot is dropped.
pub slot_drop : (p s : ℕ) (u r : List ℕ) (x v : ℕ) → slot p s x ≡ slot p s v → last_of_slots p s (u ++ x ∷ v ∷ r) ≡ last_of_slots p s (u ++ v ∷ r)
unfolding last_of_slots
slot_drop p s [] r x v e = last_same p s x (v ∷ r) (eq-eqb (slot p s x) (slot p s v) e)
slot_drop p s (y ∷ u) r x v e =
    ap₂ (λ (b : Bool) (t : List ℕ). cond b t (y ∷ t)) (same_drop p s y u r x v e) (slot_drop p s u r x v e)

-- One value more, of another slot than the last, and another value in the place of the last.
pub distinct_add : (p s : ℕ) (u : List ℕ) (x v : ℕ) → distinct_slots p s (u ++ x ∷ []) ≡ true → (slot p s x ≡ slot p s v → ⊥)
    → distinct_slots p s ((u ++ x ∷ []) ++ v ∷ []) ≡ true
unfolding distinct_slots
distinct_add p s [] x v d n = distinct_cons p s x (v ∷ []) (ne_eqb (slot p s x) (slot p s v) n) refl
distinct_add p s (y ∷ []) x v d n =
    distinct_cons p s y (x ∷ v ∷ []) (distinct_first p s y (x ∷ []) d) (distinct_add p s [] x v (distinct_rest p s y (x ∷ []) d) n)
distinct_add p s (y ∷ z ∷ u) x v d n =
    distinct_cons p s y (z ∷ ((u ++ x ∷ []) ++ v ∷ [])) (distinct_first p s y (z ∷ (u ++ x ∷ [])) d)
    (distinct_add p s (z ∷ u) x v (distinct_rest p s y (z ∷ (u ++ x ∷ [])) d) n)

pub distinct_one : (p s v : ℕ) → distinct_slots p s (v ∷ []) ≡ true
unfolding distinct_slots
distinct_one p s v = refl

pub distinct_none : (p s : ℕ) → distinct_slots p s [] ≡ true
unfolding distinct_slots
distinct_none p s = refl

pub distinct_over : (p s : ℕ) (u : List ℕ) (x v : ℕ) → slot p s x ≡ slot p s v → distinct_slots p s (u ++ x ∷ []) ≡ true → distinct_slots p s (u ++ v ∷ []) ≡ true
distinct_over p s [] x v e d = distinct_one p s v
distinct_over p s (y ∷ []) x v e d =
    distinct_cons p s y (v ∷ []) (ap (eqb (slot p s y)) (sym e) ∙ distinct_first p s y (x ∷ []) d) (distinct_one p s v)
distinct_over p s (y ∷ z ∷ u) x v e d =
    distinct_cons p s y (z ∷ (u ++ v ∷ [])) (distinct_first p s y (z ∷ (u ++ x ∷ [])) d)
    (distinct_over p s (z ∷ u) x v e (distinct_rest p s y (z ∷ (u ++ x ∷ [])) d))

-- The last of each slot starts with a value of the first one's slot.
pub same_last : (p s y x : ℕ) (l : List ℕ) → same_slot_first p s y (last_of_slots p s (x ∷ l)) ≡ eqb (slot p s y) (slot p s x)
unfolding last_of_slots
same_last p s y x [] = refl
same_last p s y x (z ∷ l) =
    ⊎_elim
    (λ (h : same_slot_first p s x (z ∷ l) ≡ true).
    ap (same_slot_first p s y) (last_same p s x (z ∷ l) h)
    ∙ same_last p s y z l
    ∙ ap (eqb (slot p s y)) (sym (eqb-true (slot p s x) (slot p s z) h)))
    (λ (h : same_slot_first p s x (z ∷ l) ≡ false). ap (same_slot_first p s y) (last_apart p s x (z ∷ l) h))
    (decided (same_slot_first p s x (z ∷ l)))

pub distinct_last : (p s : ℕ) (l : List ℕ) → distinct_slots p s (last_of_slots p s l) ≡ true
unfolding last_of_slots distinct_slots
distinct_last p s [] = refl
distinct_last p s (x ∷ []) = refl
distinct_last p s (x ∷ y ∷ l) =
    ⊎_elim
    (λ (h : same_slot_first p s x (y ∷ l) ≡ true).
    ap (distinct_slots p s) (last_same p s x (y ∷ l) h) ∙ distinct_last p s (y ∷ l))
    (λ (h : same_slot_first p s x (y ∷ l) ≡ false).
    ap (distinct_slots p s) (last_apart p s x (y ∷ l) h)
    ∙ distinct_cons p s x (last_of_slots p s (y ∷ l)) (same_last p s x y l ∙ h) (distinct_last p s (y ∷ l)))
    (decided (same_slot_first p s x (y ∷ l)))

-- What holds of the last of each slot, by whether the first value stays.
module _ (p s x : ℕ) (l : List ℕ) (P : List ℕ → Type 0) where
  last_cases : (same_slot_first p s x l ≡ true → P (last_of_slots p s l)) → (same_slot_first p s x l ≡ false → P (x ∷ last_of_slots p s l)) → P (last_of_slots p s (x ∷ l))
  last_cases f g =
      ⊎_elim (λ (h : same_slot_first p s x l ≡ true). subst P (sym (last_same p s x l h)) (f h))
      (λ (h : same_slot_first p s x l ≡ false). subst P (sym (last_apart p s x l h)) (g h)) (decided (same_slot_first p s x l))

pub ascending_last : (p s n : ℕ) (l : List ℕ) → Ascending n l → Ascending n (last_of_slots p s l)
unfolding last_of_slots
ascending_last p s n [] a = tt
ascending_last p s n (x ∷ l) a =
    last_cases p s x l (Ascending n)
    (λ (h : same_slot_first p s x l ≡ true). ascending_lower n x (last_of_slots p s l) a.0 (ascending_last p s x l a.1))
    (λ (h : same_slot_first p s x l ≡ false). (a.0, ascending_last p s x l a.1))

last_from : (p s v : ℕ) (l : List ℕ) → Memᴰ v (last_of_slots p s l) → Memᴰ v l
unfolding last_of_slots
last_from p s v [] m = m
last_from p s v (x ∷ l) m =
    last_cases p s x l (λ (t : List ℕ). Memᴰ v t → Memᴰ v (x ∷ l))
    (λ (h : same_slot_first p s x l ≡ true) (k : Memᴰ v (last_of_slots p s l)). mathlib.Core.List.Memᴰ.tail (last_from p s v l k))
    (λ (h : same_slot_first p s x l ≡ false) (k : Memᴰ v (x ∷ last_of_slots p s l)).
    ⊎_elim (λ (e : v ≡ x). mathlib.Core.List.Memᴰ.head e) (λ (i : Memᴰ v (last_of_slots p s l)). mathlib.Core.List.Memᴰ.tail (last_from p s v l i))
    (mathlib.Core.List.Memᴰ.cases_cons k)) m

length_last : (p s : ℕ) (l : List ℕ) → length (last_of_slots p s l) ≤ length l
unfolding last_of_slots
length_last p s [] = omega arith
length_last p s (x ∷ l) =
    last_cases p s x l (λ (t : List ℕ). length t ≤ suc (length l))
    (λ (h : same_slot_first p s x l ≡ true). omega (arith, length_last p s l))
    (λ (h : same_slot_first p s x l ≡ false). omega (arith, length_last p s l))

-- A value of a list has one of its slot, no smaller, in another list.
pub record Kept (p s v : ℕ) (l : List ℕ) : Type 0 where
  pub value : ℕ
  pub here : Memᴰ value l
  pub slots : slot p s value ≡ slot p s v
  pub no_smaller : v ≤ value

kept_tail : (p s v x : ℕ) (l : List ℕ) → Kept p s v l → Kept p s v (x ∷ l)
kept_tail p s v x l k = record { value = k.value; here = mathlib.Core.List.Memᴰ.tail k.here; slots = k.slots; no_smaller = k.no_smaller }

kept_as : (p s v w : ℕ) (l : List ℕ) → slot p s w ≡ slot p s v → v ≤ w → Kept p s w l → Kept p s v l
kept_as p s v w l e h k = record { value = k.value; here = k.here; slots = k.slots ∙ e; no_smaller = omega (arith, k.no_smaller) }

last_has : (p s n v : ℕ) (l : List ℕ) → Ascending n l → Memᴰ v l → Kept p s v (last_of_slots p s l)
unfolding last_of_slots
last_has p s n v [] a m = absurd (mathlib.Core.List.Memᴰ.not-nil m)
last_has p s n v (x ∷ []) a m =
    ⊎_elim (λ (e : v ≡ x). record { value = x; here = mathlib.Core.List.Memᴰ.head refl; slots = ap (slot p s) (sym e); no_smaller = omega arith })
    (λ (i : Memᴰ v []). absurd (mathlib.Core.List.Memᴰ.not-nil i)) (mathlib.Core.List.Memᴰ.cases_cons m)
last_has p s n v (x ∷ y ∷ l) a m =
    last_cases p s x (y ∷ l) (Kept p s v)
    (λ (h : same_slot_first p s x (y ∷ l) ≡ true).
    ⊎_elim
    (λ (e : v ≡ x).
    kept_as p s v y (last_of_slots p s (y ∷ l)) (sym (eqb-true (slot p s x) (slot p s y) h) ∙ ap (slot p s) (sym e)) (omega (arith, a.1.0))
    (last_has p s x y (y ∷ l) a.1 (mathlib.Core.List.Memᴰ.head refl)))
    (λ (i : Memᴰ v (y ∷ l)). last_has p s x v (y ∷ l) a.1 i) (mathlib.Core.List.Memᴰ.cases_cons m))
    (λ (h : same_slot_first p s x (y ∷ l) ≡ false).
    ⊎_elim (λ (e : v ≡ x). record { value = x; here = mathlib.Core.List.Memᴰ.head refl; slots = ap (slot p s) (sym e); no_smaller = omega arith })
    (λ (i : Memᴰ v (y ∷ l)). kept_tail p s v x (last_of_slots p s (y ∷ l)) (last_has p s x v (y ∷ l) a.1 i)) (mathlib.Core.List.Memᴰ.cases_cons m))

-- ---- validity, value by value

pub valid_mem : (p s v : ℕ) (l : List ℕ) → all_valid p s l ≡ true → Memᴰ v l → valid p s v ≡ true
unfolding all_valid
valid_mem p s v [] a m = absurd (mathlib.Core.List.Memᴰ.not-nil m)
valid_mem p s v (x ∷ l) a m =
    let b = both_true (valid p s x) (all_valid p s l) a in
    ⊎_elim (λ (e : v ≡ x). ap (valid p s) e ∙ b.0) (λ (i : Memᴰ v l). valid_mem p s v l b.1 i) (mathlib.Core.List.Memᴰ.cases_cons m)

-- Every value of a valid list is valid.
pub valid_at : (p s : ℕ) (l : List ℕ) (i : ℕ) → all_valid p s l ≡ true → i < length l → valid p s (get_or l i 0) ≡ true
unfolding all_valid
valid_at p s [] i e h = absurd (let z : ⊥ = omega arith in z)
valid_at p s (v ∷ l) zero e h = (both_true (valid p s v) (all_valid p s l) e).0
valid_at p s (v ∷ l) (suc i) e h = valid_at p s l i (both_true (valid p s v) (all_valid p s l) e).1 (omega arith)

pub mem_valid : (p s : ℕ) (l : List ℕ) → ((v : ℕ) → Memᴰ v l → valid p s v ≡ true) → all_valid p s l ≡ true
unfolding all_valid
mem_valid p s [] f = refl
mem_valid p s (x ∷ l) f =
    both (f x (mathlib.Core.List.Memᴰ.head refl)) (mem_valid p s l (λ (v : ℕ) (m : Memᴰ v l). f v (mathlib.Core.List.Memᴰ.tail m)))

pub none_valid : (p s : ℕ) → all_valid p s [] ≡ true
unfolding all_valid
none_valid p s = refl

pub valid_append : (p s : ℕ) (a b : List ℕ) → all_valid p s a ≡ true → all_valid p s b ≡ true → all_valid p s (a ++ b) ≡ true
valid_append p s a b f g = all_append p s a b ∙ both f g

-- Whether values are valid does not depend on their order.
pub valid_perm : (p s : ℕ) {a b : List ℕ} → Permᴰ a b → all_valid p s b ≡ true → all_valid p s a ≡ true
valid_perm p s {a} {b} d f = mem_valid p s a (λ (v : ℕ) (m : Memᴰ v a). valid_mem p s v b f (mem_perm d m))

pub valid_sort : (p s : ℕ) (l : List ℕ) → all_valid p s l ≡ true → all_valid p s (sort_of l) ≡ true
valid_sort p s l f = valid_perm p s (perm_sort l) f

-- ---- the merge

rising_of : (p s n : ℕ) (l : List ℕ) → Ascending n l → distinct_slots p s l ≡ true → Rising n l
rising_of p s n [] a d = tt
rising_of p s n (x ∷ []) a d = (a.0, tt)
rising_of p s n (x ∷ y ∷ l) a d =
    let apart : x ≡ y → ⊥ = λ (e : x ≡ y). eqb-false (slot p s x) (slot p s y) (distinct_first p s x (y ∷ l) d) (ap (slot p s) e) in
    let h : suc x ≤ y = ⊎_elim (λ (k : x < y). k) (λ (k : y ≤ x). absurd (apart (omega (arith, a.1.0)))) (side x y) in
    (a.0, rising_of p s (suc x) (y ∷ l) (h, a.1.1) (distinct_rest p s x (y ∷ l) d))

module _ (p s : ℕ) (a b : List ℕ) where
  pub merged_ascends : ascends (merged p s a b) ≡ true
  unfolding merged
  merged_ascends =
      ascends_of (last_of_slots p s (sort_of (a ++ b)))
      (ascending_last p s 0 (sort_of (a ++ b)) (ascending (sort_of (a ++ b)) (ascends_sort (a ++ b))))

  pub merged_distinct : distinct_slots p s (merged p s a b) ≡ true
  unfolding merged
  merged_distinct = distinct_last p s (sort_of (a ++ b))

  pub merged_rises : Rising 0 (merged p s a b)
  merged_rises = rising_of p s 0 (merged p s a b) (ascending (merged p s a b) merged_ascends) merged_distinct

  pub merged_from : (v : ℕ) → Memᴰ v (merged p s a b) → Memᴰ v a ⊎ Memᴰ v b
  unfolding merged
  merged_from v m = mathlib.Core.List.Memᴰ.append_cases a (mem_perm (perm_sort (a ++ b)) (last_from p s v (sort_of (a ++ b)) m))

  pub merged_valid : all_valid p s a ≡ true → all_valid p s b ≡ true → all_valid p s (merged p s a b) ≡ true
  merged_valid f g =
      mem_valid p s (merged p s a b)
      (λ (v : ℕ) (m : Memᴰ v (merged p s a b)).
      ⊎_elim (λ (i : Memᴰ v a). valid_mem p s v a f i) (λ (i : Memᴰ v b). valid_mem p s v b g i) (merged_from v m))

  -- The largest m of each index is kept.
  pub merged_has : (v : ℕ) → Memᴰ v a ⊎ Memᴰ v b → Kept p s v (merged p s a b)
  unfolding merged Permᴰ.symm
  merged_has v w =
      last_has p s 0 v (sort_of (a ++ b)) (ascending (sort_of (a ++ b)) (ascends_sort (a ++ b)))
      (mem_perm (Permᴰ.symm (perm_sort (a ++ b)))
      (⊎_elim (λ (i : Memᴰ v a). mathlib.Core.List.Memᴰ.append_left b i) (λ (i : Memᴰ v b). mathlib.Core.List.Memᴰ.append_right a i) w))

  -- Every plain value is kept.
  pub merged_plain : (v : ℕ) → Memᴰ v a ⊎ Memᴰ v b → valid p s v ≡ true → marked p s v ≡ false → Memᴰ v (merged p s a b)
  merged_plain v w ok e =
      let k = merged_has v w in
      let x = k.value in
      let same : slot p s x ≡ v = k.slots ∙ slot_plain p s v e in
      mathlib.Core.List.Memᴰ.cast
      (⊎_elim
      (λ (f : marked p s x ≡ true).
      absurd (let z : ⊥ = omega (arith, same, valid_plain p s v e ok, plain_end_mark p s, marked_ge p s x f, (slot_group p s x).0, mark_groups p s) in z))
      (λ (f : marked p s x ≡ false). sym same ∙ slot_plain p s x f) (decided (marked p s x)))
      k.here

  pub merged_perm : (c d : List ℕ) → Permᴰ (a ++ b) (c ++ d) → merged p s a b ≡ merged p s c d
  unfolding merged
  merged_perm c d e = ap (last_of_slots p s) (sort_perm e)

  pub length_merged : length (merged p s a b) ≤ length a + length b
  unfolding merged
  length_merged = omega (arith, length_last p s (sort_of (a ++ b)), length_sort (a ++ b), length-append a b)

-- A list that is merged already stays as it is.
pub merged_nothing : (p s : ℕ) (a : List ℕ) → ascends a ≡ true → distinct_slots p s a ≡ true → merged p s a [] ≡ a
unfolding merged
merged_nothing p s a o d =
    ap (λ (t : List ℕ). last_of_slots p s (sort_of t)) (append-nil a) ∙ ap (last_of_slots p s) (sort_of_ascends a o) ∙ distinct_itself p s a d

-- ---- merging again

-- A value between two of one slot is of that slot.
slot_within : (p s x f y : ℕ) → x ≤ f → f ≤ y → slot p s x ≡ slot p s y → slot p s x ≡ slot p s f
slot_within p s x f y h k e = omega (arith, slot_mono p s x f h, slot_mono p s f y k)

-- What a list starts with after an insertion.
first_insert : (p s z x f : ℕ) (l : List ℕ) → (x ≤ f → slot p s x ≡ slot p s f) → same_slot_first p s z (insert x (f ∷ l)) ≡ eqb (slot p s z) (slot p s f)
first_insert p s z x f l w =
    ⊎_elim (λ (h : x ≤ f). ap (same_slot_first p s z) (put_first x f l h) ∙ ap (eqb (slot p s z)) (w h))
    (λ (h : f < x). ap (same_slot_first p s z) (put_later x f l h)) (order x f)

first_later : (p s z x f : ℕ) (l : List ℕ) → same_slot_first p s f l ≡ true → f < x → same_slot_first p s z (insert x l) ≡ eqb (slot p s z) (slot p s f)
first_later p s z x f [] m h = absurd (true≢false (sym m))
first_later p s z x f (g ∷ l) m h =
    let e : slot p s f ≡ slot p s g = eqb-true (slot p s f) (slot p s g) m in
    first_insert p s z x g l (λ (k : x ≤ g). sym (slot_within p s f x g (let j : f ≤ x = omega arith in j) k e) ∙ e)
    ∙ ap (eqb (slot p s z)) (sym e)

-- An insertion sees only the last of each slot.
last_insert : (p s n x : ℕ) (l : List ℕ) → Ascending n l → last_of_slots p s (insert x l) ≡ last_of_slots p s (insert x (last_of_slots p s l))
unfolding last_of_slots
last_insert p s n x [] a = refl
last_insert p s n x (z ∷ []) a = refl
last_insert p s n x (z ∷ f ∷ l) a = ⊎_elim (λ (h : x ≤ z). front h) (λ (h : z < x). behind (last_insert p s z x (f ∷ l) a.1) h) (order x z)
  where
    least : (y : ℕ) (m : List ℕ) → x ≤ y → Ascending y m → insert x (last_of_slots p s m) ≡ x ∷ last_of_slots p s m
    least y m h b =
        insert_least x (last_of_slots p s m)
        (least_below x y (last_of_slots p s m) h (ascending_least y (last_of_slots p s m) (ascending_last p s y m b)))

    front : x ≤ z → last_of_slots p s (insert x (z ∷ f ∷ l)) ≡ last_of_slots p s (insert x (last_of_slots p s (z ∷ f ∷ l)))
    front h =
        ap (last_of_slots p s) (put_first x z (f ∷ l) h)
        ∙ sym
        (ap (last_of_slots p s) (least z (z ∷ f ∷ l) h (let j : z ≤ z = omega arith in j, a.1))
        ∙ ap₂ (λ (b : Bool) (t : List ℕ). cond b t (x ∷ t)) (same_last p s x z (f ∷ l))
        (distinct_itself p s (last_of_slots p s (z ∷ f ∷ l)) (distinct_last p s (z ∷ f ∷ l))))

    heads : z < x → same_slot_first p s z (insert x (f ∷ l)) ≡ same_slot_first p s z (insert x (last_of_slots p s (f ∷ l)))
    heads h =
        ⊎_elim
        (λ (k : x ≤ f).
        ap (same_slot_first p s z) (put_first x f l k)
        ∙ sym (ap (same_slot_first p s z) (least f (f ∷ l) k (let j : f ≤ f = omega arith in j, a.1.1))))
        (λ (k : f < x).
        ap (same_slot_first p s z) (put_later x f l k)
        ∙ sym (first_later p s z x f (last_of_slots p s (f ∷ l)) (same_last p s f f l ∙ eq-eqb (slot p s f) (slot p s f) refl) k)) (order x f)

    behind : last_of_slots p s (insert x (f ∷ l)) ≡ last_of_slots p s (insert x (last_of_slots p s (f ∷ l))) → z < x
        → last_of_slots p s (insert x (z ∷ f ∷ l)) ≡ last_of_slots p s (insert x (last_of_slots p s (z ∷ f ∷ l)))
    behind ih h =
        ⊎_elim
        (λ (k : same_slot_first p s z (f ∷ l) ≡ true).
        let e : slot p s z ≡ slot p s f = eqb-true (slot p s z) (slot p s f) k in
        ap (last_of_slots p s) (put_later x z (f ∷ l) h)
        ∙ last_same p s z (insert x (f ∷ l))
        (first_insert p s z x f l (λ (j : x ≤ f). sym (slot_within p s z x f (let i : z ≤ x = omega arith in i) j e) ∙ e) ∙ k)
        ∙ ih
        ∙ sym (ap (λ (t : List ℕ). last_of_slots p s (insert x t)) (last_same p s z (f ∷ l) k)))
        (λ (k : same_slot_first p s z (f ∷ l) ≡ false).
        ap (last_of_slots p s) (put_later x z (f ∷ l) h)
        ∙ ap₂ (λ (b : Bool) (t : List ℕ). cond b t (z ∷ t)) (heads h) ih
        ∙ sym
        (ap (λ (t : List ℕ). last_of_slots p s (insert x t)) (last_apart p s z (f ∷ l) k)
        ∙ ap (last_of_slots p s) (put_later x z (last_of_slots p s (f ∷ l)) h))) (decided (same_slot_first p s z (f ∷ l)))

-- A value changes nothing beside one of its slot that is no smaller.
drop_insert : (p s n x y : ℕ) (l : List ℕ) → Ascending n l → Memᴰ y l → x ≤ y → slot p s x ≡ slot p s y
    → last_of_slots p s (insert x l) ≡ last_of_slots p s l
unfolding last_of_slots
drop_insert p s n x y [] a m h e = absurd (mathlib.Core.List.Memᴰ.not-nil m)
drop_insert p s n x y (z ∷ []) a m h e =
    let k : y ≡ z = ⊎_elim (λ (i : y ≡ z). i) (λ (i : Memᴰ y []). absurd (mathlib.Core.List.Memᴰ.not-nil i)) (mathlib.Core.List.Memᴰ.cases_cons m) in
    ap (last_of_slots p s) (put_first x z [] (let j : x ≤ z = omega arith in j)) ∙ slot_drop p s [] [] x z (e ∙ ap (slot p s) k)
drop_insert p s n x y (z ∷ f ∷ l) a m h e =
    ⊎_elim
    (λ (g : x ≤ z).
    ap (last_of_slots p s) (put_first x z (f ∷ l) g)
    ∙ slot_drop p s [] (f ∷ l) x z
    (slot_within p s x z y g (least_mem z y (z ∷ f ∷ l) (let j : z ≤ z = omega arith in j, ascending_least z (f ∷ l) a.1) m) e))
    (λ (g : z < x).
    let k : Memᴰ y (f ∷ l) =
    ⊎_elim (λ (i : y ≡ z). absurd (let o : ⊥ = omega arith in o)) (λ (i : Memᴰ y (f ∷ l)). i) (mathlib.Core.List.Memᴰ.cases_cons m) in
    let up : f ≤ y = least_mem f y (f ∷ l) (let j : f ≤ f = omega arith in j, ascending_least f l a.1.1) k in
    ap (last_of_slots p s) (put_later x z (f ∷ l) g)
    ∙ ap₂ (λ (b : Bool) (t : List ℕ). cond b t (z ∷ t)) (first_insert p s z x f l (λ (j : x ≤ f). slot_within p s x f y j up e))
    (drop_insert p s z x y (f ∷ l) a.1 k h e)) (order x z)

last_again : (p s n : ℕ) (l c : List ℕ) → Ascending n l → last_of_slots p s (sort_of (last_of_slots p s l ++ c)) ≡ last_of_slots p s (sort_of (l ++ c))
unfolding last_of_slots sort_of Permᴰ.symm
last_again p s n [] c a = refl
last_again p s n (x ∷ []) c a = refl
last_again p s n (x ∷ y ∷ l) c a =
    let ih = last_again p s x (y ∷ l) c a.1 in
    ⊎_elim
    (λ (h : same_slot_first p s x (y ∷ l) ≡ true).
    ap (λ (t : List ℕ). last_of_slots p s (sort_of (t ++ c))) (last_same p s x (y ∷ l) h)
    ∙ ih
    ∙ sym
    (drop_insert p s 0 x y (sort_of ((y ∷ l) ++ c)) (ascending (sort_of ((y ∷ l) ++ c)) (ascends_sort ((y ∷ l) ++ c)))
    (mem_perm (Permᴰ.symm (perm_sort ((y ∷ l) ++ c))) (mathlib.Core.List.Memᴰ.head refl)) a.1.0 (eqb-true (slot p s x) (slot p s y) h)))
    (λ (h : same_slot_first p s x (y ∷ l) ≡ false).
    let u = last_of_slots p s (y ∷ l) ++ c in
    ap (λ (t : List ℕ). last_of_slots p s (sort_of (t ++ c))) (last_apart p s x (y ∷ l) h)
    ∙ last_insert p s 0 x (sort_of u) (ascending (sort_of u) (ascends_sort u))
    ∙ ap (λ (t : List ℕ). last_of_slots p s (insert x t)) ih
    ∙ sym (last_insert p s 0 x (sort_of ((y ∷ l) ++ c)) (ascending (sort_of ((y ∷ l) ++ c)) (ascends_sort ((y ∷ l) ++ c)))))
    (decided (same_slot_first p s x (y ∷ l)))

-- What is merged first may as well be merged later.
pub merged_again : (p s : ℕ) (a b c : List ℕ) → merged p s (merged p s a b) c ≡ merged p s a (b ++ c)
unfolding merged
merged_again p s a b c =
    last_again p s 0 (sort_of (a ++ b)) c (ascending (sort_of (a ++ b)) (ascends_sort (a ++ b)))
    ∙ ap (last_of_slots p s) (sort_perm (Permᴰ.append_right c (perm_sort (a ++ b))) ∙ ap sort_of (append_assoc a b c))

-- ---- the written length

-- How many bytes a gap takes.
abbrev pub gap_bytes : ℕ → ℕ
gap_bytes d = length (varint_bytes 5 d)

len_mono : (n v w : ℕ) → v ≤ w → length (varint_bytes n v) ≤ length (varint_bytes n w)
len_mono zero v w h = omega (arith, len_le 0 v)
len_mono (suc n) v w h =
    ⊎_elim (λ (k : v < 128). omega (arith, len_last n v k, len_pos n w))
    (λ (k : 128 ≤ v).
    omega (arith, len_more n v k, len_more n w (let j : 128 ≤ w = omega arith in j), len_mono n (v / 128) (w / 128) (let j : v / 128 ≤ w / 128 = omega arith in j)))
    (side v 128)

-- Twice a number takes at most a byte more.
len_double : (n x : ℕ) → length (varint_bytes n (2 * x + 1)) ≤ length (varint_bytes n x) + 1
len_double zero x = omega (arith, len_le 0 (2 * x + 1))
len_double (suc n) x =
    ⊎_elim (λ (k : 2 * x + 1 < 128). omega (arith, len_last n (2 * x + 1) k))
    (λ (k : 128 ≤ 2 * x + 1).
    ⊎_elim
    (λ (j : x < 128).
    let one : length (varint_bytes n ((2 * x + 1) / 128)) ≤ 1 = small n ((2 * x + 1) / 128) (omega arith) in
    omega (arith, len_more n (2 * x + 1) k, len_last n x j, one))
    (λ (j : 128 ≤ x).
    let less = len_mono n ((2 * x + 1) / 128) (2 * (x / 128) + 1) (let i : (2 * x + 1) / 128 ≤ 2 * (x / 128) + 1 = omega arith in i) in
    omega (arith, len_more n (2 * x + 1) k, len_more n x j, less, len_double n (x / 128))) (side x 128)) (side (2 * x + 1) 128)
  where
    small : (m v : ℕ) → v < 128 → length (varint_bytes m v) ≤ 1
    small zero v h = omega (arith, len_le 0 v)
    small (suc m) v h = omega (arith, len_last m v h)

-- A gap takes no more bytes than the two that it is split into.
pub gap_sum : (x y : ℕ) → gap_bytes (x + y) ≤ gap_bytes x + gap_bytes y
gap_sum x y =
    ⊎_elim
    (λ (h : x < y).
    omega (arith, len_mono 5 (x + y) (2 * y + 1) (let k : x + y ≤ 2 * y + 1 = omega arith in k), len_double 5 y, len_pos 4 x))
    (λ (h : y ≤ x).
    omega (arith, len_mono 5 (x + y) (2 * x + 1) (let k : x + y ≤ 2 * x + 1 = omega arith in k), len_double 5 x, len_pos 4 y)) (side x y)

written_append_from : (n : ℕ) (a b : List ℕ) → written_from n (a ++ b) ≡ written_from n a + written_from (last_of n a) b
unfolding written_from
written_append_from n [] b = omega arith
written_append_from n (x ∷ a) b = omega (arith, written_append_from x a b)

pub written_append : (a b : List ℕ) → written (a ++ b) ≡ written a + written_from (last_of 0 a) b
unfolding written
written_append a b = written_append_from 0 a b

-- The definitions, step by step.
pub written_none : written [] ≡ 0
unfolding written written_from
written_none = refl

pub written_all : (l : List ℕ) → written l ≡ written_from 0 l
unfolding written
written_all l = refl

pub written_nil : (n : ℕ) → written_from n [] ≡ 0
unfolding written_from
written_nil n = refl

pub written_more : (n v : ℕ) (l : List ℕ) → written_from n (v ∷ l) ≡ length (varint_bytes 5 (v - n)) + written_from v l
unfolding written_from
written_more n v l = refl

pub encode_all : (l : List ℕ) → encode_list l ≡ encode_from 0 l
unfolding encode_list
encode_all l = refl

pub encode_nil : (n : ℕ) → encode_from n [] ≡ []
unfolding encode_from
encode_nil n = refl

pub encode_more : (n v : ℕ) (l : List ℕ) → encode_from n (v ∷ l) ≡ varint_bytes 5 (v - n) ++ encode_from v l
unfolding encode_from
encode_more n v l = refl

pub length_encode_from : (n : ℕ) (l : List ℕ) → length (encode_from n l) ≡ written_from n l
unfolding encode_from written_from
length_encode_from n [] = refl
length_encode_from n (x ∷ l) =
    length-append (varint_bytes 5 (x - n)) (encode_from x l) ∙ ap (λ (k : ℕ). gap_bytes (x - n) + k) (length_encode_from x l)

pub length_encode : (l : List ℕ) → length (encode_list l) ≡ written l
unfolding encode_list written
length_encode l = length_encode_from 0 l

-- Dropping a value does not lengthen, and inserting one adds at most five bytes.
written_drop : (n x : ℕ) (l : List ℕ) → n ≤ x → Ascending x l → written_from n l ≤ written_from n (x ∷ l)
unfolding written_from
written_drop n x [] h a = omega arith
written_drop n x (y ∷ l) h a =
    let g : gap_bytes (y - n) ≤ gap_bytes (x - n) + gap_bytes (y - x) =
    subst (λ (d : ℕ). gap_bytes d ≤ gap_bytes (x - n) + gap_bytes (y - x)) (let e : (x - n) + (y - x) ≡ y - n = omega (arith, a.0) in e) (gap_sum (x - n) (y - x)) in
    omega (arith, g)

written_last : (p s n : ℕ) (l : List ℕ) → Ascending n l → written_from n (last_of_slots p s l) ≤ written_from n l
unfolding last_of_slots written_from
written_last p s n [] a = omega arith
written_last p s n (x ∷ l) a =
    last_cases p s x l (λ (t : List ℕ). written_from n t ≤ written_from n (x ∷ l))
    (λ (h : same_slot_first p s x l ≡ true).
    omega (arith, written_last p s n l (ascending_lower n x l a.0 a.1), written_drop n x l a.0 a.1))
    (λ (h : same_slot_first p s x l ≡ false). omega (arith, written_last p s x l a.1))

written_insert : (n x : ℕ) (l : List ℕ) → n ≤ x → Ascending n l → written_from n (insert x l) ≤ written_from n l + 5
unfolding insert written_from
written_insert n x [] h a = omega (arith, len_le 5 (x - n))
written_insert n x (y ∷ l) h a =
    ⊎_elim
    (λ (k : x ≤ y).
    subst (λ (t : List ℕ). written_from n t ≤ written_from n (y ∷ l) + 5) (sym (put_first x y l k))
    (let g : gap_bytes (x - n) + (gap_bytes (y - x) + written_from y l) ≤ gap_bytes (y - n) + written_from y l + 5 =
    omega (arith, len_le 5 (x - n), len_mono 5 (y - x) (y - n) (let j : y - x ≤ y - n = omega arith in j)) in g))
    (λ (k : y < x).
    subst (λ (t : List ℕ). written_from n t ≤ written_from n (y ∷ l) + 5) (sym (put_later x y l k))
    (let g : gap_bytes (y - n) + written_from y (insert x l) ≤ gap_bytes (y - n) + written_from y l + 5 =
    omega (arith, written_insert y x l (let j : y ≤ x = omega arith in j) a.1) in g)) (order x y)

written_sort : (a b : List ℕ) → ascends a ≡ true → written (sort_of (b ++ a)) ≤ written a + 5 * length b
unfolding sort_of written
written_sort a [] o = omega (arith, ap written (sort_of_ascends a o))
written_sort a (x ∷ b) o =
    omega (arith, written_sort a b o, written_insert 0 x (sort_of (b ++ a)) (omega arith) (ascending (sort_of (b ++ a)) (ascends_sort (b ++ a))))

pub written_merged : (p s : ℕ) (a b : List ℕ) → ascends a ≡ true → written (merged p s a b) ≤ written a + 5 * length b
unfolding merged written
written_merged p s a b o =
    omega (
      arith,
      written_last p s 0 (sort_of (a ++ b)) (ascending (sort_of (a ++ b)) (ascends_sort (a ++ b))),
      ap written (sort_swap a b),
      written_sort a b o,
    )
