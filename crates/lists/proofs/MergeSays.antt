-- Accepted lists and their merge are as document 01 says (specs/MergeSays): the marked values of one index are those of one slot.
use Rattle.std.proofs.Common.{◌≡◌, ℕ, ◌*◌, ◌/◌, ◌≤◌, true, false, List, [], ◌∷◌, sym, ap, ◌∙◌, subst, ⊎_elim, arith}
use mathlib.Core.List.Memᴰ
use mathlib.Core.List.{Memᴰ}
use borrow.Author.Tests.{eqb-false}
use Rattle.lists.specs.Values.{marked, marked_index, valid}
use Rattle.lists.specs.Order.{Ascending}
use Rattle.lists.specs.Lists.{written, slot, same_slot_first, merged, distinct_slots}
use Rattle.lists.specs.MergeSays.{SuchList, AcceptedSentence, InEither, MarkedAt, PlainAt, LargestKept, MergeSays, MergeSentence}
use Rattle.lists.proofs.ValueLaws.{marked_ge}
use Rattle.lists.proofs.DecodingLaws.{accepted}
use Rattle.lists.proofs.OrderLaws.{ascending, ascending_least, least_mem}
use Rattle.lists.proofs.MergeLaws.{mark_groups, marked_group, slot_marked, slot_group, slot_mono, distinct_first, distinct_rest, valid_mem, merged_ascends, merged_distinct, merged_rises, merged_from, merged_has, merged_plain, length_encode}

module _ (p s : ℕ) where
  -- ---- an index is a slot

  index_group : (i v w : ℕ) → MarkedAt p s i v → MarkedAt p s i w → v / 64 ≡ w / 64
  index_group i v w f g = omega (arith, mark_groups p s, marked_ge p s v f.is_marked, marked_ge p s w g.is_marked, f.index, g.index)

  index_slot : (i v w : ℕ) → MarkedAt p s i v → MarkedAt p s i w → slot p s v ≡ slot p s w
  index_slot i v w f g =
      slot_marked p s v f.is_marked ∙ ap (λ (k : ℕ). k * 64) (index_group i v w f g) ∙ sym (slot_marked p s w g.is_marked)

  slot_at : (i v w : ℕ) → slot p s w ≡ slot p s v → MarkedAt p s i v → MarkedAt p s i w
  slot_at i v w e f =
      let g : v / 64 ≡ w / 64 = omega (arith, (slot_group p s v).0, (slot_group p s v).1, (slot_group p s w).0, (slot_group p s w).1) in
      record {
        is_marked = sym (marked_group p s v w g) ∙ f.is_marked;
        index = (let h : marked_index p s w ≡ marked_index p s v = omega (arith, mark_groups p s) in h) ∙ f.index;
      }

  -- ---- a slot has one value

  -- Of a list in order: what differs from its first value's slot differs from each one's.
  slot_once : (x w : ℕ) (l : List ℕ) → Ascending x l → same_slot_first p s x l ≡ false → Memᴰ w l → slot p s x ≡ slot p s w → ⊥
  slot_once x w [] a d m e = Memᴰ.not-nil m
  slot_once x w (y ∷ l) a d m e =
      let up : y ≤ w = least_mem y w (y ∷ l) (let h : y ≤ y = omega arith in h, ascending_least y l a.1) m in
      eqb-false (slot p s x) (slot p s y) d (omega (arith, slot_mono p s x y a.0, slot_mono p s y w up))

  one_value : (n v w : ℕ) (l : List ℕ) → Ascending n l → distinct_slots p s l ≡ true → Memᴰ v l → Memᴰ w l → slot p s v ≡ slot p s w → v ≡ w
  one_value n v w [] a d h k e = absurd (Memᴰ.not-nil h)
  one_value n v w (x ∷ l) a d h k e =
      let apart = distinct_first p s x l d in
      ⊎_elim
      (λ (f : v ≡ x).
      ⊎_elim (λ (g : w ≡ x). f ∙ sym g)
      (λ (g : Memᴰ w l). absurd (slot_once x w l a.1 apart g (ap (slot p s) (sym f) ∙ e))) (Memᴰ.cases_cons k))
      (λ (f : Memᴰ v l).
      ⊎_elim (λ (g : w ≡ x). absurd (slot_once x v l a.1 apart f (ap (slot p s) (sym g) ∙ sym e)))
      (λ (g : Memᴰ w l). one_value x v w l a.1 (distinct_rest p s x l d) f g e) (Memᴰ.cases_cons k)) (Memᴰ.cases_cons h)

  -- ---- the sentence

  module _ (a b : List ℕ) where
    alike : (v w : ℕ) → Memᴰ v (merged p s a b) → Memᴰ w (merged p s a b) → slot p s v ≡ slot p s w → v ≡ w
    alike v w = one_value 0 v w (merged p s a b) (ascending (merged p s a b) (merged_ascends p s a b)) (merged_distinct p s a b)

    largest_kept : (i v : ℕ) → InEither a b v → MarkedAt p s i v → LargestKept p s a b (merged p s a b) i
    largest_kept i v h f =
        let k = merged_has p s a b v h in
        let its : MarkedAt p s i k.value = slot_at i v k.value k.slots f in
        record {
          value = k.value;
          here = k.here;
          of_index = its;
          only = λ (w : ℕ) (m : Memᴰ w (merged p s a b)) (g : MarkedAt p s i w). alike w k.value m k.here (index_slot i w k.value g its);
          most =
              λ (w : ℕ) (m : InEither a b w) (g : MarkedAt p s i w).
              let t = merged_has p s a b w m in
              let same : t.value ≡ k.value = alike t.value k.value t.here k.here (t.slots ∙ index_slot i w k.value g its) in
              omega (arith, t.no_smaller, same, index_group i w k.value g its);
        }

    module _ (left : SuchList p s a) (right : SuchList p s b) where
      valid_in : (v : ℕ) → InEither a b v → valid p s v ≡ true
      valid_in v =
          ⊎_elim (λ (m : Memᴰ v a). valid_mem p s v a left.allowed m) (λ (m : Memᴰ v b). valid_mem p s v b right.allowed m)

      plain_kept : (v : ℕ) → InEither a b v → marked p s v ≡ false → Memᴰ v (merged p s a b)
      plain_kept v h e = merged_plain p s a b v h (valid_in v h) e

      says : (bytes : ℕ) → bytes ≡ written (merged p s a b) → MergeSays p s a b (merged p s a b) bytes
      says bytes e =
          record {
            from = merged_from p s a b;
            strictly = merged_rises p s a b;
            largest_m = largest_kept;
            plain = plain_kept;
            count = e ∙ sym (length_encode (merged p s a b));
            both =
                λ (i v w : ℕ) (h : InEither a b v) (f : PlainAt p s i v) (k : InEither a b w) (g : MarkedAt p s i w).
                (plain_kept v h f.plain, largest_kept i w k g);
          }

pub accepted_are : AcceptedSentence
unfolding AcceptedSentence
accepted_are p s bytes vs rest e = let a = accepted p s bytes e in record { order = a.rises; allowed = a.all }

pub merge_says : MergeSentence
unfolding MergeSentence
merge_says p s a b r out left right post =
    subst (λ (l : List ℕ). MergeSays p s a b l r.bytes) (sym post.values) (says p s a b left right r.bytes post.bytes)
