-- Laws of bytes that are cut off. Every reading is strict: of the bytes that it took it refuses any fewer. So a state whose nested message stands
-- last is refused once its end is missing, or nothing of that message is read.
use Prim.Native.Nat.{ℕ, zero, suc, ◌+◌, ◌-◌, ◌%◌, ◌<◌, ◌≤◌}
use mathlib.Core.Path.{◌≡◌, refl, sym, ap, ◌∙◌, subst}
use mathlib.Core.List.{List, [], ◌∷◌, ◌++◌, append_assoc}
use mathlib.Core.Bool.{Bool, true, false, cond, ◌||◌}
use mathlib.Core.Logic.{⊎_elim}
use native.Mathlib.Omega.{arith}
use lib.Dec.{ltb, eqb}
use lib.ListN.{length, take, drop, length-append, take-append-drop}
use lib.Seq.{take-append-le, take-append-add, length-take-le}
use borrow.Author.Tests.{eqb-true}
use Rattle.wire.specs.Reading.{Read, got, refused, and_then}
use Rattle.wire.specs.Varints.{payload, varint_of, low_bits, varint64}
use Rattle.wire.specs.Fields.{tag, VARINT, I64, LEN, I32, is_tag, tag_of, bytes_of, delimited_of, skip_of, field_of}
use Rattle.wire.specs.State.{State, empty_hll, empty_state, is_number, with_number, number_of, nested_of, other_of, outer_field, read_state}
use Rattle.wire.specs.Layout.{past_field, when_read, is_nested, at_end, nested_last_in, nested_last, CutReading, cut_refused, cut_before_hll}
use Rattle.wire.proofs.BoolLaws.{never, either, whichever}
use Rattle.std.proofs.lemmas.Bool.{cases_lt as side}
use Rattle.wire.proofs.ReadingLaws.{then_same, bytes_cut, bytes_got, skip_number, skip_bytes}
use Rattle.wire.proofs.FieldLaws.{bytes_back, Reads, reads_message, reads_none, reads_field, reads_refused}

-- A prefix of two lists ends inside the first, or holds the first and a prefix of the second.
take_two : (k : ℕ) (v w : List ℕ) → (P : List ℕ → Type 0)
    → (k < length v → P (take k v))
    → ((j : ℕ) → length v + j ≡ k → P (v ++ take j w))
    → P (take k (v ++ w))
take_two k v w P first second =
    ⊎_elim (λ (h : k < length v). subst P (sym (take-append-le k v w (omega arith))) (first h))
    (λ (h : length v ≤ k).
    let e : length v + (k - length v) ≡ k = omega arith in
    subst P (sym (take-append-add v w (k - length v)) ∙ ap (λ (n : ℕ). take n (v ++ w)) e) (second (k - length v) e)) (side k (length v))

-- ---- strict readings

-- `read` takes the bytes w as a: it does so whatever follows them, and fewer of them are cut off.
record Takes {A : Type 0} (read : List ℕ → Read A) (a : A) (w : List ℕ) : Type 0 where
  whole : (l : List ℕ) → read (w ++ l) ≡ got a l
  cut : (k : ℕ) → k < length w → read (take k w) ≡ refused 3

-- What was read of l as a, up to `rest`, was taken so.
record Took {A : Type 0} (read : List ℕ → Read A) (a : A) (l rest : List ℕ) : Type 0 where
  front : List ℕ
  split : l ≡ front ++ rest
  takes : Takes read a front

abbrev Front : {A : Type 0} → (List ℕ → Read A) → List ℕ → Read A → Type 0
Front read l (got a rest) = Took read a l rest
Front read l (refused n) = Unit

-- Whatever is read is taken from the front.
record Strict {A : Type 0} (read : List ℕ → Read A) : Type 0 where
  took : (l : List ℕ) → Front read l (read l)

-- Reading nothing, and no reading at all.
got_strict : {A : Type 0} (a : A) → Strict (λ l. got a l)
got_strict a =
    record {
      took = λ l.
          record { front = []; split = refl; takes = record { whole = λ x. refl; cut = λ k h. absurd (let z : ⊥ = omega arith in z) } };
    }

refused_strict : (A : Type 0) (n : ℕ) → Strict {A = A} (λ l. refused n)
refused_strict A n = record { took = λ l. tt }

-- Whichever of two readings it is.
cond_strict : {A : Type 0} (b : Bool) {f g : List ℕ → Read A} → Strict f → Strict g → Strict (λ l. cond b (f l) (g l))
cond_strict true p q = p
cond_strict false p q = q

-- One reading after the other.
module _ {A B : Type 0} (read : List ℕ → Read A) (next : A → List ℕ → Read B) where
  abbrev chained : List ℕ → Read B
  chained l = and_then (read l) next

  takes_both : {a : A} {b : B} {v w : List ℕ} → Takes read a v → Takes (next a) b w → Takes chained b (v ++ w)
  takes_both {v = v} {w = w} f g =
      record {
        whole = λ l. ap chained (append_assoc v w l) ∙ then_same next (f.whole (w ++ l)) ∙ g.whole l;
        cut = λ k (h : k < length (v ++ w)).
            take_two k v w (λ (x : List ℕ). chained x ≡ refused 3) (λ (i : k < length v). then_same next (f.cut k i))
            (λ (j : ℕ) (e : length v + j ≡ k). then_same next (f.whole (take j w)) ∙ g.cut j (omega (arith, length-append v w)));
      }

  second : (l : List ℕ) (a : A) (rest : List ℕ) → Took read a l rest → (r : Read B) → Front (next a) rest r → Front chained l r
  second l a rest f (got b more) g =
      record {
        front = f.front ++ g.front;
        split = f.split ∙ ap (λ (x : List ℕ). f.front ++ x) g.split ∙ sym (append_assoc f.front g.front more);
        takes = takes_both f.takes g.takes;
      }
  second l a rest f (refused n) g = tt

  first : (l : List ℕ) → ((a : A) → Strict (next a)) → (r : Read A) → Front read l r → Front chained l (and_then r next)
  first l q (got a rest) f = second l a rest f (next a rest) ((q a).took rest)
  first l q (refused n) f = tt

  then_strict : Strict read → ((a : A) → Strict (next a)) → Strict chained
  then_strict p q = record { took = λ l. first l q (read l) (p.took l) }

-- ---- the readings of a state

-- One byte, the last of a varint, and one more in front of the others.
module _ (n b : ℕ) where
  last_took : (l : List ℕ) → ltb b 128 ≡ true → Took (varint_of (suc n)) b (b ∷ l) l
  unfolding varint_of
  last_took l e = record { front = b ∷ []; split = refl; takes = record { whole = λ x. rw e; cut = few } }
    where
      few : (k : ℕ) → k < length (b ∷ []) → varint_of (suc n) (take k (b ∷ [])) ≡ refused 3
      few zero h = refl
      few (suc k) h = absurd (let z : ⊥ = omega arith in z)

  more_took : (l : List ℕ) → ltb b 128 ≡ false → (r : Read ℕ) → Front (varint_of n) l r → Front (varint_of (suc n)) (b ∷ l) (payload (b % 128) r)
  unfolding varint_of
  more_took l e (got v rest) f =
      record {
        front = b ∷ f.front;
        split = ap (λ (x : List ℕ). b ∷ x) f.split;
        takes = record { whole = λ x. rw e (ap (payload (b % 128)) (f.takes.whole x)); cut = few };
      }
    where
      few : (k : ℕ) → k < length (b ∷ f.front) → varint_of (suc n) (take k (b ∷ f.front)) ≡ refused 3
      few zero h = refl
      few (suc k) h = rw e (ap (payload (b % 128)) (f.takes.cut k (omega arith)))
  more_took l e (refused m) f = tt

varint_took : (n : ℕ) (l : List ℕ) → Front (varint_of n) l (varint_of n l)
unfolding varint_of
varint_took zero l = tt
varint_took (suc n) [] = tt
varint_took (suc n) (b ∷ l) =
    either (Front (varint_of (suc n)) (b ∷ l)) (ltb b 128) (got b l) (payload (b % 128) (varint_of n l)) (last_took n b l)
    (λ (e : ltb b 128 ≡ false). more_took n b l e (varint_of n l) (varint_took n l))

low_took : (l : List ℕ) (r : Read ℕ) → Front (varint_of 10) l r → Front varint64 l (low_bits 64 r)
unfolding varint64
low_took l (got v rest) f =
    record {
      front = f.front;
      split = f.split;
      takes = record { whole = λ x. ap (low_bits 64) (f.takes.whole x); cut = λ k h. ap (low_bits 64) (f.takes.cut k h) };
    }
low_took l (refused n) f = tt

varint64_strict : Strict varint64
unfolding varint64
varint64_strict = record { took = λ l. low_took l (varint_of 10 l) (varint_took 10 l) }

tag_strict : Strict tag_of
unfolding tag_of
tag_strict =
    then_strict varint64 (λ t rest. cond (is_tag t) (got t rest) (refused 5)) varint64_strict
    (λ t. cond_strict (is_tag t) (got_strict t) (refused_strict ℕ 5))

bytes_took : (n : ℕ) (l : List ℕ) → n ≤ length l → Took (bytes_of n) (take n l) l (drop n l)
bytes_took n l h =
    let long : length (take n l) ≡ n = length-take-le n l h in
    record {
      front = take n l;
      split = sym (take-append-drop n l);
      takes =
          record {
            whole = λ x. subst (λ (k : ℕ). bytes_of k (take n l ++ x) ≡ got (take n l) x) long (bytes_back (take n l) x);
            cut = λ k (i : k < length (take n l)). bytes_cut n (take k (take n l)) (omega (arith, long, length-take-le k (take n l) (omega arith)));
          };
    }

bytes_strict : (n : ℕ) → Strict (bytes_of n)
bytes_strict n =
    record {
      took = λ l.
          ⊎_elim (λ (h : length l < n). subst (Front (bytes_of n) l) (sym (bytes_cut n l h)) tt)
          (λ (h : n ≤ length l). subst (Front (bytes_of n) l) (sym (bytes_got n l h)) (bytes_took n l h)) (side (length l) n);
    }

delimited_strict : Strict delimited_of
unfolding delimited_of
delimited_strict = then_strict varint64 bytes_of varint64_strict bytes_strict

skip_strict : (t : ℕ) → Strict (skip_of t)
unfolding skip_of
skip_strict t =
    cond_strict (eqb (t % 8) VARINT) (past varint64_strict)
    (cond_strict (eqb (t % 8) I64) (past (bytes_strict 8))
    (cond_strict (eqb (t % 8) LEN) (past delimited_strict) (cond_strict (eqb (t % 8) I32) (past (bytes_strict 4)) (refused_strict (Unit {0}) 6))))
  where
    past : {A : Type 0} {read : List ℕ → Read A} → Strict read → Strict (λ l. and_then (read l) (λ v rest. got (tt {0}) rest))
    past {read = read} p = then_strict read (λ v rest. got tt rest) p (λ v. got_strict tt)

past_strict : Strict past_field
unfolding past_field
past_strict =
    then_strict tag_of (λ t value. and_then (skip_of t value) (λ u rest. got t rest)) tag_strict
    (λ t. then_strict (skip_of t) (λ u rest. got t rest) (skip_strict t) (λ u. got_strict t))

-- ---- the fields of a state

-- What becomes of a state at a field, where past the field there is r: the same refusal, or, if it is not the nested message, the same rest, and
-- the nested message as it was.
abbrev Keeps : State → List ℕ → Read State → Type 0
Keeps st rest r = (next : State) × (r ≡ got next rest) × (next.hll ≡ st.hll)

abbrev Follows : State → Read ℕ → Read State → Type 0
Follows st (got t rest) r = is_nested t ≡ false → Keeps st rest r
Follows st (refused n) r = r ≡ refused n

-- The tag of a number is of wire type 0.
number_wire : (t : ℕ) → is_number t ≡ true → t % 8 ≡ 0
number_wire t e = or (or (or (wire 1) (wire 2)) (wire 3)) (wire 4) e
  where
    wire : (f : ℕ) → eqb t (tag f VARINT) ≡ true → t % 8 ≡ 0
    wire f i = omega (arith, eqb-true t (tag f VARINT) i)

    or : {a b : Bool} → (a ≡ true → t % 8 ≡ 0) → (b ≡ true → t % 8 ≡ 0) → a || b ≡ true → t % 8 ≡ 0
    or {a = true} x y i = x refl
    or {a = false} x y i = y i

number_hll : (t v : ℕ) (st : State) → (with_number t v st).hll ≡ st.hll
number_hll t v st =
    let Same : State → Type 0 = λ x. x.hll ≡ st.hll in
    whichever Same (eqb t (tag 1 VARINT)) _ _ refl (whichever Same (eqb t (tag 2 VARINT)) _ _ refl (whichever Same (eqb t (tag 3 VARINT)) _ _ refl refl))

-- Past a value, and then its tag.
value_past : {A : Type 0} (t : ℕ) (r : Read A) → and_then (and_then r (λ v rest. got (tt {0}) rest)) (λ u rest. got t rest) ≡ and_then r (λ v rest. got t rest)
value_past t (got v rest) = refl
value_past t (refused n) = refl

module _ (t : ℕ) (l : List ℕ) (st : State) where
  abbrev skipped : Read ℕ
  skipped = and_then (skip_of t l) (λ u rest. got t rest)

  -- A value that is read as r, of which `next` makes a state.
  value_follows : {A : Type 0} (r : Read A) (next : A → List ℕ → Read State) → skipped ≡ and_then r (λ v rest. got t rest)
      → ((a : A) (rest : List ℕ) → is_nested t ≡ false → Keeps st rest (next a rest)) → Follows st skipped (and_then r next)
  value_follows {A} r next e f = subst (λ (x : Read ℕ). Follows st x (and_then r next)) (sym e) (go r)
    where
      go : (r : Read A) → Follows st (and_then r (λ v rest. got t rest)) (and_then r next)
      go (got a rest) = f a rest
      go (refused n) = refl

  outer_follows : Follows st skipped (outer_field t l st)
  unfolding outer_field
  outer_follows =
      either (Follows st skipped) (is_number t) (number_of t l st) (cond (is_nested t) (nested_of l st) (other_of t l st))
      (λ (e : is_number t ≡ true).
      value_follows (varint64 l) _ (then_same _ (skip_number t (number_wire t e) l) ∙ value_past t (varint64 l))
      (λ v rest i. (with_number t v st, refl, number_hll t v st)))
      (λ (e : is_number t ≡ false).
      either (Follows st skipped) (is_nested t) (nested_of l st) (other_of t l st)
      (λ (i : is_nested t ≡ true).
      value_follows (delimited_of l) _ (then_same _ (skip_bytes t (omega (arith, eqb-true t (tag 112 LEN) i)) l) ∙ value_past t (delimited_of l))
      (λ m rest j. never (sym j ∙ i)))
      (λ (i : is_nested t ≡ false). value_follows (skip_of t l) _ refl (λ u rest j. (st, refl, refl))))

field_follows : (l : List ℕ) (st : State) → Follows st (past_field l) (field_of outer_field l st)
unfolding past_field
field_follows l st = go (tag_of l)
  where
    go : (r : Read ℕ) → Follows st (and_then r (λ t value. and_then (skip_of t value) (λ u rest. got t rest))) (and_then r (λ t value. outer_field t value st))
    go (got t value) = outer_follows t value st
    go (refused n) = refl

-- ---- the layout

-- Bytes that read as what a state that is cut off may read as, where no field of the nested message was read before.
abbrev CutFrom : List ℕ → Type 0
CutFrom l = (st : State) → st.hll ≡ empty_hll → (r : Read State) × Reads outer_field l st r × CutReading r

-- A field has a byte or more.
field_long : (t : ℕ) (w : List ℕ) → Takes past_field t w → 0 < length w
unfolding past_field tag_of varint64 varint_of
field_long t [] f = absurd (let z : ◌≡◌ {A = ℕ} 0 1 = cc (f.whole []) in let y : ⊥ = omega arith in y)
field_long t (b ∷ w) f = omega arith

-- The bytes w of a field: cut off inside it, and behind it.
module _ (t : ℕ) (w : List ℕ) (f : Takes past_field t w) where
  cut_inside : (k : ℕ) → k < length w → CutFrom (take k w)
  cut_inside zero h = λ st i. (got st [], reads_none outer_field st, cut_before_hll st i)
  cut_inside (suc k) h = λ st i. (
    refused 3,
    reads_refused outer_field (take (suc k) w) st 3 (omega (arith, length-take-le (suc k) w (omega arith)))
        (subst (λ (r : Read ℕ). Follows st r (field_of outer_field (take (suc k) w) st)) (f.cut (suc k) h) (field_follows (take (suc k) w) st)),
    cut_refused,
  )

  cut_behind : is_nested t ≡ false → (l : List ℕ) → CutFrom l → CutFrom (w ++ l)
  cut_behind e l on st i =
      let m = subst (λ (r : Read ℕ). Follows st r (field_of outer_field (w ++ l) st)) (f.whole l) (field_follows (w ++ l) st) e in
      let q = on m.0 (m.2 ∙ i) in
      (q.0, reads_field outer_field (w ++ l) l st m.0 q.0 (omega (arith, length-append w l, field_long t w f)) m.1 q.1, q.2)

at_end_lem : (l : List ℕ) → at_end l ≡ true → length l ≡ 0
at_end_lem [] e = refl
at_end_lem (b ∷ l) e = never e

-- The first field, and behind it nothing if it is the nested message, and else bytes of fewer fields.
module _ (n : ℕ) (on : (l : List ℕ) → nested_last_in n l ≡ true → (k : ℕ) → k < length l → CutFrom (take k l)) (l : List ℕ) (k : ℕ) (h : k < length l) where
  cut_past : (t : ℕ) (rest : List ℕ) (f : Took past_field t l rest) (b : Bool) → is_nested t ≡ b → cond b (at_end rest) (nested_last_in n rest) ≡ true
      → (j : ℕ) → length f.front + j ≡ k → CutFrom (f.front ++ take j rest)
  cut_past t rest f true i e j g = absurd (let z : ⊥ = omega (arith, at_end_lem rest e, ap length f.split, length-append f.front rest) in z)
  cut_past t rest f false i e j g =
      cut_behind t f.front f.takes i (take j rest) (on rest e j (omega (arith, ap length f.split, length-append f.front rest)))

  first_field : (r : Read ℕ) → Front past_field l r → when_read r (λ t rest. cond (is_nested t) (at_end rest) (nested_last_in n rest)) ≡ true → CutFrom (take k l)
  first_field (got t rest) f e =
      subst (λ (x : List ℕ). CutFrom (take k x)) (sym f.split)
      (take_two k f.front rest CutFrom (cut_inside t f.front f.takes k) (cut_past t rest f (is_nested t) refl e))
  first_field (refused m) f e = never e

cut_from : (n : ℕ) (l : List ℕ) → nested_last_in n l ≡ true → (k : ℕ) → k < length l → CutFrom (take k l)
unfolding nested_last_in
cut_from zero l e k h = never e
cut_from (suc n) l e k h = first_field n (cut_from n) l k h (past_field l) (past_strict.took l) e

-- Every proper prefix of bytes in the layout.
pub cut_reading : (bytes : List ℕ) → nested_last bytes ≡ true → (k : ℕ) → k < length bytes → CutReading (read_state (take k bytes))
unfolding nested_last read_state
cut_reading bytes e k h =
    let m = cut_from (length bytes) bytes e k h empty_state refl in
    subst CutReading (sym (reads_message outer_field (take k bytes) empty_state m.0 m.1)) m.2
