-- Laws of reading a state: the value of each field, the tag that decides on it, and one field after the other.
use Prim.Native.Nat.{ℕ, ◌+◌, ◌-◌, ◌%◌, ◌^◌, ◌<◌, ◌≤◌}
use mathlib.Core.Path.{◌≡◌, refl, sym, ap, ◌∙◌, subst}
use mathlib.Core.List.{List}
use mathlib.Core.Option.{some}
use native.Mathlib.Omega.{arith}
use native.Mathlib.Nat.{add_assoc}
use lib.ListN.{length, get_or, take, drop, length-drop}
use lib.Seq.{length-take-le, get_or-take, get_or-drop, ext_get_or}
use borrow.Author.Tests.{ne_eqb}
use Rattle.std.specs.Prelude.{Result, Ok, Err}
use Rattle.std.specs.Result.{IsErrAnd}
use Rattle.wire.specs.declared.read_error.ReadError.{ReadError}
use Rattle.wire.specs.declared.varint.Cursor.{Cursor}
use Rattle.wire.specs.declared.fields.Part.{Part}
use Rattle.wire.specs.declared.state.HllFields.{HllFields}
use Rattle.wire.specs.declared.state.Fields.{Fields}
use Rattle.wire.specs.Reading.{Read, got, refused, and_then, read_error_number, ReadPost}
use Rattle.wire.specs.Varints.{varint64, VarintPost, Varint32Post}
use Rattle.wire.specs.Fields.{delimited_of, skip_of, field_of, TagPost, DelimitedPost, SkipPost}
use Rattle.wire.specs.State.{HllState, State, empty_state, hll_of, state_of, hll_field, read_hll, with_hll, outer_field, read_state, HllInside, Within, HllStepPost, HllPost, StepPost, ParsePost}
use Rattle.wire.proofs.ReadingLaws.{then_same, same_error, failed, varint32_then, varint32_stopped, Going, going_start, going_next, going_refused, going_end}

-- ---- a part of a part

-- What stands in a nested message stands in the state, further on.
part_within : (s : List ℕ) (base : ℕ) (m : List ℕ) → Within s base m → (start n : ℕ) → start + n ≤ length m
    → take n (drop (base + start) s) ≡ take n (drop start m)
part_within s base m w start n k =
    ext_get_or 0 (take n (drop (base + start) s)) (take n (drop start m))
    (outer_length ∙ sym inner_length)
    (λ i (l : i < length (take n (drop (base + start) s))).
    let l' : i < n = omega (arith, outer_length) in
    get_or-take n (drop (base + start) s) i 0 l'
    ∙ get_or-drop (base + start) s i 0
    ∙ ap (λ (j : ℕ). get_or s j 0) (add_assoc base start i)
    ∙ sym (get_or-drop base s (start + i) 0)
    ∙ sym (get_or-take (length m) (drop base s) (start + i) 0 (omega arith))
    ∙ sym (ap (λ (l : List ℕ). get_or l (start + i) 0) w.same)
    ∙ sym (get_or-drop start m i 0)
    ∙ sym (get_or-take n (drop start m) i 0 l'))
  where
    outer_length : length (take n (drop (base + start) s)) ≡ n
    outer_length = length-take-le n (drop (base + start) s) (omega (arith, length-drop (base + start) s, w.room))

    inner_length : length (take n (drop start m)) ≡ n
    inner_length = length-take-le n (drop start m) (omega (arith, length-drop start m))

-- ---- a field, from its value on

module _
    {A C : Type 0}
    (field : ℕ → List ℕ → A → Read A)
    (says : C → A)
    (a : A)
    {s : List ℕ}
    {at t : ℕ}
    {c : Cursor}
    (p : TagPost s at (Ok (t, c)))
    {n : ℕ}
    {reading : List ℕ → Read A}
    (is : (l : List ℕ) → field t l a ≡ reading l)
  where
    field_read : (r : Result (C × Cursor) ReadError) → ReadPost says n s c.at reading r → ReadPost says 1 s at (λ l. field_of field l a) r
    field_read (Ok x) q =
        record {
          answer = q.answer ∙ sym (is (drop c.at s)) ∙ then_same (λ t rest. field t rest a) p.answer;
          inside = (omega (arith, p.inside.0, q.inside.0), q.inside.1);
        }
    field_read (Err y) q = record { answer = q.answer ∙ sym (is (drop c.at s)) ∙ then_same (λ t rest. field t rest a) p.answer; inside = tt }

-- A number of 32 bits, of 64 bits, and bytes, as what they are made.
number32 : {A C : Type 0} {says : C → A} {s : List ℕ} {at v : ℕ} {c : Cursor} {x : C} → Varint32Post s at (Ok (v, c)) → (becomes : ℕ → A)
    → says x ≡ becomes v
    → ReadPost says 1 s at (λ l. and_then (varint64 l) (λ y rest. got (becomes (y % 2 ^ 32)) rest)) (Ok (x, c))
number32 {s = s} {c = c} p becomes e =
    record { answer = ap (λ a. got a (drop c.at s)) e ∙ varint32_then p (λ y rest. got (becomes y) rest); inside = p.inside }

read_then : {A B C D : Type 0} {from : D → B} {says : C → A} {n : ℕ} {s : List ℕ} {at : ℕ} {reading : List ℕ → Read B} {y : D} {c : Cursor} {x : C}
    → ReadPost from n s at reading (Ok (y, c)) → (becomes : B → A)
    → says x ≡ becomes (from y)
    → ReadPost says n s at (λ l. and_then (reading l) (λ b rest. got (becomes b) rest)) (Ok (x, c))
read_then {s = s} {c = c} p becomes e =
    record { answer = ap (λ a. got a (drop c.at s)) e ∙ then_same _ p.answer; inside = p.inside }

skip_then : {A C : Type 0} {says : C → A} {s : List ℕ} {at t : ℕ} {c : Cursor} {x : C} → SkipPost s t at (Ok c)
    → ReadPost says 0 s at (λ l. and_then (skip_of t l) (λ u rest. got (says x) rest)) (Ok (x, c))
skip_then p = record { answer = then_same _ p.answer; inside = (omega (arith, p.inside.0), p.inside.1) }

skip_stopped : {A C : Type 0} {says : C → A} {s : List ℕ} {at t : ℕ} {e : ReadError} (a : A) → SkipPost s t at (Err e) → (r : Result (C × Cursor) ReadError)
    → IsErrAnd r (λ y. y ≡ e)
    → ReadPost says 0 s at (λ l. and_then (skip_of t l) (λ u rest. got a rest)) r
skip_stopped a p (Ok x) h = absurd h
skip_stopped a p (Err y) h = record { answer = ap (λ z. refused (read_error_number z)) h ∙ then_same _ p.answer; inside = tt }

-- ---- a nested field: its tag decides

-- What a field of each tag is.
pub record HllNumber (t : ℕ) (becomes : ℕ → HllState → HllState) : Type 0 where
  pub is : (l : List ℕ) (a : HllState) → hll_field t l a ≡ and_then (varint64 l) (λ x rest. got (becomes (x % 2 ^ 32) a) rest)

pub record HllBytes (t : ℕ) (becomes : List ℕ → HllState → HllState) : Type 0 where
  pub is : (l : List ℕ) (a : HllState) → hll_field t l a ≡ and_then (delimited_of l) (λ d rest. got (becomes d a) rest)

pub sparse_size_is : (t : ℕ) → t ≡ 16 → HllNumber t (λ v a. record a { sparse_size = v })
unfolding hll_field
sparse_size_is t e = record { is = λ l a. rw e }

pub precision_is : (t : ℕ) → t ≡ 24 → HllNumber t (λ v a. record a { precision = v })
unfolding hll_field
precision_is t e = record { is = λ l a. rw e }

pub sparse_precision_is : (t : ℕ) → t ≡ 32 → HllNumber t (λ v a. record a { sparse_precision = v })
unfolding hll_field
sparse_precision_is t e = record { is = λ l a. rw e }

pub data_is : (t : ℕ) → t ≡ 42 → HllBytes t (λ d a. record a { «data» = some d })
unfolding hll_field
data_is t e = record { is = λ l a. rw e }

pub sparse_data_is : (t : ℕ) → t ≡ 50 → HllBytes t (λ d a. record a { sparse_data = some d })
unfolding hll_field
sparse_data_is t e = record { is = λ l a. rw e }

hll_other_is : (t : ℕ) → (t ≡ 16 → ⊥) → (t ≡ 24 → ⊥) → (t ≡ 32 → ⊥) → (t ≡ 42 → ⊥) → (t ≡ 50 → ⊥) → (l : List ℕ) (a : HllState)
    → hll_field t l a ≡ and_then (skip_of t l) (λ u rest. got a rest)
unfolding hll_field
hll_other_is t h i j k n l a = rw (ne_eqb t 16 h, ne_eqb t 24 i, ne_eqb t 32 j, ne_eqb t 42 k, ne_eqb t 50 n)

-- A refusal of the field has no positions.
hll_step_refused : {m : List ℕ} {base at : ℕ} {h : HllFields} (e : ReadError) (r : Result (HllFields × Cursor) ReadError) → IsErrAnd r (λ y. y ≡ e)
    → ((s : List ℕ) → Within s base m → ReadPost (hll_of s) 1 m at (λ l. field_of hll_field l (hll_of s h)) r)
    → HllStepPost m base at h r
hll_step_refused e (Ok x) i f = absurd i
hll_step_refused e (Err y) i f = record { answer = λ s w. (f s w).answer; inside = λ s w k. tt; forward = tt }

module _ {m : List ℕ} {base at t : ℕ} {c : Cursor} {h : HllFields} (p : TagPost m at (Ok (t, c))) where
  -- A number: `g` is h with the number in its field.
  module _ {becomes : ℕ → HllState → HllState} (is : HllNumber t becomes) where
    pub hll_number : {v : ℕ} {c' : Cursor} {g : HllFields} → Varint32Post m c.at (Ok (v, c')) → ((s : List ℕ) → hll_of s g ≡ becomes v (hll_of s h))
        → ((s : List ℕ) → HllInside s h → HllInside s g)
        → HllStepPost m base at h (Ok (g, c'))
    hll_number {g = g} q e i =
        record {
          answer = λ s w. (field_read hll_field (hll_of s) (hll_of s h) p (λ l. is.is l (hll_of s h)) _ (number32 {x = g} q (λ x. becomes x (hll_of s h)) (e s))).answer;
          inside = λ s w. i s;
          forward = (omega (arith, p.inside.0, q.inside.0), q.inside.1);
        }

    pub hll_number_failed : {e : ReadError} → Varint32Post m c.at (Err e) → (r : Result (HllFields × Cursor) ReadError) → IsErrAnd r (λ y. y ≡ e)
        → HllStepPost m base at h r
    hll_number_failed q r i = hll_step_refused _ r i (λ s w. field_read hll_field (hll_of s) (hll_of s h) p (λ l. is.is l (hll_of s h)) r (failed (varint32_stopped q) {n' = 1} _ r i))

  -- Bytes: the part of the message is a part of the state, further on.
  module _ {becomes : List ℕ → HllState → HllState} (is : HllBytes t becomes) where
    pub hll_bytes : {x : Part} {c' : Cursor} {g : HllFields} → DelimitedPost m c.at (Ok (x, c'))
        → ((s : List ℕ) → hll_of s g ≡ becomes (take x.len (drop (base + x.start) s)) (hll_of s h))
        → ((s : List ℕ) → base + x.start + x.len ≤ length s → HllInside s h → HllInside s g)
        → HllStepPost m base at h (Ok (g, c'))
    hll_bytes {x = x} {g = g} q e i =
        let within : x.start + x.len ≤ length m = omega (arith, q.placed.1, q.read.inside.1) in
        record {
          answer = λ s w.
              (field_read hll_field (hll_of s) (hll_of s h) p (λ l. is.is l (hll_of s h)) _
              (read_then {x = g} q.read (λ d. becomes d (hll_of s h))
              (e s ∙ ap (λ (d : List ℕ). becomes d (hll_of s h)) (part_within s base m w x.start x.len within)))).answer;
          inside = λ s w. i s (omega (arith, w.room, within));
          forward = (omega (arith, p.inside.0, q.read.inside.0), q.read.inside.1);
        }

    pub hll_bytes_failed : {e : ReadError} → DelimitedPost m c.at (Err e) → (r : Result (HllFields × Cursor) ReadError) → IsErrAnd r (λ y. y ≡ e)
        → HllStepPost m base at h r
    hll_bytes_failed q r i = hll_step_refused _ r i (λ s w. field_read hll_field (hll_of s) (hll_of s h) p (λ l. is.is l (hll_of s h)) r (failed q.read {n' = 0} _ r i))

  module _ (n16 : t ≡ 16 → ⊥) (n24 : t ≡ 24 → ⊥) (n32 : t ≡ 32 → ⊥) (n42 : t ≡ 42 → ⊥) (n50 : t ≡ 50 → ⊥) where
    pub hll_other : {c' : Cursor} → SkipPost m t c.at (Ok c') → HllStepPost m base at h (Ok (h, c'))
    hll_other q =
        record {
          answer = λ s w. (field_read hll_field (hll_of s) (hll_of s h) p (λ l. hll_other_is t n16 n24 n32 n42 n50 l (hll_of s h)) _ (skip_then {x = h} q)).answer;
          inside = λ s w i. i;
          forward = (omega (arith, p.inside.0, q.inside.0), q.inside.1);
        }

    pub hll_other_failed : {e : ReadError} → SkipPost m t c.at (Err e) → (r : Result (HllFields × Cursor) ReadError) → IsErrAnd r (λ y. y ≡ e)
        → HllStepPost m base at h r
    hll_other_failed q r i = hll_step_refused _ r i (λ s w. field_read hll_field (hll_of s) (hll_of s h) p (λ l. hll_other_is t n16 n24 n32 n42 n50 l (hll_of s h)) r (skip_stopped _ q r i))

-- ---- the nested message

-- Where the loop over the nested message is.
pub record HllGoing (m : List ℕ) (base at : ℕ) (first h : HllFields) : Type 0 where
  pub on : at ≤ length m
  pub read : (s : List ℕ) → Within s base m → Going hll_field m at (read_hll m (hll_of s first)) (hll_of s h)
  pub inside : (s : List ℕ) → Within s base m → HllInside s first → HllInside s h

pub hll_going_start : (m : List ℕ) (base : ℕ) (first : HllFields) → HllGoing m base 0 first first
unfolding read_hll
hll_going_start m base first = record { on = omega arith; read = λ s w. going_start hll_field m (hll_of s first); inside = λ s w i. i }

module _ {m : List ℕ} {base at : ℕ} {first h : HllFields} (g : HllGoing m base at first h) where
  pub hll_going_end : length m ≤ at → HllPost m base first (Ok h)
  hll_going_end l = record { answer = λ s w. sym (going_end (g.read s w) l); inside = g.inside }

  module _ (less : at < length m) where
    pub hll_going_next : {h' : HllFields} {c : Cursor} → HllStepPost m base at h (Ok (h', c)) → HllGoing m base c.at first h'
    hll_going_next p =
        record {
          on = p.forward.1;
          read = λ s w. going_next (g.read s w) less p.forward.0 (p.answer s w);
          inside = λ s w i. p.inside s w (g.inside s w i);
        }

    pub hll_going_refused : {e : ReadError} → HllStepPost m base at h (Err e) → (r : Result HllFields ReadError) → IsErrAnd r (λ y. y ≡ e)
        → HllPost m base first r
    hll_going_refused p (Ok x) i = absurd i
    hll_going_refused p (Err y) i =
        record { answer = λ s w. same_error i (going_refused (g.read s w) less (p.answer s w)); inside = λ s w k. tt }

-- ---- an outer field: its tag decides

-- What a field of each tag is.
pub record Number32 (t : ℕ) (becomes : ℕ → State → State) : Type 0 where
  pub is : (l : List ℕ) (a : State) → outer_field t l a ≡ and_then (varint64 l) (λ x rest. got (becomes (x % 2 ^ 32) a) rest)

pub aggregator_type_is : (t : ℕ) → t ≡ 8 → Number32 t (λ v a. record a { aggregator_type = v })
unfolding outer_field
aggregator_type_is t e = record { is = λ l a. rw e }

pub encoding_version_is : (t : ℕ) → t ≡ 24 → Number32 t (λ v a. record a { encoding_version = v })
unfolding outer_field
encoding_version_is t e = record { is = λ l a. rw e }

pub value_type_is : (t : ℕ) → t ≡ 32 → Number32 t (λ v a. record a { value_type = v })
unfolding outer_field
value_type_is t e = record { is = λ l a. rw e }

num_values_is : (t : ℕ) → t ≡ 16 → (l : List ℕ) (a : State) → outer_field t l a ≡ and_then (varint64 l) (λ x rest. got (record a { num_values = x }) rest)
unfolding outer_field
num_values_is t e l a = rw e

nested_is : (t : ℕ) → t ≡ 898 → (l : List ℕ) (a : State)
    → outer_field t l a ≡ and_then (delimited_of l) (λ m rest. and_then (read_hll m a.hll) (λ h nothing. got (with_hll h a) rest))
unfolding outer_field
nested_is t e l a = rw e

other_is : (t : ℕ) → (t ≡ 8 → ⊥) → (t ≡ 16 → ⊥) → (t ≡ 24 → ⊥) → (t ≡ 32 → ⊥) → (t ≡ 898 → ⊥) → (l : List ℕ) (a : State)
    → outer_field t l a ≡ and_then (skip_of t l) (λ u rest. got a rest)
unfolding outer_field
other_is t h i j k n l a = rw (ne_eqb t 8 h, ne_eqb t 16 i, ne_eqb t 24 j, ne_eqb t 32 k, ne_eqb t 898 n)

step_refused : {s : List ℕ} {at : ℕ} {f : Fields} (e : ReadError) (r : Result (Fields × Cursor) ReadError) → IsErrAnd r (λ y. y ≡ e)
    → ReadPost (state_of s) 1 s at (λ l. field_of outer_field l (state_of s f)) r
    → StepPost s at f r
step_refused e (Ok x) i p = absurd i
step_refused e (Err y) i p = record { read = p; inside = λ k. tt }

-- The nested message is a part of the state's bytes.
abbrev pub between : List ℕ → ℕ → ℕ → List ℕ
between s start end = take (end - start) (drop start s)

module _ {s : List ℕ} {at start end : ℕ} {c : Cursor} (p : DelimitedPost s at (Ok (record { start = start; len = end }, c))) where
  pub part_is : between s start c.at ≡ take end (drop start s)
  part_is = ap (λ (n : ℕ). take n (drop start s)) (let e : c.at - start ≡ end = omega (arith, p.placed.1) in e)

  within_part : Within s start (between s start c.at)
  within_part =
      let e : length (between s start c.at) ≡ c.at - start = (
      length-take-le (c.at - start) (drop start s) (omega (arith, length-drop start s, p.read.inside.1))
      ) in
      record { same = ap (λ (n : ℕ). take n (drop start s)) (sym e); room = omega (arith, p.placed.1, p.read.inside.1) }

module _ {s : List ℕ} {at t : ℕ} {c : Cursor} {f : Fields} (p : TagPost s at (Ok (t, c))) where
  -- A number of 32 bits: `g` is f with the number in its field.
  module _ {becomes : ℕ → State → State} (is : Number32 t becomes) where
    pub outer_number : {v : ℕ} {c' : Cursor} {g : Fields} → Varint32Post s c.at (Ok (v, c')) → state_of s g ≡ becomes v (state_of s f)
        → (HllInside s f.hll → HllInside s g.hll)
        → StepPost s at f (Ok (g, c'))
    outer_number q e i = record { read = field_read outer_field (state_of s) (state_of s f) p (λ l. is.is l (state_of s f)) _ (number32 q (λ x. becomes x (state_of s f)) e); inside = i }

    pub outer_number_failed : {e : ReadError} → Varint32Post s c.at (Err e) → (r : Result (Fields × Cursor) ReadError) → IsErrAnd r (λ y. y ≡ e)
        → StepPost s at f r
    outer_number_failed q r i = step_refused _ r i (field_read outer_field (state_of s) (state_of s f) p (λ l. is.is l (state_of s f)) r (failed (varint32_stopped q) {n' = 1} _ r i))

  module _ (k : t ≡ 16) where
    pub outer_count : {v : ℕ} {c' : Cursor} → VarintPost s c.at (Ok (v, c')) → StepPost s at f (Ok (record f { num_values = v }, c'))
    outer_count q =
        record { read = field_read outer_field (state_of s) (state_of s f) p (λ l. num_values_is t k l (state_of s f)) _ (read_then q (λ x. record (state_of s f) { num_values = x }) refl); inside = λ i. i }

    pub outer_count_failed : {e : ReadError} → VarintPost s c.at (Err e) → (r : Result (Fields × Cursor) ReadError) → IsErrAnd r (λ y. y ≡ e)
        → StepPost s at f r
    outer_count_failed q r i = step_refused _ r i (field_read outer_field (state_of s) (state_of s f) p (λ l. num_values_is t k l (state_of s f)) r (failed q {n' = 1} _ r i))

  module _ (k : t ≡ 898) where
    pub nested_cut : {e : ReadError} → DelimitedPost s c.at (Err e) → (r : Result (Fields × Cursor) ReadError) → IsErrAnd r (λ y. y ≡ e) → StepPost s at f r
    nested_cut q r i = step_refused _ r i (field_read outer_field (state_of s) (state_of s f) p (λ l. nested_is t k l (state_of s f)) r (failed q.read {n' = 0} _ r i))

    module _ {start len : ℕ} {c' : Cursor} (q : DelimitedPost s c.at (Ok (record { start = start; len = len }, c'))) where
      pub nested_read : {h : HllFields} → HllPost (between s start c'.at) start f.hll (Ok h) → StepPost s at f (Ok (record f { hll = h }, c'))
      nested_read r =
          record {
            read =
                field_read outer_field (state_of s) (state_of s f) p (λ l. nested_is t k l (state_of s f)) _
                (record {
                  answer =
                      then_same (λ h nothing. got (with_hll h (state_of s f)) (drop c'.at s)) (r.answer s (within_part q))
                      ∙ ap (λ (m : List ℕ). and_then (read_hll m (hll_of s f.hll)) (λ h nothing. got (with_hll h (state_of s f)) (drop c'.at s))) (part_is q)
                      ∙ then_same (λ m rest. and_then (read_hll m (hll_of s f.hll)) (λ h nothing. got (with_hll h (state_of s f)) rest)) q.read.answer;
                  inside = q.read.inside;
                });
            inside = λ i. r.inside s (within_part q) i;
          }

      pub nested_failed : {e : ReadError} → HllPost (between s start c'.at) start f.hll (Err e) → (r : Result (Fields × Cursor) ReadError)
          → IsErrAnd r (λ y. y ≡ e)
          → StepPost s at f r
      nested_failed z (Ok x) i = absurd i
      nested_failed z (Err y) i =
          step_refused _ (Err y) i
          (field_read outer_field (state_of s) (state_of s f) p {n = 0} (λ l. nested_is t k l (state_of s f)) (Err y)
          (record {
            answer =
                same_error i
                (then_same (λ h nothing. got (with_hll h (state_of s f)) (drop c'.at s)) (z.answer s (within_part q))
                ∙ ap (λ (m : List ℕ). and_then (read_hll m (hll_of s f.hll)) (λ h nothing. got (with_hll h (state_of s f)) (drop c'.at s))) (part_is q)
                ∙ then_same (λ m rest. and_then (read_hll m (hll_of s f.hll)) (λ h nothing. got (with_hll h (state_of s f)) rest)) q.read.answer);
            inside = tt;
          }))

  module _ (n8 : t ≡ 8 → ⊥) (n16 : t ≡ 16 → ⊥) (n24 : t ≡ 24 → ⊥) (n32 : t ≡ 32 → ⊥) (n898 : t ≡ 898 → ⊥) where
    pub outer_other : {c' : Cursor} → SkipPost s t c.at (Ok c') → StepPost s at f (Ok (f, c'))
    outer_other q = record { read = field_read outer_field (state_of s) (state_of s f) p (λ l. other_is t n8 n16 n24 n32 n898 l (state_of s f)) _ (skip_then q); inside = λ i. i }

    pub outer_other_failed : {e : ReadError} → SkipPost s t c.at (Err e) → (r : Result (Fields × Cursor) ReadError) → IsErrAnd r (λ y. y ≡ e)
        → StepPost s at f r
    outer_other_failed q r i = step_refused _ r i (field_read outer_field (state_of s) (state_of s f) p (λ l. other_is t n8 n16 n24 n32 n898 l (state_of s f)) r (skip_stopped _ q r i))

-- ---- the state

-- Where the loop over the state is.
pub record StateGoing (s : List ℕ) (at : ℕ) (f : Fields) : Type 0 where
  pub on : at ≤ length s
  pub read : Going outer_field s at (read_state s) (state_of s f)
  pub inside : HllInside s f.hll

pub state_going_start : (s : List ℕ) (f : Fields) → ((s : List ℕ) → (state_of s f ≡ empty_state) × HllInside s f.hll) → StateGoing s 0 f
unfolding read_state
state_going_start s f e =
    record {
      on = omega arith;
      read = subst (λ (a : State). Going outer_field s 0 (read_state s) a) (sym (e s).0) (going_start outer_field s empty_state);
      inside = (e s).1;
    }

module _ {s : List ℕ} {at : ℕ} {f : Fields} (g : StateGoing s at f) where
  pub state_going_end : length s ≤ at → ParsePost s (Ok f)
  state_going_end l = record { answer = sym (going_end g.read l); inside = g.inside }

  module _ (less : at < length s) where
    pub state_going_next : {f' : Fields} {c : Cursor} → StepPost s at f (Ok (f', c)) → StateGoing s c.at f'
    state_going_next p =
        record { on = p.read.inside.1; read = going_next g.read less p.read.inside.0 p.read.answer; inside = p.inside g.inside }

    pub state_going_refused : {e : ReadError} → StepPost s at f (Err e) → (r : Result Fields ReadError) → IsErrAnd r (λ y. y ≡ e) → ParsePost s r
    state_going_refused p (Ok x) i = absurd i
    state_going_refused p (Err y) i = record { answer = same_error i (going_refused g.read less p.read.answer); inside = tt }
