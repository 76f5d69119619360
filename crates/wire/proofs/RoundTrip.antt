-- What is written of a state is read back, and no proper prefix of it is read as the same fields.
use Prim.Native.Nat.{ℕ, zero, suc, ◌+◌, ◌^◌, ◌<◌, ◌≤◌}
use mathlib.Core.Path.{◌≡◌, refl, sym, ap, ◌∙◌, subst}
use mathlib.Core.List.{List, [], ◌++◌, append_assoc, append-nil}
use mathlib.Core.Option.{Option, none, some}
use mathlib.Core.Bool.{Bool, true, false, cond}
use native.Mathlib.Omega.{arith}
use lib.Dec.{eqb}
use lib.ListN.{length, take, length-append}
use borrow.Author.Tests.{ne_eqb}
use Rattle.wire.specs.Reading.{Read, got, and_then}
use Rattle.wire.specs.Varints.{varint_bytes}
use Rattle.wire.specs.Fields.{tag, VARINT, LEN, skip_of}
use Rattle.wire.specs.State.{HllState, State, empty_hll, empty_state, hll_field, read_hll, outer_field, read_state}
use Rattle.wire.specs.Encoding.{pair, number_field, sign_extended, int32_unless, bytes_field, hll_numbers, hll_bytes, outer_numbers, encode_of, FitsWidths, SameFields}
use Rattle.wire.specs.Layout.{past_field, when_read, is_nested, at_end, nested_last_in, nested_last, CutReading, cut_refused, cut_before_hll}
use Rattle.wire.proofs.BoolLaws.{whichever}
use Rattle.wire.proofs.VarintLaws.{len_pos}
use Rattle.wire.proofs.ReadingLaws.{then_same, skip_number, skip_bytes}
use Rattle.wire.proofs.EncodingLaws.{field_ge}
use Rattle.wire.proofs.FieldLaws.{varint64_back, tag_back, delimited_back, extended_lt, bytes_written, Leads, leads_none, leads_both, leads_message, leads_number, leads_int32, leads_unless, leads_bytes}
use Rattle.wire.proofs.CutLaws.{cut_reading}

-- ---- the nested message

abbrev pub hll_with : ℕ → ℕ → ℕ → Option (List ℕ) → Option (List ℕ) → HllState
hll_with n p s d e = record { sparse_size = n; precision = p; sparse_precision = s; «data» = d; sparse_data = e }

size_leads : {n : ℕ} → n < 2 ^ 32 → Leads hll_field empty_hll (hll_with n 0 0 none none) (int32_unless 0 2 n)
unfolding hll_field
size_leads {n} h = leads_unless 2 (omega arith) (omega arith) (λ (x : ℕ). hll_with x 0 0 none none) (λ (l : List ℕ). refl) 0 n refl h

precision_leads : {n p : ℕ} → p < 2 ^ 32 → Leads hll_field (hll_with n 0 0 none none) (hll_with n p 0 none none) (int32_unless 0 3 p)
unfolding hll_field
precision_leads {n} {p} h = leads_unless 3 (omega arith) (omega arith) (λ (x : ℕ). hll_with n x 0 none none) (λ (l : List ℕ). refl) 0 p refl h

sparse_precision_leads : {n p s : ℕ} → s < 2 ^ 32 → Leads hll_field (hll_with n p 0 none none) (hll_with n p s none none) (int32_unless 0 4 s)
unfolding hll_field
sparse_precision_leads {n} {p} {s} h =
    leads_unless 4 (omega arith) (omega arith) (λ (x : ℕ). hll_with n p x none none) (λ (l : List ℕ). refl) 0 s refl h

data_leads : {n p s : ℕ} (d : Option (List ℕ)) → length (bytes_field 5 d) < 2 ^ 64
    → Leads hll_field (hll_with n p s none none) (hll_with n p s d none) (bytes_field 5 d)
unfolding hll_field bytes_field
data_leads none h = leads_none
data_leads {n} {p} {s} (some x) h =
    leads_bytes 5 (omega arith) (omega arith) (λ (y rest : List ℕ). got (hll_with n p s (some y) none) rest)
    (λ (l : List ℕ). refl) x (omega (arith, field_ge 5 (some x))) (λ (l : List ℕ). refl)

pub sparse_data_leads : {n p s : ℕ} {d : Option (List ℕ)} (e : Option (List ℕ)) → length (bytes_field 6 e) < 2 ^ 64
    → Leads hll_field (hll_with n p s d none) (hll_with n p s d e) (bytes_field 6 e)
unfolding hll_field bytes_field
sparse_data_leads none h = leads_none
sparse_data_leads {n} {p} {s} {d} (some x) h =
    leads_bytes 6 (omega arith) (omega arith) (λ (y rest : List ℕ). got (hll_with n p s d (some y)) rest)
    (λ (l : List ℕ). refl) x (omega (arith, field_ge 6 (some x))) (λ (l : List ℕ). refl)

pub hll_back : (st : State) → FitsWidths st → read_hll (hll_bytes st.hll) empty_hll ≡ got st.hll []
unfolding read_hll hll_bytes hll_numbers
hll_back st w =
    let h = st.hll in
    let parts : length (bytes_field 5 h.«data») + length (bytes_field 6 h.sparse_data) < 2 ^ 64 = (
    omega (
      arith,
      w.nested,
      length-append (hll_numbers h) (bytes_field 5 h.«data» ++ bytes_field 6 h.sparse_data),
      length-append (bytes_field 5 h.«data») (bytes_field 6 h.sparse_data),
    )
    ) in
    leads_message
    (leads_both (leads_both (size_leads w.sparse_size) (leads_both (precision_leads w.precision) (sparse_precision_leads w.sparse_precision)))
    (leads_both (data_leads h.«data» (omega arith)) (sparse_data_leads h.sparse_data (omega arith))))

-- ---- the state

abbrev pub state_with : ℕ → ℕ → ℕ → ℕ → HllState → State
state_with t n v y h = record { aggregator_type = t; num_values = n; encoding_version = v; value_type = y; hll = h }

pub type_leads : {t : ℕ} → t < 2 ^ 32 → Leads outer_field empty_state (state_with t 0 1 0 empty_hll) (number_field 1 (sign_extended t))
unfolding outer_field
type_leads {t} h = leads_int32 1 (omega arith) (omega arith) (λ (x : ℕ). state_with x 0 1 0 empty_hll) (λ (l : List ℕ). refl) t h

pub count_leads : {t n : ℕ} → n < 2 ^ 64 → Leads outer_field (state_with t 0 1 0 empty_hll) (state_with t n 1 0 empty_hll) (number_field 2 n)
unfolding outer_field
count_leads {t} {n} h = leads_number 2 (omega arith) (omega arith) (λ (x : ℕ). state_with t x 1 0 empty_hll) (λ (l : List ℕ). refl) n h

version_leads : {t n v : ℕ} → v < 2 ^ 32 → Leads outer_field (state_with t n 1 0 empty_hll) (state_with t n v 0 empty_hll) (int32_unless 1 3 v)
unfolding outer_field
version_leads {t} {n} {v} h =
    leads_unless 3 (omega arith) (omega arith) (λ (x : ℕ). state_with t n x 0 empty_hll) (λ (l : List ℕ). refl) 1 v refl h

value_type_leads : {t n v y : ℕ} → y < 2 ^ 32 → Leads outer_field (state_with t n v 0 empty_hll) (state_with t n v y empty_hll) (int32_unless 0 4 y)
unfolding outer_field
value_type_leads {t} {n} {v} {y} h =
    leads_unless 4 (omega arith) (omega arith) (λ (x : ℕ). state_with t n v x empty_hll) (λ (l : List ℕ). refl) 0 y refl h

-- Field 112, where no field of the nested message was read before.
abbrev nested : ℕ → ℕ → ℕ → ℕ → List ℕ → List ℕ → Read State
nested t n v y m rest = and_then (read_hll m empty_hll) (λ h nothing. got (state_with t n v y h) rest)

module _ {t n v y : ℕ} (m : List ℕ) (short : length m < 2 ^ 64) where
  pub nested_leads : {h : HllState} → read_hll m empty_hll ≡ got h []
      → Leads outer_field (state_with t n v y empty_hll) (state_with t n v y h) (bytes_field 112 (some m))
  unfolding outer_field
  nested_leads e = leads_bytes 112 (omega arith) (omega arith) (nested t n v y) (λ (l : List ℕ). refl) m short (λ (l : List ℕ). then_same _ e)

-- ---- the layout: what is written has its nested message last

-- Bytes in the layout, however many fields are allowed, if only there are as many as bytes.
abbrev NestedLast : List ℕ → Type 0
NestedLast l = (n : ℕ) → length l ≤ n → nested_last_in n l ≡ true

-- A field that was written, its tag and the bytes v of its value, and l behind it.
module _ (t : ℕ) (low : 8 ≤ t) (high : t < 2 ^ 32) (v l : List ℕ) (skips : skip_of t (v ++ l) ≡ got tt l) where
  abbrev bytes : List ℕ
  bytes = varint_bytes 10 t ++ v ++ l

  longer : length l < length bytes
  longer = omega (arith, length-append (varint_bytes 10 t ++ v) l, length-append (varint_bytes 10 t) v, len_pos 9 t)

  written_past : past_field bytes ≡ got t l
  unfolding past_field
  written_past = ap past_field (append_assoc (varint_bytes 10 t) v l) ∙ then_same _ (tag_back t (v ++ l) low high) ∙ then_same _ skips

  field_last : (b : Bool) → is_nested t ≡ b → ((n : ℕ) → length l ≤ n → cond b (at_end l) (nested_last_in n l) ≡ true) → NestedLast bytes
  unfolding nested_last_in
  field_last b i e zero h = absurd (let z : ⊥ = omega (arith, longer) in z)
  field_last b i e (suc n) h =
      ap (λ (r : Read ℕ). when_read r (λ t rest. cond (is_nested t) (at_end rest) (nested_last_in n rest))) written_past
      ∙ ap (λ (x : Bool). cond x (at_end l) (nested_last_in n l)) i
      ∙ e n (omega (arith, longer))

nested_last_lem : (m : List ℕ) → length m < 2 ^ 64 → NestedLast (bytes_field 112 (some m))
nested_last_lem m h =
    let t = tag 112 LEN in
    let v = varint_bytes 10 (length m) ++ m in
    subst NestedLast (append-nil (varint_bytes 10 t ++ v) ∙ bytes_written 112 m)
    (field_last t (omega arith) (omega arith) v [] (skip_bytes t refl (v ++ []) ∙ then_same _ (delimited_back m [] h)) true refl (λ n i. refl))

-- Fields that may stand before it.
record Before (w : List ℕ) : Type 0 where
  on : (l : List ℕ) → NestedLast l → NestedLast (w ++ l)

before_both : {v w : List ℕ} → Before v → Before w → Before (v ++ w)
before_both {v} {w} f g = record { on = λ l h. subst NestedLast (sym (append_assoc v w l)) (f.on (w ++ l) (g.on l h)) }

number_before : (f : ℕ) → 0 < f → f < 2 ^ 28 → {v : ℕ} → v < 2 ^ 64 → Before (number_field f v)
unfolding pair
number_before f low high {v} h =
    let t = tag f VARINT in
    record {
      on = λ l e.
          field_last t (omega arith) (omega arith) (varint_bytes 10 v) l
          (skip_number t (omega arith) (varint_bytes 10 v ++ l) ∙ then_same _ (varint64_back v l h)) false
          (ne_eqb t (tag 112 LEN) (λ (i : t ≡ tag 112 LEN). let z : ⊥ = omega arith in z)) e;
    }

unless_before : (omitted f : ℕ) → 0 < f → f < 2 ^ 28 → {v : ℕ} → v < 2 ^ 32 → Before (int32_unless omitted f v)
unfolding int32_unless
unless_before omitted f low high {v} h =
    whichever Before (eqb v omitted) [] (number_field f (sign_extended v)) (record { on = λ l e. e }) (number_before f low high (extended_lt v h))

-- ---- what the two definitions say of each other

module _ (st : State) (w : FitsWidths st) where
  -- The state before its nested message is read.
  abbrev outer : State
  outer = state_with st.aggregator_type st.num_values st.encoding_version st.value_type empty_hll

  numbers_lead : Leads outer_field empty_state outer (outer_numbers st)
  unfolding outer_numbers
  numbers_lead =
      leads_both (type_leads w.aggregator_type)
      (leads_both (count_leads w.num_values) (leads_both (version_leads w.encoding_version) (value_type_leads w.value_type)))

  pub round_trip : read_state (encode_of st) ≡ got st []
  unfolding read_state encode_of
  round_trip = leads_message (leads_both numbers_lead (nested_leads (hll_bytes st.hll) w.nested (hll_back st w)))

  -- The same, field by field.
  pub fields_back : (st' : State) (l : List ℕ) → read_state (encode_of st) ≡ got st' l → SameFields st st'
  fields_back st' l e =
      let same : st ≡ st' = cc round_trip in
      subst (λ (x : State). SameFields st x) same
      (record {
        aggregator_type = refl;
        num_values = refl;
        encoding_version = refl;
        value_type = refl;
        sparse_size = refl;
        precision = refl;
        sparse_precision = refl;
        «data» = refl;
        sparse_data = refl;
      })

  pub encode_last : nested_last (encode_of st) ≡ true
  unfolding nested_last encode_of outer_numbers
  encode_last =
      let numbers =
      before_both (number_before 1 (omega arith) (omega arith) (extended_lt st.aggregator_type w.aggregator_type))
      (before_both (number_before 2 (omega arith) (omega arith) w.num_values)
      (before_both (unless_before 1 3 (omega arith) (omega arith) w.encoding_version) (unless_before 0 4 (omega arith) (omega arith) w.value_type))) in
      numbers.on (bytes_field 112 (some (hll_bytes st.hll))) (nested_last_lem (hll_bytes st.hll) w.nested) (length (encode_of st)) (omega arith)

no_nested : (r : Read State) → CutReading r → (st : State) (l : List ℕ) → r ≡ got st l → st.hll ≡ empty_hll
no_nested r cut_refused st l e = absurd (let z : ◌≡◌ {A = ℕ} 0 1 = cc in let y : ⊥ = omega arith in y)
no_nested r (cut_before_hll st' f) st l e = let same : st' ≡ st = cc in subst (λ (x : State). x.hll ≡ empty_hll) same f

pub no_prefix : (st : State) → FitsWidths st → (st.hll ≡ empty_hll → ⊥) → (k : ℕ) → k < length (encode_of st)
    → read_state (take k (encode_of st)) ≡ got st [] → ⊥
no_prefix st w full k h e = full (no_nested (read_state (take k (encode_of st))) (cut_reading (encode_of st) (encode_last st w) k h) st [] e)
