-- Laws of messages that were written field by field: reading one back.
use Prim.Native.Nat.{ℕ, zero, suc, ◌+◌, ◌-◌, ◌%◌, ◌^◌, ◌<◌, ◌≤◌}
use mathlib.Core.Path.{◌≡◌, refl, sym, ap, ap₂, ◌∙◌, subst}
use mathlib.Core.List.{List, [], ◌++◌, append_assoc, append-nil}
use mathlib.Core.Bool.{Bool, true, false, cond}
use mathlib.Core.Option.{some}
use native.Mathlib.Nat.{mod-eq_of_lt}
use native.Mathlib.Omega.{arith}
use lib.ListN.{length, length-append}
use lib.Seq.{take_at, drop_at}
use lib.Dec.{ltb, eqb}
use borrow.Author.Tests.{eqb-true}
use Rattle.wire.specs.Reading.{Read, got, refused, and_then}
use Rattle.wire.specs.Varints.{low_bits, varint64, varint_bytes}
use Rattle.wire.specs.Fields.{tag, VARINT, LEN, tag_of, bytes_of, delimited_of, field_of, fields_of, message_of}
use Rattle.wire.specs.State.{int32}
use Rattle.wire.specs.Encoding.{pair, number_field, sign_extended, int32_unless, bytes_field}
use Rattle.wire.proofs.VarintLaws.{len_pos, there_and_back}
use Rattle.wire.proofs.ReadingLaws.{then_same, is_tag_lem, bytes_got, fields_end, fields_step}

-- ---- what was written is read back, whatever follows

pub varint64_back : (v : ℕ) (l : List ℕ) → v < 2 ^ 64 → varint64 (varint_bytes 10 v ++ l) ≡ got v l
unfolding varint64
varint64_back v l h =
    ap (λ (r : Read ℕ). low_bits 64 r) (there_and_back 9 v l (let g : v < 2 ^ 70 = omega arith in g))
    ∙ ap (λ (x : ℕ). got x l) (mod-eq_of_lt h)

pub tag_back : (t : ℕ) (l : List ℕ) → 8 ≤ t → t < 2 ^ 32 → tag_of (varint_bytes 10 t ++ l) ≡ got t l
unfolding tag_of
tag_back t l h k =
    then_same _ (varint64_back t l (omega arith))
    ∙ ap (λ (b : Bool). cond b (got t l) (refused 5)) (is_tag_lem t h k)

pub bytes_back : (d l : List ℕ) → bytes_of (length d) (d ++ l) ≡ got d l
bytes_back d l =
    bytes_got (length d) (d ++ l) (omega (arith, length-append d l))
    ∙ ap₂ (λ (x y : List ℕ). got x y) (take_at d l (length d) refl) (drop_at d l (length d) refl)

pub delimited_back : (d l : List ℕ) → length d < 2 ^ 64 → delimited_of (varint_bytes 10 (length d) ++ d ++ l) ≡ got d l
unfolding delimited_of
delimited_back d l h =
    ap (λ (x : List ℕ). and_then (varint64 x) (λ n rest. bytes_of n rest)) (append_assoc (varint_bytes 10 (length d)) d l)
    ∙ then_same _ (varint64_back (length d) (d ++ l) h)
    ∙ bytes_back d l

-- ---- messages

module _ {A : Type 0} (field : ℕ → List ℕ → A → Read A) where
  -- The bytes l, read from a on, give r, however many fields are allowed, if only there are as many as bytes.
  abbrev pub Reads : List ℕ → A → Read A → Type 0
  Reads l a r = (n : ℕ) → length l ≤ n → fields_of field n l a ≡ r

  pub reads_message : (l : List ℕ) (a : A) (r : Read A) → Reads l a r → message_of field l a ≡ r
  unfolding message_of
  reads_message l a r f = f (length l) (omega arith)

  pub reads_none : (a : A) → Reads [] a (got a [])
  reads_none a n h = fields_end field n a

  -- One field, and then the rest.
  pub reads_field : (l rest : List ℕ) (a b : A) (r : Read A) → length rest < length l → field_of field l a ≡ got b rest → Reads rest b r → Reads l a r
  reads_field l rest a b r s e f zero h = absurd (let z : ⊥ = omega arith in z)
  reads_field l rest a b r s e f (suc n) h = fields_step field n l a (omega arith) ∙ then_same _ e ∙ f n (omega arith)

  pub reads_refused : (l : List ℕ) (a : A) (k : ℕ) → 0 < length l → field_of field l a ≡ refused k → Reads l a (refused k)
  reads_refused l a k s e zero h = absurd (let z : ⊥ = omega arith in z)
  reads_refused l a k s e (suc n) h = fields_step field n l a s ∙ then_same _ e

  -- w leads from a to b: reading goes on after it.
  pub record Leads (a b : A) (w : List ℕ) : Type 0 where
    pub on : (l : List ℕ) (r : Read A) → Reads l b r → Reads (w ++ l) a r

module _ {A : Type 0} {field : ℕ → List ℕ → A → Read A} where
  pub leads_none : {a : A} → Leads field a a []
  leads_none = record { on = λ l r f. f }

  pub leads_both : {a b c : A} {v w : List ℕ} → Leads field a b v → Leads field b c w → Leads field a c (v ++ w)
  leads_both {a} {v = v} {w = w} f g =
      record { on = λ l r h. subst (λ (x : List ℕ). Reads field x a r) (sym (append_assoc v w l)) (f.on (w ++ l) r (g.on l r h)) }

  pub leads_reads : {a b : A} {w : List ℕ} → Leads field a b w → Reads field w a (got b [])
  leads_reads {a} {b} {w} f = subst (λ (x : List ℕ). Reads field x a (got b [])) (append-nil w) (f.on [] (got b []) (reads_none field b))

  pub leads_message : {a b : A} {w : List ℕ} → Leads field a b w → message_of field w a ≡ got b []
  leads_message {a} {b} {w} f = reads_message field w a (got b []) (leads_reads f)

  -- A field that was written: its tag, and the bytes v of its value.
  leads_field : (t : ℕ) → 8 ≤ t → t < 2 ^ 32 → (v : List ℕ) {a b : A} → ((l : List ℕ) → field t (v ++ l) a ≡ got b l)
      → Leads field a b (varint_bytes 10 t ++ v)
  leads_field t low high v {a} {b} f =
      record {
        on = λ l r g.
            subst (λ (x : List ℕ). Reads field x a r) (sym (append_assoc (varint_bytes 10 t) v l))
            (reads_field field (varint_bytes 10 t ++ (v ++ l)) l a b r
            (omega (arith, length-append (varint_bytes 10 t) (v ++ l), length-append v l, len_pos 9 t))
            (then_same _ (tag_back t (v ++ l) low high) ∙ f l) g);
      }

-- ---- the writer's fields

-- A 32-bit number, extended, fits 64 bits, and its low 32 bits are the number.
pub extended_lt : (v : ℕ) → v < 2 ^ 32 → sign_extended v < 2 ^ 64
extended_lt v h = go (ltb v (2 ^ 31))
  where
    go : (b : Bool) → cond b v (v + (2 ^ 64 - 2 ^ 32)) < 2 ^ 64
    go true = omega arith
    go false = omega arith

extended_back : (v : ℕ) → v < 2 ^ 32 → int32 (sign_extended v) ≡ v
extended_back v h = go (ltb v (2 ^ 31))
  where
    go : (b : Bool) → cond b v (v + (2 ^ 64 - 2 ^ 32)) % 2 ^ 32 ≡ v
    go true = omega arith
    go false = omega arith

pub bytes_written : (f : ℕ) (d : List ℕ) → varint_bytes 10 (tag f LEN) ++ (varint_bytes 10 (length d) ++ d) ≡ bytes_field f (some d)
unfolding bytes_field pair
bytes_written f d = sym (append_assoc (varint_bytes 10 (tag f LEN)) (varint_bytes 10 (length d)) d)

module _ {A : Type 0} {field : ℕ → List ℕ → A → Read A} (f : ℕ) (low : 0 < f) (high : f < 2 ^ 28) {a : A} where
  -- Where `field` takes a number of the field f and goes on from `becomes` it.
  module _ (becomes : ℕ → A) (reads : (l : List ℕ) → field (tag f VARINT) l a ≡ and_then (varint64 l) (λ x rest. got (becomes x) rest)) (v : ℕ) where
    pub leads_number : v < 2 ^ 64 → Leads field a (becomes v) (number_field f v)
    unfolding pair
    leads_number h =
        leads_field (tag f VARINT) (omega arith) (omega arith) (varint_bytes 10 v)
        (λ (l : List ℕ). reads (varint_bytes 10 v ++ l) ∙ then_same _ (varint64_back v l h))

  -- The same of a number's low 32 bits.
  module _ (becomes : ℕ → A) (reads : (l : List ℕ) → field (tag f VARINT) l a ≡ and_then (varint64 l) (λ x rest. got (becomes (int32 x)) rest)) where
    pub leads_int32 : (v : ℕ) → v < 2 ^ 32 → Leads field a (becomes v) (number_field f (sign_extended v))
    leads_int32 v h =
        subst (λ (x : ℕ). Leads field a (becomes x) (number_field f (sign_extended v))) (extended_back v h)
        (leads_number (λ (x : ℕ). becomes (int32 x)) reads (sign_extended v) (extended_lt v h))

    module _ (omitted v : ℕ) where
      pub leads_unless : becomes omitted ≡ a → v < 2 ^ 32 → Leads field a (becomes v) (int32_unless omitted f v)
      unfolding int32_unless
      leads_unless e h = go (eqb v omitted) refl
        where
          go : (t : Bool) → eqb v omitted ≡ t → Leads field a (becomes v) (cond t [] (number_field f (sign_extended v)))
          go true t = subst (λ (b : A). Leads field a b []) (sym (ap becomes (eqb-true v omitted t) ∙ e)) leads_none
          go false t = leads_int32 v h

  -- Where `field` takes the bytes of the field f and goes on as `next` says.
  module _
      (next : List ℕ → List ℕ → Read A)
      (reads : (l : List ℕ) → field (tag f LEN) l a ≡ and_then (delimited_of l) next)
      (d : List ℕ)
      (short : length d < 2 ^ 64)
    where
      pub leads_bytes : {b : A} → ((l : List ℕ) → next d l ≡ got b l) → Leads field a b (bytes_field f (some d))
      leads_bytes {b} e =
          subst (λ (w : List ℕ). Leads field a b w) (bytes_written f d)
          (leads_field (tag f LEN) (omega arith) (omega arith) (varint_bytes 10 (length d) ++ d)
          (λ (l : List ℕ). reads (varint_bytes 10 (length d) ++ d ++ l) ∙ then_same next (delimited_back d l short) ∙ e l))
