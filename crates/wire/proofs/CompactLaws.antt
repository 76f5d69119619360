-- Laws of the compact reader: its one-byte tags and values are tags and varints, so that each field it reads is one of the general reader's.
use Prim.Native.Nat.{ℕ, ◌+◌, ◌%◌, ◌<◌, ◌≤◌}
use mathlib.Core.Path.{◌≡◌, sym, ap, ap₂, ◌∙◌, subst}
use mathlib.Core.List.{List}
use native.Mathlib.Omega.{arith}
use lib.ListN.{length, get_or, drop}
use Rattle.std.specs.Prelude.{Result, Ok, Err, Some}
use Rattle.std.specs.Result.{result_ok}
use Rattle.wire.specs.declared.read_error.ReadError.{ReadError}
use Rattle.wire.specs.declared.varint.Cursor.{Cursor}
use Rattle.wire.specs.declared.fields.Part.{Part}
use Rattle.wire.specs.Reading.{Read, got}
use Rattle.wire.specs.Varints.{payload, low_bits, varint64, VarintPost, Varint32Post}
use Rattle.wire.specs.Fields.{TagPost, TakePost, DelimitedPost}
use Rattle.wire.proofs.VarintLaws.{varint_last, varint_more}
use Rattle.wire.proofs.ReadingLaws.{varint32_small, tag_good, delimited_taken}

-- Of what `small` promises, all but the place behind the byte.
pub small_value : {s : List ℕ} {at v : ℕ} {c : Cursor} → VarintPost s at (Ok (v, c)) × (c.at ≡ at + 1) × (v < 128) → VarintPost s at (Ok (v, c)) × (v < 128)
small_value p = (p.0, p.2)

-- A varint of one byte, as a tag and as a number of 32 bits.
module _ {s : List ℕ} {at v : ℕ} {c : Cursor} (p : VarintPost s at (Ok (v, c)) × (v < 128)) where
  pub small_tag : 8 ≤ v → TagPost s at (Ok (v, c))
  small_tag h = tag_good p.0 (omega (arith, p.1)) h

  pub small_number : Varint32Post s at (Ok (v, c))
  small_number = varint32_small p.0 (omega (arith, p.1))

  -- And as the length of the bytes that are taken behind it.
  pub small_bytes : {n : ℕ} {x : Part × Cursor} → n ≡ v → (r : Result (Part × Cursor) ReadError) → TakePost s c.at n r → Some x ≡ result_ok r
      → DelimitedPost s at (Ok x)
  small_bytes {n} {x} k r t e = delimited_taken p.0 (Ok x) (subst (λ (z : ℕ). TakePost s c.at z (Ok x)) k (taken r t e))
    where
      taken : (r : Result (Part × Cursor) ReadError) → TakePost s c.at n r → Some x ≡ result_ok r → TakePost s c.at n (Ok x)
      taken (Ok y) t e = subst (λ (z : Part × Cursor). TakePost s c.at n (Ok z)) (let d : y ≡ x = cc in d) t
      taken (Err y) t e = absurd (let z : ◌≡◌ {A = ℕ} 0 1 = cc in let z : ⊥ = omega arith in z)

-- Field 112's tag has the bytes `82 07`.
module _ (s : List ℕ) (at : ℕ) (inside : at + 1 < length s) (first : get_or s at 0 ≡ 130) (second : get_or s (at + 1) 0 ≡ 7) where
  two_bytes : VarintPost s at (Ok (898, record { at = at + 1 + 1 }))
  unfolding varint64
  two_bytes =
      record {
        answer =
            sym
            (ap (λ (r : Read ℕ). low_bits 64 r)
            (varint_more s at 9 (omega arith) (omega arith)
            ∙ ap₂ (λ (x : ℕ) (r : Read ℕ). payload (x % 128) r) first
            (varint_last s (at + 1) 8 inside (omega arith) ∙ ap (λ (x : ℕ). got x (drop (at + 1 + 1) s)) second)));
        inside = (omega arith, omega arith);
      }

  pub nested_tag : TagPost s at (Ok (898, record { at = at + 2 }))
  nested_tag =
      subst (λ (n : ℕ). TagPost s at (Ok (898, record { at = n }))) (let e : at + 1 + 1 ≡ at + 2 = omega arith in e)
      (tag_good two_bytes (omega arith) (omega arith))
