-- Laws of reading tags, bytes and skipped fields at a position: from the answer that a call gave to the answer that its caller gives.
use Prim.Native.Nat.{ℕ, zero, suc, ◌+◌, ◌-◌, ◌/◌, ◌%◌, ◌^◌, ◌<◌, ◌≤◌}
use mathlib.Core.Path.{◌≡◌, refl, sym, ap, ◌∙◌}
use mathlib.Core.List.{List, [], ◌∷◌}
use mathlib.Core.Bool.{Bool, true, false, cond}
use native.Mathlib.Nat.{mod-eq_of_lt}
use native.Mathlib.Omega.{arith}
use lib.Dec.{leb}
use lib.ListN.{length, take, drop, drop_of_length-le, length-drop}
use lib.Seq.{drop-drop}
use borrow.Author.Tests.{lt-ltb, le-ltb, le-leb, lt-leb, ne_eqb}
use Rattle.std.specs.Prelude.{Result, Ok, Err}
use Rattle.std.specs.Result.{IsErrAnd}
use Rattle.wire.specs.declared.read_error.ReadError.{ReadError}
use Rattle.wire.specs.declared.read_error.ReadError.TheVariants.{Truncated, InvalidTag, InvalidWireType}
use Rattle.wire.specs.declared.varint.Cursor.{Cursor}
use Rattle.wire.specs.declared.fields.Part.{Part}
use Rattle.wire.specs.Reading.{Read, got, refused, and_then, read_error_number, ReadPost}
use Rattle.wire.specs.Varints.{low_bits, varint64, VarintPost, Varint32Post}
use Rattle.wire.specs.Fields.{is_tag, tag_of, bytes_of, delimited_of, skip_of, field_of, fields_of, message_of, TagPost, TakePost, DelimitedPost, SkipPost}

-- What follows an answer depends on that answer alone.
pub then_same : {A B : Type 0} {r r' : Read A} (next : A → List ℕ → Read B) → r ≡ r' → and_then r next ≡ and_then r' next
then_same next e = ap (λ x. and_then x next) e

-- ---- what a `?` hands on

pub same_error : {A : Type 0} {x : Read A} {e y : ReadError} → y ≡ e → refused (read_error_number e) ≡ x → refused (read_error_number y) ≡ x
same_error h p = ap (λ z. refused (read_error_number z)) h ∙ p

-- What reading starts with is refused, so nothing follows.
module _ {A B : Type 0} {says : A → B} {n : ℕ} {s : List ℕ} {at : ℕ} {reading : List ℕ → Read B} {e : ReadError} (p : ReadPost says n s at reading (Err e)) where
  pub stopped : {D : Type 0} {y : ReadError} (next : B → List ℕ → Read D) → y ≡ e → refused (read_error_number y) ≡ and_then (reading (drop at s)) next
  stopped next h = ap (λ z. refused (read_error_number z)) h ∙ then_same next p.answer

  pub failed : {C D : Type 0} {says' : C → D} {n' : ℕ} (next : B → List ℕ → Read D) (r : Result (C × Cursor) ReadError) → IsErrAnd r (λ y. y ≡ e)
      → ReadPost says' n' s at (λ l. and_then (reading l) next) r
  failed next (Ok x) h = absurd h
  failed next (Err y) h = record { answer = stopped next h; inside = tt }

-- The low bits of a varint are read where it is.
low_then : {D : Type 0} (k : ℕ) (r : Read ℕ) (next : ℕ → List ℕ → Read D) → and_then (low_bits k r) next ≡ and_then r (λ v rest. next (v % 2 ^ k) rest)
low_then k (got v l) next = refl
low_then k (refused n) next = refl

pub varint32_small : {s : List ℕ} {at v : ℕ} {c : Cursor} → VarintPost s at (Ok (v, c)) → v < 2 ^ 32 → Varint32Post s at (Ok (v, c))
varint32_small {s} {c = c} p h = record { answer = ap (λ x. got x (drop c.at s)) (sym (mod-eq_of_lt h)) ∙ ap (low_bits 32) p.answer; inside = p.inside }

-- A number of 32 bits, and what is made of it.
pub varint32_then : {D : Type 0} {s : List ℕ} {at v : ℕ} {c : Cursor} → Varint32Post s at (Ok (v, c)) → (next : ℕ → List ℕ → Read D)
    → next v (drop c.at s) ≡ and_then (varint64 (drop at s)) (λ x rest. next (x % 2 ^ 32) rest)
varint32_then {s = s} {at = at} p next = then_same next p.answer ∙ low_then 32 (varint64 (drop at s)) next

pub varint32_stopped : {s : List ℕ} {at : ℕ} {e : ReadError} → Varint32Post s at (Err e) → VarintPost s at (Err e)
varint32_stopped {s} {at} p = record { answer = go (varint64 (drop at s)) p.answer; inside = tt }
  where
    go : (x : Read ℕ) {n : ℕ} → refused n ≡ low_bits 32 x → refused n ≡ x
    go (got v l) h = absurd (let z : ◌≡◌ {A = ℕ} 0 1 = cc in let z : ⊥ = omega arith in z)
    go (refused k) h = h

-- ---- tags

pub is_tag_lem : (t : ℕ) → 8 ≤ t → t < 2 ^ 32 → is_tag t ≡ true
is_tag_lem t h k = let g : 0 < t / 8 = omega arith in rw (lt-ltb t (2 ^ 32) k, lt-ltb 0 (t / 8) g)

pub tag_failed : {s : List ℕ} {at : ℕ} {e : ReadError} → VarintPost s at (Err e) → (r : Result (ℕ × Cursor) ReadError) → IsErrAnd r (λ y. y ≡ e)
    → TagPost s at r
unfolding tag_of
tag_failed p r h = failed p _ r h

module _ {s : List ℕ} {at v : ℕ} {c : Cursor} (p : VarintPost s at (Ok (v, c))) where
  tag_is : (b : Bool) → is_tag v ≡ b → cond b (got v (drop c.at s)) (refused 5) ≡ tag_of (drop at s)
  unfolding tag_of
  tag_is b e = ap (λ (t : Bool). cond t (got v (drop c.at s)) (refused 5)) (sym e) ∙ then_same _ p.answer

  pub tag_high : 2 ^ 32 ≤ v → TagPost s at (Err InvalidTag)
  tag_high h = record { answer = tag_is false (rw (le-ltb v (2 ^ 32) h)); inside = tt }

  pub tag_low : v < 8 → TagPost s at (Err InvalidTag)
  tag_low l =
      let g : v / 8 ≤ 0 = omega arith in
      let h : v < 2 ^ 32 = omega arith in
      record { answer = tag_is false (rw (lt-ltb v (2 ^ 32) h, le-ltb 0 (v / 8) g)); inside = tt }

  pub tag_good : v < 2 ^ 32 → 8 ≤ v → TagPost s at (Ok (v, c))
  tag_good h l = record { answer = tag_is true (is_tag_lem v l h); inside = p.inside }

-- ---- the bytes of a field

bytes_are : (n : ℕ) (l : List ℕ) (b : Bool) → leb n (length l) ≡ b → bytes_of n l ≡ cond b (got (take n l) (drop n l)) (refused 3)
unfolding bytes_of
bytes_are n l b e = ap (λ (t : Bool). cond t (got (take n l) (drop n l)) (refused 3)) e

pub bytes_cut : (n : ℕ) (l : List ℕ) → length l < n → bytes_of n l ≡ refused 3
bytes_cut n l h = bytes_are n l false (lt-leb n (length l) h)

pub bytes_got : (n : ℕ) (l : List ℕ) → n ≤ length l → bytes_of n l ≡ got (take n l) (drop n l)
bytes_got n l h = bytes_are n l true (le-leb n (length l) h)

module _ {s : List ℕ} {at n : ℕ} (inside : at ≤ length s) where
  pub take_short : length s - at < n → TakePost s at n (Err Truncated)
  take_short h =
      record { read = record { answer = sym (bytes_cut n (drop at s) (omega (arith, length-drop at s))); inside = tt }; placed = tt }

  pub take_whole : n ≤ length s - at → TakePost s at n (Ok (record { start = at; len = n }, record { at = at + n }))
  take_whole h =
      record {
        read =
            record {
              answer = ap (λ (l : List ℕ). got (take n (drop at s)) l) (sym (drop-drop n at s)) ∙ sym (bytes_got n (drop at s) (omega (arith, length-drop at s)));
              inside = (omega arith, omega arith);
            };
        placed = (omega arith, refl);
      }

pub delimited_failed : {s : List ℕ} {at : ℕ} {e : ReadError} → VarintPost s at (Err e) → (r : Result (Part × Cursor) ReadError) → IsErrAnd r (λ y. y ≡ e)
    → DelimitedPost s at r
unfolding delimited_of
delimited_failed p (Ok x) h = absurd h
delimited_failed p (Err y) h = record { read = failed p _ (Err y) h; placed = tt }

pub delimited_taken : {s : List ℕ} {at n : ℕ} {c : Cursor} → VarintPost s at (Ok (n, c)) → (r : Result (Part × Cursor) ReadError) → TakePost s c.at n r
    → DelimitedPost s at r
unfolding delimited_of
delimited_taken p (Ok x) q =
    record {
      read = record { answer = q.read.answer ∙ then_same _ p.answer; inside = (omega (arith, p.inside.0, q.read.inside.0), q.read.inside.1) };
      placed = (omega (arith, p.inside.0, q.placed.0), q.placed.1);
    }
delimited_taken p (Err y) q = record { read = record { answer = q.read.answer ∙ then_same _ p.answer; inside = tt }; placed = tt }

-- ---- skipping

-- The wire type decides.
pub skip_number : (t : ℕ) → t % 8 ≡ 0 → (l : List ℕ) → skip_of t l ≡ and_then (varint64 l) (λ v rest. got tt rest)
unfolding skip_of
skip_number t e l = rw e

pub skip_fixed64 : (t : ℕ) → t % 8 ≡ 1 → (l : List ℕ) → skip_of t l ≡ and_then (bytes_of 8 l) (λ v rest. got tt rest)
unfolding skip_of
skip_fixed64 t e l = rw e

pub skip_bytes : (t : ℕ) → t % 8 ≡ 2 → (l : List ℕ) → skip_of t l ≡ and_then (delimited_of l) (λ d rest. got tt rest)
unfolding skip_of
skip_bytes t e l = rw e

pub skip_fixed32 : (t : ℕ) → t % 8 ≡ 5 → (l : List ℕ) → skip_of t l ≡ and_then (bytes_of 4 l) (λ v rest. got tt rest)
unfolding skip_of
skip_fixed32 t e l = rw e

-- Past a value that was read, and where it could not be read.
module _
    {A B : Type 0}
    {says : A → B}
    {n : ℕ}
    {s : List ℕ}
    {at t : ℕ}
    {reading : List ℕ → Read B}
    (is : (l : List ℕ) → skip_of t l ≡ and_then (reading l) (λ v rest. got tt rest))
  where
    pub skipped_past : {a : A} {c : Cursor} → ReadPost says n s at reading (Ok (a, c)) → SkipPost s t at (Ok c)
    skipped_past p = record { answer = then_same _ p.answer ∙ sym (is (drop at s)); inside = (omega (arith, p.inside.0), p.inside.1) }

    pub skip_failed : {e : ReadError} → ReadPost says n s at reading (Err e) → (r : Result Cursor ReadError) → IsErrAnd r (λ y. y ≡ e) → SkipPost s t at r
    skip_failed p (Ok x) h = absurd h
    skip_failed p (Err y) h = record { answer = stopped p _ h ∙ sym (is (drop at s)); inside = tt }

pub skip_unknown : (s : List ℕ) (at t : ℕ) → (t % 8 ≡ 0 → ⊥) → (t % 8 ≡ 1 → ⊥) → (t % 8 ≡ 2 → ⊥) → (t % 8 ≡ 5 → ⊥)
    → SkipPost s t at (Err InvalidWireType)
unfolding skip_of
skip_unknown s at t a b d e = record { answer = sym (rw (ne_eqb _ _ a, ne_eqb _ _ b, ne_eqb _ _ d, ne_eqb _ _ e)); inside = tt }

-- ---- one field after the other, to the end of a message

module _ {A : Type 0} (field : ℕ → List ℕ → A → Read A) where
  pub fields_end : (n : ℕ) (a : A) → fields_of field n [] a ≡ got a []
  unfolding fields_of
  fields_end zero a = refl
  fields_end (suc n) a = refl

  pub fields_step : (n : ℕ) (l : List ℕ) (a : A) → 0 < length l
      → fields_of field (suc n) l a ≡ and_then (field_of field l a) (λ next rest. fields_of field n rest next)
  unfolding fields_of
  fields_step n [] a h = absurd (let z : ⊥ = omega arith in z)
  fields_step n (b ∷ l) a h = refl

  -- Where a loop over the fields of the message l is: at a position, with a read so far; the whole is what the rest makes of that.
  pub record Going (l : List ℕ) (at : ℕ) (whole : Read A) (a : A) : Type 0 where
    pub bound : ℕ
    pub enough : length l ≤ at + bound
    pub rest : whole ≡ fields_of field bound (drop at l) a

  pub going_start : (l : List ℕ) (a : A) → Going l 0 (message_of field l a) a
  unfolding message_of
  going_start l a = record { bound = length l; enough = omega arith; rest = refl }

-- The loop's next turn, and its end.
module _ {A : Type 0} {field : ℕ → List ℕ → A → Read A} {l : List ℕ} {at : ℕ} {whole : Read A} {a : A} (g : Going field l at whole a) where
  pub going_end : length l ≤ at → whole ≡ got a []
  going_end h = g.rest ∙ ap (λ (r : List ℕ). fields_of field g.bound r a) (drop_of_length-le l h) ∙ fields_end field g.bound a

  module _ (h : at < length l) where
    one_more : (n : ℕ) × (length l ≤ at + 1 + n) × (whole ≡ and_then (field_of field (drop at l) a) (λ next rest. fields_of field n rest next))
    one_more = go g.bound g.enough g.rest
      where
        go : (n : ℕ) → length l ≤ at + n → whole ≡ fields_of field n (drop at l) a
            → (n : ℕ) × (length l ≤ at + 1 + n) × (whole ≡ and_then (field_of field (drop at l) a) (λ next rest. fields_of field n rest next))
        go zero e w = absurd (let z : ⊥ = omega arith in z)
        go (suc n) e w = (n, omega arith, w ∙ fields_step field n (drop at l) a (omega (arith, length-drop at l)))

    pub going_next : {b : A} {next : ℕ} → at + 1 ≤ next → got b (drop next l) ≡ field_of field (drop at l) a → Going field l next whole b
    going_next le e = record { bound = one_more.0; enough = omega (arith, one_more.1); rest = one_more.2 ∙ then_same _ (sym e) }

    pub going_refused : {n : ℕ} → refused n ≡ field_of field (drop at l) a → refused n ≡ whole
    going_refused e = then_same _ e ∙ sym one_more.2
