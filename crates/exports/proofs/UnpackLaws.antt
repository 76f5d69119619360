-- Laws of the text of a batch: a line, the lines of the records so far, and what unpacking answers.
use mathlib.Core.Path.{◌≡◌, refl, sym, ap, ◌∙◌}
use mathlib.Core.List.{List, [], ◌∷◌, ◌++◌, append_assoc, map, map-append}
use mathlib.Core.Bool.{Bool, true, false, cond}
use Prim.Native.Nat.{ℕ, ◌+◌, ◌*◌, ◌-◌, ◌^◌, ◌<◌, ◌≤◌}
use native.Mathlib.Omega.{arith}
use lib.Dec.{leb}
use lib.ListN.{length, set, length-append}
use lib.Seq.{length-sets}
use borrow.Author.Tests.{le-leb, lt-leb}
use borrow.Rule.Slice.PartMut.{mid_of, put_mid}
use Rattle.wire.specs.Varints.{PutPost}
use Rattle.wire.proofs.EncodingLaws.{Two, two_length, put_both, put_none, put_same}
use Rattle.batch.specs.declared.chain.ChainError.{ChainError}
use Rattle.batch.specs.Chain.{state_at, is_batch, Chain, onto, chain_of}
use Rattle.batch.proofs.ChainLaws.{chain_is, batch_size, Walk, walk_start, walk_turn, walk_few}
use Rattle.batch.proofs.UnpackingLaws.{state_short}
use Rattle.console.specs.Output.{hex_text, HexPost}
use Rattle.console.proofs.OutputLaws.{hex_length, hex_size, hex_line}
use Rattle.std.specs.Prelude.{⊤, Result, Ok, Err}
use Rattle.exports.specs.declared.unpacking.UnpackError.{UnpackError}
use Rattle.exports.specs.declared.unpacking.UnpackError.TheVariants.{Broken, TooLong}
use Rattle.exports.specs.Text.{line_of, text_of}
use Rattle.exports.specs.Unpacking.{batch_text, unless_broken, unpacked_of, UnpackedPost}

-- ---- a line

pub line_length : (s : List ℕ) → length (line_of s) ≡ 2 * length s + 1
line_length s = omega (arith, length-append (hex_text s) (10 ∷ []), hex_length s)

-- The digits were put into the part of the buffer from `at` on, which has m bytes.
pub line_put : (out y s : List ℕ) (at k m : ℕ) → at + length (line_of s) ≤ length out → m ≡ length out - at → HexPost s (mid_of at m out) k y
    → PutPost out at (line_of s) (at + k + 1) (set (put_mid at m out y) (at + k) 10)
line_put out y s at k m room e p =
    record { next = omega (arith, hex_size p, line_length s); output = hex_line out y s at k m (omega (arith, line_length s)) (omega (arith, line_length s)) p }

-- ---- the lines of the records so far

text_append : (a b : List (List ℕ)) → text_of (a ++ b) ≡ text_of a ++ text_of b
unfolding text_of
text_append [] b = refl
text_append (s ∷ a) b = ap (λ (l : List ℕ). hex_text s ++ 10 ∷ l) (text_append a b) ∙ sym (append_assoc (hex_text s) (10 ∷ text_of a) (text_of b))

text_one : (s : List ℕ) → text_of (s ∷ []) ≡ line_of s
unfolding text_of
text_one s = refl

text_none : text_of [] ≡ []
unfolding text_of
text_none = refl

abbrev lines : List ℕ → List ℕ → List ℕ
lines batch indices = text_of (map (state_at batch) indices)

-- One line more.
lines_next : (batch done : List ℕ) (i : ℕ) → Two (lines batch (done ++ i ∷ [])) (lines batch done) (line_of (state_at batch i))
lines_next batch done i =
    record {
      is =
          ap text_of (map-append (state_at batch) done (i ∷ []))
          ∙ text_append (map (state_at batch) done) (state_at batch i ∷ [])
          ∙ ap (λ (l : List ℕ). lines batch done ++ l) (text_one (state_at batch i));
    }

-- Lines of records that the chain has are no longer than all of them.
lines_short : {batch done : List ℕ} {rest : Chain} → Walk batch done rest → length (lines batch done) ≤ length (batch_text batch)
lines_short {batch} {done} {rest} w =
    omega (
      arith,
      ap (λ (l : List ℕ). length (lines batch l)) w.indices
          ∙ ap (λ (l : List (List ℕ)). length (text_of l)) (map-append (state_at batch) done rest.indices)
          ∙ ap (λ (l : List ℕ). length l) (text_append (map (state_at batch) done) (map (state_at batch) rest.indices))
          ∙ length-append (lines batch done) (lines batch rest.indices),
    )

-- Only a batch has a record, which is no longer than the batch.
record_short : {batch done : List ℕ} {rest next : Chain} {i : ℕ} (state : List ℕ) → Walk batch done rest → rest ≡ onto i next → state ≡ state_at batch i → length state ≤ 65536
record_short {batch} {done} {rest} {next} {i} state w e s = go (is_batch batch) refl
  where
    go : (t : Bool) → is_batch batch ≡ t → length state ≤ 65536
    go true f = omega (arith, (batch_size batch f).1, state_short batch state i s)
    go false f =
        let none : length (chain_of batch).indices ≡ 0 = ap (λ (c : Chain). length c.indices) (chain_is batch f) in
        let z : ⊥ = omega (arith, none, ap (λ (l : List ℕ). length l) (w.indices ∙ ap (λ (c : Chain). done ++ c.indices) e), length-append done (i ∷ next.indices)) in
        absurd z

-- The records so far were counted, and their lines measured.
pub record Measuring (batch : List ℕ) (rest : Chain) (records n : ℕ) : Type 0 where
  pub done : List ℕ
  pub walk : Walk batch done rest
  pub counted : records ≡ length done
  pub size : n ≡ length (lines batch done)
  pub few : n ≤ 131073 * records

pub measuring_start : {batch : List ℕ} {rest : Chain} → chain_of batch ≡ rest → Measuring batch rest 0 0
measuring_start e = record { done = []; walk = walk_start e; counted = refl; size = sym (ap (λ (l : List ℕ). length l) text_none); few = omega arith }

module _ {batch : List ℕ} {rest : Chain} {records n : ℕ} (g : Measuring batch rest records n) where
  -- While a record is left, few are done, and the text with its line is short.
  pub measuring_few : {i : ℕ} {next : Chain} → rest ≡ onto i next → records < 65536
  measuring_few e = omega (arith, walk_few g.walk e, g.counted)

  pub measuring_short : {i : ℕ} {next : Chain} (state : List ℕ) → rest ≡ onto i next → state ≡ state_at batch i → n + (2 * length state + 1) < 2 ^ 64
  measuring_short state e s = omega (arith, g.few, measuring_few e, record_short state g.walk e s)

  pub measuring_turn : {i : ℕ} {next : Chain} (state : List ℕ) → rest ≡ onto i next → state ≡ state_at batch i
      → Measuring batch next (records + 1) (n + (2 * length state + 1))
  measuring_turn {i} state e s =
      let line : length (line_of (state_at batch i)) ≡ 2 * length state + 1 = sym (ap (λ (l : List ℕ). length (line_of l)) s) ∙ line_length state in
      record {
        done = g.done ++ i ∷ [];
        walk = walk_turn g.walk e;
        counted = omega (arith, g.counted, length-append g.done (i ∷ []));
        size = omega (arith, g.size, two_length (lines_next batch g.done i), line);
        few = omega (arith, g.few, record_short state g.walk e s);
      }

-- The lines of the records so far stand at the front.
pub record Lining (batch : List ℕ) (rest : Chain) (out : List ℕ) (at : ℕ) (now : List ℕ) : Type 0 where
  pub done : List ℕ
  pub walk : Walk batch done rest
  pub put : PutPost out 0 (lines batch done) at now

pub lining_start : {batch : List ℕ} {rest : Chain} (out : List ℕ) → chain_of batch ≡ rest → Lining batch rest out 0 out
lining_start out e = record { done = []; walk = walk_start e; put = put_none out 0 text_none }

module _ {batch : List ℕ} {rest : Chain} {out : List ℕ} {at : ℕ} {now : List ℕ} (g : Lining batch rest out at now) where
  -- There is room for the next line where there is for all of them.
  pub lining_room : {i : ℕ} {next : Chain} (state : List ℕ) → rest ≡ onto i next → state ≡ state_at batch i → length (batch_text batch) ≤ length out
      → at + length (line_of state) ≤ length now
  lining_room {i} state e s room =
      omega (
        arith,
        ap (λ (l : List ℕ). length (line_of l)) s,
        g.put.next,
        two_length (lines_next batch g.done i),
        lines_short (walk_turn g.walk e),
        ap (λ (l : List ℕ). length l) g.put.output ∙ length-sets out 0 (lines batch g.done),
      )

  pub lining_turn : {i next_at : ℕ} {next : Chain} {after : List ℕ} (state : List ℕ) → rest ≡ onto i next → state ≡ state_at batch i → PutPost now at (line_of state) next_at after
      → Lining batch next out next_at after
  lining_turn {i} state e s p =
      record { done = g.done ++ i ∷ []; walk = walk_turn g.walk e; put = put_both (lines_next batch g.done i) g.put (put_same (ap line_of s) p) }

-- ---- what unpacking answers

module _ (batch out : List ℕ) where
  -- What is answered of a batch whose chain is not broken.
  abbrev unbroken : Result ℕ UnpackError
  unbroken = cond (leb (length (batch_text batch)) (length out)) (Ok (length (batch_text batch))) (Err TooLong)

  ends_so : (x : Result ⊤ ChainError) → (chain_of batch).ending ≡ x → unpacked_of (length out) batch ≡ unless_broken x (length (chain_of batch).indices) unbroken
  unfolding unpacked_of
  ends_so x e = ap (λ (r : Result ⊤ ChainError). unless_broken r (length (chain_of batch).indices) unbroken) e

  pub unpack_broken : {records : ℕ} (error : ChainError) → records ≡ length (chain_of batch).indices → (chain_of batch).ending ≡ Err error
      → UnpackedPost batch out (Err (Broken records error)) out
  unpack_broken error counted e = record { answer = ap (λ (k : ℕ). Err (Broken k error)) counted ∙ sym (ends_so (Err error) e); output = refl }

  module _ (e : (chain_of batch).ending ≡ Ok tt) where
    ended : (t : Bool) → leb (length (batch_text batch)) (length out) ≡ t → unpacked_of (length out) batch ≡ cond t (Ok (length (batch_text batch))) (Err TooLong)
    ended t f = ends_so (Ok tt) e ∙ ap (λ (b : Bool). cond b (Ok (length (batch_text batch))) (Err TooLong)) f

    pub unpack_long : length out < length (batch_text batch) → UnpackedPost batch out (Err TooLong) out
    unpack_long h = record { answer = sym (ended false (lt-leb (length (batch_text batch)) (length out) h)); output = refl }

    pub unpack_text : (now : List ℕ) (r : ℕ) → length (batch_text batch) ≤ length out → PutPost out 0 (batch_text batch) r now → UnpackedPost batch out (Ok r) now
    unpack_text now r h p =
        let size : r ≡ length (batch_text batch) = omega (arith, p.next) in
        record { answer = ap Ok size ∙ sym (ended true (le-leb (length (batch_text batch)) (length out) h)); output = p.output }
