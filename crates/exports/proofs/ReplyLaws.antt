-- Laws of what the programs say: a message that was put, and what is said of lines that were packed and of a batch that was unpacked.
use mathlib.Core.Path.{◌≡◌, refl, sym, ap, ◌∙◌, subst}
use mathlib.Core.List.{List, [], ◌++◌}
use mathlib.Core.Bool.{Bool, true, false, cond, ◌&&◌}
use Prim.Native.Nat.{ℕ, ◌+◌, ◌-◌, ◌^◌, ◌≤◌, ◌<◌}
use native.Mathlib.Omega.{arith}
use lib.Dec.{leb}
use lib.ListN.{length, length-append}
use lib.Seq.{sets, length-sets}
use borrow.Author.Tests.{le-leb, lt-leb, leb-true}
use Rattle.wire.specs.Varints.{PutPost}
use Rattle.batch.specs.declared.chain.ChainError.{ChainError}
use Rattle.batch.specs.declared.chain.ChainError.TheVariants.{NoBatch, Broken}
use Rattle.batch.specs.Chain.{error_number, ordinal_of, is_batch, Chain, chain_of}
use Rattle.batch.specs.Packing.{packed}
use Rattle.batch.proofs.ChainLaws.{chain_is, chain_short}
use Rattle.std.specs.Prelude.{⊤, Result, Ok, Err, decimal}
use Rattle.std.specs.Fmt.{digits}
use Rattle.std.proofs.lemmas.Fmt.{length-decimal-le}
use Rattle.console.specs.Input.{Stream}
use Rattle.console.specs.declared.input.StreamError.TheVariants.{Full}
use Rattle.console.specs.declared.output.Said.{Said}
use Rattle.console.specs.declared.output.Said.TheVariants.{Out, Err as ErrSaid}
use Rattle.console.specs.Output.{ascii, Saying, out, err, SaidPost}
use Rattle.console.proofs.OutputLaws.{said_out, said_err}
use Rattle.exports.specs.declared.packing.PackError.{PackError}
use Rattle.exports.specs.declared.unpacking.UnpackError.{UnpackError}
use Rattle.exports.specs.declared.unpacking.UnpackError.TheVariants.{Broken as Cut, TooLong}
use Rattle.exports.specs.Packing.{packing_of, packed_of, PackedPost}
use Rattle.exports.specs.Unpacking.{batch_text, unless_broken, unpacked_of, put_of, UnpackedPost}
use Rattle.exports.specs.Replies.{line_message, packed_says, lines_say, thousands, pack_says, PackReply, chain_message, unpacked_says, batch_says, unpack_says}
use Rattle.exports.proofs.PackLaws.{made_bytes, made_counts}

-- ---- messages

-- A message that was put at the front is said.
pub put_said : {before message after : List ℕ} {r : ℕ} → length message ≤ length before → PutPost before 0 message r after → SaidPost (err message) before (ErrSaid r) after
put_said {before} {message} room p = said_err before message room (omega (arith, p.next)) p.output

-- A number of 64 bits has at most 20 digits.
pub decimal_short : (n : ℕ) → n < 2 ^ 64 → length (decimal n) ≤ 20
decimal_short n h = length-decimal-le 20 n (omega arith) (omega arith) h

pub line_message_short : (line : ℕ) (what : List ℕ) → line < 2 ^ 64 → length (line_message line what) ≤ 31 + length what
line_message_short line what h = omega (arith, length-append (ascii "pack: line " ++ decimal line) what, length-append (ascii "pack: line ") (decimal line), decimal_short line h)

pub error_short : (e : ChainError) → error_number e < 2 ^ 64
error_short NoBatch = omega arith
error_short Broken = omega arith

pub chain_message_short : (records : ℕ) (e : ChainError) → ordinal_of e records < 2 ^ 64 → length (chain_message records e) ≤ 128
chain_message_short records e h =
    omega (
      arith,
      length-append (ascii "unpack: the chain breaks at record " ++ decimal (ordinal_of e records)) ((ascii " with " ++ decimal (error_number e)) ++ ascii "\n"),
      length-append (ascii " with " ++ decimal (error_number e)) (ascii "\n"),
      decimal_short (ordinal_of e records) h,
      decimal_short (error_number e) (error_short e),
    )

-- ---- pack

module _ (lines : List ℕ) {spare before : List ℕ} {r : Result ℕ PackError} {left now : List ℕ} (size : length before ≡ 65536)
    (post : PackedPost (packing_of (length before) lines) spare before r left now) where
  abbrev batch : List ℕ
  batch = packed (packing_of (length before) lines).states

  lines_say_lem : {known : Result ℕ PackError} → r ≡ known → lines_say lines ≡ packed_says known batch
  unfolding lines_say
  lines_say_lem e =
      ap (λ (k : ℕ). packed_says (packed_of (packing_of k lines)) (packed (packing_of k lines).states)) (sym size)
      ∙ ap (λ (x : Result ℕ PackError). packed_says x (packed (packing_of (length before) lines).states)) (sym post.answer ∙ e)

  same_size : length now ≡ length before
  same_size = ap (λ (l : List ℕ). length l) post.output ∙ length-sets before 0 (packed (packing_of (length before) lines).states)

  pub batch_said : (n : ℕ) → r ≡ Ok n → PackReply (lines_say lines) spare before (Out n) left now
  batch_said n e = record { said = (ap out (made_bytes e post) ∙ sym (lines_say_lem e), made_counts e post); free = (post.free, same_size) }

  -- A message, over the batch of the lines before.
  pub line_said : {known : Result ℕ PackError} {w : Saying} {said : Said} {after : List ℕ} → r ≡ known → packed_says known batch ≡ w → length after ≡ length now
      → SaidPost w now said after → PackReply (lines_say lines) spare before said left after
  line_said e f kept s = record { said = (s.says ∙ sym (lines_say_lem e ∙ f), s.counts); free = (post.free, kept ∙ same_size) }

-- By the stream.
pub pack_said : (buf : List ℕ) {stream known : Stream} {spare before left after : List ℕ} {r : Said} → stream ≡ known → PackReply (pack_says known buf) spare before r left after
    → PackReply (pack_says stream buf) spare before r left after
pack_said buf {spare = spare} {before} {left} {after} {r} e p = subst (λ (x : Stream). PackReply (pack_says x buf) spare before r left after) (sym e) p

-- A message in the place of a batch.
pub pack_complained : {w : Saying} {spare before after : List ℕ} {r : Said} → length after ≡ length before → SaidPost w before r after → PackReply w spare before r spare after
pack_complained e s = record { said = (s.says, s.counts); free = (refl, e) }

-- A buffer of 262,145 bytes that is full.
pub too_long_said : (buf : List ℕ) {spare before left after : List ℕ} {r : Said} → length buf ≡ 262145
    → PackReply (err (ascii "pack: standard input is longer than 262,144 bytes\n")) spare before r left after → PackReply (pack_says (Err Full) buf) spare before r left after
unfolding digits
too_long_said buf {spare} {before} {left} {after} {r} e p =
    subst
    (λ (k : ℕ). PackReply (err (ascii "pack: standard input is longer than " ++ (thousands (k - 1) ++ ascii " bytes\n"))) spare before r left after) (sym e) p

-- ---- unpack

module _ {batch before : List ℕ} {r : Result ℕ UnpackError} {now : List ℕ} (size : length before ≡ 1048576) (post : UnpackedPost batch before r now) where
  says_so : batch_says batch ≡ unpacked_says r (batch_text batch)
  unfolding batch_says
  says_so = ap (λ (k : ℕ). unpacked_says (unpacked_of k batch) (batch_text batch)) (sym size) ∙ ap (λ (x : Result ℕ UnpackError). unpacked_says x (batch_text batch)) (sym post.answer)

  says_as : {known : Result ℕ UnpackError} → r ≡ known → batch_says batch ≡ unpacked_says known (batch_text batch)
  says_as e = says_so ∙ ap (λ (x : Result ℕ UnpackError). unpacked_says x (batch_text batch)) e

  now_as : {known : Result ℕ UnpackError} → r ≡ known → now ≡ sets before 0 (put_of known (batch_text batch))
  now_as e = post.output ∙ ap (λ (x : Result ℕ UnpackError). sets before 0 (put_of x (batch_text batch))) e

  -- The text is that of the answer's length, and fits.
  text_fits : (n : ℕ) → r ≡ Ok n → (n ≡ length (batch_text batch)) × (length (batch_text batch) ≤ length before)
  unfolding unpacked_of
  text_fits n e = by (chain_of batch).ending (leb (length (batch_text batch)) (length before)) refl (sym e ∙ post.answer)
    where
      by : (x : Result ⊤ ChainError) (t : Bool) → leb (length (batch_text batch)) (length before) ≡ t
          → Ok n ≡ unless_broken x (length (chain_of batch).indices) (cond t (Ok (length (batch_text batch))) (Err TooLong))
          → (n ≡ length (batch_text batch)) × (length (batch_text batch) ≤ length before)
      by (Ok x) true f g = (cc, leb-true (length (batch_text batch)) (length before) f)
      by (Ok x) false f g = absurd (let z : ◌≡◌ {A = ℕ} 0 1 = cc in omega arith)
      by (Err error) t f g = absurd (let z : ◌≡◌ {A = ℕ} 0 1 = cc in omega arith)

  pub text_said : (n : ℕ) → r ≡ Ok n → SaidPost (batch_says batch) before (Out n) now
  text_said n e =
      let f = text_fits n e in
      subst (λ (w : Saying). SaidPost w before (Out n) now) (sym (says_as e)) (said_out before (batch_text batch) f.1 f.0 (now_as e))

  -- Nothing was put.
  pub message_said : {known : Result ℕ UnpackError} {w : Saying} {said : Said} {after : List ℕ} → r ≡ known
      → unpacked_says known (batch_text batch) ≡ w → put_of known (batch_text batch) ≡ [] → SaidPost w now said after → SaidPost (batch_says batch) before said after
  message_said {w = w} {said} {after} e f none s =
      subst (λ (x : Saying). SaidPost x before said after) (sym (says_as e ∙ f)) (subst (λ (l : List ℕ). SaidPost w l said after) (now_as e ∙ ap (sets before 0) none) s)

  pub broken_records : (records : ℕ) (error : ChainError) → r ≡ Err (Cut records error) → records ≤ 65536
  unfolding unpacked_of
  broken_records records error e = by (chain_of batch).ending (leb (length (batch_text batch)) (length before)) (sym e ∙ post.answer)
    where
      by : (x : Result ⊤ ChainError) (t : Bool)
          → Err (Cut records error) ≡ unless_broken x (length (chain_of batch).indices) (cond t (Ok (length (batch_text batch))) (Err TooLong)) → records ≤ 65536
      by (Ok x) true g = absurd (let z : ◌≡◌ {A = ℕ} 0 1 = cc in omega arith)
      by (Ok x) false g = absurd (let z : ◌≡◌ {A = ℕ} 0 1 = cc in omega arith)
      by (Err other) t g = let z : records ≡ length (chain_of batch).indices = cc in omega (arith, chain_short batch)

pub unpack_said : (buf : List ℕ) {stream known : Stream} {before after : List ℕ} {r : Said} → stream ≡ known → SaidPost (unpack_says known buf) before r after
    → SaidPost (unpack_says stream buf) before r after
unpack_said buf {before = before} {after} {r} e p = subst (λ (x : Stream). SaidPost (unpack_says x buf) before r after) (sym e) p

-- A buffer that is full is no batch, by its length: 24.
pub full_says : (buf : List ℕ) → length buf ≡ 65537 → batch_says buf ≡ err (chain_message 0 NoBatch)
unfolding batch_says unpacked_of
full_says buf e =
    let long : is_batch buf ≡ false =
    ap (λ (t : Bool). t && leb (length buf) 65536) (le-leb 4 (length buf) (omega arith)) ∙ lt-leb (length buf) 65536 (omega arith) in
    ap
    (λ (c : Chain).
    unpacked_says
    (unless_broken c.ending (length c.indices) (cond (leb (length (batch_text buf)) 1048576) (Ok (length (batch_text buf))) (Err TooLong)))
    (batch_text buf))
    (chain_is buf long)

pub full_said : (buf : List ℕ) {before after : List ℕ} {r : Said} → length buf ≡ 65537 → SaidPost (batch_says buf) before r after → SaidPost (err (chain_message 0 NoBatch)) before r after
full_said buf {before} {after} {r} size p = subst (λ (w : Saying). SaidPost w before r after) (full_says buf size) p
