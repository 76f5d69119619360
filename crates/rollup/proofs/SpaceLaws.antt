-- Question 17 asks of each state for the registers of the roll-up, so those of a started one have room for as long as it is not moved, in list form too.
use Rattle.std.proofs.Common.{◌≡◌, ℕ, ◌≤◌, true, false, ltb, List, length, sym, refl, ap, ◌∙◌, subst, ⊎_elim, le_trans, le_of_eq}
use native.Mathlib.Nat.{min-le_left}
use Rattle.lists.specs.Registers.{register_bytes}
use Rattle.lists.proofs.RegisterLaws.{fewer_bytes}
use Rattle.rollup.specs.declared.accumulator.Form.{Form}
use Rattle.rollup.specs.declared.accumulator.Form.TheVariants.{Unstarted, Sparse, Dense}
use Rattle.rollup.specs.declared.accumulator.Accumulator.{Accumulator}
use Rattle.rollup.specs.declared.incoming.Incoming.{Incoming}
use Rattle.rollup.specs.Accumulator.{Mem, kept_of, limit, fits, is_started}
use Rattle.rollup.specs.Header.{data_of, is_empty}
use Rattle.rollup.specs.Adding.{state_numbers, wanted_precision, AddPost}
use Rattle.rollup.specs.Calls.{Call, Steps, begun, adding, writing, moving, Unmoved, state_in, values_in}
use Rattle.rollup.specs.Taking.{After, counted, settle, waits, inserts, dense_after, taken_after}
use Rattle.rollup.proofs.TakeLaws.{ready_takes}
use Rattle.rollup.proofs.WaysLaws.{start_ways, settle_ways, list_ways, sparse_ways}
use Rattle.rollup.proofs.ViewLaws.{IsRefused, IsAccepted, add_view, steps_fit}

-- ---- what is taken in leaves no larger precision than 17 asked for

abbrev Within : ℕ → After → Type 0
Within p x = x.head.precision ≤ p

module _ (a : Accumulator) (m : Mem) (x : Incoming) (row vs : List ℕ) where
  abbrev Own : After → Type 0
  Own = Within a.precision

  merge_within : (l : List ℕ) (bytes : ℕ) → Own (settle (counted a x) m.registers l bytes)
  merge_within l bytes =
      settle_ways Own (counted a x) m.registers l bytes (λ (e : ltb bytes (limit a.precision) ≡ true). le_of_eq refl)
      (λ (e : ltb bytes (limit a.precision) ≡ false). le_of_eq refl)

  taken_within : (f : Form) → Within (wanted_precision f a x.precision) (taken_after f a m x row vs)
  unfolding dense_after
  taken_within Unstarted =
      start_ways (Within x.precision) m x row vs (λ (e : is_empty row ≡ true). le_of_eq refl) (λ (e : is_empty row ≡ false). le_of_eq refl)
  taken_within Sparse =
      sparse_ways Own a m x row vs
      (λ (e : is_empty row ≡ true).
      list_ways Own (counted a x) m vs a x refl (λ (e : length vs ≡ 0). le_of_eq refl) (λ (e : waits a x (length vs) ≡ true). le_of_eq refl)
      (merge_within _ _) (λ (z : a.pending_len ≡ 0) (e : inserts a (kept_of a m) (length vs) ≡ true). merge_within _ _))
      (λ (e : is_empty row ≡ false). le_of_eq refl)
  taken_within Dense = min-le_left a.precision x.precision

-- ---- the registers of a started roll-up have room

abbrev pub Space : Accumulator → Mem → Type 0
Space a m = is_started a.form ≡ true → register_bytes a.precision ≤ length m.registers

-- The same head, and as many register bytes.
space_same : (a : Accumulator) (m : Mem) (r : Accumulator) (n : Mem) → r ≡ a → length n.registers ≡ length m.registers → Space a m → Space r n
space_same a m r n e f s =
    subst (λ (h : Accumulator). Space h n) (sym e) (λ (t : is_started a.form ≡ true). subst (λ (k : ℕ). register_bytes a.precision ≤ k) (sym f) (s t))

add_space : (a : Accumulator) (m : Mem) (room : ℕ) (bytes : List ℕ) (answer : ℕ) (head : Accumulator) (n : Mem) → fits a m ≡ true → AddPost a m room bytes answer head n → Space a m
    → Space head n
add_space a m room bytes answer head n fit post s =
    ⊎_elim (λ (x : IsRefused a m answer head n). space_same a m head n x.same.head post.free.registers s)
    (λ (x : IsAccepted a m room bytes answer head n) (t : is_started head.form ≡ true).
    let st = state_in bytes in
    let vs = values_in st in
    let wanted = wanted_precision a.form a st.hll.precision in
    let low : head.precision ≤ wanted =
    subst (λ (h : Accumulator). h.precision ≤ wanted) (sym x.shows.head) (taken_within a m (state_numbers st vs) (data_of st) vs a.form) in
    let room_in : register_bytes wanted ≤ length n.registers =
    subst (λ (k : ℕ). register_bytes wanted ≤ k) (sym post.free.registers) (ready_takes x.ready).in_registers in
    le_trans (fewer_bytes head.precision wanted low) room_in) (add_view a m room bytes answer head n fit post)

-- As many register bytes as at the start, and room for the registers.
pub record Spacious (m₀ : Mem) (a : Accumulator) (m : Mem) : Type 0 where
  pub same : length m.registers ≡ length m₀.registers
  pub space : Space a m

pub steps_spacious : {a₀ : Accumulator} {m₀ : Mem} {calls : List Call} {a : Accumulator} {m : Mem} → Steps a₀ m₀ calls a m → Unmoved calls → fits a₀ m₀ ≡ true
    → Space a₀ m₀ → Spacious m₀ a m
unfolding Unmoved
steps_spacious begun u fit s = record { same = refl; space = s }
steps_spacious (adding {a = a} {m = m} room bytes answer head n steps post) u fit s =
    let before = steps_spacious steps u fit s in
    record { same = post.free.registers ∙ before.same; space = add_space a m room bytes answer head n (steps_fit steps fit) post before.space }
steps_spacious (writing {a = a} {m = m} room out answer len n after steps post) u fit s =
    let before = steps_spacious steps u fit s in
    let same = ap length post.same.registers in
    record { same = same ∙ before.same; space = space_same a m a n refl same before.space }
steps_spacious (moving n steps post) u fit s = absurd u
