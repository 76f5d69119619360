-- Each byte is the one that the pattern names, and the nested message stands at 6, or at 8 behind a value type.
use Rattle.std.proofs.Common.{rules, ◌-◌, List, ℕ, length, take, drop}
use mathlib.Core.Bool.{false}
use mathlib.Core.Path.{◌≡◌, ap, refl, sym, ◌∙◌}
use Rattle.wire.proofs.SmallListLaws.{SmallBytes, SmallFront, SmallPlace, rest_length, no_value_type, with_value_type, small_list_got}
use Rattle.wire.proofs.small_list.parse_small_list.Goals.{in-32, in_default-rest}
use Rattle.wire.proofs.small_list.parse_small_list.Goals as goal

pub returns : goal.returns
returns c =
    let s : List ℕ = c.args.s.now in
    let n : List ℕ = c.if-rest-lt2.value_type.1.now in
    let len : ℕ = length (take (length n - 11) (drop 11 n)) in
    let bytes : SmallBytes n len = record {
      long = c.in-130.len_at_least;
      rest = rest_length n 11;
      nested = search rules;
      nested_high = search rules;
      nested_length = sym c.from.ensures ∙ c.if-from-list.false;
      size = search rules;
      precision = search rules;
      sparse_precision = search rules;
      sparse_data = search rules;
      data_length = sym c.from-else-from-list.ensures ∙ c.if-from-list-2.false;
    } in
    let front : SmallFront s = record { type_tag = search rules; type_value = search rules; count_tag = search rules; version_tag = search rules; version_value = search rules } in
    let place : SmallPlace s n c.if-rest-lt2.value_type.0 = elim c.if-rest-lt2.branch [ in-32 w ↦ with_value_type refl w.in-32.len_at_least (search rules) (ap (λ x. x.0) w.value_type-is) (ap (λ x. x.1.now) w.value_type-is) | in_default-rest w ↦ no_value_type c.in-8.len_at_least (ap (λ x. x.1.now) w.value_type-is) (ap (λ x. x.0) w.value_type-is) ] in
    let empty : c.default.result ≡ record { sparse_size = 0; precision = 0; sparse_precision = 0; data_present = false; sparse_data_present = false; «data» = record { start = 0; len = 0 }; sparse_data = record { start = 0; len = 0 } } = search rules in
    rw empty (small_list_got place bytes front c.if-count-value_type-ge128.false c.from-5.ensures c.from-6.ensures c.from-2.ensures c.from-3.ensures c.from-4.ensures refl)
