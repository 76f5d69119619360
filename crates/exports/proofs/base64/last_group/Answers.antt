-- The last four characters, by how many of them are padding.
use Prim.Native.Nat.{ℕ}
use mathlib.Core.Path.{◌≡◌, sym, ap, subst}
use mathlib.Core.List.{List}
use lib.ListN.{take}
use Rattle.std.specs.Prelude.{Option, None}
use Rattle.console.specs.Input.{onto}
use Rattle.exports.specs.Words.{Decodes}
use Rattle.exports.specs.Base64.{base64_of}
use Rattle.exports.proofs.Base64Laws.{last_three, last_two, last_one}
use Rattle.exports.proofs.base64.last_group.Goals as goal

-- What is decided of the group's bits is decided of the group.
by : (done out : List ℕ) (r : Option ℕ) (group : List ℕ) {d : Option (List ℕ)} → d ≡ base64_of group → Decodes (onto done d) r out → Decodes (onto done (base64_of group)) r out
by done out r group e p = subst (λ (d : Option (List ℕ)). Decodes (onto done d) r out) e p

none_by : (done out : List ℕ) (r : Option ℕ) (group : List ℕ) → None ≡ base64_of group → r ≡ None → Decodes (onto done (base64_of group)) r out
none_by done out r group e f = subst (λ (x : Option ℕ). Decodes (onto done (base64_of group)) x out) (sym f) (sym (ap (onto done) e))

pub returns-in_err-bits : goal.returns-in_err-bits
returns-in_err-bits c = none_by (take c.args.n c.args.out.now) c.args.out.now _ c.args.group.now (last_three c.args.group.now c.requires.0 None c.if-fourth-ne61.true c.in_err-bits.ensures.value) c.from_residual.ensures

pub returns-then-fourth-ne61 : goal.returns-then-fourth-ne61
returns-then-fourth-ne61 c = by (take c.args.n c.args.out.now) c.put_end.new.out c.put_end.result c.args.group.now (last_three c.args.group.now c.requires.0 _ c.if-fourth-ne61.true c.in_ok-bits.ensures.value) c.put_end.ensures

pub returns-in_err-bits-2 : goal.returns-in_err-bits-2
returns-in_err-bits-2 c = none_by (take c.args.n c.args.out.now) c.args.out.now _ c.args.group.now (last_two c.args.group.now c.requires.0 None c.if-fourth-ne61.false c.if-third-ne61.true c.in_err-bits-2.ensures.value) c.from_residual-in_err-bits-2.ensures

pub returns-then-third-ne61 : goal.returns-then-third-ne61
returns-then-third-ne61 c = by (take c.args.n c.args.out.now) c.put_end-then-third-ne61.new.out c.put_end-then-third-ne61.result c.args.group.now (last_two c.args.group.now c.requires.0 _ c.if-fourth-ne61.false c.if-third-ne61.true c.in_ok-bits-2.ensures.value) c.put_end-then-third-ne61.ensures

pub returns-in_err-bits-3 : goal.returns-in_err-bits-3
returns-in_err-bits-3 c = none_by (take c.args.n c.args.out.now) c.args.out.now _ c.args.group.now (last_one c.args.group.now c.requires.0 None c.if-fourth-ne61.false c.if-third-ne61.false c.in_err-bits-3.ensures.value) c.from_residual-in_err-bits-3.ensures

pub returns : goal.returns
returns c = by (take c.args.n c.args.out.now) c.put_end-2.new.out c.put_end-2.result c.args.group.now (last_one c.args.group.now c.requires.0 _ c.if-fourth-ne61.false c.if-third-ne61.false c.in_ok-bits-3.ensures.value) c.put_end-2.ensures
