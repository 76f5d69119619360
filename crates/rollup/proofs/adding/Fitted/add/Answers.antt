-- Each question that is answered with no leaves all as it was; else what the accepted state leaves is what adding was to leave.
use Rattle.std.proofs.Common.{ℕ, length, ◌∙◌, ap, sym, subst}
use Rattle.std.proofs.lemmas.Bool.{not_from_false, not_from_true}
use Rattle.std.proofs.lemmas.Result.{err_from_is_err_and}
use Rattle.wire.proofs.BoolLaws.{said_yes, said_no}
use Rattle.rollup.specs.Lent.{mem_of}
use Rattle.rollup.specs.Refusals.{number, answer_of}
use Rattle.rollup.specs.Stages.{FittingPost}
use Rattle.rollup.proofs.AddLaws.{judge_stop, room_pre, room_stop, list_pre, list_stop, accept_pre, all_accepted}
use Rattle.rollup.proofs.adding.Fitted.add.Goals as goal

pub returns-in_err-view-clause-post : goal.returns-in_err-view-clause-post
returns-in_err-view-clause-post c =
    let a = c.args.self.now.head in
    let m = mem_of c.args.memory.now in
    let room = length c.args.memory.now.scratch.now in
    let y = err_from_is_err_and c.from_residual.result c.from_residual.ensures.1 in
    subst (λ (n : ℕ). FittingPost a m room c.args.bytes.now n c.args.self.now m) (sym (ap answer_of y.1 ∙ ap number y.2))
    (record { added = judge_stop a m room c.args.bytes.now c.requires.fit c.in_err-view.field-0.0 c.in_err-view.ensures.read; sound = c.requires })

pub has_room-requires : goal.has_room-requires
has_room-requires c =
    room_pre c.args.self.now.head (mem_of c.args.memory.now) (length c.args.memory.now.scratch.now) c.args.bytes.now c.requires.fit c.in_ok-view.view
    c.in_ok-view.ensures.read

pub returns-then-not-has_room-clause-post : goal.returns-then-not-has_room-clause-post
returns-then-not-has_room-clause-post c =
    record {
      added =
          room_stop c.args.self.now.head (mem_of c.args.memory.now) (length c.args.memory.now.scratch.now) c.args.bytes.now c.requires.fit c.in_ok-view.view
          c.in_ok-view.ensures.read (said_no c.has_room.ensures (not_from_false _ c.if-not-has_room.true));
      sound = c.requires;
    }

pub decode_listed-requires : goal.decode_listed-requires
decode_listed-requires c =
    list_pre c.args.self.now.head (mem_of c.args.memory.now) (length c.args.memory.now.scratch.now) c.args.bytes.now c.requires.fit c.in_ok-view.view
    c.in_ok-view.ensures.read (said_yes c.has_room.ensures (not_from_true _ c.if-not-has_room.false))

pub returns-in_err-k-clause-post : goal.returns-in_err-k-clause-post
returns-in_err-k-clause-post c =
    let a = c.args.self.now.head in
    let m = mem_of c.args.memory.now in
    let room = length c.args.memory.now.scratch.now in
    let y = err_from_is_err_and c.from_residual-in_err-k.result c.from_residual-in_err-k.ensures.1 in
    subst (λ (n : ℕ). FittingPost a m room c.args.bytes.now n c.args.self.now m) (sym (ap answer_of y.1 ∙ ap number y.2))
    (record {
      added =
          list_stop a m room c.args.bytes.now c.requires.fit c.in_ok-view.view c.in_ok-view.ensures.read
          (said_yes c.has_room.ensures (not_from_true _ c.if-not-has_room.false)) c.in_err-k.field-0.0 c.decode_listed.new.scratch c.in_err-k.ensures;
      sound = c.requires;
    })

pub accept-requires : goal.accept-requires
accept-requires c =
    accept_pre c.args.self.now.head (mem_of c.args.memory.now) (length c.args.memory.now.scratch.now) c.args.bytes.now c.requires.fit c.in_ok-view.view
    c.in_ok-view.ensures.read (said_yes c.has_room.ensures (not_from_true _ c.if-not-has_room.false)) c.in_ok-k.k c.decode_listed.new.scratch c.in_ok-k.ensures
    c.decode_listed.auto.scratch c.args.self.now.distinct c.requires.known

pub returns-clause-post : goal.returns-clause-post
returns-clause-post c = let h = c.accept.ensures.same in
    all_accepted c.args.self.now.head (mem_of c.args.memory.now) (length c.args.memory.now.scratch.now) c.args.bytes.now c.requires.fit c.in_ok-view.view
    c.in_ok-view.ensures.read (said_yes c.has_room.ensures (not_from_true _ c.if-not-has_room.false)) c.in_ok-k.k c.decode_listed.new.scratch c.in_ok-k.ensures
    c.decode_listed.auto.scratch c.accept.result _ c.accept.ensures.post
    (record { registers = h.registers_length; sparse = h.sparse_length; pending = h.pending_length })
