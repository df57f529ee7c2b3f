use Rattle.redact_2_turn.specs.Turn.{pass_of, pass_by}
use Rattle.redact_1_run.proofs.Rooms.{room_ahead, room_ordered, room_turned}
use Rattle.redact_1_run.proofs.run.next_turn.Goals as goal

pub take_turn-requires : goal.take_turn-requires
take_turn-requires c =
    let l = c.requires.1 in
    let p = c.requires.2 in
    (record { held = c.requires.0; aim = c.aim_of-aim.ensures; policy = l.policy }, l.segmented, room_ordered l.segmented c.with_room.ensures p.ordered, room_ahead _ p l.leaves c.with_room.ensures)

pub returns : goal.returns
unfolding pass_by
returns c = room_turned _ _ _ _ _ c.with_room.ensures c.requires.2.held (λ ks. pass_of c.args.on.key c.args.on.separators c.args.text.now ks c.args.turn) _ c.requires.1.segmented _ _ c.take_turn.ensures
