use Rattle.vers_rmq.proofs.Names.{◌≡◌, ◌+◌, ◌*◌, get_or, length, rules, arith, ap, get_or_read, pow_pos}
use Rattle.vers_rmq.proofs.Tables.{level_at, room_of, table_size}
use Rattle.vers_rmq.proofs.rmq.binary_rmq.BinaryRmq.entry.Goals as goal

pub overflow_mul-len : goal.overflow_mul-len
overflow_mul-len g c = omega (arith, table_size _ c.self.inside.table.items c.self.invariant, room_of _ c.self.inside.table.items c.args.k c.args.i c.len.result c.self.invariant (omega (arith, ap length c.self.view_is, c.requires)) c.len.ensures.value)

pub overflow_add-len : goal.overflow_add-len
overflow_add-len g c = omega (arith, table_size _ c.self.inside.table.items c.self.invariant, room_of _ c.self.inside.table.items c.args.k c.args.i c.len.result c.self.invariant (omega (arith, ap length c.self.view_is, c.requires)) c.len.ensures.value)

pub index-requires : goal.index-requires
index-requires g c =
    let inside = room_of _ c.self.inside.table.items c.args.k c.args.i c.len.result c.self.invariant (omega (arith, ap length c.self.view_is, c.requires)) c.len.ensures.value in
    search (rules, inside)

pub returns : goal.returns
returns g c =
    let inside = room_of _ c.self.inside.table.items c.args.k c.args.i c.len.result c.self.invariant (omega (arith, ap length c.self.view_is, c.requires)) c.len.ensures.value in
    let entry : c.index.result.now ≡ get_or c.self.inside.table.items (c.len.result * c.args.k + c.args.i) 0 = get_or_read _ _ _ inside c.index.ensures 0 in
    let found = rw (c.self.view_is, ← entry) at (level_at c.self.inside.items c.self.inside.table.items c.args.k c.args.i c.len.result c.self.invariant c.len.ensures.value (omega (arith, ap length c.self.view_is, c.requires))) in
    record { value = found; inside = omega (arith, found.to, pow_pos c.args.k, c.requires) }
