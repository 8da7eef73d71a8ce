use Rattle.vers_sorted.proofs.Names.{◌∙◌, ap, arith, width}
use Rattle.vers_sorted.proofs.Parted.{packed_of}
use Rattle.vers_sorted.proofs.elias_fano.EliasFanoVec.from_parts.Goals as goal

pub invariant_of-result : goal.invariant_of-result
invariant_of-result g c =
    let packed = packed_of c.requires.0 _ _ _ c.width_of-width.result _ _ c.requires.1 c.requires.2 (c.width_of-width.ensures.value ∙ ap (width c.args.ends.len) c.span.ensures) (omega arith) c.width_of-width.ensures.narrow in
    rw (c.in_ok-from_bit_vec.ensures, c.new.ensures) packed.1

pub returns-clause-parts : goal.returns-clause-parts
returns-clause-parts g c =
    let packed = packed_of c.requires.0 _ _ _ c.width_of-width.result _ _ c.requires.1 c.requires.2 (c.width_of-width.ensures.value ∙ ap (width c.args.ends.len) c.span.ensures) (omega arith) c.width_of-width.ensures.narrow in
    rw (c.in_ok-from_bit_vec.ensures, c.new.ensures, packed.0) c.requires.2

pub returns-clause-ascending : goal.returns-clause-ascending
returns-clause-ascending g c =
    let packed = packed_of c.requires.0 _ _ _ c.width_of-width.result _ _ c.requires.1 c.requires.2 (c.width_of-width.ensures.value ∙ ap (width c.args.ends.len) c.span.ensures) (omega arith) c.width_of-width.ensures.narrow in
    rw (c.in_ok-from_bit_vec.ensures, c.new.ensures, packed.0) c.requires.1
