use Rattle.vers_wavelet.proofs.Names.{◌≡◌, arith, length, select_reads, superblock_count, changed_on, adds_times}
use Rattle.vers_wavelet.proofs.Groups.{become_changed}
use Rattle.vers_wavelet.proofs.wavelet.batch.select.rise_each.Goals as goal

pub rise_group-requires-clause-seeks : goal.rise_group-requires-clause-seeks
rise_group-requires-clause-seeks g c = grind arith

pub loop-from-preserved : goal.loop-from-preserved
loop-from-preserved g c = record {
  within = omega arith;
  changed = changed_on c.loop-from.invariant.changed c.rise_group.ensures.each;
  adds = adds_times _ _ (select_reads (superblock_count c.args.len)) c.loop-from.invariant.adds c.rise_group.ensures.adds;
}

pub returns : goal.returns
returns g c =
    let all : c.loop-from.from ≡ length c.args.queries.now = omega arith in
    record { each = become_changed c.loop-from.invariant.changed (omega arith); adds = rw all at c.loop-from.invariant.adds }

pub rise_group-requires-clause-levels : goal.rise_group-requires-clause-levels
rise_group-requires-clause-levels g c = c.requires.levels
