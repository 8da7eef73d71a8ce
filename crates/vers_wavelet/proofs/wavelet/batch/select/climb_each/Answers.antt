use Rattle.vers_wavelet.proofs.Names.{◌≡◌, ◌-◌, arith, length, times, select_reads, superblock_count}
use Rattle.vers_wavelet.proofs.Batches.{become_all, become_then, become_weaker, become_with, adds_once_more}
use Rattle.vers_wavelet.proofs.Walks.{adds_no_times}
use Rattle.vers_wavelet.proofs.wavelet.batch.select.climb_each.Goals as goal

pub loop-i-init : goal.loop-i-init
loop-i-init g c =
    let e : length c.args.levels.now - 0 ≡ length c.args.levels.now = omega arith in
    record {
      risen = become_with c.requires.begun c.turn_each.ensures (λ q r begun t. (t.0, t.1, rw e (t.2 c.args.levels.now c.requires.levels begun)));
      adds = adds_no_times _ 0 (times (length c.args.queries.now) (select_reads (superblock_count c.args.len)));
    }

pub rise_each-requires-clause-seeks : goal.rise_each-requires-clause-seeks
rise_each-requires-clause-seeks g c = grind (arith, become_all)

pub loop-i-preserved : goal.loop-i-preserved
loop-i-preserved g c = grind (arith, become_then, adds_once_more)

pub returns : goal.returns
returns g c =
    let none : length c.args.levels.now - c.loop-i.i ≡ 0 = omega arith in
    let all : c.loop-i.i ≡ length c.args.levels.now = omega arith in
    record { each = become_weaker c.loop-i.invariant.risen (λ q r t. (t.0, t.1, rw none at t.2)); adds = rw all at c.loop-i.invariant.adds }

pub rise_each-requires-clause-levels : goal.rise_each-requires-clause-levels
rise_each-requires-clause-levels g c = c.requires.levels
