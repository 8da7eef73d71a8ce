use Rattle.vers_wavelet.proofs.Names.{length, sym, ◌∙◌}
use Rattle.vers_wavelet.proofs.Ways.{same_way, sorted_kth}
use Rattle.vers_wavelet.proofs.wavelet.WaveletMatrix.find_by_size.Goals as goal

pub returns-clause-value : goal.returns-clause-value
returns-clause-value g c = rw c.levels.ensures.items at (sorted_kth c.levels.result.now (length c.args.self.now.items) c.args.i _ (rw c.len.ensures.value at c.find.ensures.value))

pub returns-clause-found : goal.returns-clause-found
returns-clause-found g c = λ j h.
    rw c.levels.ensures.items at (sym (sorted_kth c.levels.result.now (length c.args.self.now.items) _ _ (rw c.len.ensures.value at (c.find.ensures.equals j h))))

pub find-requires-clause-way : goal.find-requires-clause-way
find-requires-clause-way g c =
    rw c.len.ensures.value (c.requires.way c.levels.result.now (length c.args.self.now.items) c.levels.ensures.levels c.levels.ensures.wide c.levels.ensures.items)

pub returns-clause-way : goal.returns-clause-way
returns-clause-way g c = λ ls n levels long same.
    same_way c.levels.ensures.levels levels (long ∙ sym c.levels.ensures.wide) (same ∙ sym c.levels.ensures.items) (rw c.len.ensures.value at c.find.ensures.way)

pub find-requires-clause-levels : goal.find-requires-clause-levels
find-requires-clause-levels g c = rw c.len.ensures.value c.levels.ensures.levels.even

pub returns-clause-adds : goal.returns-clause-adds
returns-clause-adds g c = rw (← c.levels.ensures.wide) c.find.ensures.adds
