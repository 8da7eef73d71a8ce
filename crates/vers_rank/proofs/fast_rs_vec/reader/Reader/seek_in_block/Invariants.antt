use Rattle.vers_rank.proofs.Names.{◌≡◌, ◌+◌, ◌-◌, ◌*◌, ◌/◌, ◌<◌, ◌≤◌, count_ones, only_data_words, AddsAtMost, IsReading}
use Rattle.vers_rank.proofs.fast_rs_vec.reader.Reader.seek_in_block.Given as goal

abbrev pub invariant-loop-ones : goal.invariant-loop-ones
invariant-loop-ones g l =
    record {
      reading : IsReading l.bit l.bits l.self;
      from : l.self.next ≤ l.r;
      to : l.r < l.self.edge;
      ones : l.ones ≡ count_ones l.self.word;
      up : l.fn.self.limb ≤ l.self.limb;
      block : l.self.limb / 8 ≡ l.fn.self.limb / 8;
      adds : AddsAtMost l.fn.tally l.tally (only_data_words (l.self.limb - l.fn.self.limb));
    }

abbrev pub decreases-loop-ones : goal.decreases-loop-ones
decreases-loop-ones g l = 8 * (l.fn.self.limb / 8) + 8 - l.self.limb
