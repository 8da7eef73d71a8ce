use Rattle.vers_rank.proofs.Names.{◌≡◌, ◌-◌, ◌/◌, ◌<◌, ◌≤◌, count_ones, only_data_words, AddsAtMost, IsReadingBack}
use Rattle.vers_rank.proofs.fast_rs_vec.reader.Reader.seek_back_in_block.Given as goal

abbrev pub invariant-loop-ones : goal.invariant-loop-ones
invariant-loop-ones g l =
    record {
      reading : IsReadingBack l.bit l.bits l.self;
      from : l.self.edge < l.end;
      to : l.end ≤ l.self.next;
      ones : l.ones ≡ count_ones l.self.word;
      down : l.self.limb ≤ l.fn.self.limb;
      block : l.self.limb / 8 ≡ l.fn.self.limb / 8;
      adds : AddsAtMost l.fn.tally l.tally (only_data_words (l.fn.self.limb - l.self.limb));
    }

abbrev pub decreases-loop-ones : goal.decreases-loop-ones
decreases-loop-ones g l = l.self.limb
