use Rattle.word_rank.proofs.Names.{◌≡◌, ◌*◌, ◌/◌, ◌%◌, ◌<◌, true, count, AreCounts}
use Rattle.word_rank.proofs.build.add_counts.Given as goal

abbrev pub invariant-loop-word : goal.invariant-loop-word
invariant-loop-word g l =
    record {
      counts : AreCounts l.bits l.word l.words.items l.superblocks.items;
      ones : l.ones ≡ count true l.bits (64 * l.word);
      base : 0 < l.word % 512 → l.base ≡ count true l.bits (32768 * (l.word / 512));
    }
