use Rattle.std.specs.Prelude.{vec_len, vec_capacity}
use Rattle.vers_sorted.proofs.Names.{◌≡◌, ◌+◌, ◌*◌, ◌/◌, ◌≤◌, ◌++◌, length, drop, low_bits, pack, first_high_parts, first_low_parts}
use Rattle.vers_sorted.specs.inside.Gathered.{IsGathered}
use Rattle.vers_sorted.proofs.elias_fano.make.parts_of.Given as goal

abbrev pub invariant-loop-number : goal.invariant-loop-number
invariant-loop-number g l = record {
  left : g.N.Numbers.left l.numbers ≡ drop l.i (g.N.Numbers.left l.fn.numbers);
  within : l.i ≤ length (g.N.Numbers.left l.fn.numbers);
  high : l.high ≡ first_high_parts (g.N.Numbers.left l.fn.numbers) l.i;
  gathered : IsGathered l.gathered;
  low : pack l.words.items 64 ++ low_bits l.gathered.word l.gathered.len ≡ first_low_parts (g.N.Numbers.left l.fn.numbers) l.i;
  len : vec_len l.words ≡ length l.words.items;
  capacity : (l.fn.len * l.fn.width + 63) / 64 ≤ vec_capacity l.words;
}

abbrev pub decreases-loop-number : goal.decreases-loop-number
decreases-loop-number g l = length (g.N.Numbers.left l.numbers)
