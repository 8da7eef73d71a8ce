use Rattle.vers_saved.proofs.Names.{◌≡◌, ◌+◌, ◌-◌, ◌≤◌, ◌++◌, List, ℕ, take, vec_len, vec_capacity, Appends, bytes_of, check_sum, head}
use Rattle.vers_saved.proofs.stream.write_words.Given as goal

-- the head and the words so far are written or gathered, and summed, and there is room for the sum
abbrev pub invariant-loop-done : goal.invariant-loop-done
invariant-loop-done g l = record {
  written : (text : List ℕ) × Appends (g.W.Write.contents l.initial.writer) (g.W.Write.contents l.writer) text
      × (text ++ l.buffer.items ≡ bytes_of (head g.S.Saved.kind.version g.S.Saved.kind.number l.fn.shape.count l.fn.shape.width ++ take l.done (g.S.Saved.words l.list)));
  summed : l.sum ≡ check_sum (head g.S.Saved.kind.version g.S.Saved.kind.number l.fn.shape.count l.fn.shape.width ++ take l.done (g.S.Saved.words l.list));
  capacity : 65536 ≤ vec_capacity l.buffer;
  room : vec_len l.buffer + 8 ≤ vec_capacity l.buffer;
  within : l.done ≤ l.count;
}

abbrev pub decreases-loop-done : goal.decreases-loop-done
decreases-loop-done g l = l.count - l.done
