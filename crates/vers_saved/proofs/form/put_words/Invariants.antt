use Rattle.vers_saved.proofs.Names.{◌≡◌, ◌+◌, ◌*◌, ◌≤◌, ◌++◌, take, vec_len, vec_capacity, fold, bytes_of, mix}
use Rattle.vers_saved.proofs.form.put_words.Given as goal

-- the words so far were appended and mixed in
abbrev pub invariant-loop-k : goal.invariant-loop-k
invariant-loop-k g l = record {
  items : l.out.items ≡ l.initial.out.items ++ bytes_of (take l.k l.words);
  mixed : l.mixed ≡ fold mix l.sum (take l.k l.words);
  len : vec_len l.out ≡ vec_len l.initial.out + 8 * l.k;
  capacity : vec_capacity l.initial.out ≤ vec_capacity l.out;
}
