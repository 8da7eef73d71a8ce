use Rattle.std.proofs.Common.{ℕ, ◌-◌, arith, rules}
use Rattle.vers_rank.proofs.Marks.{marks_are}
use Rattle.vers_rank.proofs.Chunks.{chunk_bits, chunk_loaded, word_bit}
use Rattle.vers_rank.proofs.fast_rs_vec.bit_set_iter.ChunkWalk.load.Goals as goal

pub returns-then-rest-lt-CHUNK : goal.returns-then-rest-lt-CHUNK
returns-then-rest-lt-CHUNK g c =
    let put = c.put_offsets_plainly-self.ensures in
    let bit = λ (i : ℕ). word_bit c.args.self.now.bit c.args.bits.now c.args.self.now.end i _ (marks_are _ _ _ _ _ _ c.marks.ensures c.limb-limb.ensures.value c.bits.view_is) in
    let found = chunk_loaded c.args.bits.now c.args.self.now (c.len.result - c.args.self.now.end) _ _ _ c.requires.walk c.requires.passed (omega arith) put.room put.few put.listed (λ i h. bit i (omega (arith, c.requires.walk.whole c.requires.more))) (λ more. absurd (omega (arith, more))) in
    record { walk = found.0; same_left = found.1; on = omega arith; loads = search rules; adds = search rules }

pub returns-else-rest-lt-CHUNK : goal.returns-else-rest-lt-CHUNK
returns-else-rest-lt-CHUNK g c =
    let put = c.put_offsets-self.ensures in
    let whole = c.requires.walk.whole c.requires.more in
    let holds = chunk_bits _ _ _ _ (marks_are _ _ _ _ _ _ c.marks.ensures c.limb-limb.ensures.value c.bits.view_is) whole in
    let found = chunk_loaded c.args.bits.now c.args.self.now 16 _ _ _ c.requires.walk c.requires.passed (omega arith) put.room put.few put.listed holds (λ more. omega (arith, whole)) in
    record { walk = found.0; same_left = found.1; on = omega arith; loads = search rules; adds = search rules }
