use Rattle.vers_bits.proofs.Names.{◌≡◌, arith, ap, take, ◌/◌, length, [], sum_by, count_ones, sum_by_more_le, sum_by-drop_more, take-length}
use Rattle.vers_bits.proofs.Chunks.{chunks-sum, ones-bound}
use Rattle.vers_bits.proofs.bit_vec.chunks.ones_of.Goals as goal

pub overflow_add-ones : goal.overflow_add-ones
overflow_add-ones c =
    let xs = c.args.words.now in
    let bound = ones-bound xs c.type_inv.words in
    let whole = chunks-sum count_ones 4 (length xs / 4) xs in
    let front = ap (sum_by (sum_by count_ones)) c.as_chunks.ensures.front in
    let more = sum_by_more_le (sum_by count_ones) c.as_chunks.result.0.now c.loop-chunk.chunk-index [] c.loop-chunk-test.true in
    record { fits = omega (arith, c.requires, c.loop-chunk.invariant, c.ones_of_chunk-ones.ensures, bound, whole, front, more) }

pub loop-word-init : goal.loop-word-init
loop-word-init c =
    let xs = c.args.words.now in
    let i = c.loop-chunk.chunk-index in
    let w = c.as_chunks.result.0.now in
    let whole = chunks-sum count_ones 4 (length xs / 4) xs in
    let front = ap (sum_by (sum_by count_ones)) c.as_chunks.ensures.front in
    let back = ap (sum_by count_ones) c.as_chunks.ensures.back in
    let at : i ≡ length w = omega (arith, c.loop-chunk.auto.chunk-index-end, c.loop-chunk-test.false) in
    let all = ap (λ k. sum_by (sum_by count_ones) (take k w)) at in
    let takes = ap (sum_by (sum_by count_ones)) (take-length w) in
    omega (arith, c.loop-chunk.invariant, whole, front, back, all, takes)

pub overflow_add-ones-in-loop-word : goal.overflow_add-ones-in-loop-word
overflow_add-ones-in-loop-word c =
    let xs = c.args.words.now in
    let bound = ones-bound xs c.type_inv.words in
    let more = sum_by-drop_more count_ones c.as_chunks.result.1.now c.loop-word.word-index 0 c.loop-word-test.true in
    record { fits = omega (arith, c.requires, c.loop-word.invariant, c.from-ones.ensures, bound, more) }
