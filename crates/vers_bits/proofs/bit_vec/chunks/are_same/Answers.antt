use Rattle.vers_bits.proofs.Names.{◌≡◌, ◌*◌, ◌/◌, length, drop, ap, sym, ◌∙◌, [], arith, first_chunks, ext_get_or}
use Rattle.vers_bits.proofs.Chunks.{same_chunks, tests_same}
use Rattle.vers_bits.proofs.bit_vec.chunks.are_same.Goals as goal

pub loop-k-2-init : goal.loop-k-2-init
loop-k-2-init c =
    let one = c.as_chunks.result.0.now in
    let other = c.as_chunks-2.result.0.now in
    let long : length one ≡ length other = omega (arith, c.requires, c.as_chunks.ensures.front_len, c.as_chunks-2.ensures.front_len) in
    let at : c.loop-k.k ≡ length one = omega (arith, c.loop-k.auto.k-end, c.loop-k-test.false) in (
      sym c.as_chunks.ensures.front ∙ ext_get_or [] one other long (λ j h. c.loop-k.invariant j (omega (arith, h, at))) ∙ c.as_chunks-2.ensures.front,
      (λ j h. absurd (omega (arith, h))),
    )

pub returns : goal.returns
returns c =
    let xs = c.args.words.now in
    let ys = c.args.others.now in
    let n = length xs / 8 in
    let one = c.as_chunks.result.1.now in
    let other = c.as_chunks-2.result.1.now in
    let as_many : length ys / 8 ≡ n = omega (arith, c.requires) in
    let long : length one ≡ length other = omega (arith, c.requires, c.as_chunks.ensures.back_len, c.as_chunks-2.ensures.back_len) in
    let at : c.loop-k-2.k ≡ length one = omega (arith, c.loop-k-2.auto.k-end, c.loop-k-2-test.false) in
    let end = ext_get_or 0 one other long (λ j h. c.loop-k-2.invariant.1 j (omega (arith, h, at))) in
    let ends : drop (n * 8) xs ≡ drop (n * 8) ys =
    sym c.as_chunks.ensures.back ∙ end ∙ c.as_chunks-2.ensures.back ∙ ap (λ m. drop (m * 8) ys) as_many in
    tests_same xs ys (same_chunks 8 n xs ys (c.loop-k-2.invariant.0 ∙ ap (λ m. first_chunks 8 m ys) as_many) ends)
