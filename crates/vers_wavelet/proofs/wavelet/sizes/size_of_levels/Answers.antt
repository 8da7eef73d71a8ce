use Rattle.vers_wavelet.proofs.Names.{◌≡◌, ◌+◌, ◌-◌, ℕ, arith, length, min, ap, ◌∙◌, range_with_len, sum_by, index_size, digit_list, values}
use Rattle.vers_wavelet.proofs.Sizes.{size_of_level, sum_more}
use Rattle.vers_wavelet.proofs.wavelet.sizes.size_of_levels.Goals as goal

pub loop-i-preserved : goal.loop-i-preserved
loop-i-preserved g c =
    let k : ℕ = length c.args.levels.now - (c.loop-i.i + 1) in
    let bytes_of = λ (j : ℕ). index_size (digit_list j (values c.args.levels.now c.args.len)) in
    let level = size_of_level c.args.levels.now c.args.len c.requires k c.loop-i.i (omega arith) c.index-levels-k.result c.index-levels-k.is in
    omega (arith, level, sum_more bytes_of c.loop-i.i)

pub returns : goal.returns
returns g c =
    let bytes_of = λ (j : ℕ). index_size (digit_list j (values c.args.levels.now c.args.len)) in
    let all : c.loop-i.i ≡ length c.args.levels.now = omega arith in
    c.loop-i.invariant ∙ ap (λ n. min (sum_by bytes_of (range_with_len 0 n)) 18446744073709551615) all
