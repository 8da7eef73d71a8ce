use Rattle.vers_bits.proofs.Names.{◌≡◌, ◌++◌, ◌+◌, ◌-◌, ◌*◌, ◌%◌, ◌≤◌, ◌∙◌, ℕ, length, take, drop, ap, arith, IfOk-equal, number, low_bits, append_assoc}
use Rattle.vers_bits.proofs.Growing.{next_limb, last_bits}
use Rattle.vers_bits.proofs.bit_vec.BitVec.append_from.Goals as goal

pub loop-k-preserved : goal.loop-k-preserved
loop-k-preserved g c =
    let l = c.args.other.now in
    let k = c.loop-k.k in
    let before = take (64 * k) (drop c.args.start l) in
    let word = c.get_bits_unchecked.result in
    let within : c.args.start + 64 * k + 64 ≤ length l = omega arith in
    let next = next_limb l c.args.start k within in
    c.in_ok-append_number.ensures.grown ∙ ap (λ xs. xs ++ low_bits word 64) c.loop-k.invariant ∙ append_assoc c.args.self.now before (low_bits word 64)
    ∙ ap (λ xs. c.args.self.now ++ xs) (ap (λ v. before ++ low_bits v 64) c.get_bits_unchecked.ensures ∙ next)

pub returns-clause-grown : goal.returns-clause-grown
returns-clause-grown g c =
    let l = c.args.other.now in
    let m : ℕ = 64 * c.loop-k.k in
    let n : ℕ = (c.len.result - c.args.start) % 64 in
    let before = take m (drop c.args.start l) in
    let word = c.get_bits_unchecked-2.result in
    let position : c.args.start + (c.len.result - c.args.start - n) ≡ c.args.start + m = omega arith in
    let read : word ≡ number (take n (drop (c.args.start + m) l)) = c.get_bits_unchecked-2.ensures ∙ ap (λ p. number (take n (drop p l))) position in
    let last = last_bits l c.args.start m n (omega arith) in
    IfOk-equal c.append_bits.result c.append_bits.new.self (c.loop-k.self ++ low_bits word n) _ c.append_bits.ensures.grown
    (ap (λ xs. xs ++ low_bits word n) c.loop-k.invariant ∙ append_assoc c.args.self.now before (low_bits word n)
    ∙ ap (λ xs. c.args.self.now ++ xs) (ap (λ v. before ++ low_bits v n) read ∙ last))
