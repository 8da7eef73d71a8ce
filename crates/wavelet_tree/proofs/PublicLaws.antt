-- The laws that proofs of other crates may cite. A crate above imports this file and no other of this folder.
use Rattle.wavelet_tree.proofs.Names.{◌≡◌, ℕ, zero, suc, ◌+◌, ◌*◌, ◌++◌, ◌^◌, ◌∙◌, ◌≤◌, leb, ltb, List, map, length, length-filter_both, get_or, ap, sym, arith, inl, inr, cases_eq, cases_lt, eq-eqb, ne_eqb, lt-ltb, le-ltb, length-append, length-map, Symbols, Tree, leaf, fork, balanced, bits_in_tree, depth, height, lows, highs, split, starts_of, tree_bits}
use Rattle.wavelet_tree.proofs.Lists.{sides}

-- no symbol is deeper than the deepest leaf
pub depth-le-height : (tree : Tree) (s : ℕ) → depth tree s ≤ height tree
unfolding depth height
depth-le-height (leaf c) s = omega arith
depth-le-height (fork m l r) s = elim (cases_lt s m) [
  | inl less ↦ rw (lt-ltb s m less) (omega (arith, depth-le-height l s))
  | inr more ↦ rw (le-ltb s m more) (omega (arith, depth-le-height r s))
]

-- a fork has a bit for each of its elements, and there are at most n forks above one
bits_within : (starts : List ℕ) (n low end : ℕ) (xs : List ℕ) → length (tree_bits (balanced starts n low end) xs) ≤ length xs * n
unfolding balanced tree_bits
bits_within starts zero low end xs = omega arith
bits_within starts (suc n) low end xs =
    let m : ℕ = split starts low end in
    elim (cases_eq (get_or starts m 0) (get_or starts end 0)) [
      | inl same ↦ rw (eq-eqb _ _ same) (omega arith)
      | inr other ↦
          let both = length-filter_both (λ x. ltb x m) (λ x. leb m x) (sides m) xs in
          let few : length xs * suc n ≡ length xs + (length (lows m xs) * n + length (highs m xs) * n) = ap (λ k. k * suc n) (sym both) ∙ grind arith ∙ ap (λ k. k + (length (lows m xs) * n + length (highs m xs) * n)) both in
          let own = length-map xs (λ x. leb m x) in
          rw (ne_eqb _ _ other)
          (omega (
            arith,
            few,
            own,
            length-append (map (λ x. leb m x) xs) (tree_bits (balanced starts n low m) (lows m xs) ++ tree_bits (balanced starts n m end) (highs m xs)),
            length-append (tree_bits (balanced starts n low m) (lows m xs)) (tree_bits (balanced starts n m end) (highs m xs)),
            bits_within starts n low m (lows m xs),
            bits_within starts n m end (highs m xs),
          ))
    ]

-- a tree has at most as many bits as the elements, times the symbols that there may be
pub bits_few : (symbols : Symbols) → length (bits_in_tree symbols) ≤ length symbols.items * 2 ^ symbols.width
bits_few symbols = bits_within (starts_of symbols) (2 ^ symbols.width) 0 (2 ^ symbols.width) symbols.items

pub ruleset depth_law = (depth-le-height)
