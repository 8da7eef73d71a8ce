-- What the maker keeps of documents and costs.
use Rattle.postings.proofs.Names.{◌≡◌, ℕ, List, length, get_or, sym, arith, Fits, w64, IsStrictlyIncreasing, get_or_default, ArePaired}

-- what was kept of documents that ascend, and of as many costs
pub paired : (documents costs kept kept_costs : List ℕ) → kept ≡ documents → kept_costs ≡ costs → IsStrictlyIncreasing documents → length documents ≡ length costs
    → ((i : ℕ) → Fits w64 (get_or documents i 0)) → ArePaired (record { documents = kept; costs = kept_costs })
paired documents costs kept kept_costs same same_costs up long fits = rw (same, same_costs) (record {
  ascending = up;
  paired = sym long;
  numbers = λ i d inside. omega (arith, fits i, get_or_default documents i d 0 inside);
})
