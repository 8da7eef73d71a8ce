-- Saved forms of documents with costs.
use Rattle.vers_saved.proofs.Names.{refl, ◌≡◌, ℕ, ◌-◌, ◌*◌, ◌/◌, ◌<◌, ◌≤◌, List, ◌++◌, length, get_or, take, drop, sym, ◌∙◌, inl, inr, arith, All, cases_lt, get_or_append_left, get_or-append_right, get_or_past, take_at, take-append-drop, length-append, length-take, each_next-rising, POSTING_LISTS, posting_words, IsWhole, All-get_or}
use Rattle.postings.specs.Posted.{Posted, ArePaired}
use Rattle.vers_saved.proofs.WordBytes.{AreWords, fit_append}
use Rattle.vers_saved.proofs.Rows.{one_padded}
use Rattle.vers_saved.proofs.Shapes.{bounds_are, within_bounds, flat_words}

-- word k is a document, or the cost of one
pub document_word : (posted : Posted) (k : ℕ) → k < length posted.documents → get_or posted.documents k 0 ≡ get_or (posting_words posted) k 0
document_word posted k h = sym (get_or_append_left posted.documents posted.costs 0 k h)

pub cost_word : (posted : Posted) (k n : ℕ) → n ≡ length posted.documents → n ≤ k → get_or posted.costs (k - n) 0 ≡ get_or (posting_words posted) k 0
cost_word posted k n is past = sym (get_or-append_right posted.documents posted.costs n k 0 (sym is) past)

pub length-posting : (posted : Posted) → ArePaired posted → length (posting_words posted) ≡ 2 * length posted.documents
length-posting posted paired = length-append posted.documents posted.costs ∙ omega (arith, paired.paired)

-- documents are words
documents_fit : (documents : List ℕ) → All (λ d. d ≤ 18446744073709551615) documents → AreWords documents
documents_fit documents all k = elim (cases_lt k (length documents)) [
  | inl inside ↦ omega (arith, All-get_or (λ d. d ≤ 18446744073709551615) documents k 0 inside all)
  | inr past ↦ rw (get_or_past documents k 0 past) (omega arith)
]

pub whole_postings : (posted : Posted) → length posted.documents ≤ 549755813760 → ArePaired posted → AreWords posted.costs
    → IsWhole POSTING_LISTS (length posted.documents) 128 (posting_words posted)
whole_postings posted few paired fit =
    let long : length (posting_words posted) ≡ 2 * length posted.documents = length-posting posted paired in
    let first = take_at posted.documents posted.costs (length (posting_words posted) / 2) (omega (arith, long)) in
    record {
      may = within_bounds POSTING_LISTS (length posted.documents) 128 refl (omega (arith, few));
      counted = omega (arith, long, flat_words POSTING_LISTS (length posted.documents) 128 refl);
      fit = fit_append posted.documents posted.costs (documents_fit posted.documents paired.numbers) fit;
      padded = one_padded (length posted.documents * 128) (posting_words posted) (inl (omega arith));
      ordered = (each_next-rising (take (length (posting_words posted) / 2) (posting_words posted))).1
          (rw first paired.ascending);
    }

pub postings_shape : (c w : ℕ) (words : List ℕ) → IsWhole POSTING_LISTS c w words → (length words ≡ 2 * c) × (c ≤ 549755813760) × (128 ≡ w)
postings_shape c w words whole =
    let b = bounds_are POSTING_LISTS c w words refl whole in (omega (arith, whole.counted, flat_words POSTING_LISTS c w refl), omega (arith, b), omega (arith, b))

-- what was saved of documents is loaded as their two lists
pub postings_again : (c w : ℕ) (words documents costs : List ℕ) → IsWhole POSTING_LISTS c w words → documents ≡ take c words → costs ≡ drop c words
    → (length documents ≡ c) × (documents ++ costs ≡ words)
postings_again c w words documents costs whole are_documents are_costs = grind (arith, length-take, postings_shape, take-append-drop)

pub ruleset postings = (document_word, cost_word, whole_postings, postings_shape, postings_again)
