-- The laws that proofs of other crates may cite. A crate above imports this file and no other of this folder.
use Rattle.vers_saved.proofs.Names.{◌≡◌, ℕ, ◌*◌, ◌≤◌, false, List, length, refl, sym, ap, subst, at_version, arith, level_words, Kind, BIT_LISTS, SORTED_LISTS, SYMBOL_LISTS, PACKED_SYMBOLS, SPARSE_LISTS, TABLE_VALUES, BLOCK_VALUES, POSTING_LISTS, limbs, pack, item_bits, saved, packed_kind, position_words, sorted_words, sparse_words, posting_words, IsWhole, tree_kind}
use Rattle.vers_saved.specs.Laws as Laws
use Rattle.vers_saved.specs.Format.{inverted_words}
use Rattle.vers_saved.specs.declared.kind.TheConstants.{INVERTED_LISTS}
use Rattle.vers_saved.specs.inside.InvertedTelling.{inverted_tell}
use Rattle.vers_saved.specs.inside.Telling.{bits_tell, levels_tell, numbers_tell, positions_tell, sorted_tell, sparse_tell, same_symbols, postings_tell}
use Rattle.vers_wavelet.specs.Symbols.{Symbols}
use Rattle.vers_saved.proofs.RoundTrips.{AreBounds, one_form}
use Rattle.vers_saved.proofs.Versions.{none_named}
use Rattle.vers_saved.proofs.Shapes as Shapes
use Rattle.vers_saved.proofs.BitLists.{whole_limbs}
use Rattle.vers_saved.proofs.WordLists.{whole_listed, whole_table, whole_blocks}
use Rattle.vers_saved.proofs.SortedForms.{elements_fit, positions_fit, whole_sorted, whole_sparse}
use Rattle.vers_saved.proofs.InvertedForms.{whole_index}
use Rattle.vers_saved.proofs.SymbolLevels.{whole_levels}
use Rattle.vers_saved.proofs.SymbolLists.{whole_symbols}
use Rattle.vers_saved.proofs.SparseLists.{whole_positions}
use Rattle.vers_saved.proofs.Parentheses.{whole_tree}
use Rattle.vers_saved.proofs.PostingLists.{whole_postings}

-- lists that are whole, and that their words determine, go round
goes_round : {T : Type 0} (kind : Kind) (MayBeSaved : T → Type 0) (count width : T → ℕ) (words : T → List ℕ) → AreBounds kind → at_version kind kind.version ≡ kind
    → ((x : T) → MayBeSaved x → IsWhole kind (count x) (width x) (words x))
    → ((x y : T) → MayBeSaved x → MayBeSaved y → count x ≡ count y → width x ≡ width y → words x ≡ words y → x ≡ y)
    → Laws.GoesRound kind MayBeSaved (λ x. saved kind.version kind.number (count x) (width x) (words x))
goes_round kind MayBeSaved count width words bounds same whole tell = λ x may. (
  (none_named kind kind.version (count x) (width x) (words x) (saved kind.version kind.number (count x) (width x) (words x)) bounds (ap (λ k. k.version) (sym same))
      (subst (λ k. IsWhole k (count x) (width x) (words x)) (sym same) (whole x may)) (ap (λ k. saved k.version kind.number (count x) (width x) (words x)) (sym same))).1,
  λ y may' same.
      let one = one_form kind (saved kind.version kind.number (count x) (width x) (words x)) (count x) (width x) (count y) (width y) (words x) (words y) bounds (whole x may) (whole y may') refl same in
      tell x y may may' one.0 one.1 one.2,
)

-- what the shape of a whole list has to meet
pub bounds_are : (kind : Kind) (count width : ℕ) (words : List ℕ) → kind.by_levels ≡ false → IsWhole kind count width words
    → (kind.least_width ≤ width) × (width ≤ kind.greatest_width) × (kind.least_count ≤ count) × (count ≤ kind.greatest_count) × (count * item_bits kind width ≤ 18446744073709551552)
bounds_are = Shapes.bounds_are

pub bits_go_round : Laws.BitsGoRound
bits_go_round =
    goes_round BIT_LISTS _ length (λ bits. 1) limbs (omega arith) refl whole_limbs (λ x y mx my. bits_tell 1 x y tt tt)

pub sorted_go_round : Laws.SortedGoRound
sorted_go_round =
    goes_round SORTED_LISTS _ (λ elements. length (sorted_words elements)) (λ elements. 64) sorted_words (omega arith) refl (λ x may. whole_sorted x may.0 (elements_fit x may.1 may.0) may.2)
    (λ x y mx my. sorted_tell x y mx.2 my.2)

pub listed_sorted_go_round : Laws.ListedSortedGoRound
listed_sorted_go_round =
    goes_round (packed_kind SORTED_LISTS) _ length (λ elements. 64) (λ elements. elements) (omega arith) refl (λ x may. whole_listed x may.0 may.1 may.2)
    (λ x y mx my. numbers_tell 64 x y tt tt)

pub symbols_go_round : Laws.SymbolsGoRound
symbols_go_round width some few =
    goes_round SYMBOL_LISTS _ length (λ items. width) (level_words width) (omega arith) refl
    (λ x may. whole_levels (record { width = width; items = x }) some few (omega (arith, may.0)))
    (λ x y mx my long wide same. ap (λ (s : Symbols). s.items) (levels_tell (record { width = width; items = x }) (record { width = width; items = y }) mx.1 my.1 long refl same))

pub packed_symbols_go_round : Laws.PackedSymbolsGoRound
packed_symbols_go_round width some few =
    goes_round PACKED_SYMBOLS _ length (λ items. width) (λ items. limbs (pack items width)) (omega arith) refl
    (λ x may. whole_symbols width x some few may.0) (λ x y mx my. same_symbols width width x y mx.1 my.1)

pub sparse_go_round : Laws.SparseGoRound
sparse_go_round =
    goes_round SPARSE_LISTS _ (λ bits. length (sparse_words bits)) (λ bits. 64) sparse_words (omega arith) refl
    (λ x may. whole_sparse x may.0 (omega (arith, may.1)) (positions_fit x may.0 (omega (arith, may.1)))) (λ x y mx my. sparse_tell x y tt tt)

pub listed_sparse_go_round : Laws.ListedSparseGoRound
listed_sparse_go_round =
    goes_round (packed_kind SPARSE_LISTS) _ (λ bits. length (position_words bits)) (λ bits. 64) position_words (omega arith) refl
    (λ x may. whole_positions x may.0 may.1) (λ x y mx my. positions_tell refl x y tt tt)

pub table_values_go_round : Laws.TableValuesGoRound
table_values_go_round =
    goes_round TABLE_VALUES _ length (λ items. 64) (λ items. items) (omega arith) refl (λ x may. whole_table x may.0 may.1)
    (λ x y mx my. numbers_tell 64 x y tt tt)

pub block_values_go_round : Laws.BlockValuesGoRound
block_values_go_round =
    goes_round BLOCK_VALUES _ length (λ items. 64) (λ items. items) (omega arith) refl (λ x may. whole_blocks x may.0 may.1)
    (λ x y mx my. numbers_tell 64 x y tt tt)

pub parentheses_go_round : Laws.ParenthesesGoRound
parentheses_go_round size some few =
    goes_round (tree_kind size) _ length (λ bits. size) limbs (omega arith) refl (λ x may. whole_tree size x some few may)
    (λ x y mx my. bits_tell size x y tt tt)

pub postings_go_round : Laws.PostingsGoRound
postings_go_round =
    goes_round POSTING_LISTS _ (λ posted. length posted.documents) (λ posted. 128) posting_words (omega arith) refl
    (λ x may. whole_postings x may.0 may.1 may.2) (λ x y mx my. postings_tell x y mx.1 my.1)

pub inverted_go_round : Laws.InvertedGoRound
inverted_go_round =
    goes_round INVERTED_LISTS _ (λ index. length (inverted_words index)) (λ index. 64) inverted_words (omega arith) refl (λ x may. whole_index x may.0 may.1) (λ x y mx my. inverted_tell x y mx.0 my.0)
