-- Laws of structures and their kinds.
use Rattle.std.proofs.Common.{◌≡◌, ◌∙◌, ℕ, suc, ◌/◌, ◌<◌, ◌^◌, Bool, List, [], ◌∷◌, ◌++◌, length, refl, sym, subst, ap, arith}
use Rattle.std.proofs.lemmas.Nat.{from_le_bytes-to_le_bytes_8}
use Rattle.std.specs.Prelude.{◌≢◌, Option, Some, None, map, slice_get, slice_index}
use Rattle.std.specs.Simd.{first_chunks}
use Rattle.inverted.specs.Lists.{Lists}
use Rattle.postings.specs.Posted.{Posted}
use Rattle.text_index.specs.Texts.{Text}
use Rattle.vers_wavelet.specs.Symbols.{Symbols}
use Rattle.vers_saved.specs.Format.{bytes_of, check_sum}
unfoldable use Rattle.vers_saved.specs.Format.{bytes_word, saved, with_sum, word_bytes, words_of}
use Rattle.catalogue.specs.Structures.{Content, GrowingBits, IndexedBits, SparseBits, SortedElements, SymbolList, Parentheses, BlockValues, TableValues, Documents, DocumentLists, IndexedText, PlainNumbers, HasForm, kind_of, saved_form}
use Rattle.catalogue.specs.declared.structure.Kind.{Kind}
use Rattle.catalogue.specs.declared.structure.Kind.TheVariants as kind
use Rattle.catalogue.specs.declared.structure.TheConstants.{KINDS}

-- a property of the structure of a kind with each list
abbrev pub OfEach : (Content → Type 0) → Option Kind → Type 0
OfEach P (Some kind.Growing) = (bits : List Bool) → P (GrowingBits bits)
OfEach P (Some kind.Bits) = (bits : List Bool) → P (IndexedBits bits)
OfEach P (Some kind.Sparse) = (bits : List Bool) → P (SparseBits bits)
OfEach P (Some kind.Sorted) = (elements : List ℕ) → P (SortedElements elements)
OfEach P (Some kind.Symbols) = (symbols : Symbols) → P (SymbolList symbols)
OfEach P (Some kind.Tree) = (bits : List Bool) → P (Parentheses bits)
OfEach P (Some kind.Fast) = (values : List ℕ) → P (BlockValues values)
OfEach P (Some kind.Binary) = (values : List ℕ) → P (TableValues values)
OfEach P (Some kind.Postings) = (posted : Posted) → P (Documents posted)
OfEach P (Some kind.Text) = (text : Text) → P (IndexedText text)
OfEach P (Some kind.Inverted) = (index : Lists) → P (DocumentLists index)
OfEach P None = (numbers : List ℕ) → P (PlainNumbers numbers)

by_kind : (P : Content → Type 0) (x : Content) → OfEach P (kind_of x) → P x
by_kind P (GrowingBits bits) each = each bits
by_kind P (IndexedBits bits) each = each bits
by_kind P (SparseBits bits) each = each bits
by_kind P (SortedElements elements) each = each elements
by_kind P (SymbolList symbols) each = each symbols
by_kind P (Parentheses bits) each = each bits
by_kind P (BlockValues values) each = each values
by_kind P (TableValues values) each = each values
by_kind P (Documents posted) each = each posted
by_kind P (IndexedText text) each = each text
by_kind P (DocumentLists index) each = each index
by_kind P (PlainNumbers numbers) each = each numbers

-- what is true of the structure of a kind with each list is true of each structure of that kind
pub of_kind : (P : Content → Type 0) (kind : Option Kind) (x : Content) → kind_of x ≡ kind → OfEach P kind → P x
of_kind P kind x is each = by_kind P x (subst (OfEach P) (sym is) each)

-- the third word of a saved form is the number of its kind
pub third_word : (version kind count width : ℕ) (words : List ℕ) → kind < 2 ^ 64 → slice_index (words_of (saved version kind count width words)) 2 ≡ kind
unfolding bytes_word saved with_sum word_bytes words_of
third_word version kind count width words few =
    let rest = bytes_of (width ∷ count ∷ words ++ check_sum (7882823766888968055 ∷ version ∷ kind ∷ width ∷ count ∷ words) ∷ []) in
    let bytes = saved version kind count width words in
    let long : length bytes / 8 ≡ suc (suc (suc (length rest / 8))) = omega arith in
    ap (λ k. slice_index (map bytes_word (first_chunks 8 k bytes)) 2) long ∙ from_le_bytes-to_le_bytes_8 kind few

-- that number is the code of the kind of the structure, or that of a kind with the same form
pub number_is_code : (x : Content) → HasForm x → kind_of x ≢ Some kind.Growing → kind_of x ≢ Some kind.Binary → kind_of x ≡ slice_get KINDS (slice_index (words_of (saved_form x)) 2)
number_is_code (GrowingBits bits) whole changes table = absurd (changes refl)
number_is_code (IndexedBits bits) whole changes table = rw (third_word 1 1 _ _ _ (omega arith)) refl
number_is_code (SparseBits bits) whole changes table = rw (third_word 2 4 _ _ _ (omega arith)) refl
number_is_code (SortedElements elements) whole changes table = rw (third_word 2 2 _ _ _ (omega arith)) refl
number_is_code (SymbolList symbols) whole changes table = rw (third_word 2 3 _ _ _ (omega arith)) refl
number_is_code (Parentheses bits) whole changes table = rw (third_word 1 6 _ _ _ (omega arith)) refl
number_is_code (BlockValues values) whole changes table = rw (third_word 1 5 _ _ _ (omega arith)) refl
number_is_code (TableValues values) whole changes table = absurd (table refl)
number_is_code (Documents posted) whole changes table = rw (third_word 1 7 _ _ _ (omega arith)) refl
number_is_code (IndexedText text) whole changes table = rw (third_word 2 9 _ _ _ (omega arith)) refl
number_is_code (DocumentLists index) whole changes table = rw (third_word 1 10 _ _ _ (omega arith)) refl
number_is_code (PlainNumbers numbers) whole changes table = absurd whole
