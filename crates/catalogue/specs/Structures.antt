-- The structures: the plain list that each represents, its queries, its kind and its saved form.
use Rattle.std.specs.Prelude.{◌≡◌, ◌^◌, ◌<◌, ⊤, ℕ, All, Bool, List, [], length, codes, Option, Some, None}
use Rattle.std.specs.List.Sorted.{IsNonDecreasing}
use Rattle.inverted.specs.Lists.{Lists}
use Rattle.inverted.specs.Numbers.{IsOfNumbers}
use Rattle.postings.specs.Posted.{ArePaired, Posted}
use Rattle.text_index.specs.Texts.{Text}
use Rattle.vers_bits.specs.Bits.{limbs, pack}
use Rattle.vers_saved.specs.Format.{saved, column_words, level_words, position_words, posting_words, sorted_words, sparse_words, text_words, inverted_words}
use Rattle.vers_saved.specs.Kinds.{HasTextForm, IsForm, IsLoadedWhole, IsWhole, tree_kind}
use Rattle.vers_saved.specs.declared.kind.Kind.{Kind as SavedKind}
use Rattle.vers_saved.specs.declared.kind.TheConstants.{BIT_LISTS, SORTED_LISTS, SYMBOL_LISTS, SPARSE_LISTS, TABLE_VALUES, BLOCK_VALUES, POSTING_LISTS, TEXT_INDEXES, INVERTED_LISTS}
use Rattle.vers_wavelet.specs.Symbols.{Symbols}
use Rattle.catalogue.specs.BitsAnswers.{bits_answer, growing_answer, sparse_answer}
use Rattle.catalogue.specs.ListsAnswers.{lists_answer}
use Rattle.catalogue.specs.MinimaAnswers.{fast_answer, numbers_answer, table_answer}
use Rattle.catalogue.specs.PostingsAnswers.{posted_answer}
use Rattle.catalogue.specs.SortedAnswers.{sorted_answer}
use Rattle.catalogue.specs.SymbolsAnswers.{symbols_answer}
use Rattle.catalogue.specs.TextAnswers.{text_answer}
use Rattle.catalogue.specs.TreeAnswers.{tree_answer}
use Rattle.catalogue.specs.declared.answer.Answer.{Answer}
use Rattle.catalogue.specs.declared.query.Query.{Query}
use Rattle.catalogue.specs.declared.structure.Kind.{Kind}
use Rattle.catalogue.specs.declared.structure.Kind.TheVariants as kind
use Rattle.catalogue.specs.declared.structure.Structure.{Structure}
use Rattle.catalogue.specs.declared.structure.Structure.TheVariants as structure

-- the list of a structure
pub data Content : Type 0 where
  GrowingBits : List Bool → Content
  IndexedBits : List Bool → Content
  SparseBits : List Bool → Content
  SortedElements : List ℕ → Content
  SymbolList : Symbols → Content
  Parentheses : List Bool → Content
  BlockValues : List ℕ → Content
  TableValues : List ℕ → Content
  Documents : Posted → Content
  DocumentLists : Lists → Content
  IndexedText : Text → Content
  PlainNumbers : List ℕ → Content

-- the plain list of a structure
abbrev pub content_of : {A : Type 0} → Structure A → Content
content_of (structure.Growing bits) = GrowingBits bits
content_of (structure.Bits bits) = IndexedBits bits
content_of (structure.Sparse bits) = SparseBits bits
content_of (structure.Sorted elements) = SortedElements elements
content_of (structure.Symbols symbols) = SymbolList symbols
content_of (structure.Tree tree) = Parentheses tree.value
content_of (structure.Fast values) = BlockValues values
content_of (structure.Binary values) = TableValues values
content_of (structure.Postings posted) = Documents posted
content_of (structure.Inverted index) = DocumentLists index
content_of (structure.Text text) = IndexedText text
content_of (structure.Numbers numbers) = PlainNumbers numbers.items

-- the number of items of a structure
abbrev pub length_of : Content → ℕ
length_of (GrowingBits bits) = length bits
length_of (IndexedBits bits) = length bits
length_of (SparseBits bits) = length bits
length_of (SortedElements elements) = length elements
length_of (SymbolList symbols) = length symbols.items
length_of (Parentheses bits) = length bits
length_of (BlockValues values) = length values
length_of (TableValues values) = length values
length_of (Documents posted) = length posted.documents
length_of (DocumentLists index) = length index.numbers
length_of (IndexedText text) = length text.items
length_of (PlainNumbers numbers) = length numbers

-- a query of a structure, with three numbers
abbrev pub answer : Content → Query → ℕ → ℕ → ℕ → Answer
answer (GrowingBits bits) query a b c = growing_answer bits query a b c
answer (IndexedBits bits) query a b c = bits_answer bits query a b c
answer (SparseBits bits) query a b c = sparse_answer bits query a b c
answer (SortedElements elements) query a b c = sorted_answer elements query a b c
answer (SymbolList symbols) query a b c = symbols_answer symbols query a b c
answer (Parentheses bits) query a b c = tree_answer 512 bits query a b c
answer (BlockValues values) query a b c = fast_answer values query a b c
answer (TableValues values) query a b c = table_answer values query a b c
answer (Documents posted) query a b c = posted_answer posted query a b c
answer (DocumentLists index) query a b c = lists_answer index query a b c
answer (IndexedText text) query a b c = text_answer text query a b c
answer (PlainNumbers numbers) query a b c = numbers_answer numbers query a b c

-- the kind of a structure, if such are loaded
abbrev pub kind_of : Content → Option Kind
kind_of (GrowingBits bits) = Some kind.Growing
kind_of (IndexedBits bits) = Some kind.Bits
kind_of (SparseBits bits) = Some kind.Sparse
kind_of (SortedElements elements) = Some kind.Sorted
kind_of (SymbolList symbols) = Some kind.Symbols
kind_of (Parentheses bits) = Some kind.Tree
kind_of (BlockValues values) = Some kind.Fast
kind_of (TableValues values) = Some kind.Binary
kind_of (Documents posted) = Some kind.Postings
kind_of (IndexedText text) = Some kind.Text
kind_of (DocumentLists index) = Some kind.Inverted
kind_of (PlainNumbers numbers) = None

-- the name of a kind: the first word of its load line, if the line program has one
abbrev pub name_of : Kind → List ℕ
name_of kind.Growing = codes "growing"
name_of kind.Bits = codes "bits"
name_of kind.Sorted = codes "sorted"
name_of kind.Symbols = codes "symbols"
name_of kind.Sparse = codes "sparse"
name_of kind.Fast = codes "values"
name_of kind.Tree = codes "tree"
name_of kind.Postings = codes "postings"
name_of kind.Binary = codes "binary"
name_of kind.Text = codes "text"
name_of kind.Inverted = codes "inverted"

-- what the saved forms of a kind have to meet
abbrev pub saved_kind : Kind → SavedKind
saved_kind kind.Growing = BIT_LISTS
saved_kind kind.Bits = BIT_LISTS
saved_kind kind.Sparse = SPARSE_LISTS
saved_kind kind.Sorted = SORTED_LISTS
saved_kind kind.Symbols = SYMBOL_LISTS
saved_kind kind.Tree = tree_kind 512
saved_kind kind.Fast = BLOCK_VALUES
saved_kind kind.Binary = TABLE_VALUES
saved_kind kind.Postings = POSTING_LISTS
saved_kind kind.Text = TEXT_INDEXES
saved_kind kind.Inverted = INVERTED_LISTS

-- what the saved form of a structure contains: the number and the width of its items, its words, and those of the first version if its kind has a later one
pub record Form : Type 0 where
  pub count : ℕ
  pub width : ℕ
  pub words : List ℕ
  pub packed : List ℕ

-- for each structure; the width is that of the blocks of a tree. Plain numbers are not saved
abbrev pub form_of : Content → Form
form_of (GrowingBits bits) = record { count = length bits; width = 1; words = limbs bits; packed = [] }
form_of (IndexedBits bits) = record { count = length bits; width = 1; words = limbs bits; packed = [] }
form_of (SparseBits bits) = record { count = length (sparse_words bits); width = 64; words = sparse_words bits; packed = position_words bits }
form_of (SortedElements elements) = record { count = length (sorted_words elements); width = 64; words = sorted_words elements; packed = elements }
form_of (SymbolList symbols) = record { count = length symbols.items; width = symbols.width; words = level_words symbols.width symbols.items; packed = limbs (pack symbols.items symbols.width) }
form_of (Parentheses bits) = record { count = length bits; width = 512; words = limbs bits; packed = [] }
form_of (BlockValues values) = record { count = length values; width = 64; words = values; packed = [] }
form_of (TableValues values) = record { count = length values; width = 64; words = values; packed = [] }
form_of (Documents posted) = record { count = length posted.documents; width = 128; words = posting_words posted; packed = [] }
form_of (DocumentLists index) = record { count = length (inverted_words index); width = 64; words = inverted_words index; packed = [] }
form_of (IndexedText text) = record { count = length (text_words text); width = text.width; words = text_words text; packed = column_words text }
form_of (PlainNumbers numbers) = record { count = length numbers; width = 64; words = numbers; packed = [] }

-- how many bits an item has in a saved form; for a tree, how many bits a block has
abbrev pub width_of : Content → ℕ
width_of content = (form_of content).width

-- the saved form as one of a kind, or no bytes without a kind
abbrev pub saved_as : Option Kind → Form → List ℕ
saved_as None form = []
saved_as (Some kind) form = saved (saved_kind kind).version (saved_kind kind).number form.count form.width form.words

-- the saved form of a structure, or no bytes if such have none
abbrev pub saved_form : Content → List ℕ
saved_form content = saved_as (kind_of content) (form_of content)

-- `HasForm` by the kind
abbrev pub HasFormAs : Option Kind → Form → Type 0
HasFormAs None form = ⊥
HasFormAs (Some kind) form = IsWhole (saved_kind kind) form.count form.width form.words

-- a structure has a saved form: its kind has one, its items are neither too many nor too wide, and its words are as the kind requires
abbrev pub HasForm : Content → Type 0
HasForm content = HasFormAs (kind_of content) (form_of content)

-- `HasSomeForm` by the kind
abbrev pub HasSomeFormAs : Option Kind → Form → Type 0
HasSomeFormAs None form = ⊥
HasSomeFormAs (Some kind) form = IsLoadedWhole (saved_kind kind) form.count form.width form.words form.packed

-- a structure has a saved form of some version: sparse lists, ascending lists and symbols may have one of the first alone, and a text has both
abbrev pub HasSomeForm : Content → Type 0
HasSomeForm content = HasSomeFormAs (kind_of content) (form_of content)

-- `IsSomeForm` by the kind
abbrev pub IsSomeFormAs : Option Kind → Form → List ℕ → Type 0
IsSomeFormAs None form bytes = bytes ≡ []
IsSomeFormAs (Some kind) form bytes = IsForm (saved_kind kind) form.count form.width form.words form.packed bytes

-- bytes are a saved form of a structure, of any version
abbrev pub IsSomeForm : Content → List ℕ → Type 0
IsSomeForm content bytes = IsSomeFormAs (kind_of content) (form_of content) bytes

-- a property of a structure that its words don't show: elements ascend, no symbol has more bits than the width, documents have a cost each, a text has an index, and an inverted index is that of its numbers
abbrev pub Fits : Content → Type 0
Fits (SortedElements elements) = IsNonDecreasing elements
Fits (SymbolList symbols) = All (λ y. y < 2 ^ symbols.width) symbols.items
Fits (Documents posted) = ArePaired posted
Fits (IndexedText text) = HasTextForm text
Fits (DocumentLists index) = IsOfNumbers index
Fits content = ⊤
