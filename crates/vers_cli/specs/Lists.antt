-- The replies that are lists.
use Rattle.std.specs.Prelude.{ℕ, Bool, true, nat_le, List, [], ◌∷◌, reverse, if◌then◌else◌}
use Rattle.inverted.specs.Lists.{list_of}
use Rattle.postings.specs.Posted.{common}
use Rattle.vers_bits.specs.Bits.{positions}
use Rattle.vers_trees.specs.Balance.{are_balanced, has_node}
use Rattle.vers_trees.specs.Forest.{Forest, forest_of}
use Rattle.vers_trees.specs.Nodes.{children, subtree}
use Rattle.vers_trees.specs.Traversals.{postorder, subtree_post}
use Rattle.vers_wavelet.specs.Symbols.{Symbols, by_size}
use Rattle.vers_words.specs.Reply.{PlainReply, WrongStructure, Refused, Absent, Numbers}
use Rattle.catalogue.specs.Structures.{Content, SparseBits, SortedElements, SymbolList, Parentheses, Documents, DocumentLists}
use Rattle.catalogue.specs.Joined.{joined}
use Rattle.catalogue.specs.declared.documents.Joint.{Joint}
use Rattle.vers_cli.specs.declared.name.Listing.{Listing}
use Rattle.vers_cli.specs.declared.name.Listing.TheVariants.{Items, BySize, Postorder}
use Rattle.vers_cli.specs.declared.name.Nodes.{Nodes}
use Rattle.vers_cli.specs.declared.name.Nodes.TheVariants.{Children, RevChildren, Subtree, SubtreePost}
use Rattle.vers_cli.specs.Loads.{are_admitted}

-- the reply to a query with a precondition, refused if it fails
abbrev pub reply_if : Bool → PlainReply → PlainReply
reply_if condition reply = if condition then reply else Refused

-- symbols as numbers of at most 64 bits; none of wider ones
abbrev pub if_numbers : Symbols → List ℕ → PlainReply
if_numbers symbols numbers = if nat_le symbols.width 64 then Numbers numbers else Absent

-- a list of all items of a structure, or of all nodes
abbrev pub all_reply : Content → Listing → PlainReply
all_reply (SortedElements elements) Items = Numbers elements
all_reply (SparseBits bits) Items = Numbers (positions true bits)
all_reply (SymbolList symbols) Items = if_numbers symbols symbols.items
all_reply (SymbolList symbols) BySize = if_numbers symbols (by_size symbols.items)
all_reply (Parentheses bits) Items = Numbers (positions true bits)
all_reply (Parentheses bits) Postorder = reply_if (are_balanced bits) (Numbers (postorder (forest_of bits)))
all_reply _ _ = WrongStructure

-- the nodes of a walk from a node
abbrev pub walk_of : Forest → Nodes → ℕ → List ℕ
walk_of F Children v = children F v
walk_of F RevChildren v = reverse (children F v)
walk_of F Subtree v = subtree F v
walk_of F SubtreePost v = subtree_post F v

-- the same as a reply
abbrev pub walk_reply : Content → Nodes → ℕ → PlainReply
walk_reply (Parentheses bits) nodes v = reply_if (has_node bits v) (Numbers (walk_of (forest_of bits) nodes v))
walk_reply _ nodes v = WrongStructure

-- the documents that are among others, which have to ascend strictly and may not be too many
abbrev pub common_reply : Content → List ℕ → PlainReply
common_reply (Documents posted) others = reply_if (are_admitted others) (Numbers (common posted.documents others))
common_reply _ others = WrongStructure

-- the documents of a term
abbrev pub documents_reply : Content → ℕ → PlainReply
documents_reply (DocumentLists index) t = Numbers (list_of index t)
documents_reply _ t = WrongStructure

-- documents of two terms
abbrev pub joined_reply : Content → Joint → ℕ → ℕ → PlainReply
joined_reply (DocumentLists index) joint one other = Numbers (joined index joint one (other ∷ []))
joined_reply _ joint one other = WrongStructure
