-- How many entries of each kind were read, and bounds on what a call adds.
use Rattle.std.specs.Prelude.{ℕ, ◌+◌, ◌-◌, ◌*◌, ◌≤◌, min, length}
use Rattle.std.specs.Int.Digits.{digits_of}

-- the nine counters
pub record Reads : Type 0 where
  pub data_words : ℕ
  pub block_entries : ℕ
  pub superblock_entries : ℕ
  pub low_parts : ℕ
  pub rank_calls : ℕ
  pub items : ℕ
  pub blocks : ℕ
  pub nodes : ℕ
  pub chunks : ℕ

-- no reads; a bound is built from it, such as `record no_reads { data_words = 8 }`
abbrev pub no_reads : Reads
no_reads = record { data_words = 0; block_entries = 0; superblock_entries = 0; low_parts = 0; rank_calls = 0; items = 0; blocks = 0; nodes = 0; chunks = 0 }

-- a counter increased by one, unless it is at its greatest value
abbrev pub one_more : ℕ → ℕ
one_more n = min (n + 1) 18446744073709551615

-- n data words only
abbrev pub only_data_words : ℕ → Reads
only_data_words n = record no_reads { data_words = n }

-- n block entries only
abbrev pub only_block_entries : ℕ → Reads
only_block_entries n = record no_reads { block_entries = n }

-- n superblock entries only
abbrev pub only_superblock_entries : ℕ → Reads
only_superblock_entries n = record no_reads { superblock_entries = n }

-- n low parts only
abbrev pub only_low_parts : ℕ → Reads
only_low_parts n = record no_reads { low_parts = n }

-- n rank calls only
abbrev pub only_rank_calls : ℕ → Reads
only_rank_calls n = record no_reads { rank_calls = n }

-- n elements only
abbrev pub only_items : ℕ → Reads
only_items n = record no_reads { items = n }

-- n blocks only
abbrev pub only_blocks : ℕ → Reads
only_blocks n = record no_reads { blocks = n }

-- n nodes only
abbrev pub only_nodes : ℕ → Reads
only_nodes n = record no_reads { nodes = n }

-- n chunks only
abbrev pub only_chunks : ℕ → Reads
only_chunks n = record no_reads { chunks = n }

-- a counter went from old to new, and rose by at most the bound
pub record Adds (old new bound : ℕ) : Type 0 where
  pub kept : old ≤ new
  pub within : new ≤ old + bound

-- no counter fell, and each rose by at most its bound
pub record AddsAtMost (old new bound : Reads) : Type 0 where
  pub data_words : Adds old.data_words new.data_words bound.data_words
  pub block_entries : Adds old.block_entries new.block_entries bound.block_entries
  pub superblock_entries : Adds old.superblock_entries new.superblock_entries bound.superblock_entries
  pub low_parts : Adds old.low_parts new.low_parts bound.low_parts
  pub rank_calls : Adds old.rank_calls new.rank_calls bound.rank_calls
  pub items : Adds old.items new.items bound.items
  pub blocks : Adds old.blocks new.blocks bound.blocks
  pub nodes : Adds old.nodes new.nodes bound.nodes
  pub chunks : Adds old.chunks new.chunks bound.chunks

-- the sum of two bounds
abbrev pub plus : Reads → Reads → Reads
plus p q = record {
  data_words = p.data_words + q.data_words;
  block_entries = p.block_entries + q.block_entries;
  superblock_entries = p.superblock_entries + q.superblock_entries;
  low_parts = p.low_parts + q.low_parts;
  rank_calls = p.rank_calls + q.rank_calls;
  items = p.items + q.items;
  blocks = p.blocks + q.blocks;
  nodes = p.nodes + q.nodes;
  chunks = p.chunks + q.chunks;
}

-- n times a bound
abbrev pub times : ℕ → Reads → Reads
times n p = record {
  data_words = n * p.data_words;
  block_entries = n * p.block_entries;
  superblock_entries = n * p.superblock_entries;
  low_parts = n * p.low_parts;
  rank_calls = n * p.rank_calls;
  items = n * p.items;
  blocks = n * p.blocks;
  nodes = n * p.nodes;
  chunks = n * p.chunks;
}

-- each number of p is at most that of q
pub record IsWithin (p q : Reads) : Type 0 where
  pub data_words : p.data_words ≤ q.data_words
  pub block_entries : p.block_entries ≤ q.block_entries
  pub superblock_entries : p.superblock_entries ≤ q.superblock_entries
  pub low_parts : p.low_parts ≤ q.low_parts
  pub rank_calls : p.rank_calls ≤ q.rank_calls
  pub items : p.items ≤ q.items
  pub blocks : p.blocks ≤ q.blocks
  pub nodes : p.nodes ≤ q.nodes
  pub chunks : p.chunks ≤ q.chunks

-- how many binary digits a number has, and 0 for 0
unfoldable pub digits : ℕ → ℕ
digits n = length (digits_of 2 n)

-- the least k for which n is at most 2 ^ k
abbrev pub clog : ℕ → ℕ
clog n = digits (n - 1)
