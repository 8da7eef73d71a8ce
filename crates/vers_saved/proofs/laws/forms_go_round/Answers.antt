use Rattle.vers_saved.proofs.PublicLaws as laws
use Rattle.vers_saved.proofs.laws.forms_go_round.Goals as goal

pub returns : goal.returns
returns c = record {
  bits = laws.bits_go_round;
  sorted = laws.sorted_go_round;
  listed_sorted = laws.listed_sorted_go_round;
  symbols = laws.symbols_go_round;
  packed_symbols = laws.packed_symbols_go_round;
  sparse = laws.sparse_go_round;
  listed_sparse = laws.listed_sparse_go_round;
  table_values = laws.table_values_go_round;
  block_values = laws.block_values_go_round;
  parentheses = laws.parentheses_go_round;
  postings = laws.postings_go_round;
  inverted = laws.inverted_go_round;
}
