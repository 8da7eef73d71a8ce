-- FASTA files, by their lines: a header begins with `>` and names a sequence, and the lines up to the next header have its residues.
use Rattle.std.specs.Prelude.{◌≡◌, ℕ, Bool, not, ◌&&◌, ◌||◌, ◌==◌, ◌+◌, ◌-◌, ◌%◌, nat_le, List, [], ◌∷◌, ◌++◌, length, map, flat_map, take, find, Option, Some, None, is_some, if◌then◌else◌}
use Rattle.std.specs.List.{slice_split, list_all, list_any, before_first, range_with_len, slice_index_or}
use Rattle.std.specs.Io.BufRead.{strip_last}
use Rattle.vers_words.specs.Text.{has_bytes}
use Rattle.vers_texts.specs.declared.fasta.FastaError.{FastaError}
use Rattle.vers_texts.specs.declared.fasta.FastaError.TheVariants.{Line, Memory}

-- the lines of a file, each without one byte 13 at its end
abbrev pub lines_in : List ℕ → List (List ℕ)
lines_in file = map (strip_last 13) (slice_split (λ byte. byte == 10) file)

-- whether a byte is a residue: a letter, `*` or `-`
abbrev pub is_residue : ℕ → Bool
is_residue byte = (nat_le 65 byte && nat_le byte 90) || ((nat_le 97 byte && nat_le byte 122) || ((byte == 42) || (byte == 45)))

-- whether a byte is a visible character of ASCII
abbrev pub is_visible : ℕ → Bool
is_visible byte = nat_le 33 byte && nat_le byte 126

-- the name in a header, if a line is one: the bytes between `>` and the first space or tab
abbrev pub name_in : List ℕ → Option (List ℕ)
name_in [] = None
name_in (byte ∷ bytes) = if byte == 62 then Some (before_first (λ b. (b == 32) || (b == 9)) bytes) else None

-- whether a name has characters, all of them visible
abbrev pub is_name : List ℕ → Bool
is_name name = has_bytes name && list_all is_visible name

-- whether a line is one of a FASTA file, by its name if it is a header, and by whether a header came before
abbrev pub is_line : Bool → Option (List ℕ) → List ℕ → Bool
is_line begun (Some name) line = is_name name
is_line begun None line = not (has_bytes line) || (begun && list_all is_residue line)

-- the symbols of a line: its residues, or the name of a header between two line feeds, each byte with its highest bit set
abbrev pub line_symbols : Option (List ℕ) → List ℕ → List ℕ
line_symbols (Some name) line = 10 ∷ (map (λ b. 128 + b % 128) name ++ 10 ∷ [])
line_symbols None line = line

-- the symbols of lines
unfoldable pub text_of_lines : List (List ℕ) → List ℕ
text_of_lines lines = flat_map (λ line. line_symbols (name_in line) line) lines

-- whether a line is a header
abbrev pub is_header : List ℕ → Bool
is_header line = is_some (name_in line)

-- whether the line of this number, from 1, is one of a FASTA file, by the lines before it
abbrev pub is_right_line : List (List ℕ) → ℕ → Bool
is_right_line lines n =
    let line = slice_index_or lines (n - 1) [] in
    is_line (list_any is_header (take (n - 1) lines)) (name_in line) line

-- the number of the first line that is none of a FASTA file, if there is one
unfoldable pub wrong_line : List (List ℕ) → Option ℕ
wrong_line lines = find (λ n. not (is_right_line lines n)) (range_with_len 1 (length lines))

-- the text of a FASTA file
abbrev pub fasta_text : List ℕ → List ℕ
fasta_text file = text_of_lines (lines_in file)

-- the number of its first wrong line, from 1
abbrev pub fasta_fault : List ℕ → Option ℕ
fasta_fault file = wrong_line (lines_in file)

-- why there is no text of a file: it has a wrong line, or it has none and memory ran out
abbrev pub IsNoFasta : List ℕ → FastaError → Type 0
IsNoFasta file (Line n) = fasta_fault file ≡ Some n
IsNoFasta file Memory = fasta_fault file ≡ None
