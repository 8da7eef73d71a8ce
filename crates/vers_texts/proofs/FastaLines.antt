-- The lines of a FASTA file, one after another.
use Rattle.std.proofs.Common.{◌≡◌, ◌==◌, ◌∙◌, ◌<◌, ◌≤◌, ◌||◌, ℕ, Bool, true, false, cond, not, List, [], ◌∷◌, ◌++◌, Option, Some, None, length, ◌+◌, ◌-◌, Bor, map, take, drop, get_or, sym, ap, subst, refl, arith, append_assoc}
use Rattle.std.specs.Prelude.{IfErr, IfOk, IfSome, IsErrAnd, IsOkAnd, MatchOption, Result, Ok, Err, find, if◌then◌else◌}
use Rattle.std.specs.List.{list_any, position, range_with_len}
use Rattle.std.specs.Io.BufRead.{strip_last}
use Rattle.std.proofs.Math.Seq.{get_or-append_seam, take-append_seam}
use Rattle.std.proofs.lemmas.List.{append-nil, length_push, take-append-drop}
use Rattle.std.proofs.lemmas.List.Folds.{list_any-append}
use Rattle.std.proofs.lemmas.List.Splits.{slice_split_at, slice_split_none}
use Rattle.vers_words.proofs.PublicLaws.{lacks, lacks_before, through_byte}
use Rattle.vers_texts.specs.declared.fasta.FastaError.{FastaError}
use Rattle.vers_texts.specs.declared.fasta.FastaError.TheVariants.{Memory}
use Rattle.vers_texts.specs.Fasta.{IsNoFasta, fasta_fault, fasta_text, is_header, is_line, is_right_line, lines_in, name_in, line_symbols}
unfoldable use Rattle.vers_texts.specs.Fasta.{text_of_lines, wrong_line}

-- the lines that are still to come
abbrev pub lines_left : Option (Bor (List ℕ)) → List (List ℕ)
lines_left None = []
lines_left (Some rest) = lines_in rest.now

-- how many bytes they have, and one
abbrev pub size_left : Option (Bor (List ℕ)) → ℕ
size_left None = 0
size_left (Some rest) = length rest.now + 1

-- the first line and the others, and a line alone
pub lines_at : (text : List ℕ) (i : ℕ) → position (λ b. b == 10) text ≡ Some i → lines_in text ≡ strip_last 13 (take i text) ∷ lines_in (drop (i + 1) text)
lines_at text i h =
    let whole : text ≡ take i text ++ 10 ∷ drop (i + 1) text =
    sym (take-append-drop (i + 1) text) ∙ ap (λ l. l ++ drop (i + 1) text) (through_byte 10 text i h) ∙ append_assoc (take i text) (10 ∷ []) (drop (i + 1) text) in
    ap lines_in whole ∙ ap (map (strip_last 13)) (slice_split_at (λ b. b == 10) (take i text) 10 (drop (i + 1) text) (lacks_before 10 text i h) refl)

pub lines_whole : (text : List ℕ) → position (λ b. b == 10) text ≡ None → lines_in text ≡ strip_last 13 text ∷ []
lines_whole text h = ap (map (strip_last 13)) (slice_split_none (λ b. b == 10) text (lacks 10 text h))

-- the first of the lines that are still to come, and how many bytes are left after it
pub next_lines : (text line : List ℕ) (others : Option (Bor (List ℕ))) → MatchOption others (lines_in text ≡ line ∷ []) (λ o. lines_in text ≡ line ∷ lines_in o.now) → lines_in text ≡ line ∷ lines_left others
next_lines text line None m = m
next_lines text line (Some o) m = m

pub fewer_left : (text : List ℕ) (others : Option (Bor (List ℕ))) → IfSome others (λ o. length o.now < length text) → size_left others ≤ length text
fewer_left text None h = omega arith
fewer_left text (Some o) h = omega (arith, h)

-- the lines of what is left
pub left_is : (left : Option (Bor (List ℕ))) (rest : Bor (List ℕ)) → left ≡ Some rest → (lines_left left ≡ lines_in rest.now) × (size_left left ≡ length rest.now + 1)
left_is left rest is = rw is (refl, refl)

-- one line more
pub text_then : (text : List ℕ) (line : List ℕ) (lines : List (List ℕ)) → (text ++ line_symbols (name_in line) line) ++ text_of_lines lines ≡ text ++ text_of_lines (line ∷ lines)
unfolding text_of_lines
text_then text line lines = append_assoc text (line_symbols (name_in line) line) (text_of_lines lines)

pub text_end : (text : List ℕ) → text ++ text_of_lines [] ≡ text
unfolding text_of_lines
text_end text = append-nil text

-- a text to which lines are appended, if there is memory
pub text_begun : {V E : Type 0} (items : V → List ℕ) (text : Result V E) (file : List ℕ) → IfOk text (λ t. items t ≡ []) → IfOk text (λ t. items t ++ text_of_lines (lines_in file) ≡ fasta_text file)
text_begun items (Ok t) file empty = ap (λ l. l ++ text_of_lines (lines_in file)) empty
text_begun items (Err e) file empty = tt

pub appended_then : {V E : Type 0} (items : V → List ℕ) (before after : Result V E) (line : List ℕ) (left lines : List (List ℕ)) (whole : List ℕ) → left ≡ line ∷ lines
    → IfOk after (λ a. IsOkAnd before (λ b. items a ≡ items b ++ line_symbols (name_in line) line))
    → IfOk before (λ b. items b ++ text_of_lines left ≡ whole) → IfOk after (λ a. items a ++ text_of_lines lines ≡ whole)
appended_then items before (Err e) line left lines whole next more known = tt
appended_then items (Err f) (Ok a) line left lines whole next more known = absurd more
appended_then items (Ok b) (Ok a) line left lines whole next more known =
    ap (λ l. l ++ text_of_lines lines) more ∙ text_then (items b) line lines ∙ ap (λ l. items b ++ text_of_lines l) (sym next) ∙ known

pub text_ended : {V E : Type 0} (items : V → List ℕ) (text : Result V E) (made : V) (left : List (List ℕ)) (whole : List ℕ) → text ≡ Ok made → left ≡ []
    → IfOk text (λ t. items t ++ text_of_lines left ≡ whole) → items made ≡ whole
text_ended {V} {E} items text made left whole is none known =
    let all : items made ++ text_of_lines left ≡ whole = subst (λ (t : Result V E). IfOk t (λ t. items t ++ text_of_lines left ≡ whole)) is known in
    sym (ap (λ l. items made ++ text_of_lines l) none ∙ text_end (items made)) ∙ all

-- ---- the first wrong line

-- the number of the first wrong line, from n, after lines of which some are headers or not
pub wrong_from : Bool → ℕ → List (List ℕ) → Option ℕ
wrong_from begun n [] = None
wrong_from begun n (line ∷ lines) = if is_line begun (name_in line) line then wrong_from (begun || is_header line) (n + 1) lines else Some n

pub right_then : (begun : Bool) (n : ℕ) (line : List ℕ) (lines : List (List ℕ)) → is_line begun (name_in line) line ≡ true
    → wrong_from begun n (line ∷ lines) ≡ wrong_from (begun || is_header line) (n + 1) lines
unfolding wrong_from
right_then begun n line lines right = rw right refl

pub wrong_here : (begun : Bool) (n : ℕ) (line : List ℕ) (lines : List (List ℕ)) → is_line begun (name_in line) line ≡ false → wrong_from begun n (line ∷ lines) ≡ Some n
unfolding wrong_from
wrong_here begun n line lines wrong = rw wrong refl

pub right_end : (begun : Bool) (n : ℕ) → wrong_from begun n [] ≡ None
unfolding wrong_from
right_end begun n = refl

or_false : (b : Bool) → (b || false) ≡ b
or_false true = refl
or_false false = refl

any_push : (p : List ℕ → Bool) (xs : List (List ℕ)) (x : List ℕ) → list_any p (xs ++ x ∷ []) ≡ (list_any p xs || p x)
any_push p xs x = list_any-append p xs (x ∷ []) ∙ ap (λ b. list_any p xs || b) (or_false (p x))

-- a line after others
right_here : (before : List (List ℕ)) (line : List ℕ) (lines all : List (List ℕ)) (n : ℕ) → all ≡ before ++ line ∷ lines → n ≡ length before + 1
    → is_right_line all n ≡ is_line (list_any is_header before) (name_in line) line
right_here before line lines all n whole is =
    let index : n - 1 ≡ length before = omega arith in
    let front : take (n - 1) all ≡ before = ap (λ k. take k all) index ∙ ap (take (length before)) whole ∙ take-append_seam before (line ∷ lines) in
    let here : get_or all (n - 1) [] ≡ line = ap (λ k. get_or all k []) index ∙ ap (λ l. get_or l (length before) []) whole ∙ get_or-append_seam before line lines [] in
    ap (λ l. is_line (list_any is_header l) (name_in (get_or all (n - 1) [])) (get_or all (n - 1) [])) front ∙ ap (λ l. is_line (list_any is_header before) (name_in l) l) here

first_or : (b : Bool) (x y z : Option ℕ) → y ≡ z → cond (not b) x y ≡ cond b z x
first_or true x y z same = same
first_or false x y z same = refl

wrong_after : (before lines all : List (List ℕ)) (begun : Bool) (n : ℕ) → all ≡ before ++ lines → n ≡ length before + 1 → begun ≡ list_any is_header before
    → find (λ k. not (is_right_line all k)) (range_with_len n (length lines)) ≡ wrong_from begun n lines
unfolding wrong_from
wrong_after before [] all begun n whole is any = refl
wrong_after before (line ∷ lines) all begun n whole is any =
    let right : is_right_line all n ≡ is_line begun (name_in line) line = right_here before line lines all n whole is ∙ ap (λ b. is_line b (name_in line) line) (sym any) in
    let later : find (λ k. not (is_right_line all k)) (range_with_len (n + 1) (length lines)) ≡ wrong_from (begun || is_header line) (n + 1) lines =
    wrong_after (before ++ line ∷ []) lines all (begun || is_header line) (n + 1) (whole ∙ sym (append_assoc before (line ∷ []) lines)) (omega (arith, length_push before line))
    (ap (λ b. b || is_header line) any ∙ sym (any_push is_header before line)) in
    ap (λ b. cond (not b) (Some n) (find (λ k. not (is_right_line all k)) (range_with_len (n + 1) (length lines)))) right
    ∙ first_or (is_line begun (name_in line) line) (Some n) _ _ later

pub fault_is : (file : List ℕ) → wrong_from false 1 (lines_in file) ≡ fasta_fault file
unfolding wrong_line
fault_is file = sym (wrong_after [] (lines_in file) (lines_in file) false 1 refl refl refl)

-- memory ran out for the text of a file without wrong lines
pub no_memory : {T : Type 0} (result : Result T FastaError) (file : List ℕ) → IsErrAnd result (λ e. e ≡ Memory) → fasta_fault file ≡ None → IfErr result (IsNoFasta file)
no_memory (Ok text) file is right = tt
no_memory (Err fault) file is right = subst (λ (f : FastaError). IsNoFasta file f) (sym is) right
