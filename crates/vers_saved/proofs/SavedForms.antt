-- Saved forms have no fault, and determine what they are of.
use Rattle.vers_saved.proofs.Names.{◌≡◌, ℕ, ◌+◌, ◌*◌, ◌^◌, ◌<◌, Bool, true, List, [], ◌∷◌, ◌++◌, length, refl, sym, ap, subst, ◌∙◌, arith, None, le-leb, take_at, get_or_push, length-append, LoadError, bytes_of, words_of, check_sum, head, with_sum, saved, saved_size, Kind, first_failing, rows_of, row_bits, words_for, is_padded, is_summed, in_order, words_among, tests_of, version_fault, ArePadded, IsWhole, eq-eqb, same_from_push}
use Rattle.vers_saved.proofs.WordBytes.{AreWords, length-bytes_of, words_of-bytes_of, fit_cons, fit_append}
use Rattle.vers_saved.proofs.Sums.{check_sum-lt}
use Rattle.vers_saved.proofs.Forms.{AllPassed}
use Rattle.vers_saved.proofs.Rows.{rows_from}
use Rattle.vers_saved.proofs.Shapes.{parts_of}
use Rattle.vers_saved.proofs.Tests.{later_tests}

-- where each test is passed there is no fault
pub none_failing : (tests : List (Bool × LoadError)) → AllPassed tests → first_failing tests ≡ None
none_failing [] h = refl
none_failing (t ∷ tests) h = rw h.0 (none_failing tests h.1)

-- all words of a saved form
abbrev pub all_words : (version kind count width : ℕ) → List ℕ → List ℕ
all_words version kind count width words = with_sum (head version kind count width ++ words)

pub all_fit : (version kind count width : ℕ) (words : List ℕ) → version < 2 ^ 64 → kind < 2 ^ 64 → count < 2 ^ 64 → width < 2 ^ 64 → AreWords words → AreWords (all_words version kind count width words)
unfolding with_sum
all_fit version kind count width words v k c w fit = grind (arith, fit_append, head, fit_cons, check_sum-lt)

pub length-all_words : (version kind count width : ℕ) (words : List ℕ) → length (all_words version kind count width words) ≡ length words + 6
unfolding with_sum
length-all_words version kind count width words = grind (arith, length-append, head)

-- they pass the tests
all_summed : (version kind count width n : ℕ) (words : List ℕ) → length words ≡ n → is_summed n (all_words version kind count width words) ≡ true
unfolding is_summed with_sum
all_summed version kind count width n words e =
    let long : length (head version kind count width ++ words) ≡ n + 5 = omega arith in
    eq-eqb _ _ (get_or_push (head version kind count width ++ words) (check_sum (head version kind count width ++ words)) 0 (n + 5) long
    ∙ sym (ap check_sum (take_at (head version kind count width ++ words) (check_sum (head version kind count width ++ words) ∷ []) (n + 5) long)))

-- the words between the head and the sum
words_again : (version kind count width n : ℕ) (words : List ℕ) → length words ≡ n → words_among n (all_words version kind count width words) ≡ words
unfolding with_sum
words_again version kind count width n words e = take_at words (check_sum (head version kind count width ++ words) ∷ []) n e

all_pass : (kind : Kind) (count width : ℕ) (words : List ℕ) → IsWhole kind count width words
    → is_summed (words_for kind count width) (all_words kind.version kind.number count width words) ≡ true
    → is_padded (rows_of kind width) (row_bits kind count width) (all_words kind.version kind.number count width words) ≡ true
    → in_order kind.order (words_among (words_for kind count width) (all_words kind.version kind.number count width words)) ≡ true
    → AllPassed (tests_of kind (saved_size (words_for kind count width)) (all_words kind.version kind.number count width words))
unfolding with_sum
all_pass kind count width words whole summed padded ordered =
    let rest : AllPassed (later_tests kind (saved_size (words_for kind count width)) (all_words kind.version kind.number count width words)) =
    (le-leb _ _ (omega arith), (le-leb _ _ (omega arith), (summed, (padded, (ordered, tt))))) in
    let p = parts_of kind count width whole.may in
    (le-leb _ _ (omega arith), (refl, (eq-eqb kind.number kind.number refl, (eq-eqb kind.version kind.version refl, (p.0, (p.1, (le-leb _ _ p.2, rest)))))))

pub saved_has_no_fault : (kind : Kind) (count width : ℕ) (words : List ℕ) → kind.version < 2 ^ 64 → kind.number < 2 ^ 64 → count < 2 ^ 64 → width < 2 ^ 64 → IsWhole kind count width words
    → version_fault kind (saved kind.version kind.number count width words) ≡ None
unfolding version_fault saved
saved_has_no_fault kind count width words v k c w whole =
    let all : List ℕ = all_words kind.version kind.number count width words in
    let n : ℕ = words_for kind count width in
    let back : words_of (bytes_of all) ≡ all = words_of-bytes_of all (all_fit kind.version kind.number count width words v k c w whole.fit) in
    let size : length (bytes_of all) ≡ saved_size n =
    length-bytes_of all ∙ ap (λ m. 8 * m) (length-all_words kind.version kind.number count width words ∙ ap (λ m. m + 6) whole.counted) in
    let again : words_among n all ≡ words = words_again kind.version kind.number count width n words whole.counted in
    let summed : is_summed n all ≡ true = all_summed kind.version kind.number count width n words whole.counted in
    let padded : is_padded (rows_of kind width) (row_bits kind count width) all ≡ true =
    rows_from (rows_of kind width) (row_bits kind count width) n all (omega arith) (subst (ArePadded (rows_of kind width) (row_bits kind count width)) (sym again) whole.padded) in
    let ordered : in_order kind.order (words_among n all) ≡ true = ap (in_order kind.order) again ∙ whole.ordered in
    ap (λ l. first_failing (tests_of kind (length (bytes_of all)) l)) back
    ∙ ap (λ m. first_failing (tests_of kind m all)) size
    ∙ none_failing (tests_of kind (saved_size n) all) (all_pass kind count width words whole summed padded ordered)

-- what one saved form is of
pub same_words : (v k c w c' w' : ℕ) (xs ys : List ℕ) → v < 2 ^ 64 → k < 2 ^ 64 → c < 2 ^ 64 → w < 2 ^ 64 → c' < 2 ^ 64 → w' < 2 ^ 64 → AreWords xs → AreWords ys
    → saved v k c w xs ≡ saved v k c' w' ys → (c ≡ c') × (w ≡ w') × (xs ≡ ys)
unfolding saved with_sum
same_words v k c w c' w' xs ys hv hk hc hw hc' hw' fx fy e =
    let words : all_words v k c w xs ≡ all_words v k c' w' ys =
    sym (words_of-bytes_of (all_words v k c w xs) (all_fit v k c w xs hv hk hc hw fx)) ∙ ap words_of e ∙ words_of-bytes_of (all_words v k c' w' ys) (all_fit v k c' w' ys hv hk hc' hw' fy) in
    let same : head v k c w ++ xs ≡ head v k c' w' ++ ys =
    (same_from_push (head v k c w ++ xs) (head v k c' w' ++ ys) (check_sum (head v k c w ++ xs)) (check_sum (head v k c' w' ++ ys)) words).0 in
    (cc, cc, cc)
