-- What bytes with no fault hold.
use Rattle.vers_saved.proofs.Names.{take-add, take_all, take_more, ◌≡◌, ℕ, ◌+◌, ◌*◌, ◌<◌, ◌≤◌, Bool, true, false, List, [], ◌∷◌, ◌++◌, length, get_or, take, drop, refl, sym, ap, ◌∙◌, arith, None, le-leb, MAGIC, LoadError, bytes_of, words_of, check_sum, head, with_sum, saved, saved_size, Kind, first_failing, takes_width, takes_count, rows_of, row_bits, words_for, is_padded, is_summed, in_order, words_among, words_said, tests_of, version_fault, IsWhole, AreWords, eqb-true, leb-true, and_from}
use Rattle.vers_saved.proofs.Rows.{rows_padded}
use Rattle.vers_saved.proofs.Orders.{length-words_among}
use Rattle.vers_saved.proofs.WordBytes.{length-words_of, bytes_of-words_of, words_of-fit, fit_take, fit_drop}

-- each test was passed
abbrev pub AllPassed : List (Bool × LoadError) → Type 0
AllPassed [] = Unit {0}
AllPassed (t ∷ tests) = (t.0 ≡ true) × AllPassed tests

pub all_passed : (tests : List (Bool × LoadError)) → first_failing tests ≡ None → AllPassed tests
all_passed [] h = tt
all_passed ((true, e) ∷ tests) h = (refl, all_passed tests h)
all_passed ((false, e) ∷ tests) h = cc

-- what the tests state about bytes of this number that have these words
pub record IsForm (kind : Kind) (size items each : ℕ) (words : List ℕ) : Type 0 where
  pub ours : get_or words 0 0 ≡ MAGIC
  pub version : get_or words 1 0 ≡ kind.version
  pub kind_is : get_or words 2 0 ≡ kind.number
  pub width : takes_width kind (get_or words 3 0) ≡ true
  pub count : takes_count kind (get_or words 4 0) ≡ true
  pub small : words_for kind items each ≤ 288230376151711743
  pub exact : size ≡ saved_size (words_for kind items each)
  pub summed : is_summed (words_for kind items each) words ≡ true
  pub padded : is_padded (rows_of kind each) (row_bits kind items each) words ≡ true
  pub ordered : in_order kind.order (words_among (words_for kind items each) words) ≡ true

pub no_fault : (kind : Kind) (size : ℕ) (words : List ℕ) → first_failing (tests_of kind size words) ≡ None → IsForm kind size (get_or words 4 0) (get_or words 3 0) words
no_fault kind size words h =
    let p : AllPassed (tests_of kind size words) = all_passed (tests_of kind size words) h in
    record {
      ours = eqb-true _ _ p.1.0;
      version = eqb-true _ _ p.1.1.1.0;
      kind_is = eqb-true _ _ p.1.1.0;
      width = p.1.1.1.1.0;
      count = p.1.1.1.1.1.0;
      small = leb-true _ _ p.1.1.1.1.1.1.0;
      exact = omega (arith, leb-true _ _ p.1.1.1.1.1.1.1.0, leb-true _ _ p.1.1.1.1.1.1.1.1.0);
      summed = p.1.1.1.1.1.1.1.1.1.0;
      padded = p.1.1.1.1.1.1.1.1.1.1.0;
      ordered = p.1.1.1.1.1.1.1.1.1.1.1.0;
    }

-- a head of five words
first_five : (version kind : ℕ) (words : List ℕ) → 6 ≤ length words → get_or words 0 0 ≡ MAGIC → get_or words 1 0 ≡ version → get_or words 2 0 ≡ kind
    → take 5 words ≡ head version kind (get_or words 4 0) (get_or words 3 0)
first_five version kind (a ∷ b ∷ c ∷ d ∷ e ∷ rest) long p q r = cc
first_five version kind _ long p q r = absurd (omega arith)

-- words are a head, others and a sum
framed : (kind : Kind) (size n : ℕ) (words : List ℕ) → IsForm kind size (get_or words 4 0) (get_or words 3 0) words → n ≡ words_said kind words → length words ≡ n + 6
    → words ≡ with_sum (head kind.version kind.number (get_or words 4 0) (get_or words 3 0) ++ words_among n words)
unfolding with_sum is_summed
framed kind size n words form is long =
    let front_words : List ℕ = head kind.version kind.number (get_or words 4 0) (get_or words 3 0) in
    let position : n + 5 ≡ 5 + n = omega arith in
    let front : take (n + 5) words ≡ front_words ++ words_among n words =
    ap (λ m. take m words) position ∙ take-add 5 n words
    ∙ ap (λ l. l ++ words_among n words) (first_five kind.version kind.number words (omega arith) form.ours form.version form.kind_is) in
    let summed : is_summed n words ≡ true = rw is form.summed in
    let sum : get_or words (n + 5) 0 ≡ check_sum (front_words ++ words_among n words) = eqb-true _ _ summed ∙ ap check_sum front in
    sym (take_all (n + 5 + 1) words (omega arith)) ∙ take_more words (n + 5) 0 (omega arith)
    ∙ ap (λ l. l ++ get_or words (n + 5) 0 ∷ []) front
    ∙ ap (λ w. (front_words ++ words_among n words) ++ w ∷ []) sum

-- what is made of words with no fault
pub loaded_words : (kind : Kind) (count width n : ℕ) (all words : List ℕ) → AreWords all → first_failing (tests_of kind (8 * length all) all) ≡ None
    → count ≡ get_or all 4 0 → width ≡ get_or all 3 0 → n ≡ words_for kind count width → words ≡ words_among n all
    → (bytes_of all ≡ saved kind.version kind.number count width words) × IsWhole kind count width words
unfolding saved
loaded_words kind count width n all words fit none is_count is_width is_n are_words =
    let form : IsForm kind (8 * length all) (get_or all 4 0) (get_or all 3 0) all = no_fault kind (8 * length all) all none in
    let many : n ≡ words_said kind all = rw (is_n, is_count, is_width) refl in
    let long : length all ≡ words_said kind all + 6 = omega (arith, form.exact) in
    rw (are_words, many, is_count, is_width) (
      ap bytes_of (framed kind (8 * length all) (words_said kind all) all form refl long),
      record {
        may = and_from _ _ form.width (and_from _ _ form.count (le-leb _ _ form.small));
        counted = length-words_among (words_said kind all) all long;
        fit = fit_take (words_said kind all) (drop 5 all) (fit_drop 5 all fit);
        padded = rows_padded (rows_of kind (get_or all 3 0)) (row_bits kind (get_or all 4 0) (get_or all 3 0)) (words_said kind all) all (omega arith) form.padded;
        ordered = form.ordered;
      },
    )

-- what is made of bytes with no fault
pub loaded_is : (kind : Kind) (count width n : ℕ) (bytes words : List ℕ) → ((i : ℕ) → get_or bytes i 0 < 256) → version_fault kind bytes ≡ None
    → count ≡ get_or (words_of bytes) 4 0 → width ≡ get_or (words_of bytes) 3 0 → n ≡ words_for kind count width → words ≡ words_among n (words_of bytes)
    → (bytes ≡ saved kind.version kind.number count width words) × IsWhole kind count width words
unfolding version_fault
loaded_is kind count width n bytes words are_bytes none is_count is_width is_n are_words =
    let form : IsForm kind (length bytes) (get_or (words_of bytes) 4 0) (get_or (words_of bytes) 3 0) (words_of bytes) = no_fault kind (length bytes) (words_of bytes) none in
    let whole : length bytes ≡ 8 * length (words_of bytes) = omega (arith, form.exact, length-words_of bytes) in
    let p = loaded_words kind count width n (words_of bytes) words (words_of-fit bytes are_bytes)
    (ap (λ m. first_failing (tests_of kind m (words_of bytes))) (sym whole) ∙ none) is_count is_width is_n are_words in
    (sym (bytes_of-words_of bytes (omega (arith, whole)) are_bytes) ∙ p.0, p.1)
