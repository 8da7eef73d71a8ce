-- What a reader had at first, by what was read of it.
use Rattle.vers_saved.proofs.Names.{◌≡◌, ℕ, ◌+◌, ◌*◌, ◌<◌, ◌≤◌, List, [], ◌∷◌, ◌++◌, length, get_or, take, drop, Option, Some, None, refl, sym, ap, subst, ◌∙◌, inl, inr, append_assoc, arith, Consumes, prepend_known, set, take-add, append-nil, length-append, get_or_append_left, Kind, LoadError, TooShort, BadLength, bytes_of, words_of, saved, saved_size, first_failing, head_tests, body_tests, said_tests, tests_of, version_fault, words_said, rows_of, row_bits, row_words, words_for, words_among, IsWhole, IsRefused, IsRefusedAs, fault_of, at_version, version_said, Consumes-trans, IfSome, ◌⊎◌, IsAtEnd, Read, Memory}
use Rattle.vers_saved.proofs.WordBytes.{AreWords, length-bytes_of, words_of-bytes_of, words_first, fit_append}
use Rattle.vers_saved.proofs.Forms.{loaded_words}
use Rattle.vers_saved.proofs.Tests.{fault_is, few_bytes, bad_head, too_short, too_long, by_body}
use Rattle.vers_saved.proofs.Sums.{bytes_of-append}

-- what there was before a first part was read
pub before : (old new : Option (List ℕ)) (text : List ℕ) (P : List ℕ → Type 0) → Consumes old new text → IfSome (prepend_known text new) P → IfSome old P
before None new text P h p = tt
before (Some xs) None text P h p = absurd h
before (Some xs) (Some ys) text P h p = subst P (sym h) p

-- what was read is a beginning of it
pub known : (old new : Option (List ℕ)) (text : List ℕ) (P : List ℕ → Type 0) → Consumes old new text → ((rest : List ℕ) → P (text ++ rest)) → IfSome old P
known old new text P h f = before old new text P h (elim new as (λ o. IfSome (prepend_known text o) P) [ None ↦ tt | Some ys ↦ f ys ])

-- and at the end all of it
pub known_end : (old new : Option (List ℕ)) (text : List ℕ) (P : List ℕ → Type 0) → Consumes old new text → IsAtEnd new → P text → IfSome old P
known_end old None text P h e p = before old None text P h tt
known_end old (Some ys) text P h e p = before old (Some ys) text P h (subst P (sym (ap (λ l. text ++ l) e ∙ append-nil text)) p)

-- the words of a head, and the one after them
pub six_words : (ws rest : List ℕ) (a b c d e f : ℕ) → length ws ≡ 6 → a ≡ get_or ws 0 a → b ≡ get_or ws 1 b → c ≡ get_or ws 2 c → d ≡ get_or ws 3 d → e ≡ get_or ws 4 e
    → f ≡ get_or ws 5 f → rest ≡ take 1 (set ws 0 f) → a ∷ b ∷ c ∷ d ∷ e ∷ rest ≡ ws
six_words (u ∷ v ∷ w ∷ x ∷ y ∷ z ∷ []) rest a b c d e f six p q r s t o is = cc
six_words _ rest a b c d e f six p q r s t o is = absurd (omega arith)

-- what is true of what follows a first part
behind : (old : Option (List ℕ)) (first : List ℕ) (P : List ℕ → Type 0) → IfSome old (λ l. P (first ++ l)) → IfSome (prepend_known first old) P
behind None first P p = tt
behind (Some xs) first P p = p

-- a block that was filled further
pub filled_more : (old mid new : Option (List ℕ)) (first after : List ℕ) (filled n : ℕ) → Consumes old mid (take filled first) → take filled after ≡ take filled first
    → Consumes mid new (take n (drop filled after)) → Consumes old new (take (filled + n) after)
filled_more old mid new first after filled n c front d =
    subst (Consumes old new) (ap (λ l. l ++ take n (drop filled after)) (sym front) ∙ sym (take-add filled n after))
    (Consumes-trans old mid new (take filled first) (take n (drop filled after)) c d)

-- what a head gives follows from its words alone
same_head : (kind : Kind) (ws more : List ℕ) → 5 ≤ length ws → (head_tests kind (ws ++ more) ≡ head_tests kind ws) × (words_said kind (ws ++ more) ≡ words_said kind ws)
same_head kind (a ∷ b ∷ c ∷ d ∷ e ∷ ws) more h = (refl, refl)
same_head kind _ more h = absurd (omega arith)

head_holds : (kind : Kind) (ws rest : List ℕ) → AreWords ws → 5 ≤ length ws
    → (first_failing (head_tests kind (words_of (bytes_of ws ++ rest))) ≡ first_failing (head_tests kind ws)) × (words_said kind (words_of (bytes_of ws ++ rest)) ≡ words_said kind ws)
head_holds kind ws rest fit long = let same = same_head kind ws (words_of rest) long in rw (words_first ws rest fit) (ap first_failing same.0, same.1)

-- one that had fewer bytes than its head gives
pub ended_short : (kind : Kind) (n : ℕ) (old new : Option (List ℕ)) (ws text : List ℕ) → AreWords ws → length ws ≡ 6 → first_failing (head_tests kind ws) ≡ None
    → n ≡ words_said kind ws → Consumes old new text → IsAtEnd new → 8 * length ws + length text < 8 * (n + 6)
    → IfSome (prepend_known (bytes_of ws) old) (λ bytes. version_fault kind bytes ≡ Some TooShort)
ended_short kind n old new ws text fit long none said c e few =
    let all : List ℕ = bytes_of ws ++ text in
    let many : length (bytes_of ws ++ text) ≡ 8 * length ws + length text = omega (arith, length-append (bytes_of ws) text, length-bytes_of ws) in
    let size : saved_size (words_said kind (words_of (bytes_of ws ++ text))) ≡ saved_size n = ap saved_size ((head_holds kind ws text fit (omega arith)).1 ∙ sym said) in
    behind old (bytes_of ws) (λ bytes. version_fault kind bytes ≡ Some TooShort) (known_end old new text (λ l. version_fault kind (bytes_of ws ++ l) ≡ Some TooShort) c e
    (fault_is kind all ∙ too_short kind (length all) (words_of all) (omega arith) ((head_holds kind ws text fit (omega arith)).0 ∙ none) (omega arith)))

-- one that had more
pub goes_on : (kind : Kind) (n : ℕ) (old mid new : Option (List ℕ)) (ws more text : List ℕ) → AreWords ws → length ws ≡ 6 → first_failing (head_tests kind ws) ≡ None
    → n ≡ words_said kind ws → Consumes old mid (bytes_of more) → length (ws ++ more) ≡ n + 6 → Consumes mid new text → 0 < length text
    → IfSome (prepend_known (bytes_of ws) old) (λ bytes. version_fault kind bytes ≡ Some BadLength)
goes_on kind n old mid new ws more text fit long none said c exact d some =
    behind old (bytes_of ws) (λ bytes. version_fault kind bytes ≡ Some BadLength) (known old new (bytes_of more ++ text) (λ l. version_fault kind (bytes_of ws ++ l) ≡ Some BadLength) (Consumes-trans old mid new (bytes_of more) text c d) (λ rest.
    let tail : List ℕ = (bytes_of more ++ text) ++ rest in
    let all : List ℕ = bytes_of ws ++ ((bytes_of more ++ text) ++ rest) in
    let size : saved_size (words_said kind (words_of (bytes_of ws ++ ((bytes_of more ++ text) ++ rest)))) ≡ saved_size n =
    ap saved_size ((head_holds kind ws ((bytes_of more ++ text) ++ rest) fit (omega arith)).1 ∙ sym said) in
    let many : 8 * (length ws + length more) + length text ≤ length (bytes_of ws ++ ((bytes_of more ++ text) ++ rest)) =
    omega (arith, length-append (bytes_of ws) ((bytes_of more ++ text) ++ rest), length-append (bytes_of more ++ text) rest, length-append (bytes_of more) text, length-bytes_of ws, length-bytes_of more) in
    fault_is kind all ∙ too_long kind (length all) (words_of all) (omega (arith, length-append ws more))
    ((head_holds kind ws tail fit (omega arith)).0 ∙ none) (omega (arith, length-append ws more))))

-- bytes that are as many as the head gives have the fault of what follows it
rest_tells : (kind : Kind) (n : ℕ) (ws more : List ℕ) → AreWords (ws ++ more) → 5 ≤ length ws → first_failing (head_tests kind ws) ≡ None
    → n ≡ words_said kind ws → length (ws ++ more) ≡ n + 6 → version_fault kind (bytes_of (ws ++ more)) ≡ first_failing (said_tests kind (ws ++ more))
rest_tells kind n ws more fit long none said exact = grind (arith, bytes_of, words_of-bytes_of, same_head, fault_is, by_body, length-bytes_of)

-- of bytes with no fault, a reader alone, or memory, is what a load can lack
pub at_some : {X : Type 0} (left : Option X) (bytes : X) (P : X → Type 0) → left ≡ Some bytes → IfSome left P → P bytes
at_some left bytes P is p = subst (λ o. IfSome o P) is p

pub refused_none : (kind : Kind) (left : Option (List ℕ)) (bytes : List ℕ) (e : LoadError) → left ≡ Some bytes → fault_of kind bytes ≡ None → IsRefused kind left e → (e ≡ Read) ⊎ (e ≡ Memory)
refused_none kind left bytes e is none (inl read) = inl read
refused_none kind left bytes e is none (inr (inl memory)) = inr memory
refused_none kind left bytes e is none (inr (inr some)) = let here : fault_of kind bytes ≡ Some e = at_some left bytes (λ b. fault_of kind b ≡ Some e) is some in cc

-- why a reader of which a part was to be gathered did not give it: the bytes have that fault, or memory or the reader failed
pub not_gathered : (kind : Kind) (left : Option (List ℕ)) (e f : LoadError) → (e ≡ f) ⊎ ((e ≡ Memory) ⊎ (e ≡ Read))
    → (e ≡ f → IfSome left (λ bytes. version_fault kind bytes ≡ Some f)) → IsRefusedAs kind left e
not_gathered kind left e f (inl is) bad = inr (inr (subst (λ f. IfSome left (λ bytes. version_fault kind bytes ≡ Some f)) (sym is) (bad is)))
not_gathered kind left e f (inr (inl memory)) bad = inr (inl memory)
not_gathered kind left e f (inr (inr read)) bad = inl read

-- what a head and the words after it determine, of which one was read with the head
pub parts_tell : (kind : Kind) (n : ℕ) (head first more after rest : List ℕ) → rest ≡ after → AreWords head → AreWords rest → length head ≡ 5 → length first ≡ 1
    → after ≡ first ++ more → first_failing (head_tests kind (head ++ first)) ≡ None → n ≡ words_said kind (head ++ first) → length after ≡ n + 1
    → AreWords (head ++ after) × (head ++ after ≡ (head ++ first) ++ more) × (version_fault kind (bytes_of (head ++ after)) ≡ first_failing (said_tests kind (head ++ rest)))
parts_tell kind n head first more after rest same fit_head fit_rest five one is none said long =
    let all : head ++ after ≡ (head ++ first) ++ more = ap (λ l. head ++ l) is ∙ sym (append_assoc head first more) in
    let fit : AreWords (head ++ after) = fit_append head after fit_head (subst AreWords same fit_rest) in
    let exact : length (head ++ after) ≡ n + 6 = omega (arith, length-append head after) in (
      fit,
      all,
      ap (λ l. version_fault kind (bytes_of l)) all
          ∙ rest_tells kind n (head ++ first) more (subst AreWords all fit) (omega (arith, length-append head first)) none said (sym (ap length all) ∙ exact)
          ∙ ap (λ l. first_failing (said_tests kind l)) (sym all ∙ ap (λ l. head ++ l) (sym same)),
    )

-- a head of five words gives the rows
pub said_is : (kind : Kind) (rows bits : ℕ) (head rest : List ℕ) → length head ≡ 5 → rows ≡ rows_of kind (get_or head 3 0) → bits ≡ row_bits kind (get_or head 4 0) (get_or head 3 0)
    → (said_tests kind (head ++ rest) ≡ body_tests kind.order rows bits (head ++ rest)) × (row_words rows bits ≡ words_said kind (head ++ rest))
said_is kind rows bits (a ∷ b ∷ c ∷ d ∷ e ∷ []) rest five is_rows is_bits = rw (is_rows, is_bits) (refl, refl)
said_is kind rows bits _ rest five is_rows is_bits = absurd (omega arith)

pub same_five : (head rest all : List ℕ) → length head ≡ 5 → head ++ rest ≡ all → (get_or head 3 0 ≡ get_or all 3 0) × (get_or head 4 0 ≡ get_or all 4 0)
same_five head rest all five is =
    (sym (get_or_append_left head rest 0 3 (omega arith)) ∙ ap (λ l. get_or l 3 0) is, sym (get_or_append_left head rest 0 4 (omega arith)) ∙ ap (λ l. get_or l 4 0) is)

-- a reader whose words have a fault after the head
pub rest_fault : (kind : Kind) (old new : Option (List ℕ)) (ws more : List ℕ) (e : LoadError) → Consumes old new (bytes_of more) → IsAtEnd new
    → version_fault kind (bytes_of (ws ++ more)) ≡ Some e → IsRefusedAs kind (prepend_known (bytes_of ws) old) e
rest_fault kind old new ws more e c end bad = grind (arith, behind, bytes_of, known_end, bytes_of-append)

-- what follows a part that was read is refused as all that there was
pub refused_before : (old new : Option (List ℕ)) (text : List ℕ) (e : LoadError) (P : List ℕ → Type 0) → Consumes old new text → (e ≡ Read) ⊎ ((e ≡ Memory) ⊎ IfSome (prepend_known text new) P)
    → (e ≡ Read) ⊎ ((e ≡ Memory) ⊎ IfSome old P)
refused_before old new text e P c (inl read) = inl read
refused_before old new text e P c (inr (inl memory)) = inr (inl memory)
refused_before old new text e P c (inr (inr some)) = inr (inr (before old new text P c some))

-- bytes that begin with two words name the version that the second gives
pub begun_version : (ws rest : List ℕ) → AreWords ws → 2 ≤ length ws → version_said (bytes_of ws ++ rest) ≡ get_or ws 1 0
begun_version ws rest fit long = ap (λ l. get_or l 1 0) (words_first ws rest fit) ∙ get_or_append_left ws (words_of rest) 0 1 (omega arith)

-- so their fault is that of this version
pub begun_fault : (kind : Kind) (ws rest : List ℕ) → AreWords ws → 2 ≤ length ws → fault_of kind (bytes_of ws ++ rest) ≡ version_fault (at_version kind (get_or ws 1 0)) (bytes_of ws ++ rest)
begun_fault kind ws rest fit long = ap (λ v. version_fault (at_version kind v) (bytes_of ws ++ rest)) (begun_version ws rest fit long)

pub refused_named : (kind : Kind) (left : Option (List ℕ)) (ws : List ℕ) (e : LoadError) → AreWords ws → 2 ≤ length ws → IsRefusedAs (at_version kind (get_or ws 1 0)) (prepend_known (bytes_of ws) left) e
    → IsRefused kind (prepend_known (bytes_of ws) left) e
refused_named kind left ws e fit long (inl read) = inl read
refused_named kind left ws e fit long (inr (inl memory)) = inr (inl memory)
refused_named kind None ws e fit long (inr (inr some)) = inr (inr tt)
refused_named kind (Some rest) ws e fit long (inr (inr some)) = inr (inr (begun_fault kind ws rest fit long ∙ some))

-- a reader that had fewer bytes than a head and a sum, in any version
pub ended_first : (kind : Kind) (old new : Option (List ℕ)) (text : List ℕ) → Consumes old new text → IsAtEnd new → length text < 48
    → IfSome old (λ bytes. fault_of kind bytes ≡ Some TooShort)
ended_first kind old new text c e few =
    known_end old new text (λ bytes. fault_of kind bytes ≡ Some TooShort) c e
    (fault_is (at_version kind (version_said text)) text ∙ few_bytes (at_version kind (version_said text)) (length text) (words_of text) few)

-- one whose head has a fault in the version that it gives
pub first_fault : (kind : Kind) (old new : Option (List ℕ)) (ws : List ℕ) (e : LoadError) → AreWords ws → length ws ≡ 6 → Consumes old new (bytes_of ws)
    → first_failing (head_tests (at_version kind (get_or ws 1 0)) ws) ≡ Some e → IfSome old (λ bytes. fault_of kind bytes ≡ Some e)
first_fault kind old new ws e fit long c bad =
    known old new (bytes_of ws) (λ bytes. fault_of kind bytes ≡ Some e) c (λ rest.
    let used : Kind = at_version kind (get_or ws 1 0) in
    let all : List ℕ = bytes_of ws ++ rest in
    let many : 48 ≤ length (bytes_of ws ++ rest) = omega (arith, length-append (bytes_of ws) rest, length-bytes_of ws) in
    begun_fault kind ws rest fit (omega arith)
    ∙ fault_is used all ∙ bad_head used (length all) (words_of all) e many ((head_holds used ws rest fit (omega arith)).0 ∙ bad))

-- why a reader of which a part was to be gathered did not give it, in any version
pub first_not_gathered : (kind : Kind) (left : Option (List ℕ)) (e f : LoadError) → (e ≡ f) ⊎ ((e ≡ Memory) ⊎ (e ≡ Read))
    → (e ≡ f → IfSome left (λ bytes. fault_of kind bytes ≡ Some f)) → IsRefused kind left e
first_not_gathered kind left e f (inl is) bad = inr (inr (subst (λ f. IfSome left (λ bytes. fault_of kind bytes ≡ Some f)) (sym is) (bad is)))
first_not_gathered kind left e f (inr (inl memory)) bad = inr (inl memory)
first_not_gathered kind left e f (inr (inr read)) bad = inl read

-- a reader of a head and of what follows it, up to its end
pub form_gathered : (kind : Kind) (count width n : ℕ) (old mid new : Option (List ℕ)) (ws more all words : List ℕ) → Consumes old mid (bytes_of ws) → length ws ≡ 6
    → Consumes mid new (bytes_of more) → IsAtEnd new → all ≡ ws ++ more → AreWords all → version_fault kind (bytes_of all) ≡ None → count ≡ get_or ws 4 0 → width ≡ get_or ws 3 0
    → n ≡ words_for kind count width → words ≡ words_among n all
    → IfSome old (λ bytes. bytes ≡ saved kind.version kind.number count width words) × IsWhole kind count width words
form_gathered kind count width n old mid new ws more all words c long d end is fit none is_count is_width is_n are_words =
    let passed = sym (ap (λ m. first_failing (tests_of kind m all)) (length-bytes_of all))
    ∙ ap (λ l. first_failing (tests_of kind (length (bytes_of all)) l)) (sym (words_of-bytes_of all fit))
    ∙ sym (fault_is kind (bytes_of all)) ∙ none in
    let p = loaded_words kind count width n all words fit passed (is_count ∙ sym (ap (λ l. get_or l 4 0) is ∙ get_or_append_left ws more 0 4 (omega arith)))
    (is_width ∙ sym (ap (λ l. get_or l 3 0) is ∙ get_or_append_left ws more 0 3 (omega arith))) is_n are_words in (
      known_end old new (bytes_of ws ++ bytes_of more) (λ bytes. bytes ≡ saved kind.version kind.number count width words) (Consumes-trans old mid new (bytes_of ws) (bytes_of more) c d) end
          (sym (bytes_of-append ws more) ∙ ap bytes_of (sym is) ∙ p.0),
      p.1,
    )
