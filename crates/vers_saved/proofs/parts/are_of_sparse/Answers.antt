use Rattle.vers_saved.proofs.Names.{◌≡◌, ◌+◌, ◌<◌, ◌≤◌, ◌∙◌, true, ap, sym, arith, take, drop, length, get_or, length-take, length-drop, get_or-take, get_or-drop, eq-eqb, are_of_list}
use Rattle.vers_saved.proofs.SortedForms.{not_sparse, rest_words, short_list, sparse_tested}
use Rattle.vers_saved.proofs.parts.are_of_sparse.Goals as goal
use Rattle.vers_saved.proofs.parts.are_of_sparse.Goals.{then-n-le-ENDS-via-else-n-le-ENDS+then-not-are_of_list, then-n-le-ENDS-via-then-n-le-ENDS}
use Rattle.std.proofs.Common.{List, ℕ}

word_in : (ws : List ℕ) (from n k word : ℕ) → from + n ≤ length ws → k < n → word ≡ get_or ws (from + k) 0 → word ≡ get_or (take n (drop from ws)) k 0
word_in ws from n k word within few is = is ∙ sym (get_or-drop from ws k 0) ∙ sym (get_or-take n (drop from ws) k 0 few)

next_in : (t : List ℕ) (k word : ℕ) → word ≡ get_or t (1 + k) 0 → word ≡ get_or (drop 1 t) k 0
next_in t k word is = is ∙ sym (get_or-drop 1 t k 0)

pub returns-then-n-le-ENDS : goal.returns-then-n-le-ENDS
returns-then-n-le-ENDS g c =
    let ws = g.W.Words.words c.args.words.now in
    let t = take c.args.n (drop c.args.from ws) in
    elim c.then-n-le-ENDS.branch [
      | then-n-le-ENDS-via-then-n-le-ENDS w ↦
          not_sparse t (short_list (drop 1 t) (omega (arith, w.if-n-le-ENDS.true, length-drop 1 t, length-take c.args.n (drop c.args.from ws))))
      | then-n-le-ENDS-via-else-n-le-ENDS+then-not-are_of_list w ↦
          not_sparse t (ap (are_of_list true) (rest_words c.args.from c.args.n ws (omega (arith, w.if-n-le-ENDS.false))) ∙ ap (are_of_list true) (sym w.new.ensures) ∙ sym w.are_of_list.ensures ∙ w.if-not-are_of_list.true)
    ]

pub returns-then-count-eq0 : goal.returns-then-count-eq0
returns-then-count-eq0 g c =
    let ws = g.W.Words.words c.args.words.now in
    let t = take c.args.n (drop c.args.from ws) in
    let some : 3 < c.args.n = omega (arith, c.if-n-le-ENDS.false) in
    let zero : c.args.from + 0 ≡ c.args.from = omega arith in
    let are : are_of_list true (drop 1 t) ≡ true =
    ap (are_of_list true) (rest_words c.args.from c.args.n ws (omega (arith, some))) ∙ ap (are_of_list true) (sym c.new.ensures) ∙ sym c.are_of_list.ensures ∙ c.if-not-are_of_list.false in
    let tested = sparse_tested t c.word-len.result c.word-count.result c.word-last.result are
    (word_in ws c.args.from c.args.n 0 c.word-len.result c.requires.within (omega (arith, some)) (c.word-len.ensures ∙ ap (λ p. get_or ws p 0) (sym zero)))
    (next_in t 0 c.word-count.result (word_in ws c.args.from c.args.n 1 c.word-count.result c.requires.within (omega (arith, some)) c.word-count.ensures))
    (next_in t 2 c.word-last.result (word_in ws c.args.from c.args.n 3 c.word-last.result c.requires.within some c.word-last.ensures)) in
    eq-eqb c.word-count.result 0 c.if-count-eq0.true ∙ tested.0 c.if-count-eq0.true

pub returns-else-count-eq0 : goal.returns-else-count-eq0
returns-else-count-eq0 g c =
    let ws = g.W.Words.words c.args.words.now in
    let t = take c.args.n (drop c.args.from ws) in
    let some : 3 < c.args.n = omega (arith, c.if-n-le-ENDS.false) in
    let zero : c.args.from + 0 ≡ c.args.from = omega arith in
    let are : are_of_list true (drop 1 t) ≡ true =
    ap (are_of_list true) (rest_words c.args.from c.args.n ws (omega (arith, some))) ∙ ap (are_of_list true) (sym c.new.ensures) ∙ sym c.are_of_list.ensures ∙ c.if-not-are_of_list.false in
    let tested = sparse_tested t c.word-len.result c.word-count.result c.word-last.result are
    (word_in ws c.args.from c.args.n 0 c.word-len.result c.requires.within (omega (arith, some)) (c.word-len.ensures ∙ ap (λ p. get_or ws p 0) (sym zero)))
    (next_in t 0 c.word-count.result (word_in ws c.args.from c.args.n 1 c.word-count.result c.requires.within (omega (arith, some)) c.word-count.ensures))
    (next_in t 2 c.word-last.result (word_in ws c.args.from c.args.n 3 c.word-last.result c.requires.within some c.word-last.ensures)) in
    tested.1 c.if-count-eq0.false
