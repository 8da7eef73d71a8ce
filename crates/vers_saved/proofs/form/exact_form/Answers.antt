use Rattle.vers_saved.proofs.Names.{◌≡◌, ◌∙◌, ap, subst, sym, arith, rules, map, length-map, None, bytes_word, words_of, words_among, row_words, refl, first_failing, body_tests, version_fault}
use Rattle.vers_saved.proofs.Forms.{loaded_is}
use Rattle.vers_saved.proofs.WordBytes.{AreWords, words_of-fit}
use Rattle.vers_saved.proofs.RoundTrips.{no_fault_back, one_form}
use Rattle.vers_saved.proofs.Tests.{words_are, told_of, memory_alone}
use Rattle.vers_saved.proofs.form.exact_form.Goals as goal

pub returns-in_err-head-clause-back : goal.returns-in_err-head-clause-back
returns-in_err-head-clause-back g c = λ count width words whole e.
    let none = no_fault_back c.args.kind c.args.bytes.now count width words (omega arith) whole e in
    cc (c.in_err-head.ensures.fault)

pub tested_words-requires-clause-long : goal.tested_words-requires-clause-long
tested_words-requires-clause-long g c = grind (arith, length-map)

pub tested_words-requires-clause-fit : goal.tested_words-requires-clause-fit
tested_words-requires-clause-fit g c =
    let all : map bytes_word c.as_chunks.result.0.now ≡ words_of c.args.bytes.now = ap (map bytes_word) c.as_chunks.ensures.front ∙ words_are c.args.bytes.now in
    subst AreWords (sym all) (words_of-fit c.args.bytes.now (λ i. omega (arith, c.type_inv.bytes i)))

pub returns-in_err-words-clause-err : goal.returns-in_err-words-clause-err
returns-in_err-words-clause-err g c =
    search (rules, told_of c.args.kind c.args.bytes.now c.in_ok-head.head.rows.count c.in_ok-head.head.rows.bits _ _ c.as_chunks.ensures.front c.in_ok-head.ensures.body c.in_err-words.ensures.refused)

pub returns-in_err-words-clause-back : goal.returns-in_err-words-clause-back
returns-in_err-words-clause-back g c = λ count width words whole e.
    let refused = told_of c.args.kind c.args.bytes.now c.in_ok-head.head.rows.count c.in_ok-head.head.rows.bits _ _ c.as_chunks.ensures.front c.in_ok-head.ensures.body c.in_err-words.ensures.refused in
    let memory = memory_alone (version_fault c.args.kind c.args.bytes.now) c.in_err-words.field-0.0 refused
    (no_fault_back c.args.kind c.args.bytes.now count width words (omega arith) whole e) in
    search (rules, memory)

pub returns : goal.returns
returns g c =
    let head = c.in_ok-head.ensures.head in
    let all : map bytes_word c.as_chunks.result.0.now ≡ words_of c.args.bytes.now = ap (map bytes_word) c.as_chunks.ensures.front ∙ words_are c.args.bytes.now in
    let none : version_fault c.args.kind c.args.bytes.now ≡ None =
    c.in_ok-head.ensures.body ∙ ap (λ l. first_failing (body_tests c.args.kind.order c.in_ok-head.head.rows.count c.in_ok-head.head.rows.bits l)) (sym all) ∙ c.in_ok-words.ensures.none in
    let p = loaded_is c.args.kind _ _ (row_words c.in_ok-head.head.rows.count c.in_ok-head.head.rows.bits) c.args.bytes.now _ (λ i. omega (arith, c.type_inv.bytes i))
    none head.0 head.1 (rw (head.2, head.3) refl) (c.in_ok-words.ensures.words ∙ ap (words_among (row_words c.in_ok-head.head.rows.count c.in_ok-head.head.rows.bits)) all) in
    record {
      ok = (refl, p.0, p.1);
      none = none;
      err = tt;
      back = λ count width words whole e.
          let one = one_form c.args.kind c.args.bytes.now _ _ count width _ words (omega arith) p.1 whole p.0 e in (refl, one.0, one.1, one.2);
    }
