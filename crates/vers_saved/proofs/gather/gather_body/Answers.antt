use Rattle.vers_saved.proofs.Names.{ℕ, [], inl, inr, subst, append-nil, Consumes, Consumes-trans, TooShort, BadLength, ◌≡◌, ◌+◌, ◌++◌, ◌∙◌, length, sym, ap, arith, rules, length-append, prepend_known, first_failing, row_words, bytes_of, version_fault, IsRefusedAs, IfErr-weaker, on_ok_weaker}
use Rattle.vers_saved.proofs.ReadForms.{said_is, not_gathered, ended_short, goes_on, parts_tell, rest_fault}
use Rattle.vers_saved.proofs.gather.gather_body.Goals as goal

pub returns-in-Err-clause-refused : goal.returns-in-Err-clause-refused
returns-in-Err-clause-refused g c =
    let ws = c.args.head.now ++ c.args.words.now.items in
    let n : ℕ = row_words c.args.rows.count c.args.rows.bits in
    let said = said_is c.args.kind.now c.args.rows.count c.args.rows.bits c.args.head.now c.args.words.now.items c.requires.five c.requires.count c.requires.bits in
    let six : length (c.args.head.now ++ c.args.words.now.items) ≡ 6 = omega (arith, length-append c.args.head.now c.args.words.now.items) in
    not_gathered c.args.kind.now (prepend_known (bytes_of ws) (g.R.Read.remaining c.args.reader.now)) c.in-Err.fault TooShort c.in-Err.ensures.kind (λ is. let short = c.in-Err.ensures.short is in
    ended_short c.args.kind.now n (g.R.Read.remaining c.args.reader.now) (g.R.Read.remaining c.gather.new.reader) ws short.0 c.requires.fit six c.requires.head said.1 short.1 short.2
    (omega (arith, six, short.3, c.words.ensures)))

pub returns-in-Err-test_end-clause-refused : goal.returns-in-Err-test_end-clause-refused
returns-in-Err-test_end-clause-refused g c =
    let m = c.in_default.ensures in
    let n : ℕ = row_words c.args.rows.count c.args.rows.bits in
    let said = said_is c.args.kind.now c.args.rows.count c.args.rows.bits c.args.head.now c.args.words.now.items c.requires.five c.requires.count c.requires.bits in
    let ws = c.args.head.now ++ c.args.words.now.items in
    let six : length (c.args.head.now ++ c.args.words.now.items) ≡ 6 = omega (arith, length-append c.args.head.now c.args.words.now.items) in
    let exact : length ((c.args.head.now ++ c.args.words.now.items) ++ m.gathered.0) ≡ n + 6 =
    omega (arith, six, length-append ws m.gathered.0, length-append c.args.words.now.items m.gathered.0, ap length m.gathered.2, m.len, c.words.ensures) in
    not_gathered c.args.kind.now (prepend_known (bytes_of ws) (g.R.Read.remaining c.args.reader.now)) c.in-Err-test_end.fault BadLength
    (elim c.in-Err-test_end.ensures.kind [ inl is ↦ inl is | inr read ↦ inr (inr read) ])
    (λ is. let more = c.in-Err-test_end.ensures.more is in
    goes_on c.args.kind.now n (g.R.Read.remaining c.args.reader.now) (g.R.Read.remaining c.gather.new.reader) (g.R.Read.remaining c.test_end.new.reader) ws m.gathered.0 more.0
    c.requires.fit six c.requires.head said.1 m.gathered.1 exact more.1 more.2)

pub returns : goal.returns
returns g c =
    let m = c.in_default.ensures in
    let n : ℕ = row_words c.args.rows.count c.args.rows.bits in
    let said = said_is c.args.kind.now c.args.rows.count c.args.rows.bits c.args.head.now c.args.words.now.items c.requires.five c.requires.count c.requires.bits in
    let body = said_is c.args.kind.now c.args.rows.count c.args.rows.bits c.args.head.now c.as_slice-rest.result.now c.requires.five c.requires.count c.requires.bits in
    let t = c.in_default-test_end.ensures.end in
    let ws = c.args.head.now ++ c.args.words.now.items in
    let p = parts_tell c.args.kind.now n c.args.head.now c.args.words.now.items m.gathered.0 c.gather.new.words.items c.as_slice-rest.result.now c.as_slice-rest.ensures.value
    (λ k. omega (arith, c.type_inv.head k)) c.are_words.ensures c.requires.five c.requires.begun m.gathered.2 c.requires.head said.1 (m.len ∙ omega (arith, c.words.ensures)) in
    let read = subst (Consumes (g.R.Read.remaining c.args.reader.now) (g.R.Read.remaining c.test_end.new.reader))
    (append-nil (bytes_of m.gathered.0)) (Consumes-trans (g.R.Read.remaining c.args.reader.now) (g.R.Read.remaining c.gather.new.reader) (g.R.Read.remaining c.test_end.new.reader) (bytes_of m.gathered.0) [] m.gathered.1 t.1) in
    record {
      gathered = search rules;
      fit = on_ok_weaker c.test_body.result (λ none. p.0) c.test_body.ensures.none;
      none = on_ok_weaker c.test_body.result (λ none. p.2 ∙ ap first_failing body.0 ∙ none) c.test_body.ensures.none;
      refused = IfErr-weaker c.test_body.result _ (IsRefusedAs c.args.kind.now (prepend_known (bytes_of ws) (g.R.Read.remaining c.args.reader.now)))
          (λ e bad. rest_fault c.args.kind.now (g.R.Read.remaining c.args.reader.now) (g.R.Read.remaining c.test_end.new.reader) ws m.gathered.0 e read t.0
          (ap (λ l. version_fault c.args.kind.now (bytes_of l)) (sym p.1) ∙ p.2 ∙ ap first_failing body.0 ∙ bad)) c.test_body.ensures.fault;
      cause = search rules;
    }
