use Rattle.vers_saved.proofs.Names.{get_or, get_or_default, TooShort, ◌≡◌, ◌++◌, ◌∙◌, ap, subst, inr, arith, Some, first_failing, head_tests, at_version, AreWords, IsRefused, IfErr-weaker}
use Rattle.vers_saved.proofs.ReadForms.{first_not_gathered, ended_first, first_fault}
use Rattle.vers_saved.proofs.gather.gather_head.Goals as goal

pub returns-in-Err-clause-refused : goal.returns-in-Err-clause-refused
returns-in-Err-clause-refused g c =
    first_not_gathered c.args.kind.now (g.R.Read.remaining c.args.reader.now) c.in-Err.fault TooShort c.in-Err.ensures.kind (λ is. let short = c.in-Err.ensures.short is in
    ended_first c.args.kind.now _ _ short.0 short.1 short.2 (omega (arith, short.3)))

pub returns-clause-refused : goal.returns-clause-refused
returns-clause-refused g c =
    let m = c.in_default.ensures in
    let is : c.gather.new.words.items ≡ m.gathered.0 = m.gathered.2 ∙ ap (λ l. l ++ m.gathered.0) c.requires.none in
    let read = rw (← is) at m.gathered.1 in
    let word = c.index.ensures ∙ get_or_default c.gather.new.words.items 1 c.index.result.now 0 (omega (arith, m.len)) in
    IfErr-weaker c.head_of.result _ (IsRefused c.args.kind.now (g.R.Read.remaining c.args.reader.now))
    (λ e bad. inr (inr (first_fault c.args.kind.now _ _ c.gather.new.words.items e
    (subst AreWords c.as_slice.ensures.value c.are_words.ensures) m.len read (subst (λ k. first_failing (head_tests k c.gather.new.words.items) ≡ Some e) {x = c.at_version.result} {y = at_version c.args.kind.now (get_or c.gather.new.words.items 1 0)}
    (c.at_version.ensures ∙ ap (at_version c.args.kind.now) word) bad)))) c.head_of.ensures.fault
