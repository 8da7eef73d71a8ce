use Rattle.vers_words.proofs.Imports.{◌≡◌, ◌==◌, ◌+◌, Some, None, drop, sym, ap, ◌∙◌, arith, length-drop, position, position-Some, take_rest}
use Rattle.vers_words.proofs.Quotes.{if_done, if_not_done, joined-nil, last_part, next_part, pattern_of-open, wrong_words}
use Rattle.vers_words.specs.Patterns.{joined, pattern_of}
use Rattle.vers_words.proofs.patterns.pattern.Goals as goal

pub loop-start-init : goal.loop-start-init
loop-start-init g c = record { reads = rw c.in_ok-symbols.ensures.items (sym (joined-nil _)); short = omega arith }

pub overflow_add-quoted : goal.overflow_add-quoted
overflow_add-quoted g c =
    let start : position (λ b. b == 34) c.loop-start.rest.now ≡ Some c.in-Some.start = sym c.position_of.ensures ∙ c.in-Some.is in
    omega (arith, c.loop-start.invariant.short, (position-Some (λ b. b == 34) c.loop-start.rest.now c.in-Some.start 0 start).0)

pub returns-in_default-position_of : goal.returns-in_default-position_of
returns-in_default-position_of g c =
    let rest = c.loop-start.rest.now in
    let start : position (λ b. b == 34) rest ≡ Some c.in-Some.start = sym c.position_of.ensures ∙ c.in-Some.is in
    let none : position (λ b. b == 34) (drop (c.in-Some.start + 1) rest) ≡ None = rw take_rest at (sym c.in_default-position_of.ensures) in
    sym (c.loop-start.invariant.reads ∙ ap (joined (Some _)) (pattern_of-open rest c.in-Some.start start none))

pub returns-then-is_none : goal.returns-then-is_none
returns-then-is_none g c =
    let rest = c.loop-start.rest.now in
    let start : position (λ b. b == 34) rest ≡ Some c.in-Some.start = sym c.position_of.ensures ∙ c.in-Some.is in
    let end : position (λ b. b == 34) (drop (c.in-Some.start + 1) rest) ≡ Some c.in-Some-position_of.end = rw take_rest at (sym c.in-Some-position_of.ensures) in
    sym (c.loop-start.invariant.reads ∙ wrong_words rest _ _ _ start end (if_not_done _ _ _ c.if-is_none.ensures c.in_ok-append_words.ensures))

pub loop-start-preserved : goal.loop-start-preserved
loop-start-preserved g c =
    let rest = c.loop-start.rest.now in
    let start : position (λ b. b == 34) rest ≡ Some c.in-Some.start = sym c.position_of.ensures ∙ c.in-Some.is in
    let end : position (λ b. b == 34) (drop (c.in-Some.start + 1) rest) ≡ Some c.in-Some-position_of.end = rw take_rest at (sym c.in-Some-position_of.ensures) in
    let done = if_done _ _ _ c.if-is_none.ensures c.in_ok-append_words.ensures in
    let bytes = rw take_rest at c.in_ok-append_bytes.ensures in
    record {
      reads = rw (take_rest, take_rest) (c.loop-start.invariant.reads ∙ next_part rest _ _ c.in-Some.start c.in-Some-position_of.end start end done ∙ ap (λ items. joined (Some items) (pattern_of (drop (c.in-Some-position_of.end + 1) (drop (c.in-Some.start + 1) rest)))) (sym bytes));
      short = rw (take_rest, take_rest) (omega (arith, c.loop-start.invariant.short, length-drop (c.in-Some.start + 1) rest, length-drop (c.in-Some-position_of.end + 1) (drop (c.in-Some.start + 1) rest)));
    }

pub returns-then-is_none-2 : goal.returns-then-is_none-2
returns-then-is_none-2 g c =
    let rest = c.loop-start.rest.now in
    let none : position (λ b. b == 34) rest ≡ None = sym c.position_of.ensures ∙ c.in_default.is in
    let symbols = c.loop-start.symbols.items in
    sym (c.loop-start.invariant.reads ∙ last_part rest symbols none ∙ ap (joined (Some symbols)) (if_not_done _ _ _ c.if-is_none-2.ensures c.in_ok-append_words-2.ensures))

pub returns : goal.returns
returns g c =
    let rest = c.loop-start.rest.now in
    let none : position (λ b. b == 34) rest ≡ None = sym c.position_of.ensures ∙ c.in_default.is in
    sym (c.loop-start.invariant.reads ∙ last_part rest c.loop-start.symbols.items none ∙ sym (if_done _ _ _ c.if-is_none-2.ensures c.in_ok-append_words-2.ensures))
