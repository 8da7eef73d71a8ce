use Rattle.std.proofs.Common.{◌≡◌, ◌∙◌, None, sym, ap, arith}
use Rattle.vers_texts.proofs.FastaLines.{appended_then, fault_is, fewer_left, left_is, lines_left, next_lines, no_memory, right_end, right_then, text_begun, text_ended, wrong_from, wrong_here}
use Rattle.vers_texts.specs.Fasta.{fasta_fault, fasta_text}
use Rattle.vers_texts.proofs.fasta.fasta_text.Goals as goal

pub loop-left-init : goal.loop-left-init
loop-left-init g c = record {
  text = text_begun (λ t. t.items) c.with_capacity-text.result c.args.file.now c.with_capacity-text.ensures.items;
  fault = fault_is c.args.file.now;
  short = omega arith;
}

pub returns-then-not-is_line-clause-refused : goal.returns-then-not-is_line-clause-refused
returns-then-not-is_line-clause-refused g c =
    let left = c.loop-left.left in
    let rest = c.in-Some.rest in
    let line = c.split_line.result.0.now in
    let others = c.split_line.result.1 in
    let next = (left_is left rest c.in-Some.is).0 ∙ next_lines rest.now line others c.split_line.ensures.lines in
    let begun = c.loop-left.is_begun in
    let n = c.loop-left.number in
    sym c.loop-left.invariant.fault ∙ ap (wrong_from begun n) next ∙ wrong_here begun n line (lines_left others) (grind arith)

pub loop-left-preserved : goal.loop-left-preserved
loop-left-preserved g c =
    let left = c.loop-left.left in
    let rest = c.in-Some.rest in
    let line = c.split_line.result.0.now in
    let others = c.split_line.result.1 in
    let known = left_is left rest c.in-Some.is in
    let next = known.0 ∙ next_lines rest.now line others c.split_line.ensures.lines in
    let begun = c.loop-left.is_begun in
    let n = c.loop-left.number in
    record {
      text = appended_then (λ t. t.items) c.loop-left.text c.appended-text.result line (lines_left left) (lines_left others) (fasta_text c.args.file.now) next c.appended-text.ensures c.loop-left.invariant.text;
      fault = grind (arith, right_then begun n line (lines_left others));
      short = omega (arith, c.loop-left.invariant.short, known.1, fewer_left rest.now others c.split_line.ensures.shorter);
    }

pub returns-in_err-text-clause-refused : goal.returns-in_err-text-clause-refused
returns-in_err-text-clause-refused g c =
    let right : fasta_fault c.args.file.now ≡ None = grind (arith, right_end) in
    no_memory c.from_residual.result c.args.file.now c.from_residual.ensures.1 right

pub returns-clause-right : goal.returns-clause-right
returns-clause-right g c = grind (arith, right_end)

pub returns-clause-text : goal.returns-clause-text
returns-clause-text g c =
    text_ended (λ t. t.items) c.loop-left.text c.in_ok-text.field-0 (lines_left c.loop-left.left) (fasta_text c.args.file.now) c.in_ok-text.was (ap lines_left c.in_default.is) c.loop-left.invariant.text
