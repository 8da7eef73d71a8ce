use Rattle.vers_words.proofs.Imports.{◌≡◌, ◌+◌, ◌-◌, ◌%◌, ◌/◌, ◌<◌, ◌≤◌, ◌^◌, set, ◌∷◌, ◌++◌, [], List, ℕ, length, drop, decimal, Ok, Err, Result, OnOk, is_ok, if◌then◌else◌, refl, sym, ap, ◌∙◌, arith, append_assoc, append-nil, length-set, length-drop, length_push, drop-set, take_all}
use Rattle.std.proofs.lemmas.Fmt.{decimal_digit, decimal_step, decimal_nonempty, length-decimal-le}
use Rattle.vers_words.proofs.reply.append_number.Goals as goal

pub loop-rest-init : goal.loop-rest-init
loop-rest-init g c =
    let n = c.args.number in
    let fits : n < 2 ^ 64 = omega arith in
    record {
      long = refl;
      within = omega arith;
      room = length-decimal-le 20 n (omega arith) (omega arith) fits;
      fits = fits;
      text = append-nil (decimal n);
    }

pub overflow_sub-start : goal.overflow_sub-start
overflow_sub-start g c = omega (arith, decimal_nonempty c.loop-rest.rest c.loop-rest.invariant.fits)

pub overflow_sub-start-2 : goal.overflow_sub-start-2
overflow_sub-start-2 g c = omega (arith, decimal_nonempty c.loop-rest.rest c.loop-rest.invariant.fits)

-- one digit more before those from `start` on
drop_digit : (digits : List ℕ) (start d : ℕ) → 0 < start → start ≤ length digits → drop (start - 1) (set digits (start - 1) d) ≡ d ∷ drop start digits
drop_digit digits start d some within =
    let next : start - 1 + 1 ≡ start = omega arith in
    rw (drop-set digits (start - 1) d (omega arith), next) refl

pub loop-rest-preserved : goal.loop-rest-preserved
loop-rest-preserved g c =
    let i = c.loop-rest.invariant in
    let rest = c.loop-rest.rest in
    let digits = c.loop-rest.digits in
    let start = c.loop-rest.start in
    let step = decimal_step rest c.loop-rest-test.true i.fits in
    let long = ap length step ∙ length_push (decimal (rest / 10)) (48 + rest % 10) in
    record {
      long = length-set digits (start - 1) (48 + rest % 10) ∙ i.long;
      within = omega arith;
      room = omega (arith, long);
      fits = omega arith;
      text = rw (drop_digit digits start (48 + rest % 10) (omega (arith, long)) (omega arith))
          (sym (append_assoc (decimal (rest / 10)) ((48 + rest % 10) ∷ []) (drop start digits)) ∙ ap (λ l. l ++ drop start digits) (sym step) ∙ i.text);
    }

on_ok-appended : {E : Type 0} (r : Result (Unit {0}) E) (new old xs ys : List ℕ) → new ≡ (if is_ok r then old ++ xs else old) → xs ≡ ys → OnOk r (new ≡ old ++ ys)
on_ok-appended (Ok u) new old xs ys h same = h ∙ ap (λ l. old ++ l) same
on_ok-appended (Err e) new old xs ys h same = tt

pub returns-clause-text : goal.returns-clause-text
returns-clause-text g c =
    let i = c.loop-rest.invariant in
    let rest = c.loop-rest.rest in
    let digits = c.loop-rest.digits in
    let start = c.loop-rest.start in
    let one = decimal_digit rest c.loop-rest-test.false in
    let some = decimal_nonempty rest i.fits in
    let written = set digits (start - 1) (48 + rest) in
    let all : length (drop (start - 1) written) ≤ 20 - (start - 1) = omega (arith, length-drop (start - 1) written, length-set digits (start - 1) (48 + rest)) in
    on_ok-appended c.extend_from_slice.result _ _ _ _ c.extend_from_slice.ensures.items
    (take_all (20 - (start - 1)) (drop (start - 1) written) all ∙ drop_digit digits start (48 + rest) (omega (arith, some)) (omega arith) ∙ ap (λ l. l ++ drop start digits) (sym one) ∙ i.text)
