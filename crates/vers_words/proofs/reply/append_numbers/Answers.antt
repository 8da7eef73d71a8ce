use Rattle.vers_words.proofs.Imports.{◌≡◌, ◌++◌, ◌∷◌, [], List, ℕ, length, take, refl, ap, ◌∙◌, append_assoc, take_at}
use Rattle.std.proofs.Math.Seq.{take-length}
use Rattle.vers_words.proofs.reply.append_numbers.Goals as goal

-- what stood first is in front of all that was appended
in_front : (old more rest all new : List ℕ) → all ≡ old ++ more → new ≡ all ++ rest → take (length old) new ≡ old
in_front old more rest all new first then =
    ap (take (length old)) (then ∙ ap (λ l. l ++ rest) first ∙ append_assoc old more rest) ∙ take_at old (more ++ rest) (length old) refl

pub returns-in_err-append_number-clause-kept : goal.returns-in_err-append_number-clause-kept
returns-in_err-append_number-clause-kept g c = ap (take (length c.args.line.now.items)) c.in_err-append_number.ensures.kept ∙ take-length c.args.line.now.items

pub returns-in_err-push-clause-kept : goal.returns-in_err-push-clause-kept
returns-in_err-push-clause-kept g c = in_front c.args.line.now.items _ _ _ _ c.in_ok-append_number.ensures.text (c.in_err-push.ensures.items ∙ c.loop-number.invariant)

pub returns-in_err-append_number-2-clause-kept : goal.returns-in_err-append_number-2-clause-kept
returns-in_err-append_number-2-clause-kept g c =
    let pushed = c.in_err-append_number-2.ensures.kept ∙ c.in_ok-push.ensures.items ∙ ap (λ (l : List ℕ). l ++ 32 ∷ []) c.loop-number.invariant ∙ append_assoc c.append_number.new.line.items _ _ in
    in_front c.args.line.now.items _ _ _ _ c.in_ok-append_number.ensures.text pushed

pub returns-clause-kept : goal.returns-clause-kept
returns-clause-kept g c = in_front c.args.line.now.items _ _ _ _ c.in_ok-append_number.ensures.text c.loop-number.invariant
