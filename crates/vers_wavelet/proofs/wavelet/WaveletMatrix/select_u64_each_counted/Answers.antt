use Rattle.vers_wavelet.proofs.Names.{adds_weaker, adds_then, arith, ◌≡◌, ◌%◌, ◌^◌, ℕ, Bool, List, leb, length, ap, refl, sym, Some, None, ◌∙◌, slice_get, if◌then◌else◌, values, final_position, AreLevels, occurrences}
use Rattle.vers_wavelet.proofs.Batches.{become_map, become_then, become_all}
use Rattle.vers_wavelet.proofs.Answering.{of_words, of_wide, select_ends, select_answers}
use Rattle.vers_wavelet.proofs.wavelet.WaveletMatrix.select_u64_each_counted.Goals as goal

pub climb_each-requires-clause-begun : goal.climb_each-requires-clause-begun
climb_each-requires-clause-begun g c =
    let ls : List (List Bool) = c.levels-levels.result.now in
    become_all c.ask_each.ensures.each (λ q r t.
    select_ends r.answer r.symbol ∙ t.2 ∙ sym (of_words (length ls) _ _ c.if-levels-gt64.false refl) ∙ ap (λ s. Some (final_position ls s 0)) (sym (ap (λ p. p.1) t.0)))

pub returns-then-levels-gt64-clause-value : goal.returns-then-levels-gt64-clause-value
returns-then-levels-gt64-clause-value g c =
    rw (← c.levels-levels.ensures.wide, ← c.len-len.ensures.value, ← c.levels-levels.ensures.items, ← c.len-len.ensures.value)
    (become_map _ _ _ _ c.ask_each.ensures.each (λ q r t.
    select_ends r.answer r.symbol ∙ t.2 ∙ sym (of_wide (length c.levels-levels.result.now) _ c.if-levels-gt64.true) ∙ of_wide (length c.levels-levels.result.now) _ c.if-levels-gt64.true))

pub returns-clause-value : goal.returns-clause-value
returns-clause-value g c =
    let ls : List (List Bool) = c.levels-levels.result.now in
    let n : ℕ = c.len-len.result in
    let levels : AreLevels ls n = rw c.len-len.ensures.value c.levels-levels.ensures.levels in
    rw (← c.levels-levels.ensures.wide, ← c.len-len.ensures.value, ← c.levels-levels.ensures.items, ← c.len-len.ensures.value)
    (become_map _ _ _ _ (become_then {T = λ q s. s.answer ≡ (if leb (length ls) 64 then slice_get (occurrences (values ls n) 0 n (q.symbol % 2 ^ length ls)) q.rank else None)}
    c.ask_each.ensures.each c.climb_each.ensures.each
    (λ q r s t u. select_answers levels c.if-levels-gt64.false q.rank q.symbol s.rank s.symbol s.answer u.2 (u.0 ∙ ap (λ p. p.0) t.0) (u.1 ∙ ap (λ p. p.1) t.0))) (λ q s e. e))

pub ask_each-requires : goal.ask_each-requires
ask_each-requires g c = rw c.len-len.ensures.value c.levels-levels.ensures.levels

pub climb_each-requires-clause-levels : goal.climb_each-requires-clause-levels
climb_each-requires-clause-levels g c = rw c.len-len.ensures.value c.levels-levels.ensures.levels

pub returns-then-levels-gt64-clause-adds : goal.returns-then-levels-gt64-clause-adds
returns-then-levels-gt64-clause-adds g c = rw (← c.levels-levels.ensures.wide) (adds_weaker c.ask_each.ensures.adds (omega arith))

pub returns-clause-adds : goal.returns-clause-adds
returns-clause-adds g c = rw (← c.levels-levels.ensures.wide, ← c.len-len.ensures.value)
    (adds_then c.ask_each.ensures.adds (rw c.ask_each.ensures.each.long at c.climb_each.ensures.adds) (omega arith))
