use Rattle.vers_rank.proofs.Names.{◌≡◌, ℕ, ◌+◌, ◌<◌, List, length, set, get_or, ◌∙◌, inl, inr, arith, rules, cases_lt, get_or-set_other, get_or-set_same, length-set, adds_then, Changed}
use Rattle.vers_rank.proofs.fast_rs_vec.RsVec.level_each.Goals as goal

-- one item more
changed_more : (R : ℕ → ℕ → Type 0) (from n y : ℕ) (xs ys : List ℕ) → Changed 0 R from n xs ys → from + n < length xs → R (get_or ys (from + n) 0) y → Changed 0 R from (n + 1) xs (set ys (from + n) y)
changed_more R from n y xs ys old inside becomes = record {
  long = length-set ys (from + n) y ∙ old.long;
  each = λ j h. elim (cases_lt j n) [
    | inl lower ↦ rw (get_or-set_other ys (from + n) (from + j) y 0 (omega arith)) (old.each j lower)
    | inr last ↦
        let e : j ≡ n = omega arith in
        rw (e, get_or-set_same ys (from + n) y 0 (omega (arith, old.long)), ← old.after (from + n) (omega arith)) becomes
  ];
  before = λ j h. get_or-set_other ys (from + n) j y 0 (omega arith) ∙ old.before j h;
  after = λ j h. get_or-set_other ys (from + n) j y 0 (omega arith) ∙ old.after j (omega arith);
}

pub loop-j-preserved : goal.loop-j-preserved
loop-j-preserved g c = record {
  changed = changed_more _ c.args.from c.loop-j.j _ _ _ c.loop-j.invariant.changed (omega (arith, c.requires.within)) c.lead.ensures.value;
  adds = adds_then c.loop-j.invariant.adds c.lead.ensures.adds (search rules);
}
