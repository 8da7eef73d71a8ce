use Rattle.vers_bits.proofs.Names.{rules, ◌≡◌, ◌≢◌, ◌<◌, ◌^◌, ◌∙◌, length, get_or, ap, arith, get_or-set_other, get_or_read, length-set}
use Rattle.vers_bits.proofs.Masks.{combined_more}
use Rattle.vers_bits.proofs.bit_vec.mask.combine_words.Goals as goal

pub loop-k-preserved : goal.loop-k-preserved
loop-k-preserved g c = record {
  long = length-set c.loop-k.words.items c.loop-k.k c.mask.result ∙ c.loop-k.invariant.long;
  others = λ j h. let apart : j ≢ c.loop-k.k = omega arith in get_or-set_other c.loop-k.words.items c.loop-k.k j c.mask.result 0 apart ∙ c.loop-k.invariant.others j (omega arith);
  done = λ f h.
      let within : c.loop-k.k < length c.loop-k.words.items = omega (arith, c.loop-k.invariant.long, c.requires.same) in
      let mine : c.index-mine.result.now ≡ get_or c.loop-k.words.items c.loop-k.k 0 =
      get_or_read c.loop-k.words.items c.loop-k.k c.index-mine.result.now within c.index-mine.ensures 0 in
      let small : c.index-mine.result.now < 2 ^ 64 = search rules in
      let other_small : get_or c.args.others.now c.loop-k.k 0 < 2 ^ 64 = search rules in
      combined_more c.args.words.now.items c.loop-k.words.items c.args.others.now c.loop-k.k c.mask.result f within c.loop-k.invariant.others (c.loop-k.invariant.done f h)
      (h _ _ c.mask.result small other_small c.mask.ensures ∙ ap (λ x. f x (get_or c.args.others.now c.loop-k.k 0)) mine);
}

pub returns-clause-value : goal.returns-clause-value
returns-clause-value g c = λ f h k within. c.loop-k.invariant.done f h k (omega arith)
