use Rattle.std.proofs.Common.{◌∙◌, [], ◌≤◌, ap, sym, arith, get_or, length, map, take}
use Rattle.std.proofs.lemmas.List.{get_or-take, length-map, length-take-le, take-map}
use Rattle.vers_c.specs.Texts.{occurrences}
use Rattle.vers_c.proofs.counts.count_group.Goals as goal

pub returns : goal.returns
returns c =
    let n = length c.args.ends.now in
    let ps = c.collect.new.patterns in
    let fits : n ≤ length ps = omega (arith, c.collect.ensures.long, c.requires.few) in
    record {
      long = c.copy.ensures.long;
      each = λ k below. c.copy.ensures.same k below
          ∙ c.count_each.ensures.counts k (omega (arith, below, length-take-le n ps fits, length-map (take n ps) (λ p. p.now))) (omega (arith, below, c.requires.few))
          ∙ ap (occurrences c.args.text.now.items) (ap (λ l. get_or l k []) (sym (take-map (λ p. p.now) n ps)) ∙ get_or-take n (map (λ p. p.now) ps) k [] below ∙ c.collect.ensures.patterns k below);
    }
