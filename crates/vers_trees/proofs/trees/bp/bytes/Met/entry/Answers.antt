use Rattle.vers_trees.proofs.searches.Bytes.{octal-digit}
use Rattle.vers_trees.proofs.Names.{◌/◌, ◌∙◌, ◌%◌, ◌^◌, sym, shr-shr, octal, rules, ◌≡◌, ◌*◌, ℕ, length, arith, ap}
use Rattle.vers_trees.proofs.trees.bp.bytes.Met.entry.Goals as goal

pub returns-clause-positions : goal.returns-clause-positions
returns-clause-positions c = λ x i.
    let n : length c.args.self.now.positions ≡ 17 = search rules in
    let t : _ / 2 ^ 10 ≡ octal c.args.self.now.positions = omega arith in ap (λ (n : ℕ). n % 8) (sym (shr-shr _ 10 (3 * x))) ∙ ap (λ (n : ℕ). n / 2 ^ (3 * x) % 8) t ∙ octal-digit c.args.self.now.positions x c.requires.positions (omega arith)
