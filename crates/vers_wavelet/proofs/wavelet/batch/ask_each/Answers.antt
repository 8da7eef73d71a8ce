use Rattle.vers_wavelet.proofs.Names.{length-drop, ◌≡◌, ◌+◌, ◌-◌, ℕ, Bool, List, [], arith, length, drop, ap, ◌∙◌, refl, drop_all, times, rank_reads}
use Rattle.vers_wavelet.proofs.Steps.{level_at}
use Rattle.vers_wavelet.proofs.Batches.{become_weaker, become_then, become_all, adds_once_more}
use Rattle.vers_wavelet.proofs.Walks.{adds_no_times}
use Rattle.vers_wavelet.proofs.wavelet.batch.ask_each.Goals as goal

pub loop-k-init : goal.loop-k-init
loop-k-init g c =
    let none : length c.args.levels.now - 0 ≡ length c.args.levels.now = omega arith in
    record {
      asked = become_weaker c.begin_each.ensures (λ q r t. (t.0, rw none t.1, t.2 c.args.levels.now c.requires refl));
      adds = adds_no_times _ 0 (times (length c.args.queries.now) (times 2 rank_reads));
    }

pub step_each-requires : goal.step_each-requires
step_each-requires g c =
    let long : length c.index-levels-k.result ≡ c.args.len = ap length c.index-levels-k.is ∙ c.requires.even c.loop-k.k c.index-levels-k.result c.loop-k-test.true in
    let left : length c.args.levels.now - c.loop-k.k ≡ length c.args.levels.now - (c.loop-k.k + 1) + 1 = omega arith in
    become_all c.loop-k.invariant.asked (λ q r t. rw (left, ← long) at t.1)

pub loop-k-preserved : goal.loop-k-preserved
loop-k-preserved g c =
    let k : ℕ = c.loop-k.k in
    let ls : List (List Bool) = c.args.levels.now in
    let v : List Bool = c.index-levels-k.result in
    let long : length v ≡ c.args.len = ap length c.index-levels-k.is ∙ c.requires.even k v c.loop-k-test.true in
    let parts = level_at ls k c.loop-k-test.true v c.index-levels-k.is in
    let left = length-drop (k + 1) ls in
    record {
      asked = become_then c.loop-k.invariant.asked c.step_each.ensures.each (λ q r s t u. (u.0 ∙ t.0, rw long at u.1, u.2 (drop (k + 1) ls) left ∙ rw parts at t.2));
      adds = adds_once_more k c.loop-k.invariant.adds (rw c.loop-k.invariant.asked.long at c.step_each.ensures.adds);
    }

pub returns-then-levels-gt64-clause-each : goal.returns-then-levels-gt64-clause-each
returns-then-levels-gt64-clause-each g c =
    become_weaker c.begin_each.ensures (λ q r t.
    let wide = t.3 c.if-levels-gt64.true in
    (t.0, wide.0, wide.1 [] c.args.levels.now ∙ t.2 c.args.levels.now c.requires refl))

pub returns : goal.returns
returns g c =
    let none : length c.args.levels.now - c.loop-k.k ≡ 0 = omega arith in
    let end = drop_all c.loop-k.k c.args.levels.now (omega arith) in
    let all : c.loop-k.k ≡ length c.args.levels.now = omega arith in
    record { each = become_weaker c.loop-k.invariant.asked (λ q r t. (t.0, rw none at t.1, rw end at t.2)); adds = rw all at c.loop-k.invariant.adds }
