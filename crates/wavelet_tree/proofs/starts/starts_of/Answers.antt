use Rattle.wavelet_tree.proofs.Names.{arith, map, length-map}
use Rattle.wavelet_tree.proofs.Beginning.{counts_all}
use Rattle.wavelet_tree.proofs.starts.starts_of.Goals as goal

pub returns-clause-are : goal.returns-clause-are
returns-clause-are g c =
    let xs = map g.T.Integer.value c.args.items.now in
    (counts_all c.args.limit xs c.in_ok-starts.starts.items c.requires.some c.requires.small
    (omega (arith, length-map c.args.items.now g.T.Integer.value, c.in_ok-starts.ensures.few)) c.in_ok-starts.ensures.long c.in_ok-starts.ensures.are).0

pub returns-clause-counts : goal.returns-clause-counts
returns-clause-counts g c =
    let xs = map g.T.Integer.value c.args.items.now in
    (counts_all c.args.limit xs c.in_ok-starts.starts.items c.requires.some c.requires.small
    (omega (arith, length-map c.args.items.now g.T.Integer.value, c.in_ok-starts.ensures.few)) c.in_ok-starts.ensures.long c.in_ok-starts.ensures.are).1
