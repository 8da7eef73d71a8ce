use Rattle.vers_trees.proofs.Names.{rules, ◌≡◌, List, length, sym, subst, ap, ◌∙◌, Node, node_count, IsTreeOf, AreLeaves}
use Rattle.vers_trees.proofs.layout.Build.{leaves_covered}
use Rattle.vers_trees.proofs.layout.Widths.{tree_made, nodes_counted, written_back}
use Rattle.vers_trees.proofs.trees.bp.min_max.build.nodes_over.Goals as goal

pub fill-requires-clause-leaves : goal.fill-requires-clause-leaves
fill-requires-clause-leaves g c =
    (c.args.bits.now, c.args.size, subst (AreLeaves c.args.bits.now c.args.size c.args.first) (sym c.deref_mut.ensures.value) (leaves_covered c.args.bits.now c.args.size c.args.first c.in_ok-nodes.nodes.items c.requires.can.some c.requires.can.short c.in_ok-nodes.ensures))

pub returns-clause-tree : goal.returns-clause-tree
returns-clause-tree g c =
    let n : length c.fill.new.nodes ≡ length c.deref_mut.result.now = search rules in
    let leaves = leaves_covered c.args.bits.now c.args.size c.args.first c.in_ok-nodes.nodes.items c.requires.can.some c.requires.can.short c.in_ok-nodes.ensures in
    subst (λ (l : List Node). IsTreeOf c.args.bits.now c.args.size c.args.first l) (sym (written_back c.fill.new.nodes c.in_ok-nodes.nodes.items c.in_ok-nodes.nodes.len (sym (n ∙ c.deref_mut.ensures.len))))
    (tree_made c.args.bits.now c.args.size c.args.first c.fill.new.nodes c.requires.can.some c.requires.bits c.requires.can.short c.requires.wide (c.fill.ensures c.args.bits.now c.args.size (subst (AreLeaves c.args.bits.now c.args.size c.args.first) (sym c.deref_mut.ensures.value) leaves)))

pub returns-clause-counted : goal.returns-clause-counted
returns-clause-counted g c =
    let n : length c.fill.new.nodes ≡ length c.deref_mut.result.now = search rules in
    let v : length c.fill.new.nodes ≡ length c.in_ok-nodes.nodes.items = n ∙ ap length c.deref_mut.ensures.value in
    subst (λ (l : List Node). length l ≡ node_count c.args.size (length c.args.bits.now)) (sym (written_back c.fill.new.nodes c.in_ok-nodes.nodes.items c.in_ok-nodes.nodes.len (sym (n ∙ c.deref_mut.ensures.len))))
    (nodes_counted c.args.bits.now c.args.size c.args.first c.fill.new.nodes c.requires.bits c.requires.wide (v ∙ c.in_ok-nodes.ensures.counted))
