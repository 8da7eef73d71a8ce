use Rattle.std.proofs.Common.{refl, inl, inr}
use Rattle.std.proofs.lemmas.Result.{IfOk-weaker}
use Rattle.vers_files.proofs.Boxes.{in_box, in_no_box}
use Rattle.vers_files.proofs.loading.tree_of_reader.Goals as goal

pub returns-in-Ok-clause-loaded : goal.returns-in-Ok-clause-loaded
returns-in-Ok-clause-loaded g c =
    let tree = c.load_tree.ensures in (
      tt,
      in_box c.load_tree.result c.boxed.result (λ b. b.value) c.in-Ok.list _ c.in-Ok.is c.boxed.ensures tree.whole,
      in_box c.load_tree.result c.boxed.result (λ b. b.value) c.in-Ok.list _ c.in-Ok.is c.boxed.ensures tree.loaded,
      tt,
    )

pub returns-in-Err-clause-refused : goal.returns-in-Err-clause-refused
returns-in-Err-clause-refused g c =
    let tree = c.load_tree.ensures in
    in_no_box c.load_tree.result c.boxed.result (λ b. b.value) c.in-Err.fault _ c.in-Err.is c.boxed.ensures
    (IfOk-weaker c.load_tree.result _ _ (λ v p. inr (inl refl)) tree.whole) tree.refused
