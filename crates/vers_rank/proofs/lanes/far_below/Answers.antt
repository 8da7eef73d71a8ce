use Rattle.vers_rank.proofs.Names.{leb, map, replicate, ap, ◌∙◌, ◌%◌, ◌^◌, arith, w16, tops_compared, zip2_splat_left, mask_l-mod, ones-mask_l, length-map, mask_l, ones}
use Rattle.vers_rank.proofs.lanes.far_below.Goals as goal

pub returns : goal.returns
returns c =
    let v = c.args.below in
    let compared = ap (λ l. mask_l l % 2 ^ 64) (tops_compared w16 leb (replicate 16 32768) v ∙ zip2_splat_left leb 32768 16 v c.requires) in
    ap ones (compared ∙ mask_l-mod (map (leb 32768) v) 64 (omega (arith, length-map v (leb 32768), c.requires))) ∙ ones-mask_l (leb 32768) v
