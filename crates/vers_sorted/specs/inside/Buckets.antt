-- The elements with one high part.
use Rattle.std.specs.Prelude.{◌≡◌, ℕ, ◌+◌, ◌≤◌, List}
use Rattle.vers_sorted.specs.declared.elias_fano.search.Bucket.{Bucket}
use Rattle.vers_sorted.specs.declared.elias_fano.narrow.Between.{Between}
use Rattle.vers_sorted.specs.Sorted.{below}
use Rattle.vers_sorted.specs.Layout.{high_of}
use Rattle.vers_sorted.specs.inside.Parts.{IsStart}

-- the elements with the high part of v
pub record IsBucket (s : List ℕ) (v : ℕ) (bucket : Bucket) : Type 0 where
  pub high : bucket.high ≡ high_of s v
  pub start : IsStart s (high_of s v) bucket.start
  pub end : IsStart s (high_of s v + 1) bucket.end

-- the elements below v end between these positions of the bucket
pub record IsBetween (s : List ℕ) (v : ℕ) (bucket : Bucket) (between : Between) : Type 0 where
  pub start_from : bucket.start ≤ between.from
  pub from_below : between.from ≤ below s v
  pub below_to : below s v ≤ between.to
  pub to_end : between.to ≤ bucket.end
