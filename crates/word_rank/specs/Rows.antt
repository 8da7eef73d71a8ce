-- Worked rows of the definitions, which compute.
use Rattle.std.specs.Prelude.{◌≡◌, refl}
use Rattle.word_rank.specs.Ranks.{word_rank_size}

pub word_rank_size-0 : word_rank_size 0 ≡ 0
word_rank_size-0 = refl

-- two words, their counts, and a superblock
pub word_rank_size-65 : word_rank_size 65 ≡ 28
word_rank_size-65 = refl

-- 513 words and two superblocks
pub word_rank_size-32769 : word_rank_size 32769 ≡ 5146
word_rank_size-32769 = refl
