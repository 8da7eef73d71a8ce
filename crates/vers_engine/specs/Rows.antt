-- Worked rows of the definitions, which compute.
use Rattle.std.specs.Prelude.{◌≡◌, ℕ, ◌+◌, List, ◌++◌, [], ◌∷◌, codes, length, refl}
use Rattle.std.specs.Fmt.{digits}
use Rattle.vers_words.specs.Reply.{Number}
use Rattle.vers_words.specs.Text.{words_in}
use Rattle.vers_engine.specs.Lines.{whole_lines, last_part, lines_of}
use Rattle.vers_engine.specs.Answers.{Answering, answers_of, held_after}
use Rattle.vers_engine.specs.Replies.{Replying, answer_to_parts, holding_after_parts, answering_by}

-- a text with the end of a line
abbrev ended : List ℕ → List ℕ
ended text = text ++ 10 ∷ []

-- an empty line is a line, and the last one needs no end
pub lines_of-last : lines_of (ended (codes "a") ++ ended [] ++ codes "b") ≡ codes "a" ∷ [] ∷ codes "b" ∷ []
lines_of-last = refl

pub lines_of-ended : lines_of (ended (codes "a") ++ ended (codes "b")) ≡ codes "a" ∷ codes "b" ∷ []
lines_of-ended = refl

pub whole_lines-last : whole_lines (ended (codes "a") ++ codes "b") ≡ codes "a" ∷ []
whole_lines-last = refl

pub last_part-last : last_part (ended (codes "a") ++ codes "b") ≡ codes "b"
last_part-last = refl

-- lines answered by how many bytes came before them, which is the structure here
abbrev counting : Answering ℕ
counting = record { answer_to = λ held line. held ∷ []; holding_after = λ held line. held + length line }

pub answers_of-counting : answers_of counting 3 (codes "ab" ∷ [] ∷ codes "c" ∷ []) ≡ 3 ∷ 5 ∷ 5 ∷ []
answers_of-counting = refl

pub held_after-counting : held_after counting 3 (codes "ab" ∷ [] ∷ codes "c" ∷ []) ≡ 6
held_after-counting = refl

-- the same as replies: by how many words came before, except the first of each line
abbrev replying : Replying ℕ
replying = record { reply_to = λ held word arguments. Number held; holding_after = λ held word arguments. held + length (words_in arguments) }

-- a line without words has no answer
pub answers_of-replying : answers_of (answering_by replying) 3 (codes "a b c" ∷ codes " " ∷ codes "d" ∷ []) ≡ ended (codes "3") ++ ended (codes "5")
unfolding answer_to_parts holding_after_parts digits
answers_of-replying = refl
