-- What a line is answered by.
use Rattle.std.specs.Prelude.{ℕ, ℤ, ◌++◌, List, [], ◌∷◌, flat_map, codes, decimal, Option, Some, None}
use Rattle.std.specs.Fmt.{signed_decimal}
use Rattle.vers_words.specs.declared.reply.Reply.{Reply}
use Rattle.vers_words.specs.declared.reply.Reply.TheVariants as reply

-- a reply, its numbers as the plain list
pub data PlainReply : Type 0 where
  BadLine : PlainReply
  WrongStructure : PlainReply
  Refused : PlainReply
  Number : ℕ → PlainReply
  Signed : ℤ → PlainReply
  Absent : PlainReply
  Numbers : List ℕ → PlainReply
  Text : List ℕ → PlainReply

-- the plain form of a reply
abbrev pub plain_reply : {A : Type 0} → Reply A → PlainReply
plain_reply reply.BadLine = BadLine
plain_reply reply.WrongStructure = WrongStructure
plain_reply reply.Refused = Refused
plain_reply (reply.Number n) = Number n
plain_reply (reply.Signed n) = Signed n
plain_reply reply.Absent = Absent
plain_reply (reply.Numbers numbers) = Numbers numbers.items
plain_reply (reply.Text text) = Text text.items

-- numbers, with one space between them
abbrev pub numbers_text : List ℕ → List ℕ
numbers_text [] = []
numbers_text (n ∷ others) = decimal n ++ flat_map (λ other. 32 ∷ decimal other) others

-- the text of a reply, without the end of its line
abbrev pub reply_text : PlainReply → List ℕ
reply_text BadLine = codes "bad line"
reply_text WrongStructure = codes "wrong structure"
reply_text Refused = codes "refused"
reply_text (Number n) = decimal n
reply_text (Signed n) = signed_decimal n
reply_text Absent = codes "none"
reply_text (Numbers numbers) = numbers_text numbers
reply_text (Text text) = text

-- the reply to a query with these arguments, `BadLine` if they are malformed
abbrev pub if_well_formed : {X : Type 0} → Option X → (X → PlainReply) → PlainReply
if_well_formed None reply = BadLine
if_well_formed (Some arguments) reply = reply arguments
