use Rattle.vers_words.proofs.Imports.{◌≡◌, [], ◌∷◌, Some, None, sym, ap, ◌∙◌}
use Rattle.vers_words.proofs.Quotes.{hex_bytes-none, hex_bytes-some, joined-assoc, joined-missing}
use Rattle.vers_words.specs.Patterns.{hex_byte, hex_bytes, joined}
use Rattle.vers_words.proofs.patterns.append_hex.Goals as goal

pub returns-in_default-hex_byte : goal.returns-in_default-hex_byte
returns-in_default-hex_byte g c =
    let high = c.in-Some.high.now in
    let low = c.in-Some-split_first.low.now in
    let more = c.in-Some-split_first.more.now in
    let none : hex_byte high low ≡ None = sym c.hex_byte.ensures ∙ c.in_default-hex_byte.is in
    let rest = c.in-Some.ensures.cases.0 ∙ ap (λ l. high ∷ l) c.in-Some-split_first.ensures.cases.0 in
    joined-missing _ _ (c.loop-high.invariant ∙ ap (joined (Some _)) (ap hex_bytes rest ∙ hex_bytes-none high low more none))

pub loop-high-preserved : goal.loop-high-preserved
loop-high-preserved g c =
    let high = c.in-Some.high.now in
    let low = c.in-Some-split_first.low.now in
    let more = c.in-Some-split_first.more.now in
    let byte = c.in-Some-hex_byte.byte in
    let some : hex_byte high low ≡ Some byte = sym c.hex_byte.ensures ∙ c.in-Some-hex_byte.is in
    let rest = c.in-Some.ensures.cases.0 ∙ ap (λ l. high ∷ l) c.in-Some-split_first.ensures.cases.0 in
    c.loop-high.invariant
    ∙ ap (joined (Some _)) (ap hex_bytes rest ∙ hex_bytes-some high low byte more some)
    ∙ joined-assoc _ (Some (byte ∷ [])) (hex_bytes more)
    ∙ ap (λ items. joined (Some items) (hex_bytes more)) (sym c.in_ok-push.ensures.items)
