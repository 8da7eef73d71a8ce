use Rattle.vers_saved.proofs.Names.{◌≡◌, arith, Some, fault_of, at_version, bytes_of, refl, ◌++◌, ◌∙◌, sym, ap, append_assoc, take, drop_at, row_words}
use Rattle.vers_saved.proofs.ReadForms.{same_five, form_gathered, refused_before, refused_named}
use Rattle.vers_saved.proofs.Versions.{number_at}
use Rattle.vers_saved.proofs.gather.gather_form.Goals as goal

pub gather_body-requires-clause-fit : goal.gather_body-requires-clause-fit
gather_body-requires-clause-fit g c = rw c.cut_head-head.ensures.same c.in_ok-found.ensures.fit

pub gather_body-requires-clause-head : goal.gather_body-requires-clause-head
gather_body-requires-clause-head g c = rw (c.cut_head-head.ensures.same, c.at_version-used.ensures) c.in_ok-found.ensures.none

pub gather_body-requires-clause-count : goal.gather_body-requires-clause-count
gather_body-requires-clause-count g c =
    let s = c.in_ok-found.ensures.head in
    let five = same_five c.cut_head-head.result c.cut_head-head.new.words.items c.gather_head.new.words.items c.cut_head-head.ensures.five c.cut_head-head.ensures.same in
    rw (c.at_version-used.ensures, five.0, ← s.1) s.2

pub gather_body-requires-clause-bits : goal.gather_body-requires-clause-bits
gather_body-requires-clause-bits g c =
    let s = c.in_ok-found.ensures.head in
    let five = same_five c.cut_head-head.result c.cut_head-head.new.words.items c.gather_head.new.words.items c.cut_head-head.ensures.five c.cut_head-head.ensures.same in
    rw (c.at_version-used.ensures, five.0, five.1, ← s.1, ← s.0) s.3

pub returns-in-Err-clause-refused : goal.returns-in-Err-clause-refused
returns-in-Err-clause-refused g c =
    let s = c.in_ok-found.ensures.head in
    let ws = c.gather_head.new.words.items in
    let fit = c.in_ok-found.ensures.fit in
    let exact = rw (c.cut_head-head.ensures.same, c.at_version-used.ensures, s.5) at c.in-Err.ensures.refused in
    refused_before (g.R.Read.remaining c.args.reader.now) (g.R.Read.remaining c.gather_head.new.reader) (bytes_of ws) c.in-Err.fault (λ bytes. fault_of c.args.kind.now bytes ≡ Some c.in-Err.fault) c.in_ok-found.ensures.gathered.0
    (refused_named c.args.kind.now (g.R.Read.remaining c.gather_head.new.reader) ws c.in-Err.fault fit (omega (arith, c.in_ok-found.ensures.gathered.1)) exact)

pub returns : goal.returns
returns g c =
    let h = c.in_ok-found in
    let b = c.in_default.ensures in
    let head = c.cut_head-head.result in
    let after = c.gather_body.new.words.items in
    let used = at_version c.args.kind.now h.found.version in
    let all = ap (λ l. head ++ l) b.gathered.2 ∙ sym (append_assoc head c.cut_head-head.new.words.items b.gathered.0) ∙ ap (λ l. l ++ b.gathered.0) c.cut_head-head.ensures.same in
    let none = rw c.at_version-used.ensures at b.none in
    let p = form_gathered used h.found.shape.count h.found.shape.width (row_words h.found.rows.count h.found.rows.bits) (g.R.Read.remaining c.args.reader.now) (g.R.Read.remaining c.gather_head.new.reader) (g.R.Read.remaining c.gather_body.new.reader)
    c.gather_head.new.words.items b.gathered.0 (head ++ after) c.truncate.new.self.items
    h.ensures.gathered.0 h.ensures.gathered.1 b.gathered.1 b.gathered.3 all b.fit none h.ensures.head.0 h.ensures.head.1 (rw (h.ensures.head.2, h.ensures.head.3) refl)
    (c.truncate.ensures.items ∙ ap (λ m. take m after) c.words.ensures ∙ ap (take (row_words h.found.rows.count h.found.rows.bits)) (sym (drop_at head after 5 c.cut_head-head.ensures.five))) in
    record {
      version = h.ensures.version;
      ok = rw number_at at p.0;
      whole = p.1;
      end = b.gathered.3;
      refused = tt;
      cause = tt;
    }
