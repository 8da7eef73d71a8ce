use Rattle.vers_saved.proofs.Names.{◌++◌, length, ap, arith, length-append, bytes_of, Consumes-trans}
use Rattle.vers_saved.proofs.WordBytes.{length-bytes_of}
use Rattle.vers_saved.proofs.gather.gather.Goals as goal

pub returns-in-Err-clause-short : goal.returns-in-Err-clause-short
returns-in-Err-clause-short g c = λ is.
    let s = c.in-Err.ensures.short is in
    let i = c.loop-words.invariant in (
      bytes_of i.gathered.0 ++ s.0,
      Consumes-trans _ _ _ _ _ i.gathered.1 s.1,
      s.2,
      omega (
        arith,
        s.3,
        length-append (bytes_of i.gathered.0) s.0,
        length-bytes_of i.gathered.0,
        length-append c.args.words.now.items i.gathered.0,
        ap length i.gathered.2,
        c.min-most.ensures,
        c.len.ensures,
        c.len-in-loop-words.ensures,
        c.loop-words-test.true,
      ),
    )
