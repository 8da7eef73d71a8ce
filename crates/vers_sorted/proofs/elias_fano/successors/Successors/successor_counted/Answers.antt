use Rattle.vers_sorted.proofs.Names.{◌∙◌, arith, below, sym}
use Rattle.vers_sorted.proofs.Passes.{found_again, more_below, none_again, none_passed}
use Rattle.vers_sorted.proofs.elias_fano.successors.Successors.successor_counted.Goals as goal
use Rattle.vers_sorted.proofs.elias_fano.successors.Successors.successor_counted.Goals.{then-v-self, else-v-self+in-Some+else-v-element}

pub returns-in_default-clause-value : goal.returns-in_default-clause-value
returns-in_default-clause-value g c =
    let list = c.self.inside.list.now in
    rw (← c.self.view_is) (sym (none_again list c.self.inside.from c.args.v c.len.ensures.ascending (sym c.in_default.is ∙ c.self.invariant.next) (omega (arith, c.if-v-self.false))))

pub returns-then-v-element-clause-value : goal.returns-then-v-element-clause-value
returns-then-v-element-clause-value g c =
    let list = c.self.inside.list.now in
    rw (← c.self.view_is) (sym (found_again list c.self.inside.from c.args.v c.in-Some.element c.len.ensures.ascending (sym c.in-Some.is ∙ c.self.invariant.next) (omega (arith, c.if-v-self.false)) (omega (arith, c.if-v-element.true))))

pub successor_past-found-requires : goal.successor_past-found-requires
successor_past-found-requires g c =
    let list = c.self.inside.list.now in
    elim c.if-v-self.branch [
      | then-v-self w ↦ rw w.self-inside-is (rw w.none-self-inside.ensures (none_passed list (below list c.args.v)))
      | else-v-self+in-Some+else-v-element w ↦ rw w.self-inside-is (record {
        few = omega (arith, c.self.invariant.past.few, more_below list c.self.inside.from c.args.v w.in-Some.element c.len.ensures.ascending (sym w.in-Some.is ∙ c.self.invariant.next) (omega (arith, w.if-v-element.false)));
        read = c.self.invariant.past.read;
      })
    ]
