-- Iterators from both ends, over the list of the remaining items.
use Rattle.std.specs.Prelude.{◌≡◌, ℕ, ◌+◌, ◌-◌, ◌<◌, ◌≤◌, ◌++◌, ◌↔◌, List, [], length, take, drop, reverse, slice_get, slice_range, Option, None, MatchOption}
use Rattle.std.specs.Option.{option_to_list}
use Rattle.std.specs.Iterator.{YieldsFirst, YieldsLast}
use Rattle.vers_bits.specs.declared.walk.Span.{Span}

module _ {X : Type 0} where
  -- n elements were skipped from the front and the next one was yielded, or all of at most n were skipped
  pub record TakesNth (n : ℕ) (old : List X) (taken : Option X) (new : List X) : Type 0 where
    pub given : taken ≡ slice_get old n
    pub left : new ≡ drop (n + 1) old

  -- n elements were skipped from the back and the next one was yielded, or all of at most n were skipped
  pub record TakesNthBack (n : ℕ) (old : List X) (taken : Option X) (new : List X) : Type 0 where
    pub given : taken ≡ slice_get (reverse old) n
    pub left : new ≡ take (length old - (n + 1)) old

  -- `TakesNth` of 0: `next`
  abbrev pub TakesFirst : List X → Option X → List X → Type 0
  TakesFirst = TakesNth 0

  -- `TakesNthBack` of 0: `next_back`
  abbrev pub TakesLast : List X → Option X → List X → Type 0
  TakesLast = TakesNthBack 0

  -- the elements at the positions of a span
  unfoldable pub items_in : List X → Span → List X
  items_in xs s = slice_range xs s.from s.to

-- a span dropped n positions from the front and gave the next one, or dropped all of at most n
abbrev pub DropsThenGives : ℕ → Span → Option ℕ → Span → Type 0
DropsThenGives n s given t = MatchOption given ((s.to ≤ s.from + n) × (t.from ≡ s.to) × (t.to ≡ s.to)) (λ p. (p ≡ s.from + n) × (p < s.to) × (t.from ≡ p + 1) × (t.to ≡ s.to))

-- a span dropped n positions from the back and gave the next one, or dropped all of at most n
abbrev pub DropsThenGivesBack : ℕ → Span → Option ℕ → Span → Type 0
DropsThenGivesBack n s given t = MatchOption given ((s.to ≤ s.from + n) × (t.from ≡ s.to) × (t.to ≡ s.to)) (λ p. (p + n + 1 ≡ s.to) × (s.from ≤ p) × (t.from ≡ s.from) × (t.to ≡ p))

-- the items that `nth` passes: n of those that are left, or all of them, and then the one that it takes. To `nth_back` they are left the last first
abbrev pub nth_passes : {X : Type 0} → ℕ → List X → Option X → List X
nth_passes n left taken = take n left ++ option_to_list taken

-- a call led from old to new and took an item, or none: it passed fronts from the front and backs from the back
pub data Step {X : Type 0} : (old : List X) (taken : Option X) (fronts backs new : List X) → Type 0 where
  next : (old : List X) (taken : Option X) (new : List X) → YieldsFirst (λ s. s) old taken new → Step old taken (option_to_list taken) [] new
  next_back : (old : List X) (taken : Option X) (new : List X) → YieldsLast (λ s. s) old taken new → Step old taken [] (option_to_list taken) new
  nth : (n : ℕ) (old : List X) (taken : Option X) (new : List X) → TakesNth n old taken new → Step old taken (nth_passes n old taken) [] new
  nth_back : (n : ℕ) (old : List X) (taken : Option X) (new : List X) → TakesNthBack n old taken new → Step old taken [] (nth_passes n (reverse old) taken) new

-- calls of `next`, `next_back`, `nth` and `nth_back`, in any mixture, led from old to new: they passed fronts from the front and backs from the back, each in the order of the calls
pub data Walk {X : Type 0} : (old fronts backs new : List X) → Type 0 where
  no_call : (old : List X) → Walk old [] [] old
  call : (old between new fronts backs more_fronts more_backs : List X) (taken : Option X) → Step old taken fronts backs between → Walk between more_fronts more_backs new
      → Walk old (fronts ++ more_fronts) (backs ++ more_backs) new

-- an iterator yields each element once: those from the front, those left, and those from the back in reverse are the list
abbrev pub PassesEachOnce : Type 0 → Type 0
PassesEachOnce X = (old fronts backs new : List X) → Walk old fronts backs new → fronts ++ (new ++ reverse backs) ≡ old

-- an exhausted iterator stays exhausted
abbrev pub StaysEnded : Type 0 → Type 0
StaysEnded X = (taken : Option X) (fronts backs new : List X) → Step [] taken fronts backs new → (taken ≡ None) × (new ≡ [])

-- `next` is `nth` of 0
abbrev pub NextIsNthOfZero : Type 0 → Type 0
NextIsNthOfZero X = (old : List X) (taken : Option X) (new : List X) → YieldsFirst (λ s. s) old taken new ↔ TakesNth 0 old taken new

-- `next_back` is `nth_back` of 0
abbrev pub NextBackIsNthBackOfZero : Type 0 → Type 0
NextBackIsNthBackOfZero X = (old : List X) (taken : Option X) (new : List X) → YieldsLast (λ s. s) old taken new ↔ TakesNthBack 0 old taken new
