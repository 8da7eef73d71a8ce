-- What the builds of texts accept.
use Rattle.std.proofs.Common.{◌≡◌, ◌<◌, ◌≤◌, ◌^◌, ◌&&◌, ℕ, Bool, true, false, not, List, Option, Some, None, length, min, eqb, ltb, refl, inl, inr, arith}
use Rattle.std.proofs.lemmas.Bool.{and_from, and_parts, cases_Bool, eq-eqb, eqb-true, false≢true, le-leb, leb-true, lt-ltb, ltb-true}
use Rattle.std.proofs.lemmas.List.Sums.{AllPass-from_list_all, list_all-from_AllPass}
use Rattle.std.specs.Prelude.{All}
use Rattle.catalogue.specs.Structures.{Content, IndexedText}
use Rattle.text_index.specs.Columns.{IsIndexable}
use Rattle.text_index.specs.Makers.{IsRefusedFor, IsSymbolWidth, is_text}
use Rattle.text_index.specs.Texts.{Text}
use Rattle.text_index.specs.declared.fault.TextError.{TextError}
use Rattle.text_index.specs.declared.fault.TextError.TheVariants.{Memory, NoStep, TooLong, WideSymbol, WidthOutOfRange}
use Rattle.text_index.specs.declared.index.TheConstants.{MAX_LEN}
use Rattle.vers_c.specs.Makes.{IsMade}
use Rattle.vers_c.specs.Texts.{text_made}
use Rattle.vers_c.specs.declared.status.TheConstants.{NO_MEMORY, REFUSED}

-- ---- the tests of a text, one by one

record AreText (width : ℕ) (symbols : List ℕ) (step : ℕ) : Type 0 where
  wide : IsSymbolWidth width
  few : length symbols ≤ MAX_LEN
  small : All (λ s. s < 2 ^ width) symbols
  some : step ≡ 0 → ⊥

not_true : (b : Bool) → not b ≡ true → b ≡ true → ⊥
not_true true is on = false≢true is
not_true false is on = false≢true on

not_from : (b : Bool) → (b ≡ true → ⊥) → not b ≡ true
not_from true other = absurd (other refl)
not_from false other = refl

tests_pass : (symbols : List ℕ) (width step : ℕ) → AreText width symbols step → (is_text width symbols && not (eqb step 0)) ≡ true
tests_pass symbols width step are =
    and_from _ _
    (and_from _ _ (and_from _ _ (le-leb _ _ are.wide.0) (le-leb _ _ are.wide.1))
    (and_from _ _ (le-leb _ _ are.few) (list_all-from_AllPass (λ s. ltb s (2 ^ width)) symbols (λ k d inside. lt-ltb _ _ (are.small k d inside)))))
    (not_from (eqb step 0) (λ is. are.some (eqb-true step 0 is)))

pass_tests : (symbols : List ℕ) (width step : ℕ) → (is_text width symbols && not (eqb step 0)) ≡ true → AreText width symbols step
pass_tests symbols width step on =
    let both = and_parts _ _ on in
    let text = and_parts _ _ both.0 in
    let widths = and_parts _ _ text.0 in
    let rest = and_parts _ _ text.1 in
    record {
      wide = (leb-true _ _ widths.0, leb-true _ _ widths.1);
      few = leb-true _ _ rest.0;
      small = λ k d inside. ltb-true _ _ (AllPass-from_list_all (λ s. ltb s (2 ^ width)) symbols rest.1 k d inside);
      some = λ is. not_true (eqb step 0) both.1 (eq-eqb step 0 is);
    }

-- ---- what is made

made_some : (symbols : List ℕ) (width step : ℕ) → AreText width symbols step → text_made symbols width step ≡ Some (IndexedText (record { width = width; items = symbols; step = step }))
made_some symbols width step are = rw (tests_pass symbols width step are) refl

-- the index that was made, whose width was narrowed
pub text_is_made : (symbols : List ℕ) (width step : ℕ) (text : Text) → IsIndexable text → text.width ≡ min width 17 → text.items ≡ symbols → text.step ≡ step → text_made symbols width step ≡ Some (IndexedText text)
text_is_made symbols width step text indexable width_is items_is step_is =
    let same : width ≡ text.width = omega (arith, width_is, indexable.width.1) in
    rw (same, ← items_is, ← step_is)
    (made_some text.items text.width text.step (record { wide = indexable.width; few = indexable.few; small = indexable.symbols; some = indexable.step }))

-- no memory was left for a text
pub text_without_memory : (symbols : List ℕ) (width step : ℕ) → IsRefusedFor symbols (min width 17) step MAX_LEN Memory → text_made symbols width step ≡ Some (IndexedText (record { width = width; items = symbols; step = step }))
text_without_memory symbols width step refused =
    let same : min width 17 ≡ width = omega (arith, refused.0.1) in
    let all : IsRefusedFor symbols width step MAX_LEN Memory = rw same at refused in
    made_some symbols width step (record { wide = all.0; few = all.2; small = all.3; some = all.1 })

-- what was refused is no text
no_text : (symbols : List ℕ) (width step : ℕ) (error : TextError) → (error ≡ Memory → ⊥) → AreText width symbols step → IsRefusedFor symbols width step MAX_LEN error → ⊥
no_text symbols width step WidthOutOfRange other are refused = refused are.wide
no_text symbols width step NoStep other are refused = are.some refused.1
no_text symbols width step TooLong other are refused = omega (arith, are.few, refused.2)
no_text symbols width step WideSymbol other are refused = refused.3 are.small
no_text symbols width step Memory other are refused = other refl

pub text_refused : (symbols : List ℕ) (width step : ℕ) (error : TextError) → (error ≡ Memory → ⊥) → IsRefusedFor symbols (min width 17) step MAX_LEN error → text_made symbols width step ≡ None
text_refused symbols width step error other refused = elim (cases_Bool (is_text width symbols && not (eqb step 0))) [
  | inl on ↦
      let are = pass_tests symbols width step on in
      let same : min width 17 ≡ width = omega (arith, are.wide.1) in
      absurd (no_text symbols width step error other are (rw same at refused))
  | inr off ↦ rw off refl
]

nothing_is : (symbols : List ℕ) (width step : ℕ) (error : TextError) (before : Option Content) (status : ℕ) → before ≡ None → IsRefusedFor symbols (min width 17) step MAX_LEN error → (error ≡ Memory → ⊥) → status ≡ REFUSED
    → IsMade (text_made symbols width step) before before status
nothing_is symbols width step error before status none refused other is = record {
  made = λ done. absurd (omega (arith, is, done));
  left = λ not. refl;
  reported = inl (rw (none, text_refused symbols width step error other refused) is);
}

-- the status of a build that made nothing
pub refused_is : (symbols : List ℕ) (width step : ℕ) (error : TextError) (before : Option Content) (status : ℕ) → before ≡ None → IsRefusedFor symbols (min width 17) step MAX_LEN error
    → (error ≡ Memory → status ≡ NO_MEMORY) → ((error ≡ Memory → ⊥) → status ≡ REFUSED) → IsMade (text_made symbols width step) before before status
refused_is symbols width step Memory before status none refused memory other =
    let s = memory refl in
    record {
      made = λ done. absurd (omega (arith, s, done));
      left = λ not. refl;
      reported = inr (s, rw (none, text_without_memory symbols width step refused) refl);
    }
refused_is symbols width step WidthOutOfRange before status none refused memory other = nothing_is symbols width step WidthOutOfRange before status none refused (λ is. cc) (other (λ is. cc))
refused_is symbols width step NoStep before status none refused memory other = nothing_is symbols width step NoStep before status none refused (λ is. cc) (other (λ is. cc))
refused_is symbols width step TooLong before status none refused memory other = nothing_is symbols width step TooLong before status none refused (λ is. cc) (other (λ is. cc))
refused_is symbols width step WideSymbol before status none refused memory other = nothing_is symbols width step WideSymbol before status none refused (λ is. cc) (other (λ is. cc))
