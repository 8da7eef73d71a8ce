-- What is written of a line, by what is written of its list.
use Rattle.std.proofs.Common.{◌≡◌, ℕ, List, Bool, true, false, Result, Ok, Err, refl, inl, inr}
use Rattle.std.specs.Prelude.{Option, ◌≢◌, IfErr}
use Rattle.vers_words.specs.declared.loading.Loading.{Loading}
use Rattle.vers_words.specs.declared.loading.Loading.TheVariants.{Accepted}
use Rattle.vers_saved.specs.declared.fault.SaveError.{SaveError}
use Rattle.vers_saved.specs.declared.fault.SaveError.TheVariants as error
use Rattle.vers_saved.specs.Streams.{Writes}
use Rattle.catalogue.specs.Structures.{Content, HasForm, saved_form}
use Rattle.vers_files.specs.SavedLines.{IfAccepted, SaysWhy, IsFormless, has_no_bits, line_saved}

pub line_written : (loading : Loading Content) (held : Content) (b : Bool) (r : Result (Unit {0}) SaveError) (old new : Option (List ℕ)) → loading ≡ Accepted held
    → (r ≢ Err error.NoForm → Writes r old new (saved_form held))
    → IfAccepted loading (λ it. ¬ IsFormless (line_saved b r) → Writes (line_saved b r) old new (saved_form it))
line_written loading held b (Ok u) old new is written = rw is (λ _. written (λ e. cc))
line_written loading held true (Err error.NoForm) old new is written = rw is (λ n. absurd (n (inl refl)))
line_written loading held false (Err error.NoForm) old new is written = rw is (λ n. absurd (n (inr refl)))
line_written loading held b (Err error.Memory) old new is written = rw is (λ _. written (λ e. cc))
line_written loading held b (Err error.Write) old new is written = rw is (λ _. written (λ e. cc))

pub line_refused : (loading : Loading Content) (held : Content) (b : Bool) (r : Result (Unit {0}) SaveError) → loading ≡ Accepted held → has_no_bits held ≡ b
    → IfErr r (λ e. e ≡ error.NoForm → ¬ HasForm held) → IfErr (line_saved b r) (λ e. SaysWhy e loading)
line_refused loading held b (Ok u) is bits none = tt
line_refused loading held true (Err error.NoForm) is bits none = (held, is, bits, none refl)
line_refused loading held false (Err error.NoForm) is bits none = (held, is, bits, none refl)
line_refused loading held b (Err error.Memory) is bits none = tt
line_refused loading held b (Err error.Write) is bits none = tt
