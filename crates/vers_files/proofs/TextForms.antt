-- What is known of a text that was read.
use Rattle.std.proofs.Common.{◌≡◌, ◌<◌, ◌≤◌, ℕ, Bool, true, false, refl, unwrap_or, inl, inr, List, length, Result, Ok, Err, subst, sym, ◌∙◌}
use Rattle.std.specs.Prelude.{◌≢◌, ◌⊎◌, Option, Some, None, IfErr, IfOk, IfSome}
use Rattle.std.specs.Fmt.{option_append}
use Rattle.std.specs.Io.KnownBytes.{Appends, Consumes, IsAtEnd}
use Rattle.text_index.specs.Makers.{IsSymbolWidth}
use Rattle.text_index.specs.Texts.{Text}
use Rattle.text_index.specs.declared.index.TheConstants.{MAX_LEN}
use Rattle.vers_wavelet.specs.Symbols.{Symbols}
use Rattle.vers_saved.specs.Format.{saved_text, text_words}
use Rattle.vers_saved.specs.Kinds.{may_be_saved}
use Rattle.vers_saved.specs.TextForms.{IsTextFault, IsTextForm, IsTextRefused}
use Rattle.vers_saved.specs.declared.fault.LoadError.{LoadError}
use Rattle.vers_saved.specs.declared.kind.TheConstants.{TEXTS, TEXT_INDEXES}
use Rattle.catalogue.specs.Structures.{Content, SymbolList, IsSomeForm}
use Rattle.vers_files.specs.declared.saving.SaveFault.{SaveFault}
use Rattle.vers_files.specs.declared.saving.SaveFault.TheVariants as save
use Rattle.vers_files.specs.declared.texts.TextFault.{TextFault}
use Rattle.vers_files.specs.declared.texts.TextFault.TheVariants.{File, NoSymbols, OtherWidth, TooLong, Memory}
use Rattle.vers_files.specs.Forms.{IsFormOf, IsNoForm, form_fault, number_of_kind}
use Rattle.vers_files.specs.Indexed.{AreTooMany, text_of_bytes}
use Rattle.vers_files.specs.declared.showing.Shown.{Shown}
use Rattle.vers_files.specs.Shown.{IsListShown, IsTextShown}
use Rattle.vers_files.specs.TextFiles.{AreSymbolsOf, AreTextOf, IsNoSymbolText, IsNoText, IsNoTextForm}
use Rattle.vers_texts.specs.Fasta.{fasta_fault, fasta_text as text_of_fasta}
use Rattle.vers_files.proofs.Fronts.{of_all, of_number}

-- what follows for known bytes
if_known : (left : Option (List ℕ)) (P Q : List ℕ → Type 0) → ((bytes : List ℕ) → P bytes → Q bytes) → IfSome left P → IfSome left Q
if_known None P Q follows holds = tt
if_known (Some bytes) P Q follows holds = follows bytes holds

both_known : (left : Option (List ℕ)) (P Q R : List ℕ → Type 0) → ((bytes : List ℕ) → P bytes → Q bytes → R bytes) → IfSome left P → IfSome left Q → IfSome left R
both_known None P Q R follows one other = tt
both_known (Some bytes) P Q R follows one other = follows bytes one other

-- a place with the saved form of an index has that of the bytes that were read
pub put_text : (left : Option (List ℕ)) (text : Text) (old new : Option (List ℕ)) → IfSome left (λ bytes. text ≡ text_of_bytes bytes) → Appends old new (saved_text text)
    → IfSome left (λ bytes. Appends old new (saved_text (text_of_bytes bytes)))
put_text left text old new of_bytes put =
    if_known left (λ bytes. text ≡ text_of_bytes bytes) (λ bytes. Appends old new (saved_text (text_of_bytes bytes)))
    (λ bytes same. subst (λ (t : Text). Appends old new (saved_text t)) same put) of_bytes

-- an index that is too long for a saved form is that of too many bytes
pub too_many : (saved : Result (Unit {0}) SaveFault) (left : Option (List ℕ)) (text : Text) → IfSome left (λ bytes. text ≡ text_of_bytes bytes)
    → IfErr saved (λ e. e ≡ save.TooLong → may_be_saved TEXT_INDEXES (length (text_words text)) text.width ≡ false) → IfErr saved (λ e. e ≡ save.TooLong → IfSome left AreTooMany)
too_many (Ok u) left text of_bytes none = tt
too_many (Err fault) left text of_bytes none = λ is.
    if_known left (λ bytes. text ≡ text_of_bytes bytes) AreTooMany
    (λ bytes same. inr (subst (λ (t : Text). may_be_saved TEXT_INDEXES (length (text_words t)) t.width ≡ false) same (none is))) of_bytes

-- an index of the bytes that were read, as they were in a reader
pub too_many_read : {T : Type 0} (made : Result T SaveFault) (left : Option (List ℕ)) (bytes all : List ℕ) → IfSome left (λ read. read ≡ all) → bytes ≡ all → IfErr made (λ e. e ≡ save.TooLong → AreTooMany bytes)
    → IfErr made (λ e. e ≡ save.TooLong → IfSome left AreTooMany)
too_many_read (Ok t) left bytes all read same none = tt
too_many_read (Err e) left bytes all read same none = λ is. if_known left (λ read. read ≡ all) AreTooMany (λ known here. subst AreTooMany (same ∙ sym here) (none is)) read

-- an index of the text of a FASTA file
pub fasta_put : (left : Option (List ℕ)) (text items : List ℕ) (old new : Option (List ℕ)) → IfSome left (λ bytes. (fasta_fault bytes ≡ None) × (items ≡ text_of_fasta bytes)) → text ≡ items
    → Appends old new (saved_text (text_of_bytes text)) → IfSome left (λ bytes. (fasta_fault bytes ≡ None) × Appends old new (saved_text (text_of_bytes (text_of_fasta bytes))))
fasta_put left text items old new read same put =
    if_known left (λ bytes. (fasta_fault bytes ≡ None) × (items ≡ text_of_fasta bytes)) (λ bytes. (fasta_fault bytes ≡ None) × Appends old new (saved_text (text_of_bytes (text_of_fasta bytes))))
    (λ bytes known. (known.0, subst (λ (l : List ℕ). Appends old new (saved_text (text_of_bytes l))) (same ∙ known.1) put)) read

pub fasta_too_many : {T : Type 0} (made : Result T SaveFault) (left : Option (List ℕ)) (text items : List ℕ) → IfSome left (λ bytes. (fasta_fault bytes ≡ None) × (items ≡ text_of_fasta bytes)) → text ≡ items
    → IfErr made (λ e. e ≡ save.TooLong → AreTooMany text) → IfErr made (λ e. e ≡ save.TooLong → IfSome left (λ bytes. AreTooMany (text_of_fasta bytes)))
fasta_too_many (Ok t) left text items read same none = tt
fasta_too_many (Err e) left text items read same none = λ is.
    if_known left (λ bytes. (fasta_fault bytes ≡ None) × (items ≡ text_of_fasta bytes)) (λ bytes. AreTooMany (text_of_fasta bytes)) (λ bytes known. subst AreTooMany (same ∙ known.1) (none is)) read

-- an index of symbols that were loaded
pub unindexed : {T : Type 0} (made : Result T TextFault) (left : Option (List ℕ)) (symbols : Symbols) (items : List ℕ) → items ≡ symbols.items → AreSymbolsOf left symbols → IsSymbolWidth symbols.width
    → IfErr made (λ e. (e ≡ Memory) ⊎ ((e ≡ TooLong) × (MAX_LEN < length items))) → IfErr made (λ e. IsNoSymbolText left e)
unindexed (Ok t) left symbols items same loaded width why = tt
unindexed (Err e) left symbols items same loaded width (inl memory) = subst (λ (f : TextFault). IsNoSymbolText left f) (sym memory) tt
unindexed (Err e) left symbols items same loaded width (inr long) =
    subst (λ (f : TextFault). IsNoSymbolText left f) (sym long.0) (symbols, loaded, width, subst (λ (l : List ℕ). MAX_LEN < length l) same long.1)

-- a form of the bytes in front and those after is one of all bytes
form_of_all : (old mid whole : Option (List ℕ)) (front : List ℕ) → whole ≡ option_append (Some front) mid → Consumes old mid front → (held : Content) → IsFormOf whole held → IsFormOf old held
form_of_all old mid whole front is c held form = (form.0, form.1, of_all old mid whole front is c (IsSomeForm held) form.2, form.3)

pub symbols_loaded : {T : Type 0} (r : Result T TextFault) (symbols : T → Symbols) (old mid whole : Option (List ℕ)) (front : List ℕ) → whole ≡ option_append (Some front) mid → Consumes old mid front
    → IfOk r (λ text. AreSymbolsOf whole (symbols text)) → IfOk r (λ text. AreTextOf old (symbols text))
symbols_loaded (Ok text) symbols old mid whole front is c loaded = inl (form_of_all old mid whole front is c (SymbolList (symbols text)) loaded)
symbols_loaded (Err e) symbols old mid whole front is c loaded = tt

-- the error in a form of an index, read after its first bytes
index_fault : (old mid whole : Option (List ℕ)) (front : List ℕ) (fault : LoadError) → whole ≡ option_append (Some front) mid → Consumes old mid front
    → IfSome old (λ bytes. number_of_kind bytes ≡ TEXTS) → IsTextRefused whole fault → IsNoTextForm old fault
index_fault old mid whole front fault is c number why = elim why [
  | inl read ↦ inl read
  | inr (inl memory) ↦ inr (inl memory)
  | inr (inr some) ↦
      inr (inr (both_known old (λ bytes. number_of_kind bytes ≡ TEXTS) (λ bytes. IsTextFault bytes fault) _ (λ bytes same told. inl (same, told)) number
      (of_all old mid whole front is c (λ bytes. IsTextFault bytes fault) some)))
]

-- the same in a form of another kind
list_fault : (old mid whole : Option (List ℕ)) (front : List ℕ) (fault : LoadError) → whole ≡ option_append (Some front) mid → Consumes old mid front
    → IfSome old (λ bytes. number_of_kind bytes ≢ TEXTS) → IsNoForm whole fault → IsNoTextForm old fault
list_fault old mid whole front fault is c number why = elim why [
  | inl read ↦ inl read
  | inr (inl memory) ↦ inr (inl memory)
  | inr (inr some) ↦
      inr (inr (both_known old (λ bytes. number_of_kind bytes ≢ TEXTS) (λ bytes. form_fault bytes ≡ Some fault) _ (λ bytes other told. inr (other, told)) number
      (of_all old mid whole front is c (λ bytes. form_fault bytes ≡ Some fault) some)))
]

pub index_refused : {T : Type 0} (r : Result T TextFault) (old mid whole : Option (List ℕ)) (front : List ℕ) → whole ≡ option_append (Some front) mid → Consumes old mid front
    → length front ≤ 24 → (length front < 24 → IsAtEnd mid) → number_of_kind front ≡ TEXTS
    → IfErr r (λ e. (fault : LoadError) × (e ≡ File fault) × IsTextRefused whole fault) → IfErr r (λ e. IsNoText old e)
index_refused (Ok text) old mid whole front is c few end number why = tt
index_refused (Err e) old mid whole front is c few end number why =
    let named = if_known old _ (λ bytes. number_of_kind bytes ≡ TEXTS) (λ bytes same. same ∙ number) (of_number old mid front c few end) in
    subst (λ (f : TextFault). IsNoText old f) (sym why.1) (index_fault old mid whole front why.0 is c named why.2)

-- why there are no symbols after the first bytes is why there is no text
no_symbols : (old mid whole : Option (List ℕ)) (front : List ℕ) (e : TextFault) → whole ≡ option_append (Some front) mid → Consumes old mid front
    → IfSome old (λ bytes. number_of_kind bytes ≢ TEXTS) → IsNoSymbolText whole e → IsNoText old e
no_symbols old mid whole front (File fault) is c number why = list_fault old mid whole front fault is c number why
no_symbols old mid whole front NoSymbols is c number why = (why.0, form_of_all old mid whole front is c why.0 why.1, why.2)
no_symbols old mid whole front OtherWidth is c number why = (why.0, form_of_all old mid whole front is c (SymbolList why.0) why.1, why.2)
no_symbols old mid whole front TooLong is c number why = (why.0, form_of_all old mid whole front is c (SymbolList why.0) why.1, why.2, why.3)
no_symbols old mid whole front Memory is c number why = tt

pub symbols_refused : {T : Type 0} (r : Result T TextFault) (old mid whole : Option (List ℕ)) (front : List ℕ) → whole ≡ option_append (Some front) mid → Consumes old mid front
    → length front ≤ 24 → (length front < 24 → IsAtEnd mid) → number_of_kind front ≢ TEXTS → IfErr r (λ e. IsNoSymbolText whole e) → IfErr r (λ e. IsNoText old e)
symbols_refused (Ok text) old mid whole front is c few end number why = tt
symbols_refused (Err e) old mid whole front is c few end number why =
    let other = if_known old _ (λ bytes. number_of_kind bytes ≢ TEXTS) (λ bytes same is_text. number (sym same ∙ is_text)) (of_number old mid front c few end) in
    no_symbols old mid whole front e is c other why

-- the same of descriptions
pub list_shown : (r : Result Shown LoadError) (old mid whole : Option (List ℕ)) (front : List ℕ) → whole ≡ option_append (Some front) mid → Consumes old mid front
    → IfOk r (λ shown. IsListShown whole shown) → IfOk r (λ shown. IsListShown old shown ⊎ IsTextShown old shown)
list_shown (Ok shown) old mid whole front is c told = inl (told.0, form_of_all old mid whole front is c told.0 told.1, told.2)
list_shown (Err e) old mid whole front is c told = tt

pub text_shown : (r : Result Shown LoadError) (old mid whole : Option (List ℕ)) (front : List ℕ) → whole ≡ option_append (Some front) mid → Consumes old mid front
    → IfOk r (λ shown. IsTextShown whole shown) → IfOk r (λ shown. IsListShown old shown ⊎ IsTextShown old shown)
text_shown (Ok shown) old mid whole front is c told =
    inr (told.0, (told.1.0, of_all old mid whole front is c (IsTextForm told.0) told.1.1), told.2)
text_shown (Err e) old mid whole front is c told = tt

pub text_not_shown : (r : Result Shown LoadError) (old mid whole : Option (List ℕ)) (front : List ℕ) → whole ≡ option_append (Some front) mid → Consumes old mid front
    → length front ≤ 24 → (length front < 24 → IsAtEnd mid) → number_of_kind front ≡ TEXTS → IfErr r (λ e. IsTextRefused whole e) → IfErr r (λ e. IsNoTextForm old e)
text_not_shown (Ok shown) old mid whole front is c few end number why = tt
text_not_shown (Err e) old mid whole front is c few end number why =
    index_fault old mid whole front e is c (if_known old _ (λ bytes. number_of_kind bytes ≡ TEXTS) (λ bytes same. same ∙ number) (of_number old mid front c few end)) why

pub list_not_shown : (r : Result Shown LoadError) (old mid whole : Option (List ℕ)) (front : List ℕ) → whole ≡ option_append (Some front) mid → Consumes old mid front
    → length front ≤ 24 → (length front < 24 → IsAtEnd mid) → number_of_kind front ≢ TEXTS → IfErr r (λ e. IsNoForm whole e) → IfErr r (λ e. IsNoTextForm old e)
list_not_shown (Ok shown) old mid whole front is c few end number why = tt
list_not_shown (Err e) old mid whole front is c few end number why =
    list_fault old mid whole front e is c (if_known old _ (λ bytes. number_of_kind bytes ≢ TEXTS) (λ bytes same is_text. number (sym same ∙ is_text)) (of_number old mid front c few end)) why

-- the size of a form that there is
pub size_of_form : (found : Option ℕ) (n : ℕ) (whole : Bool) → IfSome found (λ size. size ≡ n) → (found ≡ None → whole ≡ false) → whole ≡ true → unwrap_or found 0 ≡ n
size_of_form None n whole some none is = let no = none refl in cc
size_of_form (Some size) n whole some none is = some
