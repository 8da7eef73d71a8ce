-- What the parts of a session add to what it has read and answered.
use Rattle.vers_engine.proofs.Names.{◌≡◌, ◌==◌, ℕ, List, [], ◌∷◌, ◌++◌, length, take, drop, false, Ok, Err, Result, OnOk, OnErr, IfErr, refl, sym, ap, ◌∙◌, append_assoc, append-nil, take-append-drop, filter, All, has_bytes, RunError, Read, Write, Memory, front, whole_lines, lines_of, Answering, answers_of, held_after, BeginsAnswer, IsSplit, AnswersOrStays, TakesOrFails, TakesSome, FinishesOrFails}
use Rattle.vers_engine.proofs.Splits.{IsSplit-end, IsSplit-others, IsSplit-more, slice_split-IsSplit, front-push, last_element_or-push}
use Rattle.vers_engine.proofs.Lines.{answers_of-append, held_after-append}

-- the lines of a text that is split at its line ends
pub whole_lines-IsSplit : (read : List ℕ) (lines : List (List ℕ)) (rest : List ℕ) → IsSplit 10 read lines rest → whole_lines read ≡ lines
whole_lines-IsSplit read lines rest h = ap front (slice_split-IsSplit 10 read lines rest h) ∙ front-push lines rest

pub lines_of-IsSplit : (read : List ℕ) (lines : List (List ℕ)) (rest : List ℕ) → IsSplit 10 read lines rest → lines_of read ≡ lines ++ filter has_bytes (rest ∷ [])
lines_of-IsSplit read lines rest h = rw (slice_split-IsSplit 10 read lines rest h, front-push, last_element_or-push) refl

-- one more line was answered
answers-more : {H : Type 0} (by : Answering H) (start : H) (lines : List (List ℕ)) (answers : List ℕ) (h : H) (line text : List ℕ)
    → answers ≡ answers_of by start lines → h ≡ held_after by start lines → text ≡ by.answer_to h line
    → answers ++ text ≡ answers_of by start (lines ++ line ∷ [])
answers-more by start lines answers h line text whole holds a = rw (whole, a, holds, answers_of-append, append-nil) refl

-- the answer of a line was gathered, or there was no memory for it
pub AnswersOrStays-from : {H E : Type 0} (by : Answering H) (r : Result (Unit {0}) E) (h : H) (line old answers : List ℕ) (new : H)
    → OnOk r (answers ≡ old ++ by.answer_to h line) → OnOk r (new ≡ by.holding_after h line) → OnErr r (answers ≡ old)
    → (text : List ℕ) × (answers ≡ old ++ text) × AnswersOrStays by r h line text new
AnswersOrStays-from by (Ok u) h line old answers new a n kept = (by.answer_to h line, a, (refl, n))
AnswersOrStays-from by (Err e) h line old answers new a n kept = ([], kept ∙ sym (append-nil old), refl)

-- bytes in which a line ends, and its answer
pub TakesOrFails-line : {H : Type 0} (by : Answering H) (h : H) (p bs text : List ℕ) (new : H)
    → All (λ b. (b == 10) ≡ false) bs → text ≡ by.answer_to h (p ++ bs) → new ≡ by.holding_after h (p ++ bs) → TakesOrFails by (Ok tt) h p (bs ++ 10 ∷ []) text new []
TakesOrFails-line by h p bs text new others a n start read answers s = record {
  lines = s.lines ++ (p ++ bs) ∷ [];
  split = rw (← append_assoc read bs (10 ∷ [])) (IsSplit-end 10 (read ++ bs) s.lines (p ++ bs) (IsSplit-others 10 read s.lines p bs others s.split));
  answered = answers-more by start s.lines answers h (p ++ bs) text s.answered s.holds a;
  holds = n ∙ ap (λ x. by.holding_after x (p ++ bs)) s.holds ∙ sym (held_after-append by start s.lines ((p ++ bs) ∷ []));
}

-- bytes in which no line ends
pub TakesOrFails-pending : {H : Type 0} (by : Answering H) (h : H) (p bs : List ℕ) → All (λ b. (b == 10) ≡ false) bs → TakesOrFails by (Ok tt) h p bs [] h (p ++ bs)
TakesOrFails-pending by h p bs others start read answers s = record {
  lines = s.lines;
  split = IsSplit-others 10 read s.lines p bs others s.split;
  answered = rw append-nil s.answered;
  holds = s.holds;
}

-- bytes for which there was no memory
pub TakesOrFails-stays : {H : Type 0} (by : Answering H) (h : H) (p bs : List ℕ) (new : H) (rest : List ℕ) → TakesOrFails by (Err Memory) h p bs [] new rest
TakesOrFails-stays by h p bs new rest start read answers s =
    let m = IsSplit-more 10 bs read s.lines p s.split in
    (s.lines ++ m.0, m.1, m.2, (s.lines, m.0, refl, rw append-nil s.answered))

-- some bytes, and then others
pub TakesOrFails-then : {H : Type 0} (by : Answering H) (h : H) (p bs t : List ℕ) (h1 : H) (p1 cs u : List ℕ) (h2 : H) (p2 : List ℕ)
    → TakesOrFails by (Ok tt) h p bs t h1 p1 → TakesOrFails by (Ok tt) h1 p1 cs u h2 p2 → TakesOrFails by (Ok tt) h p (bs ++ cs) (t ++ u) h2 p2
TakesOrFails-then by h p bs t h1 p1 cs u h2 p2 a b start read answers s =
    rw (← append_assoc read bs cs, ← append_assoc answers t u) (b start (read ++ bs) (answers ++ t) (a start read answers s))

-- some bytes, and then a fault in the bytes after them
pub TakesOrFails-fails : {H : Type 0} (by : Answering H) (e : RunError) (h : H) (p bs t : List ℕ) (h1 : H) (p1 cs u : List ℕ) (h2 : H) (p2 : List ℕ) (h3 : H) (p3 : List ℕ)
    → TakesOrFails by (Ok tt) h p bs t h1 p1 → TakesOrFails by (Err e) h1 p1 cs u h2 p2 → TakesOrFails by (Err e) h p (bs ++ cs) (t ++ u) h3 p3
TakesOrFails-fails by e h p bs t h1 p1 cs u h2 p2 h3 p3 a b start read answers s =
    let f = b start (read ++ bs) (answers ++ t) (a start read answers s) in
    (f.0, f.1, rw (← append_assoc read bs cs) f.2, rw (← append_assoc answers t u) f.3)

-- a beginning of the answers of some lines, where more lines were read
BeginsAnswer-more : {H : Type 0} (by : Answering H) (start : H) (lines more : List (List ℕ)) (answers text rest : List ℕ)
    → answers ++ (text ++ rest) ≡ answers_of by start lines → BeginsAnswer (answers_of by start) (lines ++ more) (answers ++ text)
BeginsAnswer-more by start lines more answers text rest whole =
    (rest ++ answers_of by (held_after by start lines) more, rw (answers_of-append, ← whole) (simp append_assoc))

-- the answers of what was taken were written in part
pub TakesOrFails-cut : {H E : Type 0} (by : Answering H) (r : Result ℕ E) (h : H) (p bs text rest : List ℕ) (h1 : H) (p1 : List ℕ) (h2 : H) (p2 : List ℕ)
    → TakesSome by r h p bs (text ++ rest) h1 p1 → TakesOrFails by (Err Write) h p bs text h2 p2
TakesOrFails-cut by (Ok n) h p bs text rest h1 p1 h2 p2 a =
    λ start read answers s.
    let t = a start read answers s in
    let m = IsSplit-more 10 (drop n bs) (read ++ take n bs) t.lines p1 t.split in
    let whole : (read ++ take n bs) ++ drop n bs ≡ read ++ bs = append_assoc read (take n bs) (drop n bs) ∙ ap (λ l. read ++ l) (take-append-drop n bs) in
    (t.lines ++ m.0, m.1, rw (← whole) m.2, BeginsAnswer-more by start t.lines m.0 answers text rest t.answered)
TakesOrFails-cut by (Err e) h p bs text rest h1 p1 h2 p2 a =
    λ start read answers s.
    let f = a start read answers s in
    (f.0, f.1, f.2, rw f.3.2 (BeginsAnswer-more by start f.3.0 f.3.1 answers text rest f.3.3))

-- the end of the input, with nothing pending
pub FinishesOrFails-none : {H : Type 0} (by : Answering H) (h : H) → FinishesOrFails by (Ok tt) h [] []
FinishesOrFails-none by h start read answers s = rw (lines_of-IsSplit read s.lines [] s.split, append-nil, append-nil) s.answered

-- the end of the input, with a last line for whose answer there was no memory
pub FinishesOrFails-stays : {H : Type 0} (by : Answering H) (h : H) (p : List ℕ) → FinishesOrFails by (Err Memory) h p []
FinishesOrFails-stays by h p start read answers s =
    (s.lines, filter has_bytes (p ∷ []), lines_of-IsSplit read s.lines p s.split, rw append-nil s.answered)

-- the end of the input, with a last line, of whose answer `text` was written
pub FinishesOrFails-line : {H : Type 0} (by : Answering H) (r : Result (Unit {0}) RunError) (h : H) (p text rest : List ℕ) → (length p == 0) ≡ false → text ++ rest ≡ by.answer_to h p
    → OnOk r (rest ≡ []) → IfErr r (λ e. e ≡ Write) → FinishesOrFails by r h p text
FinishesOrFails-line by (Ok u) h p text rest some a none k =
    λ start read answers s. rw (lines_of-IsSplit read s.lines p s.split, some)
    (answers-more by start s.lines answers h p text s.answered s.holds (rw (none, append-nil) at a))
FinishesOrFails-line by (Err Read) h p text rest some a none k = cc
FinishesOrFails-line by (Err Memory) h p text rest some a none k = cc
FinishesOrFails-line by (Err Write) h p text rest some a none k =
    λ start read answers s. rw (lines_of-IsSplit read s.lines p s.split, some)
    (rest, rw append_assoc (answers-more by start s.lines answers h p (text ++ rest) s.answered s.holds a))
